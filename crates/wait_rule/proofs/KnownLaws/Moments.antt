-- Each front of a task's history is its whole history in a table that came before.
use Rattle.std.proofs.lemmas.Option.{none-some}
use Rattle.std.proofs.Common.{refl, sym, ◌∙◌, ap, subst, append-nil, inl, inr}
use Rattle.std.specs.Prelude.{ℕ, ◌≡◌, ◌≢◌, ◌<◌, ◌⊎◌, Option, Some, None, List, [], ◌∷◌, ◌++◌}
use Rattle.wait_model.specs.{declared.layout.TheConstants.TASKS, declared.steps.Step.Step, Functions.put}
use Rattle.wait_model.specs.{Watches.head_of, Words.entry_of, Fold.after, Fold.view_of, Tables.Table, Tables.next}
use Rattle.wait_model.specs.{Permits.HandsOn, Rows.Allowed, Facts.Kept}
use Rattle.wait_model.specs.Views.{View as Told, Hold, Look, unseen, look_at}
use Rattle.wait_model.specs.declared.steps.Step.TheVariants as step
use Rattle.wait_model.proofs.{Functions.put_case, Functions.put_at, HistoryLaws.HoldLooks.IsLookTold}
use Rattle.wait_model.proofs.{HistoryLaws.HoldLooks.told_next, StepLaws.StartLaws.start_kept}
use Rattle.wait_model.proofs.{StepLaws.KeptLaws.step_keeps, StepLaws.UnlockSteps.unlock_hold}
use Rattle.wait_rule.specs.Interleavings.{TaskStep, table_of, AreAllowed, IsInterleaved}

pub interleaved_next : (s : Table) (a : ℕ) (e : Step) → a < TASKS → Allowed s a e → HandsOn s a e → IsInterleaved s
    → IsInterleaved (next s a e)
interleaved_next s a e few may on k = record {
  steps = record { task = a; made = e } ∷ k.steps;
  allowed = (few, subst (λ (t : Table). Allowed t a e) k.leads may, k.allowed);
  handed = (subst (λ (t : Table). HandsOn t a e) k.leads on, k.handed);
  leads = ap (λ (t : Table). next t a e) k.leads;
}

pub kept_of : (xs : List TaskStep) → AreAllowed xs → Kept (table_of xs)
kept_of [] may = start_kept
kept_of (x ∷ xs) may = step_keeps (table_of xs) x.task x.made (kept_of xs may.2) may.1

pub views_of : (xs : List TaskStep) → IsLookTold (table_of xs)
views_of [] = λ a. refl
views_of (x ∷ xs) = told_next (table_of xs) x.task x.made (views_of xs)

-- who holds no lock has seen no entry in a hold
abbrev pub SeesNone : Told → Type 0
SeesNone v = v.hold.head ≡ None → (x : ℕ) → v.hold.book x ≡ unseen

held_none : {A : Type 0} (o : Option ℕ) (h : ℕ) → o ≡ None → o ≡ Some h → A
held_none o h none held = absurd (none-some h (sym none ∙ held))

sees_after : (s : Table) (a : ℕ) (e : Step) → Allowed s a e → SeesNone (s.view a) → SeesNone (after e (s.view a))
sees_after s a (step.Lock h aim w) may was = λ none x. refl
sees_after s a (step.Unlock h sp) may was = λ none x. ap (λ (k : Hold). k.book x)
    (unlock_hold (s.view a) (s.view a).walk sp)
sees_after s a (step.Saw x w) may was = λ none y. put_at (λ (l : Look). l ≡ unseen) (s.view a).hold.book x
    (look_at (s.view a).hold.head (entry_of w)) y (λ q. ap (λ (h : Option ℕ). look_at h (entry_of w)) none)
    (λ ne. was none y)
sees_after s a (step.Queue x e) may was = λ none y. held_none (s.view a).hold.head (head_of e.watch) none may.3
sees_after s a (step.Unqueue x) may was = λ none y.
    held_none (s.view a).hold.head (head_of may.0.watch) none may.2
sees_after s a e may was = was

sees_of : (xs : List TaskStep) → AreAllowed xs → (a : ℕ) → SeesNone ((table_of xs).view a)
sees_of [] may a = λ none x. refl
sees_of (y ∷ xs) may a = put_at SeesNone (table_of xs).view y.task (after y.made ((table_of xs).view y.task)) a
    (λ q. sees_after (table_of xs) y.task y.made may.1 (sees_of xs may.2 y.task)) (λ ne. sees_of xs may.2 a)

-- A front of a task's history was all of it in a table that kept the law; and where one more step follows it, that
-- was allowed there.
pub record Moment (a : ℕ) (front : List Step) : Type 0 where
  pub table : Table
  pub kept : Kept table
  pub view : table.view a ≡ view_of front
  pub sees : SeesNone (view_of front)

pub record NextStep (a : ℕ) (front : List Step) (e : Step) : Type 0 where
  pub moment : Moment a front
  pub allowed : Allowed moment.table a e

abbrev told_of : (xs : List TaskStep) (a : ℕ) (front : List Step) → (table_of xs).history a ≡ front
    → (table_of xs).view a ≡ view_of front
told_of xs a front is = views_of xs a ∙ ap view_of is

abbrev moment_at : (xs : List TaskStep) → AreAllowed xs → (a : ℕ) (front : List Step)
    → (table_of xs).history a ≡ front → Moment a front
moment_at xs may a front is = record {
  table = table_of xs;
  kept = kept_of xs may;
  view = told_of xs a front is;
  sees = subst SeesNone (told_of xs a front is) (sees_of xs may a);
}

-- where a list with one step more is split before a step
tail_is : (x y : Step) (xs ys : List Step) → x ∷ xs ≡ y ∷ ys → xs ≡ ys
tail_is x y xs ys is = cc

head_is : (x y : Step) (xs ys : List Step) → x ∷ xs ≡ y ∷ ys → x ≡ y
head_is x y xs ys is = cc

pub never_none : {A : Type 0} (front : List Step) (e : Step) (rest : List Step) → [] ≡ front ++ e ∷ rest → A
never_none [] e rest is = absurd (cc)
never_none (x ∷ front) e rest is = absurd (cc)

pub last_split : (h : List Step) (y : Step) (front : List Step) (e : Step) (rest : List Step)
    → h ++ y ∷ [] ≡ front ++ e ∷ rest
    → ((h ≡ front) × (y ≡ e)) ⊎ ((more : List Step) × (h ≡ front ++ e ∷ more))
last_split [] y [] e rest is = inl (refl, head_is y e [] rest is)
last_split [] y (x ∷ front) e rest is = never_none front e rest (tail_is y x [] (front ++ e ∷ rest) is)
last_split (z ∷ h) y [] e rest is = inr (h, ap (λ (d : Step). d ∷ h) (head_is z e (h ++ y ∷ []) rest is))
last_split (z ∷ h) y (x ∷ front) e rest is =
    let same = head_is z x (h ++ y ∷ []) (front ++ e ∷ rest) is in
    elim (last_split h y front e rest (tail_is z x (h ++ y ∷ []) (front ++ e ∷ rest) is)) [
      | inl all ↦ inl (λ i. same i ∷ all.0 i, all.1)
      | inr part ↦ inr (part.0, λ i. same i ∷ part.1 i)
    ]

-- a step of a task is the latest of all tasks, or an earlier one
pub by_latest : {P : Type 0} (s : Table) (x : TaskStep) → Allowed s x.task x.made → (a : ℕ) (front : List Step) (e : Step)
    → (a ≡ x.task → s.history x.task ≡ front → Allowed s a e → P)
    → ((more : List Step) → s.history a ≡ front ++ e ∷ more → P) → (rest : List Step)
    → put s.history x.task (s.history x.task ++ x.made ∷ []) a ≡ front ++ e ∷ rest → P
by_latest {P} s x allowed a front e last earlier rest is =
    by (put_case s.history x.task (s.history x.task ++ x.made ∷ []) a)
  where
    by : ((a ≡ x.task) × (put s.history x.task (s.history x.task ++ x.made ∷ []) a ≡ s.history x.task ++ x.made ∷ []))
        ⊎ ((a ≢ x.task) × (put s.history x.task (s.history x.task ++ x.made ∷ []) a ≡ s.history a)) → P
    by (inl q) = elim (last_split (s.history x.task) x.made front e rest (sym q.1 ∙ is)) [
      | inl all ↦ last q.0 all.0 (subst (λ (d : Step). Allowed s a d) all.1
          (subst (λ (i : ℕ). Allowed s i x.made) (sym q.0) allowed))
      | inr part ↦ earlier part.0 (ap s.history q.0 ∙ part.1)
    ]
    by (inr q) = earlier rest (sym q.1 ∙ is)

step_at : (xs : List TaskStep) → AreAllowed xs → (a : ℕ) (front : List Step) (e : Step) (rest : List Step)
    → (table_of xs).history a ≡ front ++ e ∷ rest → NextStep a front e
step_at [] may a front e rest is = never_none front e rest is
step_at (x ∷ xs) may a front e rest is = by_latest {P = NextStep a front e} (table_of xs) x may.1 a front e
    (λ q all allowed. record {
      moment = moment_at xs may.2 a front (ap (table_of xs).history q ∙ all);
      allowed = allowed;
    }) (λ more early. step_at xs may.2 a front e more early) rest is

module _ (s : Table) (k : IsInterleaved s) (a : ℕ) (front : List Step) where
  pub next_step : (e : Step) (rest : List Step) → s.history a ≡ front ++ e ∷ rest → NextStep a front e
  next_step e rest is = step_at k.steps k.allowed a front e rest (ap (λ (t : Table). t.history a) (sym k.leads) ∙ is)

  pub moment_of : (rest : List Step) → s.history a ≡ front ++ rest → Moment a front
  moment_of [] is = moment_at k.steps k.allowed a front
      (ap (λ (t : Table). t.history a) (sym k.leads) ∙ (is ∙ append-nil front))
  moment_of (e ∷ rest) is = (next_step e rest is).moment

-- A setter's publish stands in the order of steps that leads to its history; where no later step takes the watch back, it
-- stays set in it.
use Rattle.std.proofs.Common.{refl, sym, ◌∙◌, ap, subst, inl, inr}
use Rattle.std.proofs.lemmas.Bool.Decides.{eqb_tells}
use Rattle.std.specs.Prelude.{ℕ, ◌≡◌, ◌≢◌, ◌<◌, ◌⊎◌, true, false, List, [], ◌∷◌, ◌++◌}
use Rattle.wait_model.specs.{declared.layout.TheConstants.TASKS, declared.watches.Watch.Watch, declared.steps.Step.Step}
use Rattle.wait_model.specs.{Histories.Lacks, Fold.view_of}
use Rattle.wait_model.specs.Tables.{Table, met, next}
use Rattle.wait_model.proofs.Functions.{put_same, put_other}
use Rattle.wait_model.proofs.HistoryLaws.Stretches.{lacks_left, lacks_right}
use Rattle.wait_rule.specs.Interleavings.{TaskStep, table_of, AreAllowed}
use Rattle.wait_rule.specs.TableLaws.{histories_in}
use Rattle.wait_rule.specs.Setters.{step_by, uses_up, StaysSet, UsesUpNone, NobodySleeps, LeavesSet, AllLeaveSet}
use Rattle.wait_rule.specs.Setters.{SetForGood, RuleSetsForGood, AllSetForGood}
use Rattle.wait_rule.proofs.KnownLaws.Setters.{steps_settle_all}

leave_front : (on : Watch) (es fs : List Step) → AllLeaveSet on (es ++ fs) → AllLeaveSet on es
leave_front on [] fs h = tt
leave_front on (e ∷ es) fs h = (h.0, leave_front on es fs h.1)

leave_last : (on : Watch) (es : List Step) (e : Step) → AllLeaveSet on (es ++ e ∷ []) → LeavesSet on e
leave_last on [] e h = h.0
leave_last on (d ∷ es) e h = leave_last on es e h.1

-- the last step of a list that is split
tail_same : (x y : Step) (xs ys : List Step) → x ∷ xs ≡ y ∷ ys → xs ≡ ys
tail_same x y xs ys is = cc

head_same : (x y : Step) (xs ys : List Step) → x ∷ xs ≡ y ∷ ys → x ≡ y
head_same x y xs ys is = cc

empty_not : {A : Type 0} (b : List Step) (p : Step) (l : List Step) → [] ≡ b ++ p ∷ l → A
empty_not [] p l is = absurd (cc)
empty_not (x ∷ b) p l is = absurd (cc)

abbrev Ended : (h : List Step) (y : Step) (b : List Step) (p : Step) (l : List Step) → Type 0
Ended h y b p l = ((h ≡ b) × (y ≡ p))
    ⊎ ((more : List Step) × (h ≡ b ++ p ∷ more) × (l ≡ more ++ y ∷ []))

ended : (h : List Step) (y : Step) (b : List Step) (p : Step) (l : List Step) → h ++ y ∷ [] ≡ b ++ p ∷ l
    → Ended h y b p l
ended [] y [] p l is = inl (refl, head_same y p [] l is)
ended [] y (x ∷ b) p l is = empty_not b p l (tail_same y x [] (b ++ p ∷ l) is)
ended (z ∷ h) y [] p l is = inr (
  h,
  ap (λ (d : Step). d ∷ h) (head_same z p (h ++ y ∷ []) l is),
  sym (tail_same z p (h ++ y ∷ []) l is),
)
ended (z ∷ h) y (x ∷ b) p l is =
    let eq : z ≡ x = head_same z x (h ++ y ∷ []) (b ++ p ∷ l) is in
    elim (ended h y b p l (tail_same z x (h ++ y ∷ []) (b ++ p ∷ l) is)) [
      | inl q ↦ inl (λ i. eq i ∷ q.0 i, q.1)
      | inr q ↦ inr (q.0, λ i. eq i ∷ q.1 i, q.2)
    ]

-- where the publish stands
module _ (me : ℕ) (on : Watch) (b : List Step) (p : Step) (sets : (s : Table) → met (next s me p).words on ≡ true) where
  record Found (xs : List TaskStep) : Type 0 where
    before : List TaskStep
    later : List TaskStep
    split : xs ≡ later ++ step_by me p ∷ before
    whole : UsesUpNone me later
    stays : StaysSet later (step_by me p ∷ before) on

  abbrev OthersLeave : List TaskStep → Type 0
  OthersLeave xs = (t : ℕ) → t < TASKS → t ≢ me → AllLeaveSet on ((table_of xs).history t)

  set_now : (later before : List TaskStep) → StaysSet later before on
      → met (table_of (later ++ before)).words on ≡ true
  set_now [] before st = st
  set_now (x ∷ xs) before st = st.0

  one_more : (x : TaskStep) (xs : List TaskStep) → (x.task ≡ me → uses_up x.made ≡ false) → LeavesSet on x.made
      → Found xs → Found (x ∷ xs)
  one_more x xs un leaves f = record {
    before = f.before;
    later = x ∷ f.later;
    split = ap (λ (ys : List TaskStep). x ∷ ys) f.split;
    whole = (un, f.whole);
    stays = (
      leaves (table_of (f.later ++ step_by me p ∷ f.before)) x.task
          (set_now f.later (step_by me p ∷ f.before) f.stays),
      f.stays,
    );
  }

  at_publish : (x : TaskStep) (xs : List TaskStep) → x.task ≡ me → x.made ≡ p → Found (x ∷ xs)
  at_publish x xs q r = record {
    before = xs;
    later = [];
    split = ap (λ (y : TaskStep). y ∷ xs) (λ i. record { task = q i; made = r i });
    whole = tt;
    stays = sets (table_of xs);
  }

  abbrev h : List TaskStep → ℕ → List Step
  h xs = (table_of xs).history

  -- before the latest step of a task the others' steps left the watch set too
  others_before : (x : TaskStep) (xs : List TaskStep) → OthersLeave (x ∷ xs) → OthersLeave xs
  others_before x xs others t few ne = elim (eqb_tells t x.task) [
    | inl q ↦ leave_front on (h xs t) (x.made ∷ []) (subst (AllLeaveSet on) (own t q.1) (others t few ne))
    | inr q ↦ subst (AllLeaveSet on) (put_other (h xs) x.task (h xs x.task ++ x.made ∷ []) t q.1) (others t few ne)
  ]
    where
      own : (t : ℕ) → t ≡ x.task → h (x ∷ xs) t ≡ h xs t ++ x.made ∷ []
      own t q = ap (h (x ∷ xs)) q ∙ put_same (h xs) x.task (h xs x.task ++ x.made ∷ [])
          ∙ ap (λ (i : ℕ). h xs i ++ x.made ∷ []) (sym q)

  decided : {A B C D : Type 0} → (A × B) ⊎ (C × D) → B ⊎ D
  decided (inl q) = inl q.1
  decided (inr q) = inr q.1

  find : (xs : List TaskStep) → AreAllowed xs → (l : List Step) → h xs me ≡ b ++ p ∷ l → AllLeaveSet on l
      → Lacks uses_up l → OthersLeave xs → Found xs
  find [] may l is leave lacks others = empty_not b p l is
  find (x ∷ xs) may l is leave lacks others = by (decided (eqb_tells x.task me))
      (λ more at left un. find xs may.2 more at left un (others_before x xs others))
    where
      own : x.task ≡ me → h (x ∷ xs) me ≡ h xs me ++ x.made ∷ []
      own q = ap (h (x ∷ xs)) (sym q) ∙ put_same (h xs) x.task (h xs x.task ++ x.made ∷ [])
          ∙ ap (λ (i : ℕ). h xs i ++ x.made ∷ []) q

      by_own : x.task ≡ me
          → ((more : List Step) → h xs me ≡ b ++ p ∷ more → AllLeaveSet on more → Lacks uses_up more → Found xs)
          → Ended (h xs me) x.made b p l → Found (x ∷ xs)
      by_own q more (inl e) = at_publish x xs q e.1
      by_own q more (inr e) =
          let left = subst (AllLeaveSet on) e.2 leave in
          let un = subst (Lacks uses_up) e.2 lacks in
          one_more x xs (λ _. (lacks_right uses_up e.0 (x.made ∷ []) un).0) (leave_last on e.0 x.made left)
          (more e.0 e.1 (leave_front on e.0 (x.made ∷ []) left) (lacks_left uses_up e.0 (x.made ∷ []) un))

      by : ((x.task ≡ me) ⊎ (x.task ≢ me))
          → ((more : List Step) → h xs me ≡ b ++ p ∷ more → AllLeaveSet on more → Lacks uses_up more → Found xs)
          → Found (x ∷ xs)
      by (inl q) more = by_own q more (ended (h xs me) x.made b p l (sym (own q) ∙ is))
      by (inr ne) more =
          one_more x xs (λ q. absurd (ne q))
          (leave_last on (h xs x.task) x.made
          (subst (AllLeaveSet on) (put_same (h xs) x.task (h xs x.task ++ x.made ∷ [])) (others x.task may.0 ne)))
          (more l (sym (put_other (h xs) x.task (h xs x.task ++ x.made ∷ []) me (λ q. ne (sym q))) ∙ is) leave lacks)

steps_set_for_good : (xs : List TaskStep) → AreAllowed xs → (me : ℕ) (c on : Watch) (σ : ℕ)
    → SetForGood (table_of xs).history me c on σ → NobodySleeps (table_of xs) on σ
steps_set_for_good xs may me c on σ w =
    let f = find me on w.before w.publish w.sets xs may w.later w.split w.own w.whole w.others in
    steps_settle_all xs may me c on σ (record {
      before = f.before;
      publish = w.publish;
      later = f.later;
      split = f.split;
      is_publish = w.is_publish;
      whole = f.whole;
      settled = w.settled;
      watch = w.watch;
      stays = f.stays;
    })

pub rule_sets_for_good : RuleSetsForGood
rule_sets_for_good s items ruled me c on σ w = subst (λ (t : Table). NobodySleeps t on σ)
    (sym ruled.whole.interleaved.leads)
    (steps_set_for_good ruled.whole.interleaved.steps ruled.whole.interleaved.allowed me c on σ
    (subst (λ (t : Table). SetForGood t.history me c on σ) ruled.whole.interleaved.leads w))

pub all_set_for_good : AllSetForGood
all_set_for_good v law all me c on σ w = rule_sets_for_good law.table law.items law.ruled me c on σ (record {
  number = w.number;
  before = w.before;
  publish = w.publish;
  later = w.later;
  split = told me w.number ∙ w.split;
  is_publish = w.is_publish;
  whole = w.whole;
  settled = ap (λ (es : List Step). (view_of es).duty.owes c σ) (told me w.number) ∙ w.settled;
  watch = w.watch;
  sets = w.sets;
  own = w.own;
  others = λ t few ne. subst (AllLeaveSet on) (sym (told t few)) (w.others t few ne);
})
  where
    told : (t : ℕ) → t < TASKS → law.table.history t ≡ histories_in v t
    told t few = law.history t (all t few)

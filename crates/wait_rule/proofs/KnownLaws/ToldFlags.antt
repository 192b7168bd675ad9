-- A flag that a quiet task has found set tells of a page that was taken for it, until it clears the flag.
use Rattle.std.proofs.Common.{◌∙◌, ap, sym, refl, inl, inr}
use Rattle.std.proofs.lemmas.Bool.Decides.{eqb_tells}
use Rattle.std.specs.Prelude.{ℕ, ◌≡◌, ◌≢◌, ◌⊎◌, ◌&&◌, ◌||◌, ◌==◌, Bool, true, false, if◌then◌else◌}
use Rattle.std.specs.Prelude.{Option, None, List, [], ◌∷◌, ◌++◌}
use Rattle.wait_model.specs.{declared.steps.Step.Step, Facts.PageFacts, Functions.put, Rows.Allowed, Tables.Table}
use Rattle.wait_model.specs.{Tables.next, Views.View, Views.blank, Watches.owner, Words.flag_of}
use Rattle.wait_model.specs.Fold.{after, after_all, view_of}
use Rattle.wait_model.specs.declared.steps.Step.TheVariants as step
use Rattle.wait_model.proofs.Functions.{put_at, put_case, put_same}
use Rattle.wait_rule.specs.Items.{Book}
use Rattle.wait_rule.specs.Quiet.{AreQuiet, AreTold, is_quiet_at, is_told, quiet_after, quiet_from, told_after, told_from}
use Rattle.wait_rule.proofs.{KnownLaws.MemberSteps.IsOrderly, KnownLaws.PageStates.none_some}

-- one history after another
pub told_append : (x : ℕ) (v : View) (q b : Bool) (es fs : List Step)
    → told_from x v q b (es ++ fs) ≡ told_from x (after_all v es) (quiet_from x v q es) (told_from x v q b es) fs
told_append x v q b [] fs = refl
told_append x v q b (e ∷ es) fs = told_append x (after e v) (quiet_after x v e q) (told_after x e q b) es fs

pub told_more : (x : ℕ) (es fs : List Step)
    → is_told x (es ++ fs) ≡ told_from x (view_of es) (is_quiet_at x es) (is_told x es) fs
told_more x es fs = told_append x blank true false es fs

or_either : (a b : Bool) → (a || b) ≡ true → (a ≡ true) ⊎ (b ≡ true)
or_either true b is = inl refl
or_either false b is = inr is

and_both : (a b : Bool) → (a && b) ≡ true → (a ≡ true) × (b ≡ true)
and_both true b is = (refl, is)
and_both false b is = absurd (cc)

module _ (x : ℕ) (s : Table) (a : ℕ) (r : AreTold s) where
  -- what is told after a step, by whose it is
  by_step : (e : Step) → is_told x ((next s a e).history (owner x)) ≡ true
      → ((owner x ≡ a) × (told_after x e (is_quiet_at x (s.history a)) (is_told x (s.history a)) ≡ true))
      ⊎ (is_told x (s.history (owner x)) ≡ true)
  by_step e = put_at (λ (h : List Step). is_told x h ≡ true
      → ((owner x ≡ a) × (told_after x e (is_quiet_at x (s.history a)) (is_told x (s.history a)) ≡ true))
      ⊎ (is_told x (s.history (owner x)) ≡ true)) s.history a (s.history a ++ e ∷ []) (owner x)
      (λ here told. inl (here, sym (told_more x (s.history a) (e ∷ [])) ∙ told)) (λ _ told. inr told)

  mine : owner x ≡ a → is_told x (s.history a) ≡ true → s.done x ≡ true
  mine here told = r x (ap (λ (t : ℕ). is_told x (s.history t)) here ∙ told)

  -- a step that tells nothing
  still : (e : Step) → told_after x e (is_quiet_at x (s.history a)) (is_told x (s.history a)) ≡ is_told x (s.history a)
      → is_told x ((next s a e).history (owner x)) ≡ true → s.done x ≡ true
  still e same told = elim (by_step e told) [
    | inl q ↦ mine q.0 (sym same ∙ q.1)
    | inr q ↦ r x q
  ]

  flag_told : (y w : ℕ) → flag_of w ≡ s.flag y → AreQuiet s
      → is_told x ((next s a (step.Flag y w)).history (owner x)) ≡ true → s.done x ≡ true
  flag_told y w found quiet told = by (by_step (step.Flag y w) told)
    where
      here : owner x ≡ a → (((y == x) ≡ true) × (y ≡ x)) ⊎ (((y == x) ≡ false) × (y ≢ x))
          → (if y == x then (is_quiet_at x (s.history a) && flag_of w) || is_told x (s.history a)
          else is_told x (s.history a)) ≡ true → s.done x ≡ true
      here own (inl q) is =
          let one : ((is_quiet_at x (s.history a) && flag_of w) || is_told x (s.history a)) ≡ true =
          ap (λ (t : Bool). if t then (is_quiet_at x (s.history a) && flag_of w) || is_told x (s.history a)
          else is_told x (s.history a)) (sym q.0) ∙ is in
          elim (or_either (is_quiet_at x (s.history a) && flag_of w) (is_told x (s.history a)) one) [
            | inl both ↦
                let b = and_both (is_quiet_at x (s.history a)) (flag_of w) both in
                quiet x (ap (λ (t : ℕ). is_quiet_at x (s.history t)) own ∙ b.0)
                (ap s.flag (sym q.1) ∙ (sym found ∙ b.1))
            | inr before ↦ mine own before
          ]
      here own (inr q) is = mine own (ap (λ (t : Bool). if t then (is_quiet_at x (s.history a) && flag_of w)
          || is_told x (s.history a) else is_told x (s.history a)) (sym q.0) ∙ is)

      by : ((owner x ≡ a) × (told_after x (step.Flag y w) (is_quiet_at x (s.history a)) (is_told x (s.history a)) ≡ true))
          ⊎ (is_told x (s.history (owner x)) ≡ true) → s.done x ≡ true
      by (inl q) = here q.0 (eqb_tells y x) q.1
      by (inr q) = r x q

  unflag_told : (y : ℕ) (o : Option ℕ) → owner y ≡ a
      → is_told x ((next s a (step.Unflag y o)).history (owner x)) ≡ true → put s.done y false x ≡ true
  unflag_told y o own told = by (put_case s.done y false x) (by_step (step.Unflag y o) told)
    where
      cleared : x ≡ y → is_told x ((next s a (step.Unflag y o)).history (owner x)) ≡ true → put s.done y false x ≡ true
      cleared same t =
          let at : put s.history a (s.history a ++ step.Unflag y o ∷ []) (owner x)
          ≡ s.history a ++ step.Unflag y o ∷ [] =
          ap (put s.history a (s.history a ++ step.Unflag y o ∷ [])) (ap owner same ∙ own)
          ∙ put_same s.history a (s.history a ++ step.Unflag y o ∷ []) in
          let none : told_after x (step.Unflag y o) (is_quiet_at x (s.history a)) (is_told x (s.history a)) ≡ true =
          sym (told_more x (s.history a) (step.Unflag y o ∷ [])) ∙ (ap (is_told x) (sym at) ∙ t) in
          no (eqb_tells y x) none
        where
          no : (((y == x) ≡ true) × (y ≡ x)) ⊎ (((y == x) ≡ false) × (y ≢ x))
              → (if y == x then false else is_told x (s.history a)) ≡ true → put s.done y false x ≡ true
          no (inl q) is =
              let f : false ≡ true = ap (λ (b : Bool). if b then false else is_told x (s.history a)) (sym q.0)
              ∙ is in absurd (cc)
          no (inr q) is = absurd (q.1 (sym same))

      other : x ≢ y → ((owner x ≡ a)
          × (told_after x (step.Unflag y o) (is_quiet_at x (s.history a)) (is_told x (s.history a)) ≡ true))
          ⊎ (is_told x (s.history (owner x)) ≡ true) → s.done x ≡ true
      other ne (inl q) = on (eqb_tells y x) q.1
        where
          on : (((y == x) ≡ true) × (y ≡ x)) ⊎ (((y == x) ≡ false) × (y ≢ x))
              → (if y == x then false else is_told x (s.history a)) ≡ true → s.done x ≡ true
          on (inl p) is = absurd (ne (sym p.1))
          on (inr p) is = mine q.0 (ap (λ (b : Bool). if b then false else is_told x (s.history a)) (sym p.0) ∙ is)
      other ne (inr q) = r x q

      by : ((x ≡ y) × (put s.done y false x ≡ false)) ⊎ ((x ≢ y) × (put s.done y false x ≡ s.done x))
          → ((owner x ≡ a)
          × (told_after x (step.Unflag y o) (is_quiet_at x (s.history a)) (is_told x (s.history a)) ≡ true))
          ⊎ (is_told x (s.history (owner x)) ≡ true) → put s.done y false x ≡ true
      by (inl q) t = cleared q.0 told
      by (inr q) t = q.1 ∙ other q.0 t

  woken_told : (y : ℕ) → s.taken y ≡ None → PageFacts s
      → is_told x ((next s a (step.Woken y)).history (owner x)) ≡ true → put s.done y false x ≡ true
  woken_told y free pages told = by (put_case s.done y false x)
    where
      before : s.done x ≡ true
      before = still (step.Woken y) refl told

      by : ((x ≡ y) × (put s.done y false x ≡ false)) ⊎ ((x ≢ y) × (put s.done y false x ≡ s.done x))
          → put s.done y false x ≡ true
      by (inl q) = let t = (pages.done x before).1 in none_some t.0 (sym free ∙ (ap s.taken (sym q.0) ∙ t.1))
      by (inr q) = q.1 ∙ before

  handed_told : (y : ℕ) → is_told x ((next s a (step.Handed y)).history (owner x)) ≡ true → put s.done y true x ≡ true
  handed_told y told = put_at (λ (b : Bool). b ≡ true) s.done y true x (λ _. refl)
      (λ _. still (step.Handed y) refl told)

-- each step keeps it
pub heard_next : (s : Table) (a : ℕ) (e : Step) (b : Book) → Allowed s a e → IsOrderly s a e b → PageFacts s
    → AreQuiet s → AreTold s → AreTold (next s a e)
heard_next s a (step.Woken y) b al orderly pages quiet r x told = woken_told x s a r y orderly.0 pages told
heard_next s a (step.Handed y) b al orderly pages quiet r x told = handed_told x s a r y told
heard_next s a (step.Unflag y o) b al orderly pages quiet r x told = unflag_told x s a r y o al.0 told
heard_next s a (step.Flag y w) b al orderly pages quiet r x told = flag_told x s a r y w al.1 quiet told
heard_next s a e b al orderly pages quiet r x told = still x s a r e refl told

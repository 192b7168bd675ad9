-- The worked histories of holds, computed.
use Rattle.std.proofs.Common.{refl, ◌∙◌, ap, inl, inr}
use Rattle.std.specs.Prelude.{◌-◌, ℕ, ◌≡◌, Bool, true, false, not, ◌&&◌, ◌||◌, if◌then◌else◌, Option, Some, None}
use Rattle.wait_model.specs.{declared.watches.Watch.Watch, declared.watches.Aim.Aim, Tasks.meets, Tasks.task_of}
use Rattle.wait_model.specs.{Watches.same, Watches.head_of, Words.entry_of, Fold.after_unlock, Fold.view_of}
use Rattle.wait_model.specs.declared.layout.TheConstants.{FIRST_SIMPLE, COMPLETIONS, FIRST_SIMPLE_HEAD, HEADS, NORMAL}
use Rattle.wait_model.specs.Views.{View as Told, Walk, no_hold, blank, concerns, all_below, all_passed}
use Rattle.wait_model.specs.declared.watches.Watch.TheVariants as watch
use Rattle.wait_model.specs.declared.steps.Step.TheVariants as step
use Rattle.wait_model.proofs.HistoryLaws.HoldLooks.{after_snoc}
use Rattle.wait_rule.specs.WorkedHolds.{woke_simple, woke_done, SimpleHolds, CallsRightly, PausesRightly}

-- the hold shows that its walk has passed all
simple_passed : all_passed (view_of woke_simple) (record { watch = watch.Plain FIRST_SIMPLE; mask = NORMAL; from = 0 })
    (λ _. false)
    ≡ true
unfolding entry_of all_passed all_below
simple_passed = refl

done_passed : all_passed (view_of woke_done) (record { watch = watch.Done (COMPLETIONS - 1); mask = NORMAL; from = 0 })
    (λ _. false)
    ≡ true
unfolding entry_of all_passed all_below
done_passed = refl

-- what was owed of one watch alone ends with such a walk
ended : (a b : Bool) → b ≡ true → ((a || false) && not (a && b)) ≡ false
ended true true is = refl
ended false b is = refl
ended true false is = absurd (cc)

unlocked : (v : Told) (w : Walk) → v.walk ≡ Some w → all_passed v w (λ _. false) ≡ true → (c : Watch) (σ : ℕ)
    → (after_unlock v v.walk false).duty.owes c σ ≡ (v.duty.owes c σ && not (same c w.watch && meets w.mask σ))
unlocked v w is passed c σ = ap (λ o. (after_unlock v o false).duty.owes c σ) is
    ∙ ap (λ (t : Told). t.duty.owes c σ) there
  where
    first : (b : Bool) (x y : Told) → b ≡ true → (if b then x else y) ≡ x
    first true x y e = refl
    first false x y e = absurd (cc)

    there : after_unlock v (Some w) false ≡ record v {
      hold = no_hold;
      walk = None;
      duty = record (v.duty) { owes = λ d s. v.duty.owes d s && not (concerns w d s) };
    }
    there = first (all_passed v w (λ _. false)) _ _ passed

pub simple_holds : SimpleHolds
simple_holds = record {
  owed = refl;
  ends = λ c σ met. ap (λ (v : Told). v.duty.owes c σ) (after_snoc blank woke_simple
      (step.Unlock FIRST_SIMPLE_HEAD false))
      ∙ (unlocked (view_of woke_simple) (record { watch = watch.Plain FIRST_SIMPLE; mask = NORMAL; from = 0 }) refl
      simple_passed c σ
      ∙ ended (same c (watch.Plain FIRST_SIMPLE)) (meets NORMAL σ) met);
  done_owed = refl;
  done_ends = λ c σ met. ap (λ (v : Told). v.duty.owes c σ) (after_snoc blank woke_done (step.Unlock (HEADS - 1) false))
      ∙ (unlocked (view_of woke_done) (record { watch = watch.Done (COMPLETIONS - 1); mask = NORMAL; from = 0 }) refl
      done_passed c σ
      ∙ ended (same c (watch.Done (COMPLETIONS - 1))) (meets NORMAL σ) met);
}

pub calls_rightly : CallsRightly
unfolding entry_of head_of task_of meets
calls_rightly = record {
  first_1 = (refl, refl);
  first_2 = (refl, refl);
  second_1 = (refl, refl);
  second_2 = (refl, refl);
  running = (refl, refl);
  still_first = (refl, refl);
  still_second = (refl, refl);
  still_both = (refl, refl);
  one_first = (refl, refl);
  one_second = (refl, refl);
  two_second = (refl, refl);
  one_both = (refl, refl);
  two_both = (refl, refl);
  three_both = (refl, refl);
  between = (refl, refl);
  elsewhere = (refl, refl);
}

pub pauses_rightly : PausesRightly
unfolding entry_of head_of task_of meets
pauses_rightly = record {
  broke = refl;
  chosen = refl;
  last = refl;
  unlimited = refl;
  resumes = λ d m is at. inr refl;
  not_whole = λ d n r. elim (r _ refl refl) [ inl z ↦ absurd (cc) | inr z ↦ ap count_or z ];
  not_over = λ d n r. elim (r _ refl refl) [ inl z ↦ (cc) | inr z ↦ (cc) ];
  third = (refl, refl);
  no_walk = refl;
  elsewhere = refl;
}
  where
    count_or : Option Aim → ℕ
    count_or None = 0
    count_or (Some a) = a.count

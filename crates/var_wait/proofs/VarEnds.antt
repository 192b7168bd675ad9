-- The end of a wait for a variable.
use Rattle.std.proofs.Common.{◌∙◌, sym, refl, subst, arith}
use Rattle.std.proofs.lemmas.Bool.Decides.{nat_tests}
use Rattle.std.specs.Prelude.{ℕ, ◌≡◌, ◌≢◌, ◌==◌, ◌&&◌, not, false, None, Some, List, [], ◌∷◌}
use Rattle.wait_model.specs.declared.steps.Step.TheVariants as step
use Rattle.wait_model.specs.{declared.tasks.SleepState.SleepState, declared.watches.Watch.Watch, Watches.head_of}
use Rattle.wait_model.specs.Watches.{misses}
use Rattle.wait_model.specs.declared.watches.Watch.TheVariants as watch
use Rattle.wait_rule.specs.Known.{Known}
use Rattle.wait_rule.specs.Transitions.{StepOrLook, Transition, by_step}
use Rattle.wait_event.specs.{Ends.wait_end_in, declared.waits.WaitOutcome.WaitOutcome, declared.waits.WaitCall.WaitCall}
use Rattle.wait_event.specs.Waits.{IsFreshWait, IsRunningWait, last_loaded, loaded_by, wait_table}
use Rattle.wait_class.specs.{declared.stages.Run.Run, Tables.Advances}
use Rattle.wait_event.specs.declared.waits.WaitOutcome.TheVariants as outcome
use Rattle.wait_event.specs.declared.waits.WaitStage.TheVariants as stage
use Rattle.wait_class.specs.declared.stages.Turn.TheVariants as turn
use Rattle.wait_event.proofs.Endings.{begun, found_worn, was_signalled}
use Rattle.var_wait.specs.VarWaits.{EndsVarWait, shared_in, with_loaded}

some_is : (x y : ℕ) → Some x ≡ Some y → x ≡ y
some_is x y is = cc

-- what was found last is another value than the first one: so some load found it
loaded_on : (x d : ℕ) (ts : List Transition) → (Some x ≡ last_loaded (Some d) ts → last_loaded None ts ≡ Some x)
    → (did : StepOrLook) → Some x ≡ last_loaded (loaded_by did (Some d)) ts
    → last_loaded (loaded_by did None) ts ≡ Some x
loaded_on x d ts rest (by_step (step.Load w r)) is = sym is
loaded_on x d ts rest did is = rest is

loaded_one : (x d : ℕ) → x ≢ d → (ts : List Transition) → Some x ≡ last_loaded (Some d) ts
    → last_loaded None ts ≡ Some x
loaded_one x d ne [] is = absurd (ne (some_is x d is))
loaded_one x d ne (t ∷ ts) is = loaded_on x d ts (loaded_one x d ne ts) t.did is

differs : (x old : ℕ) → (x == old) ≡ false → x ≢ old
differs x old unlike is = absurd (grind (arith, nat_tests))

module _ (before new : Known) (r q : Run WaitCall) (v old : ℕ) (st : SleepState)
    (fresh : IsFreshWait r.of (watch.Var v old) (shared_in st))
    (runs : IsRunningWait r.of) where
  pub ends_var : (o : WaitOutcome) → Advances wait_table before new r q stage.First (turn.Done o)
      → EndsVarWait before new v old st (with_loaded q.of.seen (wait_end_in q.of o))
  ends_var outcome.Over a =
      let ts = a.went.runs.transitions in
      let ne : q.of.seen ≢ old = differs q.of.seen old (subst (λ (w : Watch). misses w q.of.seen ≡ false)
      (a.went.tells.same.watch_is ∙ fresh.watch_is) a.lands.trail) in record {
        runs = (begun before new r q (watch.Var v old) (shared_in st) fresh runs stage.First outcome.Over a).runs;
        cause = (
          loaded_one q.of.seen old ne ts (subst (λ (d : ℕ). Some q.of.seen ≡ last_loaded (Some d) ts) fresh.seen a.went.tells.seen),
          ne,
        );
      }
  ends_var (outcome.Signalled found) a = record {
    runs = (begun before new r q (watch.Var v old) (shared_in st) fresh runs stage.First (outcome.Signalled found) a).runs;
    cause = was_signalled before new r q (watch.Var v old) (shared_in st) fresh runs found a (q.of.queued && not found) refl;
  }
  ends_var outcome.Worn a = record {
    runs = (begun before new r q (watch.Var v old) (shared_in st) fresh runs stage.First outcome.Worn a).runs;
    cause = found_worn before new r q (watch.Var v old) (shared_in st) fresh runs a (head_of q.of.watch) refl;
  }

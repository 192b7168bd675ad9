-- The loads and stores of a count wake nobody.
use Rattle.std.proofs.Common.{ap, sym, refl, subst}
use Rattle.std.specs.Prelude.{ℕ, ◌≡◌, ◌+◌, ◌-◌, ◌||◌, ◌==◌, nat_lt, if◌then◌else◌, Bool, true, false, [], ◌∷◌}
use Rattle.std.specs.Prelude.{MatchBool}
use Rattle.wait_model.specs.{declared.layout.TheConstants.ALL_DONE, Runs.set_step}
use Rattle.wait_model.specs.declared.steps.Step.TheVariants as step
use Rattle.wait_model.specs.declared.watches.Watch.TheVariants as watch
use Rattle.wait_rule.specs.declared.journal.Item.TheVariants as item
use Rattle.wait_rule.specs.{Counts.StoresCount, Known.Known, Says.added, Says.history_of}
use Rattle.wq_head.specs.Roused.{RousesNone, roused}
use Rattle.wq_head.proofs.RousedTasks.{none_added}

pub none_counted : (d v : ℕ) (old new : Known) → new ≡ added old (item.Made (step.Load (watch.Done d) v))
    → RousesNone old new
none_counted d v old new is = subst (RousesNone old) (sym is)
    (none_added old (item.Made (step.Load (watch.Done d) v)) refl)

sets_none : (d n found : ℕ) → roused (set_step (watch.Done d) n found ∷ []) ≡ []
sets_none d n found = by (nat_lt found n || (n == ALL_DONE))
  where
    by : (b : Bool) → roused ((if b then step.Publish (watch.Done d) n found else step.Consume (watch.Done d) n found)
        ∷ []) ≡ []
    by true = refl
    by false = refl

pub none_set : (d n : ℕ) (old new : Known) → StoresCount old new d n → RousesNone old new
none_set d n old new s = subst (RousesNone old) (sym s.is)
    (none_added old (item.Made (set_step (watch.Done d) n s.found)) (sets_none d n s.found))

none_same : (old new : Known) → new ≡ old → RousesNone old new
none_same old new is = ap (λ (k : Known). roused (history_of k)) is

pub none_raised : (d n : ℕ) (old new : Known) (raised : Bool)
    → MatchBool raised (StoresCount old new d (n + 1)) (new ≡ old) → RousesNone old new
none_raised d n old new true s = none_set d (n + 1) old new s
none_raised d n old new false is = none_same old new is

pub none_taken : (d n : ℕ) (old new : Known) (took : Bool)
    → MatchBool took (StoresCount old new d (n - 1)) (new ≡ old) → RousesNone old new
none_taken d n old new true s = none_set d (n - 1) old new s
none_taken d n old new false is = none_same old new is

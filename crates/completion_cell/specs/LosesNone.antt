-- To be believed.
-- A completion that is made done leaves nobody asleep on it, by what the call says of itself.
use Rattle.std.specs.Prelude.{ℕ}
use Rattle.wait_model.specs.declared.watches.Mode.TheVariants as mode
use Rattle.wait_model.specs.declared.watches.Watch.TheVariants as watch
use Rattle.wait_event.specs.Conds.{set_change}
use Rattle.wait_rule.specs.{Known.Known, LosesNone.LeavesNoneAsleep, LosesNone.OwesBeside, Says.Excuse, Stays.Carries}

-- before the call the task owed no wake of the completion
abbrev pub CompletesLoseNone : Type 0
CompletesLoseNone = (old new : Known) (d : ℕ) (x : Excuse) → OwesBeside (watch.Done d) x old
    → Carries (set_change (watch.Done d) mode.Normal new.at) old new
    → LeavesNoneAsleep (watch.Done d) mode.Normal new

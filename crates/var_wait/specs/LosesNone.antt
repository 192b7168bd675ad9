-- To be believed.
-- A variable that is published leaves nobody asleep on it whose old value it has no more, by what the call says of
-- itself.
use Rattle.std.specs.Prelude.{ℕ}
use Rattle.wait_model.specs.declared.queues.Walked.{Walked}
use Rattle.wait_model.specs.declared.watches.Mode.TheVariants as mode
use Rattle.wait_model.specs.declared.watches.Watch.TheVariants as watch
use Rattle.wait_rule.specs.{Known.Known, LosesNone.LeavesNoneAsleep}
use Rattle.var_wait.specs.VarPublishes.{HasPublished}

abbrev pub PublishesLoseNone : Type 0
PublishesLoseNone = (old new : Known) (v value : ℕ) (walked : Walked) → HasPublished old new v value walked
    → LeavesNoneAsleep (watch.Var v 0) mode.Normal new

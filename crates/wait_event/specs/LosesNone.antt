-- To be believed.
-- A set with its wake leaves nobody asleep on the condition for whom the wake was, by what it says of itself.
use Rattle.std.specs.Prelude.{ℕ}
use Rattle.wait_model.specs.{declared.queues.Walked.Walked, declared.watches.Mode.Mode}
use Rattle.wait_model.specs.declared.watches.Watch.TheVariants as watch
use Rattle.wait_rule.specs.{Known.Known, LosesNone.LeavesNoneAsleep}
use Rattle.wait_event.specs.Conds.{HasSet}

abbrev pub SetsLoseNone : Type 0
SetsLoseNone = (old new : Known) (c value : ℕ) (m : Mode) (count : ℕ) (walked : Walked)
    → HasSet old new c value m count walked → LeavesNoneAsleep (watch.Plain c) m new

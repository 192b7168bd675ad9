-- To be believed.
-- A wake leaves nobody asleep for whom it was, by what it says of its end.
use Rattle.wait_model.specs.declared.watches.Aim.{Aim}
use Rattle.wait_rule.specs.{Known.Known, LosesNone.LeavesNoneAsleep}
use Rattle.wq_head.specs.Walks.{HasEnded}

abbrev pub WakesLoseNone : Type 0
WakesLoseNone = (old new : Known) (a : Aim) → HasEnded old new a → LeavesNoneAsleep a.watch a.mode new

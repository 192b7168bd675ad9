-- Who made a completion done leaves nobody asleep on it.
use Rattle.wait_model.specs.declared.watches.Watch.TheVariants as watch
use Rattle.wait_rule.proofs.KnownLaws.LosesNone.{owers_leave_none}
use Rattle.completion_cell.specs.LosesNone.{CompletesLoseNone}

pub completes_lose_none : CompletesLoseNone
completes_lose_none old new d x owed carries = owers_leave_none (watch.Done d) x new
    (record { most = carries.owes x owed.most; none = owed.none })

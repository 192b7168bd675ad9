-- Who woke in a simple queue leaves nobody asleep there.
use Rattle.wait_model.specs.declared.watches.Watch.TheVariants as watch
use Rattle.wait_rule.proofs.KnownLaws.LosesNone.{owers_leave_none}
use Rattle.swait_queue.specs.LosesNone.{SwakesLoseNone}

pub swakes_lose_none : SwakesLoseNone
swakes_lose_none old new c x none owed carries = owers_leave_none (watch.Plain c) x new
    (record { most = carries.owes x owed; none = none })

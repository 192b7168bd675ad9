use Rattle.std.specs.Prelude.{false}
use Rattle.lock_users.proofs.stretched.doze.Goals as goal

pub returns-then-woke_mutex_lock-clause-came : goal.returns-then-woke_mutex_lock-clause-came
returns-then-woke_mutex_lock-clause-came g c start x = c.if-woke_mutex_lock.ensures.came false start
    (c.loop.invariant.2 start x)

pub loop-preserved : goal.loop-preserved
loop-preserved g c =
    let e = c.if-woke_mutex_lock.ensures in
    (e.of, e.stands, λ start x. e.came false start (c.loop.invariant.2 start x))

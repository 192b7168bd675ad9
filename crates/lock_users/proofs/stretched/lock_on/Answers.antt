use Rattle.lock_users.proofs.stretched.lock_on.Goals as goal

pub loop-preserved-in-Again : goal.loop-preserved-in-Again
loop-preserved-in-Again g c =
    let e = c.in-Again.ensures in (e.of, e.stands, λ start x. e.came start (c.loop.invariant.2 start x))

pub loop-preserved-in-Locked : goal.loop-preserved-in-Locked
loop-preserved-in-Locked g c =
    let e = c.in-Locked.ensures in (e.of, e.stands, λ start x. e.came start (c.loop.invariant.2 start x))

pub loop-preserved : goal.loop-preserved
loop-preserved g c =
    let e = c.doze.ensures in
    (e.of, e.stands, λ start x. e.came start (c.in-Asleep.ensures.came start (c.loop.invariant.2 start x)))

pub returns-in-Done-clause-came : goal.returns-in-Done-clause-came
returns-in-Done-clause-came g c start x = c.in-Done.ensures.came start (c.loop.invariant.2 start x)

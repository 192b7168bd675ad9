use Rattle.std.proofs.Common.{arith}
use Rattle.wq_head.proofs.{CarriedHolds.wake_owing, FullHeads.head_small}
use Rattle.wq_head.proofs.wakes.wake.Goals as goal

pub pause-looks-requires : goal.pause-looks-requires
pause-looks-requires g c =
    let small = (head_small c.args.watch c.requires.full) in
    let is = c.head_of-head.ensures in
    record { head = omega (arith, small, is) }

pub returns-in-Done-clause-owing : goal.returns-in-Done-clause-owing
returns-in-Done-clause-owing g c =
    let t = c.in-Done.ensures.turned c.args.task.now c.loop.invariant.1 in
    wake_owing c.wake_stretch-turn.new.run.aim c.args.task.now c.wake_stretch-turn.new.task t.turns.ended

use Rattle.std.proofs.Common.{◌<◌, length, arith}
use Rattle.wq_head.specs.declared.lists.Member.TheVariants as member
use Rattle.wq_head.specs.Lists.{members_in}
use Rattle.count_sem.proofs.FoundWaiters.{entry_found, listed_low, mark_passed, nobody_left}
use Rattle.count_sem.proofs.passes.finds_waiter.Goals as goal

pub returns-in-Entry-clause-tells : goal.returns-in-Entry-clause-tells
returns-in-Entry-clause-tells c =
    let list = c.members-count.new.into in
    let inside : c.loop-i.i < length (members_in list) =
    omega (arith, c.loop-i-test.true, c.members-count.ensures.count, c.loop-i.auto.i-end) in
    entry_found c.args.task.now c.members-count.new.task list c.members-count.ensures.queue c.loop-i.i
    c.loop-i.invariant inside (member.Entry c.in-Entry.task c.in-Entry.slot c.in-Entry.word) c.in-Entry.ensures
    (listed_low list c.loop-i.i c.in-Entry.task c.in-Entry.slot c.in-Entry.word inside c.in-Entry.ensures)

pub loop-i-preserved : goal.loop-i-preserved
loop-i-preserved c =
    mark_passed c.args.task.now c.members-count.new.task c.members-count.new.into c.members-count.ensures.queue
    c.loop-i.i
    c.loop-i.invariant (omega (arith, c.loop-i-test.true, c.members-count.ensures.count, c.loop-i.auto.i-end))
    (member.Mark c.in_default.field-0 c.in_default.field-1) c.in_default.ensures (omega arith)

pub returns-clause-tells : goal.returns-clause-tells
returns-clause-tells c = nobody_left c.args.task.now c.members-count.new.task c.members-count.new.into
    c.members-count.ensures.queue c.loop-i.i c.loop-i.invariant
    (omega (arith, c.loop-i-test.false, c.members-count.ensures.count, c.loop-i.auto.i-end))

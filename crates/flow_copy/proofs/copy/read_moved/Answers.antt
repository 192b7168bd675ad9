use Rattle.std.proofs.Common.{true, false}
use Rattle.flow_copy.proofs.Awaits.{added_aside, aside_then, cleared_aside, read_tally, tried_aside, tries_more}
use Rattle.flow_copy.proofs.copy.read_moved.Goals as goal

pub loop-preserved : goal.loop-preserved
loop-preserved g c =
    let e = c.if-try_lock_page.ensures in
    tries_more c.args.task.now c.loop.task c.try_lock_page.new.task false c.loop.invariant e.tried e.sets
    (e.holder c.loop.invariant.clean)

pub returns-then-try_lock_page-clause-reads : goal.returns-then-try_lock_page-clause-reads
returns-then-try_lock_page-clause-reads g c =
    let before = aside_then c.args.task.now c.loop.task c.try_lock_page.new.task c.loop.invariant.aside
    (tried_aside c.loop.task c.try_lock_page.new.task true c.if-try_lock_page.ensures.tried) in
    read_tally c.args.task.now c.try_lock_page.new.task c.add_tally-moved.new.task c.unlock_page.new.task
    c.unlock_page.result c.add_tally-moved.result before.grows c.add_tally-moved.ensures.finds
    c.add_tally-moved.ensures.step c.unlock_page.ensures.cleared

pub returns-then-try_lock_page-clause-aside : goal.returns-then-try_lock_page-clause-aside
returns-then-try_lock_page-clause-aside g c =
    let before = aside_then c.args.task.now c.loop.task c.try_lock_page.new.task c.loop.invariant.aside
    (tried_aside c.loop.task c.try_lock_page.new.task true c.if-try_lock_page.ensures.tried) in
    aside_then c.args.task.now c.try_lock_page.new.task c.unlock_page.new.task before
    (aside_then c.try_lock_page.new.task c.add_tally-moved.new.task c.unlock_page.new.task
    (added_aside c.try_lock_page.new.task c.add_tally-moved.new.task c.add_tally-moved.result
    c.add_tally-moved.ensures.step)
    (cleared_aside c.add_tally-moved.new.task c.unlock_page.new.task c.unlock_page.result
    c.unlock_page.ensures.cleared))

use Rattle.std.proofs.Common.{◌∙◌}
use Rattle.wq_head.proofs.AwaitedLocks.{awaits_none}
use Rattle.completion_cell.proofs.{CellDraws.fits, CellDraws.peeked_none, CellRousing.none_counted}
use Rattle.completion_cell.proofs.cell_turns.begin.Goals as goal

pub draw_lock-run-requires-clause-head : goal.draw_lock-run-requires-clause-head
draw_lock-run-requires-clause-head c =
    fits c.args.run.now.cell c.head_of-head.result c.requires.there c.head_of-head.ensures

pub draw_lock-run-requires-2-clause-head : goal.draw_lock-run-requires-2-clause-head
draw_lock-run-requires-2-clause-head c =
    fits c.args.run.now.cell c.head_of-head.result c.requires.there c.head_of-head.ensures

pub returns-then-not-peeks_first-clause-rouses : goal.returns-then-not-peeks_first-clause-rouses
returns-then-not-peeks_first-clause-rouses c = awaits_none c.args.task.now c.draw_lock-run.new.task c.head_of-head.result
    c.draw_lock-run.result c.draw_lock-run.ensures.awaits

-- the count was 0
pub returns-then-done_load-eq0-clause-drawn : goal.returns-then-done_load-eq0-clause-drawn
returns-then-done_load-eq0-clause-drawn c =
    let l = c.done_load in
    peeked_none c.args.run.now.call c.args.run.now.cell l.result c.args.task.now l.new.task c.if-not-peeks_first.ensures
    c.requires.up c.requires.free c.told.ensures l.ensures.step l.ensures.carries c.if-done_load-eq0.true

pub returns-then-done_load-eq0-clause-rouses : goal.returns-then-done_load-eq0-clause-rouses
returns-then-done_load-eq0-clause-rouses c = none_counted c.args.run.now.cell c.done_load.result c.args.task.now
    c.done_load.new.task c.done_load.ensures.step

pub returns-clause-rouses : goal.returns-clause-rouses
returns-clause-rouses c =
    let d = c.draw_lock-run-2 in
    awaits_none c.done_load.new.task d.new.task c.head_of-head.result d.result d.ensures.awaits
    ∙ none_counted c.args.run.now.cell c.done_load.result c.args.task.now c.done_load.new.task
    c.done_load.ensures.step

use Rattle.std.proofs.Common.{◌∙◌, sym}
use Rattle.wq_head.proofs.AwaitedLocks.{awaits_none, took_none}
use Rattle.wq_head.proofs.RousedTasks.{rousing_from, rousing_none, rousing_on}
use Rattle.completion_cell.proofs.CellDraws.{awaits, fits, holds_for, rests_of, waits_on}
use Rattle.completion_cell.proofs.cell_turns.cell_stretch.Goals as goal

pub returns-then-not-draw_turn-clause-rouses : goal.returns-then-not-draw_turn-clause-rouses
returns-then-not-draw_turn-clause-rouses c = rousing_on c.args.task.now c.args.task.now c.draw_turn.new.task
    c.args.rousing.now c.draw_turn.ensures.rouses (rousing_none c.args.task.now c.args.rousing.now c.requires.none)

pub lock_turn-requires-clause-head : goal.lock_turn-requires-clause-head
lock_turn-requires-clause-head c = fits c.draw_turn.new.run.cell c.head_of-head.result
    (c.if-not-draw_turn.ensures.drawn c.requires.at.0 c.requires.at.1).there c.head_of-head.ensures

-- another ticket is served
pub returns-in-Err-clause-turned : goal.returns-in-Err-clause-turned
returns-in-Err-clause-turned c start is_at =
    let d = c.draw_turn in
    let h = c.head_of-head.result in
    let at = c.if-not-draw_turn.ensures.drawn start is_at in record {
      fresh = record { call_is = d.ensures.fresh.call_is; cell = d.ensures.fresh.cell };
      turns = waits_on start d.new.task c.lock_turn.new.task d.new.run h c.head_of-head.ensures at c.in-Err.served
          (c.in-Err.ensures.turned at.stands.base (awaits start d.new.task d.new.task d.new.run h
          c.head_of-head.ensures at));
    }

pub returns-in-Err-clause-rouses : goal.returns-in-Err-clause-rouses
returns-in-Err-clause-rouses c =
    let d = c.draw_turn in
    let h = c.head_of-head.result in
    let start = c.requires.at.0 in
    let at = c.if-not-draw_turn.ensures.drawn start c.requires.at.1 in
    let before = awaits start d.new.task d.new.task d.new.run h c.head_of-head.ensures at in
    rousing_on c.args.task.now c.args.task.now c.lock_turn.new.task c.args.rousing.now
    (awaits_none at.stands.base c.lock_turn.new.task h d.new.run.ticket
    (c.in-Err.ensures.turned at.stands.base before)
    ∙ (sym (awaits_none at.stands.base d.new.task h d.new.run.ticket before) ∙ d.ensures.rouses))
    (rousing_none c.args.task.now c.args.rousing.now c.requires.none)

pub returns-in-Ok-hold-clause-turned : goal.returns-in-Ok-hold-clause-turned
returns-in-Ok-hold-clause-turned c start is_at =
    let d = c.draw_turn in
    let h = c.head_of-head.result in
    let at = c.if-not-draw_turn.ensures.drawn start is_at in
    let before = awaits start d.new.task d.new.task d.new.run h c.head_of-head.ensures at in record {
      fresh = d.ensures.fresh;
      turns = c.in-Ok-hold.ensures.over start (holds_for start d.new.task c.lock_turn.new.task d.new.run h
          c.head_of-head.ensures at (c.in-Ok.ensures.turned at.stands.base before));
    }

pub returns-in-Ok-hold-clause-rests : goal.returns-in-Ok-hold-clause-rests
returns-in-Ok-hold-clause-rests c = rests_of c.requires.at.0 _ c.args.run.now _ _
    (returns-in-Ok-hold-clause-turned c c.requires.at.0 c.requires.at.1)

pub returns-in-Ok-hold-clause-rouses : goal.returns-in-Ok-hold-clause-rouses
returns-in-Ok-hold-clause-rouses c =
    let d = c.draw_turn in
    let h = c.head_of-head.result in
    let start = c.requires.at.0 in
    let at = c.if-not-draw_turn.ensures.drawn start c.requires.at.1 in
    let before = awaits start d.new.task d.new.task d.new.run h c.head_of-head.ensures at in
    rousing_from c.args.task.now c.lock_turn.new.task c.hold.new.task c.hold.new.rousing
    (took_none at.stands.base c.lock_turn.new.task h (c.in-Ok.ensures.turned at.stands.base before)
    ∙ (sym (awaits_none at.stands.base d.new.task h d.new.run.ticket before) ∙ d.ensures.rouses))
    c.hold.ensures.rouses

-- the tries of a wake failed
pub returns-in-Err-hold-clause-turned : goal.returns-in-Err-hold-clause-turned
returns-in-Err-hold-clause-turned c start is_at =
    let d = c.draw_turn in
    let h = c.head_of-head.result in
    let at = c.if-not-draw_turn.ensures.drawn start is_at in
    let before = awaits start d.new.task d.new.task d.new.run h c.head_of-head.ensures at in record {
      fresh = d.ensures.fresh;
      turns = c.in-Err-hold.ensures.over start (holds_for start d.new.task c.lock_turn.new.task d.new.run h
          c.head_of-head.ensures at (c.in-Ok.ensures.turned at.stands.base before));
    }

pub returns-in-Err-hold-clause-rests : goal.returns-in-Err-hold-clause-rests
returns-in-Err-hold-clause-rests c = rests_of c.requires.at.0 _ c.args.run.now _ _
    (returns-in-Err-hold-clause-turned c c.requires.at.0 c.requires.at.1)

pub returns-in-Err-hold-clause-rouses : goal.returns-in-Err-hold-clause-rouses
returns-in-Err-hold-clause-rouses c =
    let d = c.draw_turn in
    let h = c.head_of-head.result in
    let start = c.requires.at.0 in
    let at = c.if-not-draw_turn.ensures.drawn start c.requires.at.1 in
    let before = awaits start d.new.task d.new.task d.new.run h c.head_of-head.ensures at in
    rousing_from c.args.task.now c.lock_turn.new.task c.hold.new.task c.hold.new.rousing
    (took_none at.stands.base c.lock_turn.new.task h (c.in-Ok.ensures.turned at.stands.base before)
    ∙ (sym (awaits_none at.stands.base d.new.task h d.new.run.ticket before) ∙ d.ensures.rouses))
    c.hold.ensures.rouses

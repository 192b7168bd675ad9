use Rattle.std.proofs.Common.{◌∙◌, sym}
use Rattle.wq_head.proofs.AwaitedLocks.{awaits_none, took_none}
use Rattle.wq_head.proofs.RousedTasks.{rousing_from, rousing_none, rousing_on}
use Rattle.swait_queue.proofs.SwakeHolds.{awaits, fits, holds_for}
use Rattle.swait_queue.proofs.swake_turns.swake_stretch.Goals as goal

pub lock_turn-requires-clause-head : goal.lock_turn-requires-clause-head
lock_turn-requires-clause-head c =
    let d = c.draw_turn in
    let start = c.requires.at.0 in
    fits d.new.run.cond c.head_of-head.result (d.ensures.drawn start c.requires.at.1).simple c.head_of-head.ensures

pub returns-in-Err-clause-rouses : goal.returns-in-Err-clause-rouses
returns-in-Err-clause-rouses c =
    let d = c.draw_turn in
    let start = c.requires.at.0 in
    let before = awaits start d.new.task d.new.task d.new.run c.head_of-head.result c.head_of-head.ensures
    (d.ensures.drawn start c.requires.at.1) in
    rousing_on c.args.task.now c.args.task.now c.lock_turn.new.task c.args.rousing.now
    (awaits_none start c.lock_turn.new.task c.head_of-head.result d.new.run.ticket (c.in-Err.ensures.turned start before)
    ∙ (sym (awaits_none start d.new.task c.head_of-head.result d.new.run.ticket before) ∙ d.ensures.rouses))
    (rousing_none c.args.task.now c.args.rousing.now c.requires.none)

pub returns-in-Ok-hold-clause-turned : goal.returns-in-Ok-hold-clause-turned
returns-in-Ok-hold-clause-turned c start at =
    let d = c.draw_turn in
    let h = c.head_of-head.result in
    let is_at = d.ensures.drawn start at in
    let before = awaits start d.new.task d.new.task d.new.run h c.head_of-head.ensures is_at in record {
      fresh = d.ensures.fresh;
      turns = c.in-Ok-hold.ensures.over start (holds_for start d.new.task c.lock_turn.new.task d.new.run h
          c.head_of-head.ensures is_at (c.in-Ok.ensures.turned start before));
    }

pub returns-in-Ok-hold-clause-rouses : goal.returns-in-Ok-hold-clause-rouses
returns-in-Ok-hold-clause-rouses c =
    let d = c.draw_turn in
    let h = c.head_of-head.result in
    let start = c.requires.at.0 in
    let before = awaits start d.new.task d.new.task d.new.run h c.head_of-head.ensures
    (d.ensures.drawn start c.requires.at.1) in
    rousing_from c.args.task.now c.lock_turn.new.task c.hold.new.task c.hold.new.rousing
    (took_none start c.lock_turn.new.task h (c.in-Ok.ensures.turned start before)
    ∙ (sym (awaits_none start d.new.task h d.new.run.ticket before) ∙ d.ensures.rouses)) c.hold.ensures.rouses

pub returns-in-Err-hold-clause-rouses : goal.returns-in-Err-hold-clause-rouses
returns-in-Err-hold-clause-rouses c =
    let d = c.draw_turn in
    let h = c.head_of-head.result in
    let start = c.requires.at.0 in
    let before = awaits start d.new.task d.new.task d.new.run h c.head_of-head.ensures
    (d.ensures.drawn start c.requires.at.1) in
    rousing_from c.args.task.now c.lock_turn.new.task c.hold.new.task c.hold.new.rousing
    (took_none start c.lock_turn.new.task h (c.in-Ok.ensures.turned start before)
    ∙ (sym (awaits_none start d.new.task h d.new.run.ticket before) ∙ d.ensures.rouses)) c.hold.ensures.rouses

use Rattle.poll_turns.specs.PollTurns.{PollAskedIf}
use Rattle.poll_turns.proofs.Serving.{awaited_fits, waits_from, waits_more, works_on}
use Rattle.poll_turns.proofs.tickets.hold.Goals as goal

pub lock_turn-requires-clause-head : goal.lock_turn-requires-clause-head
lock_turn-requires-clause-head c =
    let x = c.requires.at in
    awaited_fits (PollAskedIf x.0) c.args.poll c.requires.poll x.1 c.args.task.now c.args.stage c.args.head c.args.ticket
    c.requires.awaits x.2

pub lock_turn-requires-clause-awaits : goal.lock_turn-requires-clause-awaits
lock_turn-requires-clause-awaits c =
    let x = c.requires.at in
    waits_from (PollAskedIf x.0) c.args.poll x.1 c.args.task.now c.args.stage c.args.head c.args.ticket c.requires.awaits x.2

pub work_held-next-requires : goal.work_held-next-requires
work_held-next-requires c =
    let x = c.requires.at in
    let w = waits_from (PollAskedIf x.0) c.args.poll x.1 c.args.task.now c.args.stage c.args.head c.args.ticket
    c.requires.awaits x.2 in
    let took = c.in-Ok.ensures.turned w.0 w.1 in record {
      of = c.in-Ok.ensures.of;
      up = took.up;
      held = took.held;
      poll = c.requires.poll;
      at = record {
        old = c.args.task.now;
        asked = x.0;
        start = x.1;
        stood = x.2;
        turned = record {
          head = c.args.head;
          ticket = c.args.ticket;
          awaits = c.requires.awaits;
          took = c.in-Ok.ensures.turned;
        };
      };
    }

pub returns-in-Err-clause-goes : goal.returns-in-Err-clause-goes
returns-in-Err-clause-goes c = waits_more c.args.poll c.args.task.now c.lock_turn.new.task c.args.stage c.args.head
    c.args.ticket c.in-Err.field-0 c.args.passing.now.head c.requires.awaits c.in-Err.ensures.other c.in-Err.ensures.turned
    c.requires.passes

pub returns-in-Ok-clause-goes : goal.returns-in-Ok-clause-goes
returns-in-Ok-clause-goes c = works_on c.args.poll c.args.task.now c.lock_turn.new.task c.work_held-next.new.task
    c.pass_on.new.task c.args.stage c.work_held-next.result c.requires.at
    (record { head = c.args.head; ticket = c.args.ticket; awaits = c.requires.awaits; took = c.in-Ok.ensures.turned })
    c.work_held-next.ensures.works c.pass_on.ensures.gives c.told.ensures c.pass_on.new.passing.head
    c.pass_on.ensures.passes

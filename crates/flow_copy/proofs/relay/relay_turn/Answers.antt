use Rattle.std.proofs.Common.{arith}
use Rattle.std.specs.Prelude.{[]}
use Rattle.copy_plan.specs.declared.TheConstants.{SINK_PIPE, SOURCE_PIPE}
use Rattle.copy_turns.proofs.Relays.{relay_killed, relaying_behind}
use Rattle.flow_copy.specs.Workers.{getter_gets, getter_killed}
use Rattle.flow_copy.proofs.relay.relay_turn.Goals as goal

pub returns-then-is_killed : goal.returns-then-is_killed
returns-then-is_killed g c = record {
  turn = relay_killed SOURCE_PIPE SINK_PIPE (λ e. omega (arith, e)) c.args.task.now c.is_killed.new.task
      c.args.moved.now (omega arith) c.requires.tap c.requires.pen c.is_killed.ensures.apart
      c.if-is_killed.ensures.killed;
  goes = ([], getter_killed c.if-is_killed.ensures.own);
}

pub returns : goal.returns
returns g c = record {
  turn = relaying_behind SOURCE_PIPE SINK_PIPE (λ e. omega (arith, e)) c.args.task.now c.is_killed.new.task
      c.pass_piece.new.task c.args.moved.now c.pass_piece.new.moved c.pass_piece.result c.is_killed.ensures.apart
      c.pass_piece.ensures.turn;
  goes = (
    c.pass_piece.ensures.goes.0,
    getter_gets c.is_killed.new.task c.pass_piece.ensures.goes.0 c.pass_piece.result c.if-is_killed.ensures.own
        c.pass_piece.ensures.goes.1,
  );
}

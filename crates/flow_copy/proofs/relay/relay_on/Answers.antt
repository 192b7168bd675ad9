use Rattle.std.proofs.Common.{arith}
use Rattle.std.specs.Prelude.{[], None, Some}
use Rattle.copy_plan.specs.declared.TheConstants.{SINK_PIPE, SOURCE_PIPE}
use Rattle.copy_turns.proofs.Relays.{relaying_none, relaying_then}
use Rattle.flow_copy.specs.Workers.{no_turn}
use Rattle.flow_copy.proofs.Words.{relay_more}
use Rattle.flow_copy.proofs.relay.relay_on.Goals as goal

pub loop-init : goal.loop-init
loop-init g c = record {
  turns = relaying_none SOURCE_PIPE SINK_PIPE (λ e. omega (arith, e)) c.args.task.now 0 (omega arith) c.requires.work c.requires.tap c.requires.pen;
  goes = ([], no_turn);
}

pub loop-preserved : goal.loop-preserved
loop-preserved g c = record {
  turns = relaying_then SOURCE_PIPE SINK_PIPE (λ e. omega (arith, e)) c.args.task.now c.loop.task c.relay_turn.new.task 0 c.loop.moved
      c.relay_turn.new.moved None c.loop.invariant.turns c.in_default.ensures.turn;
  goes = relay_more c.args.task.now c.loop.task c.relay_turn.new.task None c.loop.invariant.goes
      c.in_default.ensures.goes;
}

pub returns-in-Some-relay_turn : goal.returns-in-Some-relay_turn
returns-in-Some-relay_turn g c = record {
  turns = relaying_then SOURCE_PIPE SINK_PIPE (λ e. omega (arith, e)) c.args.task.now c.loop.task c.relay_turn.new.task 0
      c.loop.moved c.relay_turn.new.moved (Some c.in-Some-relay_turn.stop) c.loop.invariant.turns
      c.in-Some-relay_turn.ensures.turn;
  goes = relay_more c.args.task.now c.loop.task c.relay_turn.new.task (Some c.in-Some-relay_turn.stop)
      c.loop.invariant.goes c.in-Some-relay_turn.ensures.goes;
}

use Rattle.std.specs.Prelude.{None}
use Rattle.copy_plan.specs.declared.TheConstants.{SINK_PIPE, SOURCE_PIPE}
use Rattle.copy_turns.specs.Turns.{Relaying}
use Rattle.flow_copy.specs.Workers.{RelayTurns}
use Rattle.flow_copy.proofs.relay.relay_on.Given as goal

abbrev pub invariant-loop : goal.invariant-loop
invariant-loop g l = record {
  turns : Relaying SOURCE_PIPE SINK_PIPE l.initial.task l.task 0 l.moved None;
  goes : (bytes : _) × RelayTurns l.initial.task bytes l.task None;
}

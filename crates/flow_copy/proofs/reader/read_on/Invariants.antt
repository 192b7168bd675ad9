use Rattle.std.proofs.Common.{None}
use Rattle.copy_turns.specs.Turns.{Reading}
use Rattle.flow_copy.specs.Workers.{FromSource, ReaderTurns}
use Rattle.flow_copy.proofs.reader.read_on.Given as goal

abbrev pub invariant-loop : goal.invariant-loop
invariant-loop g l = record {
  turns : Reading l.pipe l.fn.task l.task (g.S.Source.left l.fn.source) (g.S.Source.left l.source)
      (g.S.Source.faults l.fn.source) (g.S.Source.faults l.source) l.fn.read l.read l.targets l.plan None;
  goes : FromSource (g.S.Source.left l.fn.source) (g.S.Source.left l.source) l.fn.read l.read
      (λ bytes. ReaderTurns l.pipe l.targets l.plan l.fn.read l.fn.task bytes l.task None);
}

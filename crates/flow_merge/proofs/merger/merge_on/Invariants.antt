use Rattle.std.specs.Prelude.{None}
use Rattle.flow_merge.specs.{Mergers.Merging, MergerWords.MergerTurns}
use Rattle.flow_merge.proofs.merger.merge_on.Given as goal

abbrev pub invariant-loop : goal.invariant-loop
invariant-loop g l = record {
  turns : Merging l.initial.task l.task 0 l.moved None;
  goes : MergerTurns l.initial.task l.task None;
}

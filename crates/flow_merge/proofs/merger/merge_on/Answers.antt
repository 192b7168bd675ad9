use Rattle.std.proofs.Common.{arith}
use Rattle.std.specs.Prelude.{None, Some}
use Rattle.flow_merge.specs.MergerWords.{a_turn, no_turn}
use Rattle.flow_merge.proofs.Turns.{merging_none, merging_then}
use Rattle.flow_merge.proofs.merger.merge_on.Goals as goal

pub loop-init : goal.loop-init
loop-init g c = record {
  turns = merging_none c.args.task.now 0 (omega arith) c.requires.work c.requires.taps c.requires.pen;
  goes = no_turn;
}

pub loop-preserved : goal.loop-preserved
loop-preserved g c = record {
  turns = merging_then c.args.task.now c.loop.task c.merge_turn.new.task 0 c.loop.moved c.merge_turn.new.moved None
      c.loop.invariant.turns c.in_default.ensures.turn;
  goes = a_turn c.loop.task c.merge_turn.new.task None c.loop.invariant.goes c.in_default.ensures.goes;
}

pub returns-in-Some-merge_turn : goal.returns-in-Some-merge_turn
returns-in-Some-merge_turn g c = record {
  turns = merging_then c.args.task.now c.loop.task c.merge_turn.new.task 0 c.loop.moved c.merge_turn.new.moved
      (Some c.in-Some-merge_turn.stop) c.loop.invariant.turns c.in-Some-merge_turn.ensures.turn;
  goes = a_turn c.loop.task c.merge_turn.new.task (Some c.in-Some-merge_turn.stop) c.loop.invariant.goes
      c.in-Some-merge_turn.ensures.goes;
}

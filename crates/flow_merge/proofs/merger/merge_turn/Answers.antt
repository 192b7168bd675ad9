use Rattle.std.proofs.Common.{refl, subst, sym, arith}
use Rattle.std.specs.Prelude.{Option, Some}
use Rattle.copy_plan.specs.declared.stop.Stop.{Stop}
use Rattle.copy_plan.specs.declared.stop.Stop.TheVariants as stop
use Rattle.flow_merge.specs.MergerWords.{MergerTurn, merger_killed, side_passes, sides_ended, sides_wait}
use Rattle.flow_merge.specs.Sides.{LookedAtSides}
use Rattle.flow_merge.proofs.Looks.{apart_looked, looked_then, worn_cause}
use Rattle.flow_merge.proofs.Turns.{merging_behind, merging_idle}
use Rattle.flow_merge.proofs.merger.merge_turn.Goals as goal

pub returns-then-is_killed : goal.returns-then-is_killed
returns-then-is_killed g c = record {
  turn = merging_idle c.args.task.now c.is_killed.new.task c.args.moved.now (Some stop.Killed) (omega arith)
      (apart_looked c.args.task.now c.is_killed.new.task c.is_killed.ensures.apart) c.requires.taps c.requires.pen
      c.if-is_killed.ensures.killed;
  goes = merger_killed c.if-is_killed.ensures.own;
}

pub returns-in-Cells : goal.returns-in-Cells
returns-in-Cells g c =
    let looked : LookedAtSides c.args.task.now c.look_both.new.task
    = looked_then c.args.task.now c.is_killed.new.task c.look_both.new.task
    (apart_looked c.args.task.now c.is_killed.new.task c.is_killed.ensures.apart) c.look_both.ensures.looked in
    record {
      turn = merging_behind c.args.task.now c.look_both.new.task c.pass_from.new.task c.args.moved.now
          c.pass_from.new.moved c.pass_from.result looked c.pass_from.ensures.turn;
      goes = side_passes c.is_killed.new.task c.look_both.new.task c.in-Cells.side c.pass_from.result
          c.if-is_killed.ensures.own c.in-Cells.ensures.goes c.pass_from.ensures.goes;
    }

pub returns-in-Ended : goal.returns-in-Ended
returns-in-Ended g c =
    let looked : LookedAtSides c.args.task.now c.look_both.new.task
    = looked_then c.args.task.now c.is_killed.new.task c.look_both.new.task
    (apart_looked c.args.task.now c.is_killed.new.task c.is_killed.ensures.apart) c.look_both.ensures.looked in
    record {
      turn = merging_idle c.args.task.now c.look_both.new.task c.args.moved.now (Some stop.Finished) (omega arith) looked
          c.requires.taps c.requires.pen (c.in-Ended.ensures.ended refl);
      goes = sides_ended c.is_killed.new.task c.if-is_killed.ensures.own c.in-Ended.ensures.goes;
    }

pub returns-in-Nothing : goal.returns-in-Nothing
returns-in-Nothing g c =
    let looked : LookedAtSides c.args.task.now c.look_both.new.task
    = looked_then c.args.task.now c.is_killed.new.task c.look_both.new.task
    (apart_looked c.args.task.now c.is_killed.new.task c.is_killed.ensures.apart) c.look_both.ensures.looked in
    let goes = c.wait_both.ensures.goes in
    record {
      turn = merging_idle c.args.task.now c.wait_both.new.task c.args.moved.now c.wait_both.result (omega arith)
          (looked_then c.args.task.now c.look_both.new.task c.wait_both.new.task looked c.wait_both.ensures.looked)
          c.requires.taps c.requires.pen
          (worn_cause c.args.task.now c.wait_both.new.task c.wait_both.result c.wait_both.ensures.worn);
      goes = subst (λ (h : Option Stop). MergerTurn c.args.task.now c.wait_both.new.task h) (sym goes.1.1)
          (sides_wait c.is_killed.new.task c.look_both.new.task c.in-Nothing.left c.in-Nothing.right goes.0
          c.if-is_killed.ensures.own c.in-Nothing.ensures.goes goes.1.0);
    }

use Rattle.wait_rule.specs.PipeSays.{reading}
use Rattle.flow_merge.specs.{declared.TheConstants.RIGHT_PIPE, Sides.LookedAtSides}
use Rattle.flow_merge.specs.declared.sides.Side.TheVariants as sides
use Rattle.flow_merge.proofs.Looks.{found_ended, kept_settled, left_looked, looked_then, right_looked}
use Rattle.flow_merge.proofs.sides.look_both.Goals as goal

pub peek_read-left-requires-clause-settled : goal.peek_read-left-requires-clause-settled
peek_read-left-requires-clause-settled c = c.requires.taps sides.Left

pub peek_read-right-requires-clause-settled : goal.peek_read-right-requires-clause-settled
peek_read-right-requires-clause-settled c =
    let one : LookedAtSides c.args.task.now c.peek_read-left.new.task
    = left_looked c.args.task.now c.peek_read-left.new.task c.requires.work c.peek_read-left.ensures.looked in
    kept_settled (reading RIGHT_PIPE c.args.task.now) (reading RIGHT_PIPE c.peek_read-left.new.task)
    (one.taps sides.Right) (c.requires.taps sides.Right)

pub returns : goal.returns
returns c =
    let one : LookedAtSides c.args.task.now c.peek_read-left.new.task
    = left_looked c.args.task.now c.peek_read-left.new.task c.requires.work c.peek_read-left.ensures.looked in
    let two : LookedAtSides c.peek_read-left.new.task c.peek_read-right.new.task
    = right_looked c.peek_read-left.new.task c.peek_read-right.new.task one.works.work
    c.peek_read-right.ensures.looked in
    record {
      looked = looked_then c.args.task.now c.peek_read-left.new.task c.peek_read-right.new.task one two;
      ended = found_ended c.peek_read-left.new.task c.peek_read-right.new.task c.peek_read-left.result
          c.peek_read-right.result c.found_in.result c.found_in.ensures c.peek_read-left.ensures.state
          c.peek_read-right.ensures.state c.peek_read-right.ensures.looked;
      goes = record {
        mid = c.peek_read-left.new.task;
        left = c.peek_read-left.result;
        right = c.peek_read-right.result;
        looks_left = c.peek_read-left.ensures.goes;
        looks_right = c.peek_read-right.ensures.goes;
        finds = c.found_in.ensures;
      };
    }

use Rattle.wait_rule.specs.Pipes.{read_end, write_end}
use Rattle.flow_merge.specs.declared.TheConstants.{LEFT_PIPE, MERGED_PIPE, RIGHT_PIPE}
use Rattle.flow_merge.specs.MergerSteps.{Claimed}
use Rattle.flow_merge.proofs.MergerEnds.{claimed}
use Rattle.flow_merge.proofs.merger.open_ends.Goals as goal

pub returns : goal.returns
returns c =
    let one : Claimed (read_end LEFT_PIPE) c.open_read-left.result c.args.task.now c.open_read-left.new.task
    = claimed (read_end LEFT_PIPE) c.open_read-left.ensures.step.0 c.open_read-left.result c.args.task.now
    c.open_read-left.new.task c.open_read-left.ensures.step.1.0 c.open_read-left.ensures.carries c.requires.work
    c.open_read-left.ensures.step.1.1 c.open_read-left.ensures.becomes in
    let two : Claimed (read_end RIGHT_PIPE) c.open_read-right.result c.open_read-left.new.task
    c.open_read-right.new.task
    = claimed (read_end RIGHT_PIPE) c.open_read-right.ensures.step.0 c.open_read-right.result c.open_read-left.new.task
    c.open_read-right.new.task c.open_read-right.ensures.step.1.0 c.open_read-right.ensures.carries one.work
    c.open_read-right.ensures.step.1.1 c.open_read-right.ensures.becomes in
    record {
      opens = record {
        one = c.open_read-left.new.task;
        two = c.open_read-right.new.task;
        left = one;
        right = two;
        pen = claimed (write_end MERGED_PIPE) c.open_write-pen.ensures.step.0 c.open_write-pen.result
            c.open_read-right.new.task c.open_write-pen.new.task c.open_write-pen.ensures.step.1.0
            c.open_write-pen.ensures.carries two.work c.open_write-pen.ensures.step.1.1
            c.open_write-pen.ensures.becomes;
      };
      goes = record {
        one = c.open_read-left.new.task;
        two = c.open_read-right.new.task;
        left = (c.open_read-left.ensures.step.0, c.open_read-left.ensures.step.1.0, c.open_read-left.ensures.step.1.1);
        right = (
          c.open_read-right.ensures.step.0,
          c.open_read-right.ensures.step.1.0,
          c.open_read-right.ensures.step.1.1,
        );
        pen = (
          c.open_write-pen.ensures.step.0,
          c.open_write-pen.ensures.step.1.0,
          c.open_write-pen.ensures.step.1.1,
        );
      };
    }

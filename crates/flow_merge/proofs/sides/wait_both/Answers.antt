use Rattle.flow_merge.proofs.Looks.{poll_looked, poll_worn}
use Rattle.flow_merge.proofs.sides.wait_both.Goals as goal

pub returns : goal.returns
returns g c =
    let e = c.poll_two-polled.ensures in
    record {
      looked = poll_looked c.args.task.now c.poll_two-polled.new.task c.requires.work e.up e.idle e.out e.carries
          e.beside;
      worn = poll_worn c.args.task.now c.poll_two-polled.new.task _ c.poll_two-polled.result c.stop_of_poll.result
          c.stop_of_poll.ensures e.ends;
      goes = (c.poll_two-polled.result, (e.ends, c.stop_of_poll.ensures));
    }

use Rattle.copy_ends.proofs.{Ends.completes, RelayEnds.relay_completes}
use Rattle.flow_copy.proofs.relay.relay_task.Goals as goal

pub returns : goal.returns
returns g c = record {
  did = relay_completes c.args.task.now c.relay_through-ended.new.task c.complete.new.task
      c.relay_through-ended.result c.relay_through-ended.ensures.did (completes c.relay_through-ended.new.task
      c.complete.new.task c.relay_through-ended.ensures.did.served.idler c.complete.ensures.completed
      c.complete.ensures.up c.complete.ensures.free c.complete.ensures.carries c.complete.ensures.off);
  goes = (c.relay_through-ended.new.task, c.relay_through-ended.ensures.goes, c.complete.ensures.completed);
}

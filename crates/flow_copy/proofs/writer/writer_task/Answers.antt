use Rattle.copy_ends.proofs.{Ends.completes, WriteEnds.writer_completes}
use Rattle.flow_copy.proofs.writer.writer_task.Goals as goal

pub returns : goal.returns
returns g c = record {
  did = writer_completes c.args.pipe c.args.task.now c.write_through-ended.new.task c.complete.new.task
      (g.K.Sink.held c.args.sink.now) (g.K.Sink.held c.write_through-ended.new.sink) (g.K.Sink.faults c.args.sink.now)
      (g.K.Sink.faults c.write_through-ended.new.sink) (g.K.Sink.wants c.args.sink.now)
      (g.K.Sink.wants c.write_through-ended.new.sink) (g.W.Watchers.entries c.args.watch.now)
      (g.W.Watchers.entries c.write_through-ended.new.watch) c.write_through-ended.result
      c.write_through-ended.ensures.did (completes c.write_through-ended.new.task c.complete.new.task
      c.write_through-ended.ensures.did.served.idler c.complete.ensures.completed c.complete.ensures.up
      c.complete.ensures.free c.complete.ensures.carries c.complete.ensures.off);
  goes = (c.write_through-ended.new.task, c.write_through-ended.ensures.goes, c.complete.ensures.completed);
}

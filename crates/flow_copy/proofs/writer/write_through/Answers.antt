use Rattle.wait_rule.specs.Pipes.{read_end}
use Rattle.copy_ends.proofs.Ends.{Closes, Opens, closes, fails, idler_works, opens}
use Rattle.copy_ends.proofs.WriteEnds.{writer_did, writer_fails}
use Rattle.std.specs.Prelude.{true, false}
use Rattle.flow_copy.specs.Workers.{writer_refused, writer_works}
use Rattle.flow_copy.proofs.Words.{claims}
use Rattle.flow_copy.proofs.writer.write_through.Goals as goal

pub returns-then-not-open_read : goal.returns-then-not-open_read
returns-then-not-open_read g c = record {
  did = writer_fails c.args.pipe c.args.task.now c.open_read.new.task
      (g.K.Sink.held c.args.sink.now) (g.K.Sink.faults c.args.sink.now) (g.K.Sink.wants c.args.sink.now)
      (g.W.Watchers.entries c.args.watch.now) c.requires.idler
      (fails (read_end c.args.pipe) c.open_read.ensures.step.0 c.open_read.result c.args.task.now c.open_read.new.task
      c.open_read.ensures.step.1.0 c.open_read.ensures.carries (idler_works c.args.task.now c.requires.idler)
      c.if-not-open_read.true c.open_read.ensures.step.1.1 c.open_read.ensures.becomes);
  goes = writer_refused
      (claims (read_end c.args.pipe) c.open_read.ensures.step.0 c.open_read.result false c.args.task.now
      c.open_read.new.task c.open_read.ensures.step.1.0 c.open_read.ensures.step.1.1 c.if-not-open_read.true);
}

pub write_on-ended-requires-clause-work : goal.write_on-ended-requires-clause-work
write_on-ended-requires-clause-work g c =
    let o : Opens (read_end c.args.pipe) c.args.task.now c.open_read.new.task
    = opens (read_end c.args.pipe) c.open_read.ensures.step.0 c.open_read.result c.args.task.now
    c.open_read.new.task c.open_read.ensures.step.1.0 c.open_read.ensures.carries
    (idler_works c.args.task.now c.requires.idler) c.if-not-open_read.false c.open_read.ensures.becomes in
    o.work

pub returns : goal.returns
returns g c =
    let o : Opens (read_end c.args.pipe) c.args.task.now c.open_read.new.task
    = opens (read_end c.args.pipe) c.open_read.ensures.step.0 c.open_read.result c.args.task.now
    c.open_read.new.task c.open_read.ensures.step.1.0 c.open_read.ensures.carries
    (idler_works c.args.task.now c.requires.idler) c.if-not-open_read.false c.open_read.ensures.becomes in
    let q : Closes (read_end c.args.pipe) c.write_on-ended.new.task c.close_read.new.task
    = closes (read_end c.args.pipe) c.write_on-ended.new.task c.close_read.new.task
    c.write_on-ended.ensures.turns.works.work c.close_read.ensures.own c.close_read.ensures.others
    c.close_read.ensures.ends in
    record {
      did = writer_did c.args.pipe c.args.task.now c.open_read.new.task c.write_on-ended.new.task c.close_read.new.task o
          (g.K.Sink.held c.args.sink.now) (g.K.Sink.held c.write_on-ended.new.sink) (g.K.Sink.faults c.args.sink.now)
          (g.K.Sink.faults c.write_on-ended.new.sink) (g.K.Sink.wants c.args.sink.now)
          (g.K.Sink.wants c.write_on-ended.new.sink) (g.W.Watchers.entries c.args.watch.now)
          (g.W.Watchers.entries c.write_on-ended.new.watch) c.write_on-ended.result.moved c.write_on-ended.result.stop
          c.write_on-ended.ensures.turns q c.requires.idler;
      goes = writer_works c.open_read.new.task c.write_on-ended.new.task c.write_on-ended.ensures.goes.0
          c.write_on-ended.result.stop
          (claims (read_end c.args.pipe) c.open_read.ensures.step.0 c.open_read.result true c.args.task.now
          c.open_read.new.task c.open_read.ensures.step.1.0 c.open_read.ensures.step.1.1 c.if-not-open_read.false)
          c.write_on-ended.ensures.goes.1 c.close_read.ensures.closes;
    }

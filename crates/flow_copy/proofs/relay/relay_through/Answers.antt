use Rattle.wait_rule.specs.Pipes.{read_end, write_end}
use Rattle.copy_plan.specs.declared.TheConstants.{SINK_PIPE, SOURCE_PIPE}
use Rattle.copy_ends.proofs.Ends.{Closes, Fails, Opens, closes, fails, idler_works, opens}
use Rattle.copy_ends.proofs.RelayEnds.{relay_did, relay_fails, relay_fails_then}
use Rattle.std.specs.Prelude.{true, false}
use Rattle.flow_copy.specs.Workers.{relay_refused, relay_refused_sink, relay_works}
use Rattle.flow_copy.proofs.Words.{claims}
use Rattle.flow_copy.proofs.relay.relay_through.Goals as goal

pub returns-then-not-open_read : goal.returns-then-not-open_read
returns-then-not-open_read g c = record {
  did = relay_fails c.args.task.now c.open_read.new.task c.requires.idler
      (fails (read_end SOURCE_PIPE) c.open_read.ensures.step.0 c.open_read.result c.args.task.now c.open_read.new.task
      c.open_read.ensures.step.1.0 c.open_read.ensures.carries (idler_works c.args.task.now c.requires.idler)
      c.if-not-open_read.true c.open_read.ensures.step.1.1 c.open_read.ensures.becomes);
  goes = relay_refused
      (claims (read_end SOURCE_PIPE) c.open_read.ensures.step.0 c.open_read.result false c.args.task.now
      c.open_read.new.task c.open_read.ensures.step.1.0 c.open_read.ensures.step.1.1 c.if-not-open_read.true);
}

pub returns-then-not-open_write : goal.returns-then-not-open_write
returns-then-not-open_write g c =
    let o : Opens (read_end SOURCE_PIPE) c.args.task.now c.open_read.new.task
    = opens (read_end SOURCE_PIPE) c.open_read.ensures.step.0 c.open_read.result c.args.task.now
    c.open_read.new.task c.open_read.ensures.step.1.0 c.open_read.ensures.carries
    (idler_works c.args.task.now c.requires.idler) c.if-not-open_read.false c.open_read.ensures.becomes in
    let p : Fails (write_end SINK_PIPE) c.open_read.new.task c.open_write.new.task
    = fails (write_end SINK_PIPE) c.open_write.ensures.step.0 c.open_write.result c.open_read.new.task
    c.open_write.new.task c.open_write.ensures.step.1.0 c.open_write.ensures.carries o.work
    c.if-not-open_write.true c.open_write.ensures.step.1.1 c.open_write.ensures.becomes in
    let q : Closes (read_end SOURCE_PIPE) c.open_write.new.task c.close_read.new.task
    = closes (read_end SOURCE_PIPE) c.open_write.new.task c.close_read.new.task p.work c.close_read.ensures.own
    c.close_read.ensures.others c.close_read.ensures.ends in
    record {
      did = relay_fails_then c.args.task.now c.open_read.new.task c.open_write.new.task c.close_read.new.task
          c.requires.idler o p q;
      goes = relay_refused_sink c.open_read.new.task c.open_write.new.task
          (claims (read_end SOURCE_PIPE) c.open_read.ensures.step.0 c.open_read.result true c.args.task.now
          c.open_read.new.task c.open_read.ensures.step.1.0 c.open_read.ensures.step.1.1 c.if-not-open_read.false)
          (claims (write_end SINK_PIPE) c.open_write.ensures.step.0 c.open_write.result false c.open_read.new.task
          c.open_write.new.task c.open_write.ensures.step.1.0 c.open_write.ensures.step.1.1 c.if-not-open_write.true) c.close_read.ensures.closes;
    }

pub relay_on-ended-requires-clause-work : goal.relay_on-ended-requires-clause-work
relay_on-ended-requires-clause-work g c =
    let o : Opens (read_end SOURCE_PIPE) c.args.task.now c.open_read.new.task
    = opens (read_end SOURCE_PIPE) c.open_read.ensures.step.0 c.open_read.result c.args.task.now
    c.open_read.new.task c.open_read.ensures.step.1.0 c.open_read.ensures.carries
    (idler_works c.args.task.now c.requires.idler) c.if-not-open_read.false c.open_read.ensures.becomes in
    let p : Opens (write_end SINK_PIPE) c.open_read.new.task c.open_write.new.task
    = opens (write_end SINK_PIPE) c.open_write.ensures.step.0 c.open_write.result c.open_read.new.task
    c.open_write.new.task c.open_write.ensures.step.1.0 c.open_write.ensures.carries o.work
    c.if-not-open_write.false c.open_write.ensures.becomes in
    p.work

pub returns : goal.returns
returns g c =
    let o : Opens (read_end SOURCE_PIPE) c.args.task.now c.open_read.new.task
    = opens (read_end SOURCE_PIPE) c.open_read.ensures.step.0 c.open_read.result c.args.task.now
    c.open_read.new.task c.open_read.ensures.step.1.0 c.open_read.ensures.carries
    (idler_works c.args.task.now c.requires.idler) c.if-not-open_read.false c.open_read.ensures.becomes in
    let p : Opens (write_end SINK_PIPE) c.open_read.new.task c.open_write.new.task
    = opens (write_end SINK_PIPE) c.open_write.ensures.step.0 c.open_write.result c.open_read.new.task
    c.open_write.new.task c.open_write.ensures.step.1.0 c.open_write.ensures.carries o.work
    c.if-not-open_write.false c.open_write.ensures.becomes in
    let q : Closes (read_end SOURCE_PIPE) c.relay_on-ended.new.task c.close_read-2.new.task
    = closes (read_end SOURCE_PIPE) c.relay_on-ended.new.task c.close_read-2.new.task
    c.relay_on-ended.ensures.turns.works.work c.close_read-2.ensures.own c.close_read-2.ensures.others
    c.close_read-2.ensures.ends in
    let s : Closes (write_end SINK_PIPE) c.close_read-2.new.task c.close_write.new.task
    = closes (write_end SINK_PIPE) c.close_read-2.new.task c.close_write.new.task q.work
    c.close_write.ensures.own c.close_write.ensures.others c.close_write.ensures.ends in
    record {
      did = relay_did c.args.task.now c.open_read.new.task c.open_write.new.task c.relay_on-ended.new.task
          c.close_read-2.new.task c.close_write.new.task o p c.relay_on-ended.result.moved c.relay_on-ended.result.stop
          c.relay_on-ended.ensures.turns q s c.requires.idler;
      goes = relay_works c.open_read.new.task c.open_write.new.task c.relay_on-ended.new.task c.close_read-2.new.task
          c.relay_on-ended.ensures.goes.0 c.relay_on-ended.result.stop
          (claims (read_end SOURCE_PIPE) c.open_read.ensures.step.0 c.open_read.result true c.args.task.now
          c.open_read.new.task c.open_read.ensures.step.1.0 c.open_read.ensures.step.1.1 c.if-not-open_read.false)
          (claims (write_end SINK_PIPE) c.open_write.ensures.step.0 c.open_write.result true c.open_read.new.task
          c.open_write.new.task c.open_write.ensures.step.1.0 c.open_write.ensures.step.1.1 c.if-not-open_write.false)
          c.relay_on-ended.ensures.goes.1 c.close_read-2.ensures.closes c.close_write.ensures.closes;
    }

use Rattle.wait_rule.specs.Pipes.{write_end}
use Rattle.copy_ends.proofs.Ends.{Closes, Opens, closes, fails, idler_works, opens}
use Rattle.copy_ends.proofs.ReaderEnds.{reader_did, reader_fails}
use Rattle.std.specs.Prelude.{Some, true, false}
use Rattle.copy_plan.specs.declared.stop.Stop.TheVariants as stop
use Rattle.flow_copy.specs.Workers.{ReaderTurns, ReaderWorks, reader_refused}
use Rattle.flow_copy.proofs.Words.{claims, gave_map, gave_none, reader_went}
use Rattle.flow_copy.proofs.reader.reader_through.Goals as goal

pub returns-then-not-open_write : goal.returns-then-not-open_write
returns-then-not-open_write g c = record {
  did = reader_fails c.args.pipe c.args.task.now c.open_write.new.task (g.S.Source.left c.args.source.now)
      (g.S.Source.faults c.args.source.now) c.args.targets c.args.plan.now c.requires.idler
      (fails (write_end c.args.pipe) c.open_write.ensures.step.0 c.open_write.result c.args.task.now
      c.open_write.new.task c.open_write.ensures.step.1.0 c.open_write.ensures.carries
      (idler_works c.args.task.now c.requires.idler) c.if-not-open_write.true c.open_write.ensures.step.1.1
      c.open_write.ensures.becomes);
  goes = gave_none (g.S.Source.left c.args.source.now) 0
      (λ bytes. ReaderWorks c.args.pipe c.args.targets c.args.plan.now c.args.task.now c.open_write.new.task bytes stop.Taken)
      (reader_refused (claims (write_end c.args.pipe) c.open_write.ensures.step.0 c.open_write.result false
      c.args.task.now c.open_write.new.task c.open_write.ensures.step.1.0 c.open_write.ensures.step.1.1
      c.if-not-open_write.true));
}

pub send_due-requires-clause-work : goal.send_due-requires-clause-work
send_due-requires-clause-work g c =
    let o : Opens (write_end c.args.pipe) c.args.task.now c.open_write.new.task
    = opens (write_end c.args.pipe) c.open_write.ensures.step.0 c.open_write.result c.args.task.now
    c.open_write.new.task c.open_write.ensures.step.1.0 c.open_write.ensures.carries
    (idler_works c.args.task.now c.requires.idler) c.if-not-open_write.false c.open_write.ensures.becomes in
    o.work

pub returns : goal.returns
returns g c =
    let o : Opens (write_end c.args.pipe) c.args.task.now c.open_write.new.task
    = opens (write_end c.args.pipe) c.open_write.ensures.step.0 c.open_write.result c.args.task.now
    c.open_write.new.task c.open_write.ensures.step.1.0 c.open_write.ensures.carries
    (idler_works c.args.task.now c.requires.idler) c.if-not-open_write.false c.open_write.ensures.becomes in
    let s = c.send_due.ensures in
    let t = c.read_on-stop.ensures.turns in
    let q : Closes (write_end c.args.pipe) c.read_on-stop.new.task c.close_write.new.task
    = closes (write_end c.args.pipe) c.read_on-stop.new.task c.close_write.new.task t.works.work
    c.close_write.ensures.own c.close_write.ensures.others c.close_write.ensures.ends in
    record {
      did = reader_did c.args.pipe c.args.task.now c.open_write.new.task c.send_due.new.task c.read_on-stop.new.task
          c.close_write.new.task (g.S.Source.left c.args.source.now) (g.S.Source.left c.read_on-stop.new.source)
          (g.S.Source.faults c.args.source.now) (g.S.Source.faults c.read_on-stop.new.source)
          c.read_on-stop.new.read c.args.targets c.args.plan.now o
          (record { works = s.works; ends = s.ends; sums = s.sums; spared = s.spared; signals = s.signals; each = s.goes }) c.read_on-stop.result t q
          c.requires.idler c.count_due-sent.result.0 c.count_due-sent.result.1 c.count_due-sent.ensures.sent
          c.count_due-sent.ensures.kills;
      goes = gave_map (g.S.Source.left c.args.source.now) (g.S.Source.left c.read_on-stop.new.source) 0
          c.read_on-stop.new.read
          (λ bytes. ReaderTurns c.args.pipe c.args.targets c.args.plan.now 0 c.send_due.new.task bytes c.read_on-stop.new.task
          (Some c.read_on-stop.result))
          (λ bytes. ReaderWorks c.args.pipe c.args.targets c.args.plan.now c.args.task.now c.close_write.new.task bytes
          c.read_on-stop.result)
          (λ bytes turns. reader_went c.args.pipe c.args.targets c.args.plan.now c.args.task.now c.open_write.new.task
          c.send_due.new.task c.read_on-stop.new.task c.close_write.new.task c.read_on-stop.result bytes
          (claims (write_end c.args.pipe) c.open_write.ensures.step.0 c.open_write.result true c.args.task.now
          c.open_write.new.task c.open_write.ensures.step.1.0 c.open_write.ensures.step.1.1 c.if-not-open_write.false)
          s.goes c.close_write.ensures.closes turns) c.read_on-stop.ensures.goes;
    }

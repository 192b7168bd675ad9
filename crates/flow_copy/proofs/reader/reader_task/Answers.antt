use Rattle.copy_ends.proofs.{Ends.completes, ReaderEnds.reader_completes}
use Rattle.flow_copy.specs.Workers.{ReaderGoes, ReaderWorks}
use Rattle.flow_copy.proofs.Words.{gave_map}
use Rattle.flow_copy.proofs.reader.reader_task.Goals as goal

pub returns : goal.returns
returns g c =
    let r = c.reader_through-ended.ensures in
    record {
      did = reader_completes c.args.pipe c.args.task.now c.reader_through-ended.new.task c.complete.new.task
          (g.S.Source.left c.args.source.now) (g.S.Source.left c.reader_through-ended.new.source)
          (g.S.Source.faults c.args.source.now) (g.S.Source.faults c.reader_through-ended.new.source) c.args.targets c.args.plan.now
          c.reader_through-ended.result r.did (completes c.reader_through-ended.new.task c.complete.new.task
          r.did.served.idler c.complete.ensures.completed c.complete.ensures.up c.complete.ensures.free
          c.complete.ensures.carries c.complete.ensures.off);
      goes = gave_map (g.S.Source.left c.args.source.now) (g.S.Source.left c.reader_through-ended.new.source) 0
          c.reader_through-ended.result.read
          (λ bytes. ReaderWorks c.args.pipe c.args.targets c.args.plan.now c.args.task.now c.reader_through-ended.new.task bytes
          c.reader_through-ended.result.stop)
          (λ bytes. ReaderGoes c.args.pipe c.args.targets c.args.plan.now c.args.task.now c.complete.new.task bytes
          c.reader_through-ended.result.stop)
          (λ bytes works. (c.reader_through-ended.new.task, works, c.complete.ensures.completed)) r.goes;
    }

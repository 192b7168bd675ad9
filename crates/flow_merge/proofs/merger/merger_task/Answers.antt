use Rattle.copy_ends.proofs.Ends.{completes}
use Rattle.flow_merge.proofs.MergerEnds.{merger_completes}
use Rattle.flow_merge.proofs.merger.merger_task.Goals as goal

pub returns : goal.returns
returns g c =
    let r = c.merge_through-ended.ensures in
    record {
      did = merger_completes c.args.task.now c.merge_through-ended.new.task c.complete.new.task
          c.merge_through-ended.result r.did (completes c.merge_through-ended.new.task c.complete.new.task
          r.did.served.idler c.complete.ensures.completed c.complete.ensures.up c.complete.ensures.free
          c.complete.ensures.carries c.complete.ensures.off);
      goes = (c.merge_through-ended.new.task, r.goes, c.complete.ensures.completed);
    }

use Rattle.flow_merge.specs.Merged.{drawn, filled}
use Rattle.waitq_merge.proofs.MergePassed.{merged_through}
use Rattle.waitq_run.proofs.merge.merge_through.Goals as goal

pub returns-clause-through : goal.returns-clause-through
returns-clause-through g c =
    let folder = c.args.folder.now in
    let kept = c.close_both_and_store-stored.new.folder in
    let begun = c.args.begun in
    let end = c.in-Ok.end in
    let said = c.in-Ok.ensures in
    let stored = c.close_both_and_store-stored.ensures in
    let one = drawn (g.F.In.Source.left begun.first) (g.F.In.Source.left end.first) (g.F.In.Source.faults begun.first)
    (g.F.In.Source.faults end.first) in
    let two = drawn (g.F.In.Source.left begun.second) (g.F.In.Source.left end.second)
    (g.F.In.Source.faults begun.second) (g.F.In.Source.faults end.second) in
    let into = filled (g.F.Out.Sink.held begun.sink) (g.F.Out.Sink.held end.sink) (g.F.Out.Sink.faults begun.sink)
    (g.F.Out.Sink.faults end.sink) (g.F.Out.Sink.wants begun.sink) (g.F.Out.Sink.wants end.sink) in
    merged_through c.args.domain.now c.merge_all.new.task (g.F.Folder.files folder) (g.F.Folder.files kept)
    (g.F.Folder.read_faults folder) (g.F.Folder.read_faults kept) (g.F.Folder.write_faults folder)
    (g.F.Folder.write_faults kept) c.args.names.first.now c.args.names.second.now c.args.names.dst.now one two into
    end.left end.right end.merger end.writer end.stop end.moved c.close_both_and_store-stored.result end.total
    c.requires.found_first c.requires.found_second c.requires.empty
    (c.requires.opened_first, (c.requires.opened_second, c.requires.made)) said.merged said.front said.whole said.moved
    said.stops said.unhurt stored.stored stored.reads stored.writes stored.refused

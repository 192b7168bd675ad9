use Rattle.waitq_copy.proofs.Passed.{passed}
use Rattle.waitq_run.proofs.copy.copy_through.Goals as goal

pub returns-clause-through : goal.returns-clause-through
returns-clause-through g c =
    let folder = c.args.folder.now in
    let kept = c.close_and_store-stored.new.folder in
    let begun = c.args.begun in
    let did = c.in-Ok.end in
    let said = c.in-Ok.ensures in
    let stored = c.close_and_store-stored.ensures in
    passed c.args.domain.now c.copy_all.new.task (g.F.Folder.files folder) (g.F.Folder.files kept)
    (g.F.Folder.read_faults folder) (g.F.Folder.read_faults kept) (g.F.Folder.write_faults folder)
    (g.F.Folder.write_faults kept) c.args.order.src.now c.args.order.dst.now c.args.order.plan.now
    (g.F.In.Source.left begun.source) (g.F.In.Source.left did.source) (g.F.Out.Sink.held begun.sink)
    (g.F.Out.Sink.held did.sink) (g.F.In.Source.faults begun.source) (g.F.In.Source.faults did.source)
    (g.F.Out.Sink.faults begun.sink) (g.F.Out.Sink.faults did.sink) (g.F.Out.Sink.wants begun.sink)
    (g.F.Out.Sink.wants did.sink) (g.W.Watchers.entries c.args.watch) (g.W.Watchers.entries did.watch) did.reader
    did.relay did.writer did.stop did.moved c.close_and_store-stored.result did.total c.requires.found
    c.requires.opened c.requires.empty c.requires.made said.copied said.front said.watched said.whole said.moved
    said.none_taken stored.stored stored.reads stored.writes stored.refused

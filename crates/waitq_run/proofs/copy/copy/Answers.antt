use Rattle.std.proofs.Common.{Err, inl, inr, refl, ap, ◌∙◌, ◌≡◌, rules}
use Rattle.waitq_copy.specs.Copying.{copy_text, outside, told_pieces}
use Rattle.waitq_alone.specs.declared.fault.Fault.TheVariants as fault
use Rattle.waitq_copy.proofs.{CopyCauses.causes, Passed.from_begun, Unbegun.lists_kept, Unbegun.task_kept}
use Rattle.waitq_run.proofs.copy.copy.Goals as goal

pub returns-clause-left : goal.returns-clause-left
returns-clause-left g c =
    let folder = c.args.folder.now in
    let kept = c.copy_through.new.folder in
    let left = c.in_ok-left.left in
    let order = c.args.order in
    let before = outside (g.F.Folder.files folder) (g.F.Folder.read_faults folder) (g.F.Folder.write_faults folder)
    (g.O.Sink.held c.args.out.now) (g.O.Sink.faults c.args.out.now) in
    let after = outside (g.F.Folder.files kept) (g.F.Folder.read_faults kept) (g.F.Folder.write_faults kept)
    (g.O.Sink.held c.conclude.new.out) (g.O.Sink.faults c.conclude.new.out) in
    let through = from_begun c.args.domain.now c.copy_through.new.task (g.F.Folder.files kept)
    (g.F.Folder.read_faults kept) (g.F.Folder.write_faults kept) order.src.now order.dst.now order.plan.now
    (g.W.Watchers.entries c.args.watch) (g.W.Watchers.entries left.watch) left.reader left.stop left.moved
    left.stored (g.F.Folder.files folder) (g.F.Folder.files c.begin.new.folder) (g.F.Folder.read_faults folder)
    (g.F.Folder.read_faults c.begin.new.folder) (g.F.Folder.write_faults folder)
    (g.F.Folder.write_faults c.begin.new.folder) c.begin.ensures.same c.in_ok-begun.ensures.reads
    c.in_ok-begun.ensures.writes c.in_ok-left.ensures.through in
    inr (record {
      reader = left.reader;
      how = left.stop;
      moved = left.moved;
      stored = left.stored;
      seen = g.W.Watchers.entries left.watch;
      through = through;
      told = c.conclude.ensures.told;
      causes = causes c.args.domain.now c.copy_through.new.task before after order.src.now order.dst.now
          order.plan.now (g.W.Watchers.entries c.args.watch) (g.W.Watchers.entries left.watch) left.reader left.stop
          left.moved left.stored (copy_text left.reader.read left.moved (told_pieces (g.W.Watchers.entries left.watch))
          left.reader.sent) through c.conclude.result c.conclude.ensures.told;
    })

pub returns-in_err-begun-clause-left : goal.returns-in_err-begun-clause-left
returns-in_err-begun-clause-left g c =
    let why = c.in_err-begun.field-0.0 in
    let answered : c.from_residual.result ≡ Err why = search rules in
    inl (record {
      why = why;
      answered = answered;
      task = task_kept c.args.task.now why;
      files = c.in_err-begun.ensures.same;
      held = refl {a = g.O.Sink.held c.args.out.now};
      faults = refl {a = g.O.Sink.faults c.args.out.now};
      cause = c.in_err-begun.ensures.cause;
    })

pub returns-in_err-left-clause-left : goal.returns-in_err-left-clause-left
returns-in_err-left-clause-left g c =
    let answered : c.from_residual-in_err-left.result ≡ Err c.in_err-left.field-0.0 = search rules in
    inl (record {
      why = fault.Memory;
      answered = answered ∙ ap Err c.in_err-left.ensures.memory;
      task = lists_kept c.args.domain.now c.args.task.now c.copy_through.new.task c.requires.fresh
          c.in_err-left.ensures.idle;
      files = ◌∙◌ {a = g.F.Folder.files c.copy_through.new.folder} {b = g.F.Folder.files c.begin.new.folder}
          {c = g.F.Folder.files c.args.folder.now} c.in_err-left.ensures.same c.begin.ensures.same;
      held = refl {a = g.O.Sink.held c.args.out.now};
      faults = refl {a = g.O.Sink.faults c.args.out.now};
      cause = record { cause = inl tt };
    })

use Rattle.std.proofs.Common.{Err, inl, inr, refl, ap, ◌∙◌, ◌+◌, ◌≡◌, rules}
use Rattle.waitq_copy.specs.Copying.{outside}
use Rattle.waitq_merge.specs.Merging.{merge_text}
use Rattle.waitq_alone.specs.declared.fault.Fault.TheVariants as fault
use Rattle.waitq_copy.proofs.Unbegun.{lists_kept, task_kept}
use Rattle.waitq_merge.proofs.{MergeAnswers.causes, MergePassed.from_begun}
use Rattle.waitq_run.proofs.merge.merge.Goals as goal

pub returns-clause-left : goal.returns-clause-left
returns-clause-left g c =
    let folder = c.args.folder.now in
    let kept = c.merge_through.new.folder in
    let done = c.in_ok-done.done in
    let names = c.args.names in
    let before = outside (g.F.Folder.files folder) (g.F.Folder.read_faults folder) (g.F.Folder.write_faults folder)
    (g.O.Sink.held c.args.out.now) (g.O.Sink.faults c.args.out.now) in
    let after = outside (g.F.Folder.files kept) (g.F.Folder.read_faults kept) (g.F.Folder.write_faults kept)
    (g.O.Sink.held c.conclude.new.out) (g.O.Sink.faults c.conclude.new.out) in
    let through = from_begun c.args.domain.now c.merge_through.new.task (g.F.Folder.files kept)
    (g.F.Folder.read_faults kept) (g.F.Folder.write_faults kept) names.first.now names.second.now names.dst.now
    done.left done.right done.stop done.moved done.stored (g.F.Folder.files folder)
    (g.F.Folder.files c.begin_merge.new.folder) (g.F.Folder.read_faults folder)
    (g.F.Folder.read_faults c.begin_merge.new.folder) (g.F.Folder.write_faults folder)
    (g.F.Folder.write_faults c.begin_merge.new.folder) c.begin_merge.ensures.same c.in_ok-begun.ensures.reads
    c.in_ok-begun.ensures.writes c.in_ok-done.ensures.through in
    inr (record {
      left = done.left;
      right = done.right;
      how = done.stop;
      moved = done.moved;
      stored = done.stored;
      through = through;
      told = c.conclude.ensures.told;
      causes = causes c.args.domain.now c.merge_through.new.task before after names.first.now names.second.now
          names.dst.now done.left done.right done.stop done.moved done.stored
          (merge_text (done.left.read + done.right.read) done.moved) through c.conclude.result
          c.conclude.ensures.told;
    })

pub returns-in_err-begun-clause-left : goal.returns-in_err-begun-clause-left
returns-in_err-begun-clause-left g c =
    let why = c.in_err-begun.field-0.0 in
    let answered : c.from_residual.result ≡ Err why = search rules in
    inl (record {
      why = why;
      answered = answered;
      task = task_kept c.args.task.now why;
      files = c.in_err-begun.ensures.same;
      held = refl {a = g.O.Sink.held c.args.out.now};
      faults = refl {a = g.O.Sink.faults c.args.out.now};
      cause = c.in_err-begun.ensures.cause;
    })

pub returns-in_err-done-clause-left : goal.returns-in_err-done-clause-left
returns-in_err-done-clause-left g c =
    let answered : c.from_residual-in_err-done.result ≡ Err c.in_err-done.field-0.0 = search rules in
    inl (record {
      why = fault.Memory;
      answered = answered ∙ ap Err c.in_err-done.ensures.memory;
      task = lists_kept c.args.domain.now c.args.task.now c.merge_through.new.task c.requires.fresh
          c.in_err-done.ensures.idle;
      files = ◌∙◌ {a = g.F.Folder.files c.merge_through.new.folder} {b = g.F.Folder.files c.begin_merge.new.folder}
          {c = g.F.Folder.files c.args.folder.now} c.in_err-done.ensures.same c.begin_merge.ensures.same;
      held = refl {a = g.O.Sink.held c.args.out.now};
      faults = refl {a = g.O.Sink.faults c.args.out.now};
      cause = record { cause = inl tt };
    })

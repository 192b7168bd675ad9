use Rattle.std.proofs.Common.{arith}
use Rattle.std.proofs.lemmas.Result.{err_from_is_err_and}
use Rattle.edge_io.proofs.Prefix.{broke_off, went_on}
use Rattle.waitq_copy.proofs.Telling.{next_line}
use Rattle.waitq_copy.proofs.told.write_watchers.Goals as goal

pub returns-in_err-write_watcher-clause-text : goal.returns-in_err-write_watcher-clause-text
returns-in_err-write_watcher-clause-text g c =
    let p = err_from_is_err_and c.from_residual.result c.from_residual.ensures.1 in
    rw p.1 (broke_off _ (g.O.Sink.held c.loop-place.out) _ _ _ _ _ c.loop-place.invariant.on
    (next_line (g.W.Watchers.entries c.args.watch.now) c.loop-place.place c.told_at.result (omega arith)
    c.told_at.ensures) c.in_err-write_watcher.ensures.text)

pub loop-place-preserved : goal.loop-place-preserved
loop-place-preserved g c = record {
  on = went_on _ (g.O.Sink.held c.loop-place.out) _ _ _ _ _ c.loop-place.invariant.on
      (next_line (g.W.Watchers.entries c.args.watch.now) c.loop-place.place c.told_at.result (omega arith)
      c.told_at.ensures) c.in_ok-write_watcher.ensures.text;
  later = omega (arith, c.write_watcher.ensures.later);
}

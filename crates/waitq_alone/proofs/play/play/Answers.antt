use Rattle.std.proofs.Common.{arith}
use Rattle.std.proofs.lemmas.Result.{err_from_is_err_and}
use Rattle.edge_io.proofs.Sending.{goes_on, breaks_off}
use Rattle.waitq_alone.proofs.Playing.{replay-at, last_text, drained}
use Rattle.waitq_alone.proofs.play.play.Goals as goal

pub returns-in_err-play_line-clause-text : goal.returns-in_err-play_line-clause-text
returns-in_err-play_line-clause-text g c =
    let p = err_from_is_err_and c.from_residual.result c.from_residual.ensures.1 in
    rw p.1 (breaks_off _ (g.K.Sink.held c.loop-line.out) _ _ _ _ _ _ c.loop-line.invariant.midway
    (replay-at c.args.lines.now c.loop-line.line-index _ c.loop-line.core c.loop-line-test.true)
    c.in_err-play_line.ensures.text)

pub loop-line-preserved : goal.loop-line-preserved
loop-line-preserved g c = record {
  midway = rw c.in_ok-play_line.ensures.run (goes_on _ (g.K.Sink.held c.loop-line.out) _ _ _ _ _ _ _
      c.loop-line.invariant.midway (replay-at c.args.lines.now c.loop-line.line-index _ c.loop-line.core
      c.loop-line-test.true) c.in_ok-play_line.ensures.text);
  later = omega (arith, c.play_line.ensures.later);
}

pub returns-in_err-print_end-clause-text : goal.returns-in_err-print_end-clause-text
returns-in_err-print_end-clause-text g c =
    let r = c.from_residual-in_err-print_end in
    let p = err_from_is_err_and r.result r.ensures.1 in
    rw p.1 (breaks_off _ (g.K.Sink.held c.loop-line.out) _ _ _ _ _ _ c.loop-line.invariant.midway
    (last_text c.args.lines.now c.loop-line.line-index c.loop-line.core c.loop-line-test.false)
    c.in_err-print_end.ensures.text)

pub returns-clause-text : goal.returns-clause-text
returns-clause-text g c =
    let m = goes_on _ (g.K.Sink.held c.loop-line.out) (g.K.Sink.held c.print_end.new.out) _ _ _ _ _ _
    c.loop-line.invariant.midway
    (last_text c.args.lines.now c.loop-line.line-index c.loop-line.core c.loop-line-test.false)
    c.in_ok-print_end.ensures.text in
    drained c.flush.result _ (g.K.Sink.held c.print_end.new.out) _ _ _ _ m c.flush.ensures.sent
    c.flush.ensures.empty

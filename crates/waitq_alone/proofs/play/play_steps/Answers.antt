use Rattle.std.proofs.Common.{sym, ◌∙◌, ap, [], arith}
use Rattle.std.proofs.lemmas.List.{append-nil}
use Rattle.std.proofs.lemmas.Result.{err_from_is_err_and}
use Rattle.edge_io.proofs.Sending.{goes_on, breaks_off}
use Rattle.waitq_alone.proofs.Playing.{stopping, going, piece, all_sent}
use Rattle.waitq_alone.proofs.play.play_steps.Goals as goal

pub returns-in_err-print_step-clause-text : goal.returns-in_err-print_step-clause-text
returns-in_err-print_step-clause-text g c =
    let q = piece c.args.count c.loop-i._i c.loop-i.core c.args.task c.step-stepped.result
    c.step-stepped.new.self
    c.loop-i-test.true c.step-stepped.ensures.answer c.step-stepped.ensures.run in
    let p = err_from_is_err_and c.from_residual.result c.from_residual.ensures.1 in
    rw p.1 (breaks_off _ (g.K.Sink.held c.loop-i.out) _ _ _ q.0 _ _ c.loop-i.invariant.midway q.1
    c.in_err-print_step.ensures.text)

pub returns-then-stops-clause-text : goal.returns-then-stops-clause-text
returns-then-stops-clause-text g c =
    let q = stopping c.args.count c.loop-i._i c.loop-i.core c.args.task c.step-stepped.result
    c.step-stepped.new.self
    c.loop-i-test.true c.step-stepped.ensures.answer c.step-stepped.ensures.run (sym c.if-stops.ensures) in
    all_sent _ _ _ _ (goes_on _ (g.K.Sink.held c.loop-i.out) _ _ _ _ [] _ _ c.loop-i.invariant.midway
    (ap (λ r. r.0) q ∙ sym (append-nil _)) c.in_ok-print_step.ensures.text)

pub returns-then-stops-clause-run : goal.returns-then-stops-clause-run
returns-then-stops-clause-run g c =
    let q = stopping c.args.count c.loop-i._i c.loop-i.core c.args.task c.step-stepped.result
    c.step-stepped.new.self
    c.loop-i-test.true c.step-stepped.ensures.answer c.step-stepped.ensures.run (sym c.if-stops.ensures) in
    sym (ap (λ r. r.1) q) ∙ c.loop-i.invariant.run

pub loop-i-preserved : goal.loop-i-preserved
loop-i-preserved g c =
    let q = going c.args.count c.loop-i._i c.loop-i.core c.args.task c.step-stepped.result
    c.step-stepped.new.self
    c.loop-i-test.true c.step-stepped.ensures.answer c.step-stepped.ensures.run (sym c.if-stops.ensures) in
    record {
      midway = goes_on _ (g.K.Sink.held c.loop-i.out) _ _ _ _ _ _ _ c.loop-i.invariant.midway
          (ap (λ r. r.0) q)
          c.in_ok-print_step.ensures.text;
      run = sym (ap (λ r. r.1) q) ∙ c.loop-i.invariant.run;
      later = omega (arith, c.print_step.ensures.later);
    }

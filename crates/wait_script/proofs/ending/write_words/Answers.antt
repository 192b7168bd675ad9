use Rattle.std.proofs.Common.{arith}
use Rattle.std.proofs.lemmas.Result.{err_from_is_err_and}
use Rattle.edge_io.proofs.Prefix.{broke_off, went_on, finished}
use Rattle.wait_model.specs.declared.layout.TheConstants.{CONDITIONS}
use Rattle.wait_script.proofs.EndLines.{next_text, no_text}
use Rattle.wait_script.proofs.ending.write_words.Goals as goal

pub returns-in_err-write_word-clause-text : goal.returns-in_err-write_word-clause-text
returns-in_err-write_word-clause-text g c =
    let p = err_from_is_err_and c.from_residual.result c.from_residual.ensures.1 in
    rw p.1 (broke_off _ (g.K.Sink.held c.loop-cond.out) _ _ _ _ _ c.loop-cond.invariant.midway
    (next_text _ CONDITIONS c.loop-cond.cond c.loop-cond-test.true) c.in_err-write_word.ensures.text)

pub loop-cond-preserved : goal.loop-cond-preserved
loop-cond-preserved g c = record {
  midway = went_on _ (g.K.Sink.held c.loop-cond.out) _ _ _ _ _ c.loop-cond.invariant.midway
      (next_text _ CONDITIONS c.loop-cond.cond c.loop-cond-test.true) c.in_ok-write_word.ensures.text;
  later = omega (arith, c.write_word.ensures.later);
}

pub returns-clause-text : goal.returns-clause-text
returns-clause-text g c =
    finished _ (g.K.Sink.held c.loop-cond.out) _ _ c.loop-cond.invariant.midway
    (no_text _ CONDITIONS c.loop-cond.cond c.loop-cond-test.false)

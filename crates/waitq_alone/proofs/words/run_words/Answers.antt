use Rattle.std.proofs.Common.{Err}
use Rattle.waitq_alone.specs.declared.fault.Fault.TheVariants as fault
use Rattle.waitq_alone.proofs.Refusals.{refusal_answers, refusal_fits, refused_without, unknown_answers}
use Rattle.waitq_alone.proofs.words.run_words.Goals as goal

pub returns-in-Ok-Copy-clause-finishes : goal.returns-in-Ok-Copy-clause-finishes
returns-in-Ok-Copy-clause-finishes g c = record {
  answer = Err fault.Usage;
  number = c.finish.ensures.number;
  outcome = unknown_answers _ _;
  line = c.finish.ensures.line;
}

pub returns-in-Err-clause-statuses : goal.returns-in-Err-clause-statuses
returns-in-Err-clause-statuses g c =
    rw c.finish-in-Err.ensures.number (refusal_fits _ _ (refused_without _ _ c.in-Err.ensures.refused))

pub returns-in-Err-clause-finishes : goal.returns-in-Err-clause-finishes
returns-in-Err-clause-finishes g c = record {
  answer = Err c.in-Err.fault;
  number = c.finish-in-Err.ensures.number;
  outcome = refusal_answers _ _ _ _ (refused_without _ _ c.in-Err.ensures.refused);
  line = c.finish-in-Err.ensures.line;
}

use Rattle.std.proofs.Common.{refl}
use Rattle.std.specs.Prelude.{Err}
use Rattle.waitq_alone.proofs.Refusals.{refusal_answers, refusal_fits}
use Rattle.waitq_copy.proofs.Refusals.{left_by_want, not_killed, of_copies}
use Rattle.waitq_copy.proofs.Fronts.{kept}
use Rattle.waitq_merge.proofs.MergeAsked as merges
use Rattle.waitq_run.proofs.run.run.Goals as goal

pub returns-in-Err-clause-statuses : goal.returns-in-Err-clause-statuses
returns-in-Err-clause-statuses g c = rw c.finish.ensures.number (refusal_fits _ _ c.in-Err.ensures.refused)

pub returns-in-Err-clause-finishes : goal.returns-in-Err-clause-finishes
returns-in-Err-clause-finishes g c = record {
  answer = Err c.in-Err.fault;
  number = c.finish.ensures.number;
  outcome = refusal_answers _ _ _ _ c.in-Err.ensures.refused;
  line = c.finish.ensures.line;
}

pub returns-in-Err-clause-copies : goal.returns-in-Err-clause-copies
returns-in-Err-clause-copies g c = of_copies _ _ _ c.in-Err.ensures.refused (λ m src dst plan. record {
  answer = Err c.in-Err.fault;
  number = c.finish.ensures.number;
  left = left_by_want _ _ _ src dst plan _ _ m;
  line = c.finish.ensures.line;
})

pub returns-in-Err-clause-spares : goal.returns-in-Err-clause-spares
returns-in-Err-clause-spares g c = of_copies _ _ _ c.in-Err.ensures.refused (λ m src dst plan. kept _ _ dst _ refl)

pub returns-in-Err-clause-plain : goal.returns-in-Err-clause-plain
returns-in-Err-clause-plain g c = of_copies _ _ _ c.in-Err.ensures.refused
    (λ m src dst plan none six. not_killed c.in-Err.fault _ m c.finish.ensures.number six)

pub returns-in-Err-clause-merges : goal.returns-in-Err-clause-merges
returns-in-Err-clause-merges g c = merges.of_merges _ _ _ c.in-Err.ensures.refused (λ m first second dst. record {
  answer = Err c.in-Err.fault;
  number = c.finish.ensures.number;
  left = merges.left_by_want _ _ _ first second dst _ m;
  line = c.finish.ensures.line;
})

pub returns-in-Err-clause-merge_spares : goal.returns-in-Err-clause-merge_spares
returns-in-Err-clause-merge_spares g c = merges.of_merges _ _ _ c.in-Err.ensures.refused
    (λ m first second dst. kept _ _ dst _ refl)

use Rattle.std.proofs.Common.{sym, ◌∙◌}
use Rattle.waitq_copy.proofs.{Delivered.delivered, Fronts.spares}
use Rattle.waitq_copy.proofs.Asked.{fine_status, left_silent, plain}
use Rattle.waitq_run.proofs.run.run_copy.Goals as goal

pub returns-clause-no_text : goal.returns-clause-no_text
returns-clause-no_text g c = λ quiet.
    left_silent _ _ _ _ _ _ _ _ _ _ c.copy-answer.ensures.left (rw c.finish.ensures.number at quiet)

pub returns-clause-delivers : goal.returns-clause-delivers
returns-clause-delivers g c = λ zero.
    delivered _ _ _ _ _ _ _ _ _ _ c.copy-answer.ensures.left
    (fine_status c.copy-answer.result (sym c.finish.ensures.number ∙ zero))

pub returns-clause-spares : goal.returns-clause-spares
returns-clause-spares g c = spares _ _ _ _ _ _ _ _ _ _ c.copy-answer.ensures.left

pub returns-clause-plain : goal.returns-clause-plain
returns-clause-plain g c = λ none six.
    plain _ _ _ _ _ _ _ _ _ _ c.copy-answer.ensures.left none (sym c.finish.ensures.number ∙ six)

use Rattle.std.proofs.Common.{sym, ◌∙◌}
use Rattle.waitq_copy.proofs.Asked.{fine_status}
use Rattle.waitq_merge.proofs.{Joined.joined, MergeFronts.merge_spares}
use Rattle.waitq_run.proofs.run.run_merge.Goals as goal

pub returns-clause-joins : goal.returns-clause-joins
returns-clause-joins g c = λ zero.
    joined _ _ _ _ _ _ _ _ _ c.merge-answer.ensures.left
    (fine_status c.merge-answer.result (sym c.finish.ensures.number ∙ zero))

pub returns-clause-spares : goal.returns-clause-spares
returns-clause-spares g c = merge_spares _ _ _ _ _ _ _ _ _ c.merge-answer.ensures.left

use Rattle.std.proofs.Common.{subst, sym}
use Rattle.std.specs.Prelude.{MatchBool, Result}
use Rattle.wait_rule.specs.Says.{IsClean}
use Rattle.bit_wait.specs.{Holders.IsHolder, declared.wait_calls.BitEnd.BitEnd}
use Rattle.page_lock.specs.PageEnds.{EndsPageLock, has_taken_page}
use Rattle.page_lock.proofs.PageEndings.{ends_wait, under_clean}
use Rattle.page_lock.proofs.wait_calls.end_page.Goals as goal

pub returns-clause-holder : goal.returns-clause-holder
returns-clause-holder c = λ p i. subst (λ (x : Result (Unit {0}) BitEnd). MatchBool (has_taken_page x)
    (IsHolder c.args.task.now p.watch) (IsClean c.args.task.now)) (sym c.end_of.ensures)
    (under_clean p c.args.task.now c.args.wait.now c.args.outcome i)

pub returns-clause-ends : goal.returns-clause-ends
returns-clause-ends c = λ start f page state fresh a. subst (EndsPageLock start c.args.task.now page state)
    (sym c.end_of.ensures) (ends_wait start c.args.task.now f c.args.wait.now page state fresh c.args.outcome a)

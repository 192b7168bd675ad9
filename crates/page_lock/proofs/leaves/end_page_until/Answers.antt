use Rattle.std.proofs.Common.{subst, sym}
use Rattle.std.specs.Prelude.{MatchBool, Result}
use Rattle.wait_rule.specs.Says.{IsClean}
use Rattle.wait_leave.specs.declared.exits.Until.{Until}
use Rattle.bit_wait.specs.{Holders.IsHolder, declared.wait_calls.BitEnd.BitEnd}
use Rattle.page_lock.specs.PageLeaves.{EndsPageUntil, takes_page_until}
use Rattle.page_lock.proofs.PageLeaving.{ends_until, way_clean}
use Rattle.page_lock.proofs.leaves.end_page_until.Goals as goal

pub returns-clause-holder : goal.returns-clause-holder
returns-clause-holder c = λ p i. subst (λ (x : Until (Result (Unit {0}) BitEnd)). MatchBool (takes_page_until x)
    (IsHolder c.args.task.now p.watch) (IsClean c.args.task.now)) (sym c.until_of.ensures)
    (way_clean _ _ _ _ _ i)

pub returns-clause-ends : goal.returns-clause-ends
returns-clause-ends c = λ start f page state fresh w. subst (EndsPageUntil (Unit {0}) start c.args.task.now page state)
    (sym c.until_of.ensures)
    (ends_until _ _ _ _ _ _ _ fresh c.args.outcome w)

use Rattle.std.proofs.Common.{subst, sym}
use Rattle.wait_event.specs.WaitLeaves.{EndsWaitUntil}
use Rattle.wait_event.proofs.WaitLeaving.{ends_until, way_clean}
use Rattle.wait_event.proofs.wait_leaves.end_until.Goals as goal

pub returns-clause-clean : goal.returns-clause-clean
returns-clause-clean c = λ p i. way_clean _ _ _ _ _ i

pub returns-clause-ends : goal.returns-clause-ends
returns-clause-ends c = λ start f w how fresh came. subst (EndsWaitUntil (Unit {0}) start c.args.task.now w how)
    (sym c.until_of.ensures) (ends_until _ _ _ _ _ _ _ _ fresh came)

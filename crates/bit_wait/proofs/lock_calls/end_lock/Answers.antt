use Rattle.std.proofs.Common.{subst, sym}
use Rattle.std.specs.Prelude.{MatchBool, Result}
use Rattle.wait_rule.specs.Says.{IsClean}
use Rattle.bit_wait.specs.{Holders.IsHolder, LockEnds.EndsBitLock, LockEnds.has_taken_lock}
use Rattle.bit_wait.specs.declared.wait_calls.BitEnd.{BitEnd}
use Rattle.bit_wait.proofs.LockEndings.{ends_wait, under_clean}
use Rattle.bit_wait.proofs.lock_calls.end_lock.Goals as goal

pub returns-clause-holder : goal.returns-clause-holder
returns-clause-holder c p i = subst (λ (x : Result (Unit {0}) BitEnd). MatchBool (has_taken_lock x)
    (IsHolder c.rest.new.task p.watch) (IsClean c.rest.new.task)) (sym c.end_of.ensures)
    (under_clean p c.args.task.now c.rest.new.task c.args.wait.now c.args.outcome i c.rest.ensures)

pub returns-clause-ends : goal.returns-clause-ends
returns-clause-ends c start f word bit state fresh unasked a = subst (EndsBitLock start c.rest.new.task word bit state)
    (sym c.end_of.ensures) (ends_wait start c.args.task.now c.rest.new.task f c.args.wait.now word bit state fresh
    c.args.outcome a c.rest.ensures unasked)

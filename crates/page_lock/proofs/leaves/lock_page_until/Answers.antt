use Rattle.std.proofs.Common.{◌∙◌, refl, subst, sym}
use Rattle.std.specs.Prelude.{Result, true}
use Rattle.wait_leave.specs.declared.exits.Until.{Until}
use Rattle.bit_wait.specs.declared.wait_calls.BitEnd.{BitEnd}
use Rattle.page_lock.specs.{PageLeaves.EndsPageUntil, PageLeaves.takes_page_until, PageStays.TakesPage}
use Rattle.page_lock.proofs.PageEndings.{locks_clean, page_is}
use Rattle.page_lock.proofs.PageLeaving.{ends_until, left_idle, left_out, left_takes, left_up}
use Rattle.page_lock.proofs.leaves.lock_page_until.Goals as goal

pub returns-clause-waited : goal.returns-clause-waited
returns-clause-waited g c = subst (EndsPageUntil (g.Q.Fn.post c.args.asks tt true) c.args.task.now
    c.run_asked-outcome.new.task c.args.page c.args.state) (sym c.until_of.ensures)
    (ends_until _ _ _ _ _ _ _ c.begin_page-call.ensures.fresh _ c.run_asked-outcome.ensures)

pub returns-clause-up : goal.returns-clause-up
returns-clause-up g c = left_up _ _ _ _ _ _ _ c.run_asked-outcome.ensures

pub returns-clause-idle : goal.returns-clause-idle
returns-clause-idle g c = left_idle _ _ _ _ _ _ _ c.run_asked-outcome.ensures c.requires.idle.unmarked

pub returns-clause-out : goal.returns-clause-out
returns-clause-out g c = left_out _ _ _ _ _ _ _ c.run_asked-outcome.ensures

pub returns-clause-takes : goal.returns-clause-takes
returns-clause-takes g c = subst (λ (r : Until (Result (Unit {0}) BitEnd)). TakesPage c.args.task.now
    c.run_asked-outcome.new.task c.args.page (takes_page_until r)) (sym c.until_of.ensures)
    (left_takes _ _ _ _ _ _ _ c.run_asked-outcome.ensures refl
    c.args.page (page_is c.begin_page-call.result.of c.args.page c.begin_page-call.ensures.fresh.page)
    c.requires.up c.requires.idle c.requires.out
    (c.begin_page-call.ensures.told.head ∙ c.requires.idle.free.head))

pub returns-clause-holder : goal.returns-clause-holder
returns-clause-holder g c clean = locks_clean c.args.task.now c.run_asked-outcome.new.task c.args.page clean
    (returns-clause-up g c) (returns-clause-idle g c) (takes_page_until c.until_of.result) (returns-clause-takes g c)

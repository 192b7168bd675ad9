use Rattle.std.proofs.Common.{◌∙◌, subst, sym}
use Rattle.std.specs.Prelude.{Result}
use Rattle.page_lock.specs.{PageEnds.EndsPageLock, PageEnds.has_taken_page, PageStays.TakesPage}
use Rattle.bit_wait.specs.declared.wait_calls.BitEnd.{BitEnd}
use Rattle.page_lock.proofs.PageEndings.{ends_idle, ends_takes, ends_up, ends_wait, locks_clean}
use Rattle.page_lock.proofs.wait_calls.lock_page.Goals as goal

pub returns-clause-waited : goal.returns-clause-waited
returns-clause-waited g c = subst (EndsPageLock c.args.task.now c.run-outcome.new.task c.args.page c.args.state)
    (sym c.end_of.ensures)
    (ends_wait c.args.task.now c.run-outcome.new.task c.begin_page-call.result c.run-outcome.new.run c.args.page
    c.args.state c.begin_page-call.ensures.fresh c.run-outcome.result c.run-outcome.ensures)

pub returns-clause-up : goal.returns-clause-up
returns-clause-up g c = ends_up c.args.task.now c.run-outcome.new.task c.begin_page-call.result c.run-outcome.new.run
    c.args.page c.args.state c.begin_page-call.ensures.fresh c.run-outcome.result c.run-outcome.ensures

pub returns-clause-idle : goal.returns-clause-idle
returns-clause-idle g c = ends_idle c.args.task.now c.run-outcome.new.task c.begin_page-call.result
    c.run-outcome.new.run c.args.page c.args.state c.begin_page-call.ensures.fresh c.run-outcome.result
    c.run-outcome.ensures c.requires.idle.unmarked

pub returns-clause-takes : goal.returns-clause-takes
returns-clause-takes g c = subst (λ (r : Result (Unit {0}) BitEnd). TakesPage c.args.task.now c.run-outcome.new.task
    c.args.page (has_taken_page r)) (sym c.end_of.ensures)
    (ends_takes c.args.task.now c.run-outcome.new.task c.begin_page-call.result c.run-outcome.new.run c.args.page
    c.args.state c.begin_page-call.ensures.fresh c.run-outcome.result c.run-outcome.ensures c.requires.up
    c.requires.idle c.requires.out (c.begin_page-call.ensures.told.head ∙ c.requires.idle.free.head))

pub returns-clause-holder : goal.returns-clause-holder
returns-clause-holder g c clean = locks_clean c.args.task.now c.run-outcome.new.task c.args.page clean
    (returns-clause-up g c) (returns-clause-idle g c) (has_taken_page c.end_of.result) (returns-clause-takes g c)

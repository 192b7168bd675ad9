use Rattle.std.proofs.Common.{◌∙◌, subst, sym}
use Rattle.std.specs.Prelude.{true}
use Rattle.futex_table.specs.FutexLeaves.{EndsFutexUntil}
use Rattle.futex_table.proofs.FutexLeaving.{ends_until, left_carried, left_held, left_idle, left_out, left_up}
use Rattle.futex_table.proofs.leaves.futex_wait_until.Goals as goal

pub returns-clause-waited : goal.returns-clause-waited
returns-clause-waited g c = subst (EndsFutexUntil (g.Q.Fn.post c.args.asks tt true) c.args.task.now
    c.run_asked-outcome.new.task c.args.futex c.args.expected c.args.state) (sym c.futex_until_of.ensures)
    (ends_until c.begin_futex-wait.ensures.fresh c.run_asked-outcome.ensures)

pub returns-clause-up : goal.returns-clause-up
returns-clause-up g c = left_up c.run_asked-outcome.ensures

pub returns-clause-out : goal.returns-clause-out
returns-clause-out g c = left_out c.run_asked-outcome.ensures

pub returns-clause-held : goal.returns-clause-held
returns-clause-held g c = left_held c.run_asked-outcome.ensures

pub returns-clause-idle : goal.returns-clause-idle
returns-clause-idle g c = left_idle c.run_asked-outcome.ensures c.requires.idle.unmarked

pub returns-clause-carries : goal.returns-clause-carries
returns-clause-carries g c = left_carried c.run_asked-outcome.ensures c.requires.up c.requires.idle
    (c.begin_futex-wait.ensures.told.head ∙ c.requires.idle.free.head)

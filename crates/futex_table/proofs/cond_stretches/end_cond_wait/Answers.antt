use Rattle.std.proofs.Common.{subst}
use Rattle.futex_table.specs.LockLeaves.{WaitsForCondUntil}
use Rattle.futex_table.proofs.{CondStretching.plain_cond, TalliedCalls.stay_tallied}
use Rattle.futex_table.proofs.cond_stretches.end_cond_wait.Goals as goal

pub returns-clause-waited : goal.returns-clause-waited
returns-clause-waited c start x =
    let w = c.args.wait in
    plain_cond start c.args.task.now w.cond w.lock w.state c.in-Over.end
    (subst (WaitsForCondUntil ⊥ start c.args.task.now w.cond w.lock w.state) c.in-Over.is x.waited)

pub returns-clause-tallied : goal.returns-clause-tallied
returns-clause-tallied c start x = stay_tallied c.args.wait.lock start c.args.task.now x.left.tallies

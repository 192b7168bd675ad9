use Rattle.std.proofs.Common.{◌≡◌}
use Rattle.wq_head.specs.Readied.{IsUpAndIdle}
use Rattle.bench_threads.proofs.heads.wakes.Given as goal

abbrev pub invariant-loop : goal.invariant-loop
invariant-loop g l = (l.task.domain ≡ l.domain) × IsUpAndIdle l.task

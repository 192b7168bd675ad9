use Rattle.std.proofs.Common.{◌≡◌}
use Rattle.wq_head.specs.Readied.{IsReadyToCall}
use Rattle.bench_threads.proofs.heads.queue_many.Given as goal

abbrev pub invariant-loop : goal.invariant-loop
invariant-loop g l = (l.task.domain ≡ l.domain) × IsReadyToCall l.task

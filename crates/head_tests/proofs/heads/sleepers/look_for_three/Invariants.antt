use Rattle.std.proofs.Common.{◌≡◌}
use Rattle.wq_head.specs.Readied.{IsUpAndIdle}
use Rattle.head_tests.proofs.heads.sleepers.look_for_three.Given as goal

abbrev pub invariant-loop : goal.invariant-loop
invariant-loop l = (l.task.domain ≡ l.domain) × IsUpAndIdle l.task

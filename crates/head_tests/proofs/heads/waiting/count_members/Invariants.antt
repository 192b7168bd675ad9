use Rattle.std.proofs.Common.{◌≡◌}
use Rattle.wait_rule.specs.Says.{IsUp}
use Rattle.head_tests.proofs.heads.waiting.count_members.Given as goal

abbrev pub invariant-loop-number : goal.invariant-loop-number
invariant-loop-number l = (l.task.domain ≡ l.domain) × IsUp l.task

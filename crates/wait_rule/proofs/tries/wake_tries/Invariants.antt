use Rattle.std.proofs.Common.{◌≡◌, ◌-◌, ◌≤◌}
use Rattle.wait_rule.specs.declared.tries.TheConstants.{TRIES}
use Rattle.wait_rule.proofs.tries.wake_tries.Given as goal

abbrev pub invariant-loop-failed : goal.invariant-loop-failed
invariant-loop-failed l = (l.task ≡ l.initial.task) × (l.failed.count ≤ TRIES)

abbrev pub decreases-loop-failed : goal.decreases-loop-failed
decreases-loop-failed l = TRIES - l.failed.count

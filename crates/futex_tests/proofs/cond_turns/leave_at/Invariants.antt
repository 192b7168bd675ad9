use Rattle.std.specs.Prelude.{◌≡◌}
use Rattle.futex_table.specs.CondStretches.{IsCondUnderWay}
use Rattle.futex_tests.specs.CondTasks.{tested_cond}
use Rattle.futex_tests.proofs.cond_turns.leave_at.Given as goal

abbrev pub invariant-loop : goal.invariant-loop
invariant-loop g l = record { of : l.task.domain ≡ l.fn.domain; waiting : IsCondUnderWay tested_cond l.task l.at }

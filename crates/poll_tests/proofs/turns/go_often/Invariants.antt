use Rattle.std.proofs.Common.{◌≡◌}
use Rattle.poll_turns.specs.PollTurns.{IsPollUnderWay}
use Rattle.poll_tests.proofs.turns.go_often.Given as goal

abbrev pub invariant-loop : goal.invariant-loop
invariant-loop l = record { of : l.task.domain ≡ l.fn.domain; waiting : IsPollUnderWay l.fn.poll l.task l.at }

use Rattle.std.proofs.Common.{◌≡◌}
use Rattle.wait_rule.specs.Says.{IsClean}
use Rattle.poll_turns.specs.PollTurns.{IsPollUnderWay}
use Rattle.poll_tests.proofs.turns.orders.play_two.Given as goal

abbrev pub invariant-loop : goal.invariant-loop
invariant-loop g l = record {
  of_setter : l.setter.domain ≡ l.fn.domain;
  of_first : l.first.domain ≡ l.fn.domain;
  of_second : l.second.domain ≡ l.fn.domain;
  setter : IsClean l.setter;
  one : IsPollUnderWay l.fn.first_poll l.first l.at.0;
  two : IsPollUnderWay l.fn.second_poll l.second l.at.1;
}

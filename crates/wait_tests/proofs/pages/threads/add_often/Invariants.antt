use Rattle.std.proofs.Common.{◌≡◌}
use Rattle.wait_rule.specs.Says.{IsClean}
use Rattle.wait_tests.proofs.pages.threads.add_often.Given as goal

-- between two adds it owes nothing
abbrev pub invariant-loop : goal.invariant-loop
invariant-loop g l = record { of_domain : l.task.domain ≡ l.fn.domain; clean : IsClean l.task }

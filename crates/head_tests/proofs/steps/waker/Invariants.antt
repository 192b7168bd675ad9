use Rattle.std.proofs.Common.{◌≡◌}
use Rattle.wait_model.specs.Totals.{total}
use Rattle.head_tests.specs.Meeting.{wakes_task}
use Rattle.wait_rule.specs.Says.{IsUp, history_of}
use Rattle.head_tests.proofs.steps.waker.Given as goal

abbrev pub invariant-loop : goal.invariant-loop
invariant-loop g l = (l.task.domain ≡ l.domain) × IsUp l.task × (total (wakes_task l.who) (history_of l.task) ≡ 0)
    × (l.task.view.joined ≡ l.initial.task.view.joined)

use Rattle.std.proofs.Common.{◌≡◌}
use Rattle.wait_class.specs.Posts.{own_of}
use Rattle.wait_event.specs.Prepares.{MayFinish, MayPrepare}
use Rattle.wait_rule.specs.{Says.OwesBut, Says.no_excuse, Stays.with_entry}
use Rattle.wait_tests.proofs.events.parts.wait_in_turns.Given as goal

abbrev pub invariant-loop : goal.invariant-loop
invariant-loop g l = record {
  of : l.task.domain ≡ l.fn.domain;
  again : MayPrepare l.task l.fn.watch l.fn.kind l.fn.state;
  may : MayFinish l.task;
  owes : OwesBut (with_entry (own_of l.task) no_excuse) l.task;
}

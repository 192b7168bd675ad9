use Rattle.std.proofs.Common.{◌≤◌, ◌-◌}
use Rattle.wait_model.specs.declared.layout.TheConstants.{MEMBERS}
use Rattle.wq_head.specs.Looks.{Looks}
use Rattle.wq_head.specs.Looking.{AreNone, IsLookingBy, HasLoaded}
use Rattle.wq_head.proofs.looking.next_set.Given as goal

abbrev pub invariant-loop-looking : goal.invariant-loop-looking
invariant-loop-looking l = record {
  looks : Looks l.fn.task l.task;
  looked : IsLookingBy l.task l.looking;
  none : AreNone l.task l.fn.looking.next l.looking.next;
  low : l.fn.looking.next ≤ l.looking.next;
  loaded : HasLoaded l.fn.task l.task l.fn.looking.next l.looking.next;
}

abbrev pub decreases-loop-looking : goal.decreases-loop-looking
decreases-loop-looking l = MEMBERS - l.looking.next

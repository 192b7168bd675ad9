use Rattle.std.proofs.Common.{◌-◌}
use Rattle.wait_model.specs.declared.layout.TheConstants.{MEMBERS}
use Rattle.wq_head.specs.{Looks.Looks, Looking.IsLookingBy}
use Rattle.wq_head.proofs.{ListedMembers.AreListed, CountedLooks.IsCounted}
use Rattle.wq_head.proofs.looks.members.Given as goal

abbrev pub invariant-loop-m : goal.invariant-loop-m
invariant-loop-m l = record {
  looks : Looks l.fn.task l.task;
  looked : IsLookingBy l.task l.looking;
  listed : AreListed l.task l.looking.next l.into.order.items l.into.words;
  counted : IsCounted l.fn.task l.task l.looking.next;
}

abbrev pub decreases-loop-m : goal.decreases-loop-m
decreases-loop-m l = MEMBERS - l.looking.next

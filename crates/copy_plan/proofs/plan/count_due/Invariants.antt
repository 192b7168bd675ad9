use Rattle.std.proofs.Common.{◌≡◌, length, take}
use Rattle.copy_plan.specs.Plans.{fatal_of, up_to}
use Rattle.copy_plan.proofs.plan.count_due.Given as goal

abbrev pub invariant-loop-planned : goal.invariant-loop-planned
invariant-loop-planned l = record {
  sent : l.sent ≡ length (up_to l.to (take l.planned-index l.plan));
  kills : l.kills ≡ length (fatal_of (up_to l.to (take l.planned-index l.plan)));
}

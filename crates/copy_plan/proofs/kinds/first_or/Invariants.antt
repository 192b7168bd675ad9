use Rattle.std.proofs.Common.{◌≡◌, drop}
use Rattle.copy_plan.specs.Kinds.{first_or}
use Rattle.copy_plan.proofs.kinds.first_or.Given as goal

abbrev pub invariant-loop-stop : goal.invariant-loop-stop
invariant-loop-stop l =
    first_or l.kind l.fn.stops l.other ≡ first_or l.kind (drop l.stop-index l.fn.stops) l.other

use Rattle.wait_rule.specs.PassedLocks.{PassesNone}
use Rattle.wait_leave.proofs.Ways.{IsOutStretch}
use Rattle.wait_leave.proofs.leaves.stretch_out.Given as goal

abbrev pub invariant-loop-turn : goal.invariant-loop-turn
invariant-loop-turn g l = IsOutStretch g.C.Machine.table g.C.Leavable.exits l.fn.task l.task l.fn.call l.call l.fn.stage
    l.at l._turn × PassesNone l.passing

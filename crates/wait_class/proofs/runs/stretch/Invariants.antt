use Rattle.wait_rule.specs.PassedLocks.{PassesNone}
use Rattle.wait_class.proofs.Falling.{IsInStretch}
use Rattle.wait_class.proofs.runs.stretch.Given as goal

abbrev pub invariant-loop-turn : goal.invariant-loop-turn
invariant-loop-turn g l = IsInStretch g.C.Machine.table l.fn.task l.task l.fn.run l.run l.fn.stage l.at l._turn
    × PassesNone l.passing

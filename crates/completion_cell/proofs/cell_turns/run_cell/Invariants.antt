use Rattle.std.specs.Prelude.{◌≡◌, []}
use Rattle.wait_rule.specs.PassedLocks.{PassesNone}
use Rattle.wq_head.specs.Roused.{tasks_in}
use Rattle.completion_cell.specs.CellTurns.{IsAtCell, IsFreshCell}
use Rattle.completion_cell.proofs.cell_turns.run_cell.Given as goal

abbrev pub invariant-loop : goal.invariant-loop
invariant-loop g l = IsFreshCell l.run l.fn.call l.fn.cell × IsAtCell l.fn.task l.task l.run l.stage
    × (l.task.domain ≡ l.fn.domain) × (tasks_in l.rousing ≡ []) × PassesNone l.passing

-- a call that starves does not return
abbrev pub invariant-loop-2 : goal.invariant-loop-2
invariant-loop-2 g l = Unit {0}

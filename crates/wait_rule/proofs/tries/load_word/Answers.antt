use Rattle.std.proofs.Common.{arith}
use Rattle.wait_rule.proofs.{TableSteps.TaskMoves.peek_moves, KnownLaws.StepCalls.may_step}
use Rattle.wait_rule.proofs.tries.load_word.Goals as goal

pub load-requires : goal.load-requires
load-requires c = may_step c.task.view_is c.requires.of c.domain.view_is c.domain.invariant
    (omega (arith, c.ranges.who, c.task_at-at.ensures))
    (peek_moves _ _ _ c.task.invariant.1 c.args.who _ (omega (arith, c.ranges.who)) c.task_at-at.ensures)

use Rattle.std.proofs.Common.{◌≡◌, ◌∙◌, ap, arith}
use Rattle.wait_model.specs.{Runs.state_of, declared.layout.TheConstants.SCRIPT_TASKS}
use Rattle.waitq_alone.specs.Drill.{asleep_below}
use Rattle.waitq_alone.proofs.silent.count_asleep.Goals as goal

pub returns : goal.returns
returns c =
    let all : c.loop-task.task ≡ SCRIPT_TASKS = omega (arith, c.loop-task-test.false, c.loop-task.auto.task-end) in
    c.loop-task.invariant.asleep ∙ ap (asleep_below (state_of c.args.core.now)) all

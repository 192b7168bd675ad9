use Rattle.wait_core.proofs.StepAnswers.{read_here}
use Rattle.wait_core.proofs.engine.Core.task_of.Goals as goal

pub returns : goal.returns
returns c = rw (← c.self.view_is) (read_here c.self.invariant.core c.deref.ensures.value c.read_task.ensures)

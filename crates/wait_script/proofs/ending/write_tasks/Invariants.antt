use Rattle.std.proofs.Common.{◌≤◌, ◌-◌}
use Rattle.edge_io.specs.Text.{Midway}
use Rattle.wait_model.specs.{Runs.state_of, declared.layout.TheConstants.TASKS}
use Rattle.wait_script.specs.Ending.{texts_from, line_of_task, tasks_text}
use Rattle.wait_script.proofs.ending.write_tasks.Given as goal

abbrev pub invariant-loop-task : goal.invariant-loop-task
invariant-loop-task g l = record {
  midway : Midway (g.K.Sink.held l.initial.out) (g.K.Sink.held l.out)
      (texts_from (line_of_task (state_of l.core)) l.task (TASKS - l.task)) (tasks_text (state_of l.core));
  later : g.K.Sink.faults l.initial.out ≤ g.K.Sink.faults l.out;
}

use Rattle.std.proofs.Common.{arith}
use Rattle.std.proofs.lemmas.Result.{err_from_is_err_and}
use Rattle.edge_io.proofs.Prefix.{broke_off, went_on, finished}
use Rattle.wait_model.specs.declared.layout.TheConstants.{TASKS}
use Rattle.wait_script.proofs.EndLines.{next_text, no_text}
use Rattle.wait_script.proofs.ending.write_tasks.Goals as goal

pub returns-in_err-write_task-clause-text : goal.returns-in_err-write_task-clause-text
returns-in_err-write_task-clause-text g c =
    let p = err_from_is_err_and c.from_residual.result c.from_residual.ensures.1 in
    rw p.1 (broke_off _ (g.K.Sink.held c.loop-task.out) _ _ _ _ _ c.loop-task.invariant.midway
    (next_text _ TASKS c.loop-task.task c.loop-task-test.true) c.in_err-write_task.ensures.text)

pub loop-task-preserved : goal.loop-task-preserved
loop-task-preserved g c = record {
  midway = went_on _ (g.K.Sink.held c.loop-task.out) _ _ _ _ _ c.loop-task.invariant.midway
      (next_text _ TASKS c.loop-task.task c.loop-task-test.true) c.in_ok-write_task.ensures.text;
  later = omega (arith, c.write_task.ensures.later);
}

pub returns-clause-text : goal.returns-clause-text
returns-clause-text g c =
    finished _ (g.K.Sink.held c.loop-task.out) _ _ c.loop-task.invariant.midway
    (no_text _ TASKS c.loop-task.task c.loop-task-test.false)

use Rattle.std.specs.Prelude.{ℕ, ◌<◌, ◌≤◌, true, false}
use Rattle.wait_model.specs.declared.layout.TheConstants.{TASKS, EVENTS}
use Rattle.std.proofs.Common.{arith, sym, subst, append-nil}
use Rattle.wait_core.proofs.{SpokenCalls.ended_well, FollowedRuns.left_now}
use Rattle.wait_core.proofs.StepAnswers.{read_progress, opened_at, may_step, read_here, runs_not, no_call, asleep}
use Rattle.wait_core.proofs.engine.Core.step.Goals as goal

pub returns-in_default : goal.returns-in_default
returns-in_default c = record {
  answer = no_call _ _ _ _ _ c.self.invariant.core c.args.task (omega arith) c.args.self.now c.self.view_is
      c.index.result.now
      (read_progress _ c.args.task c.from.result c.index.result.now c.self.invariant.core.tasks (omega arith)
      c.from.ensures c.index.ensures)
      c.in_default.not-Open;
  run = sym (append-nil c.args.self.now);
  sentence = λ call p e a q r. absurd (cc);
  setters = left_now c.self.inside.run.items c.args.self.now c.self.invariant.core c.self.view_is;
}

pub returns-then-not-read_task-clause-answer : goal.returns-then-not-read_task-clause-answer
returns-then-not-read_task-clause-answer c =
    let core = c.self.invariant.core in
    let mine : c.args.task < TASKS = omega arith in
    let stands = opened_at _ _ _ _ _ core _ _ _ _ _ mine c.from.ensures c.index.ensures
    c.in-Open.is in
    let is = read_here core c.deref.ensures.value c.read_task.ensures in
    asleep _ _ _ _ _ core c.args.task mine c.args.self.now c.self.view_is c.in-Open.call c.in-Open.point
    stands
    (runs_not true _ _ is c.if-not-read_task.true)

pub step_open-requires : goal.step_open-requires
step_open-requires c =
    let core = c.self.invariant.core in
    let mine : c.args.task < TASKS = omega arith in
    let stands = opened_at _ _ _ _ _ core _ _ _ _ _ mine c.from.ensures c.index.ensures
    c.in-Open.is in
    let record_is = read_here core c.deref.ensures.value c.read_task.ensures in
    may_step _ _ _ _ _ core c.args.task mine c.args.self.now c.self.view_is c.in-Open.call c.in-Open.point stands
    (runs_not false _ _ record_is c.if-not-read_task.false)

pub returns-clause-sentence : goal.returns-clause-sentence
returns-clause-sentence c =
    let core = c.self.invariant.core in
    let mine : c.args.task < TASKS = omega arith in
    ended_well c.args.self.now c.args.task _ (rw (← c.self.view_is) core.run)
    (rw (← c.self.view_is) (subst (λ (n : ℕ). n ≤ EVENTS) core.made core.few)) mine c.step_open.ensures.answer

-- the run as it was where nothing was made
pub returns-then-not-read_task-clause-setters : goal.returns-then-not-read_task-clause-setters
returns-then-not-read_task-clause-setters c =
    left_now c.self.inside.run.items c.args.self.now c.self.invariant.core c.self.view_is

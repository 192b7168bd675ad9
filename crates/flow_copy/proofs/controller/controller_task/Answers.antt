use Rattle.std.proofs.Common.{refl, arith}
use Rattle.copy_ends.proofs.Idlers.{control_ends, controlled_then, waits_more}
use Rattle.std.proofs.Common.{rules, subst}
use Rattle.std.specs.Prelude.{ℕ, ◌≡◌, Err}
use Rattle.copy_ends.specs.Copied.{WaitsTimes}
use Rattle.flow_copy.specs.Workers.{ControllerGoes, lost_wait, saw_all}
use Rattle.flow_copy.proofs.controller.controller_task.Goals as goal

pub loop-ended-preserved : goal.loop-ended-preserved
loop-ended-preserved g c = record {
  controlled = controlled_then c.args.task.now c.loop-ended.task c.await_one.new.task c.loop-ended.invariant.controlled
      c.await_one.ensures.controlled;
  waits = waits_more c.loop-ended.ended _ c.args.task.now c.loop-ended.task c.await_one.new.task refl
      c.loop-ended.invariant.waits c.in_ok-await_one.ensures.ends;
}

pub returns-clause-controlled : goal.returns-clause-controlled
returns-clause-controlled g c =
    controlled_then c.args.task.now c.loop-ended.task c.read_tally.new.task c.loop-ended.invariant.controlled
    c.read_tally.ensures.controlled

pub returns-clause-ends : goal.returns-clause-ends
returns-clause-ends g c =
    let all : c.loop-ended.ended ≡ c.args.workers = omega arith in
    control_ends c.args.workers c.args.task.now c.loop-ended.task c.read_tally.new.task c.read_tally.result
    (subst (λ (n : ℕ). WaitsTimes n c.args.task.now c.loop-ended.task) all c.loop-ended.invariant.waits)
    c.read_tally.ensures.ends

pub returns-in_err-await_one-clause-goes : goal.returns-in_err-await_one-clause-goes
returns-in_err-await_one-clause-goes g c =
    let lost : ControllerGoes c.args.workers c.args.task.now c.await_one.new.task (Err c.in_err-await_one.field-0.0)
    = lost_wait c.loop-ended.ended c.loop-ended.task c.in_err-await_one.field-0.0 (omega arith)
    c.loop-ended.invariant.waits c.in_err-await_one.ensures.loses in
    search rules

pub returns-clause-goes : goal.returns-clause-goes
returns-clause-goes g c =
    let all : c.loop-ended.ended ≡ c.args.workers = omega arith in
    saw_all c.loop-ended.task c.read_tally.result
    (subst (λ (n : ℕ). WaitsTimes n c.args.task.now c.loop-ended.task) all c.loop-ended.invariant.waits)
    c.read_tally.ensures.goes

use Rattle.std.proofs.Common.{ap, length, ◌∙◌, arith, sym}
use Rattle.std.specs.Prelude.{true, false}
use Rattle.copy_plan.specs.Plans.{fatal_of}
use Rattle.copy_plan.proofs.DueParts.{due_kills, due_passed, due_sent, few_kills, few_sent}
use Rattle.copy_plan.proofs.plan.count_due.Goals as goal
use Rattle.copy_plan.proofs.plan.count_due.Goals.{then-planned-to+then-planned, then-planned-to+else-planned}
use Rattle.copy_plan.proofs.plan.count_due.Goals.{else-planned-to}

pub overflow_add-sent : goal.overflow_add-sent
overflow_add-sent c =
    let e = few_sent c.args.plan.now c.loop-planned.planned-index c.args.to c.loop-planned-test.true in omega arith

pub overflow_add-kills : goal.overflow_add-kills
overflow_add-kills c =
    let e = few_kills c.args.plan.now c.loop-planned.planned-index c.args.to c.loop-planned-test.true in omega arith

pub loop-planned-preserved : goal.loop-planned-preserved
loop-planned-preserved c = elim c.if-planned-to.branch [
  | then-planned-to+then-planned w ↦
      let e = due_sent c.args.plan.now c.loop-planned.planned-index _ c.loop-planned-test.true c.args.to
      w.if-planned-to.true in
      let f = due_kills c.args.plan.now c.loop-planned.planned-index _ c.loop-planned-test.true c.args.to true
      w.if-planned-to.true w.if-planned.true in
      record { sent = omega arith; kills = omega arith }
  | then-planned-to+else-planned w ↦
      let e = due_sent c.args.plan.now c.loop-planned.planned-index _ c.loop-planned-test.true c.args.to
      w.if-planned-to.true in
      let f = due_kills c.args.plan.now c.loop-planned.planned-index _ c.loop-planned-test.true c.args.to false
      w.if-planned-to.true w.if-planned.false in
      record { sent = omega arith; kills = omega arith }
  | else-planned-to w ↦
      let e = due_passed c.args.plan.now c.loop-planned.planned-index _ c.loop-planned-test.true c.args.to
      w.if-planned-to.false in
      record {
        sent = w.sent-is ∙ (c.loop-planned.invariant.sent ∙ sym (ap length e));
        kills = w.kills-is ∙ (c.loop-planned.invariant.kills ∙ sym (ap (λ l. length (fatal_of l)) e));
      }
]

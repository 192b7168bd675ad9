use Rattle.std.proofs.Common.{◌∙◌, ap, sym, refl, subst, false}
use Rattle.std.proofs.lemmas.Result.{IfOk-weaker}
use Rattle.wait_model.specs.declared.steps.Step.TheVariants as step
use Rattle.wait_rule.specs.declared.journal.Item.TheVariants as item
use Rattle.wait_rule.specs.Known.{Known}
use Rattle.wq_head.specs.Roused.{RousesNone}
use Rattle.wq_head.specs.Walking.{IsNextEntry, HasCalled, WakesOff}
use Rattle.wq_head.proofs.BitEntries.{bit_here, tested_next, bit_called, set_passed}
use Rattle.wq_head.proofs.RousedTasks.{none_added, roused_none, roused_then, then_roused}
use Rattle.wq_head.proofs.functions.bit_wake.Goals as goal

-- the bit is set
pub returns-then-misses-clause-called : goal.returns-then-misses-clause-called
returns-then-misses-clause-called c w n =
    subst (λ (k : Known). HasCalled c.args.aim c.args.task.now k w c.args.visit false) (sym c.cond_load.ensures.step)
    (set_passed c.args.aim c.args.task.now c.args.visit c.requires.full w n c.cond_load.result
    (bit_here c.args.aim c.args.task.now c.args.visit w n c.requires.kind) c.requires.kind
    (sym c.misses.ensures ∙ c.if-misses.true))

pub returns-then-misses-clause-rouses : goal.returns-then-misses-clause-rouses
returns-then-misses-clause-rouses c =
    let k = c.args.task.now in
    let r = c.args.rousing.now in
    roused_then k k c.cond_load.new.task r r (roused_none k r)
    (subst (RousesNone k) (sym c.cond_load.ensures.step)
    (none_added k (item.Made (step.Load c.args.aim.watch c.cond_load.result)) refl))
    (ap (λ (j : Known). j.domain) c.cond_load.ensures.step)

pub wake_off-requires-clause-next : goal.wake_off-requires-clause-next
wake_off-requires-clause-next c =
    let n = c.requires.next in (
      n.0,
      subst (λ (k : Known). IsNextEntry c.args.aim k n.0 c.args.visit) (sym c.cond_load.ensures.step)
          (tested_next c.args.aim c.args.task.now c.args.visit c.requires.full n.0 n.1 c.cond_load.result
          (bit_here c.args.aim c.args.task.now c.args.visit n.0 n.1 c.requires.kind)),
    )

pub returns-clause-called : goal.returns-clause-called
returns-clause-called c = IfOk-weaker c.wake_off.result _ _ (λ yes o w n.
    bit_called c.args.aim c.args.task.now c.args.visit c.requires.full w n c.cond_load.result
    (bit_here c.args.aim c.args.task.now c.args.visit w n c.requires.kind) c.requires.kind
    (sym c.misses.ensures ∙ c.if-misses.false) c.wake_off.new.task yes
    (subst (λ (k : Known). WakesOff c.args.aim k c.wake_off.new.task c.args.visit yes) c.cond_load.ensures.step o))
    c.wake_off.ensures.off

pub returns-clause-rouses : goal.returns-clause-rouses
returns-clause-rouses c =
    let k = c.args.task.now in
    then_roused k c.cond_load.new.task c.wake_off.new.task c.args.rousing.now c.wake_off.new.rousing
    (subst (RousesNone k) (sym c.cond_load.ensures.step)
    (none_added k (item.Made (step.Load c.args.aim.watch c.cond_load.result)) refl))
    (ap (λ (j : Known). j.domain) c.cond_load.ensures.step) c.wake_off.ensures.rouses

use Rattle.std.proofs.Common.{◌∙◌, ap, sym, refl, subst}
use Rattle.wait_model.specs.declared.steps.Step.TheVariants as step
use Rattle.wait_model.specs.Fold.{met_task}
use Rattle.wait_rule.specs.declared.journal.Item.TheVariants as item
use Rattle.wait_rule.specs.{Known.Known, Says.added, Queues.MayUnqueue, Queues.index}
use Rattle.wq_head.specs.{Roused.RousesNone, Walking.woke_by}
use Rattle.wq_head.proofs.{EntryOffs.off_may, RousedTasks.none_stored, RousedTasks.roused_then}
use Rattle.wq_head.proofs.functions.wake_off.Goals as goal

pub unqueue_member-requires-clause-may : goal.unqueue_member-requires-clause-may
unqueue_member-requires-clause-may c =
    let s = c.in_ok-yes.ensures.step in
    let slot = c.slot.result in
    let k = c.args.task.now in
    let is = s.2 ∙ (λ i. added k (item.Made (step.Wake (c.owner.ensures.owner i) (c.mask.ensures i) s.0))) in
    let same = sym c.if-yes.true ∙ (s.3 ∙ (λ i. met_task (c.mask.ensures i) s.0)) in
    subst (λ (j : Known). MayUnqueue j c.owner-then-yes.result slot) (sym is)
    (subst (λ (who : _). MayUnqueue (woke_by c.args.aim k c.args.visit s.0) who slot)
    (sym c.owner-then-yes.ensures.owner)
    (off_may c.args.aim k c.args.visit c.requires.full c.requires.next.0 c.requires.next.1 s.0 c.requires.takes same
    slot c.slot.ensures.slot))

pub returns-then-yes-clause-rouses : goal.returns-then-yes-clause-rouses
returns-then-yes-clause-rouses c =
    let x = index c.owner-then-yes.result c.slot.result in
    roused_then c.args.task.now c.wake_later.new.task c.unqueue_member.new.task c.args.rousing.now
    c.wake_later.new.rousing c.wake_later.ensures.rouses
    (subst (RousesNone c.wake_later.new.task) (sym c.unqueue_member.ensures.step)
    (none_stored c.wake_later.new.task (step.Unqueue x) refl)) (ap (λ (k : Known). k.domain) c.unqueue_member.ensures.step)

use Rattle.std.proofs.Common.{◌∙◌, ap, sym, refl, subst}
use Rattle.std.specs.Prelude.{ℕ}
use Rattle.wait_model.specs.declared.steps.Step.TheVariants as step
use Rattle.wait_rule.specs.declared.journal.Item.TheVariants as item
use Rattle.wait_rule.specs.{Known.Known, PageCalls.HasTold, Says.added, Says.told_of, Queues.index}
use Rattle.wait_rule.proofs.KnownLaws.CarriedPages.{told_woken}
use Rattle.wq_head.specs.Roused.{RousesNone}
use Rattle.wq_head.proofs.RousedTasks.{none_added, none_stored, roused_then, then_roused}
use Rattle.wq_head.proofs.functions.hand_page.Goals as goal

-- the task was told, and a wake of it with NORMAL was made
pub unqueue_handed-requires-clause-told : goal.unqueue_handed-requires-clause-told
unqueue_handed-requires-clause-told c =
    let s = c.in_ok-wake_later.ensures.step in
    let k = c.args.task.now in
    let who = c.owner-3.result in
    let slot = c.slot-2.result in
    let at_v = ap (λ (o : ℕ). index o slot) c.owner-3.ensures.owner ∙ c.slot-2.ensures.slot in
    let at_1 = ap (λ (o : ℕ). index o c.slot.result) c.owner.ensures.owner ∙ c.slot.ensures.slot in
    let told = c.handed_store.ensures.step ∙ ap (λ (x : ℕ). added k (item.Made (step.Handed x))) (at_1 ∙ sym at_v) in
    let same_who = c.owner-2.ensures.owner ∙ sym c.owner-3.ensures.owner in
    let is = s.2 ∙ (λ i. added (told i) (item.Made (step.Wake (same_who i) (c.mask.ensures i) s.0))) in
    subst (λ (j : Known). HasTold j who slot) (sym is)
    (told_woken k who slot s.0 c.args.visit.entry (ap (told_of k).hold.book at_v ∙ c.requires.shows))

-- whom it is to rouse
pub returns-in_err-wake_later-clause-rouses : goal.returns-in_err-wake_later-clause-rouses
returns-in_err-wake_later-clause-rouses c = then_roused c.args.task.now c.handed_store.new.task c.wake_later.new.task
    c.args.rousing.now c.wake_later.new.rousing
    (subst (RousesNone c.args.task.now) (sym c.handed_store.ensures.step) (none_added c.args.task.now
    (item.Made (step.Handed (index c.owner.result c.slot.result))) refl))
    (ap (λ (k : Known). k.domain) c.handed_store.ensures.step) c.wake_later.ensures.rouses

pub returns-clause-rouses : goal.returns-clause-rouses
returns-clause-rouses c = roused_then c.args.task.now c.wake_later.new.task c.unqueue_handed.new.task
    c.args.rousing.now c.wake_later.new.rousing (then_roused c.args.task.now
    c.handed_store.new.task c.wake_later.new.task c.args.rousing.now c.wake_later.new.rousing
    (subst (RousesNone c.args.task.now) (sym c.handed_store.ensures.step) (none_added c.args.task.now
    (item.Made (step.Handed (index c.owner.result c.slot.result))) refl))
    (ap (λ (k : Known). k.domain) c.handed_store.ensures.step) c.wake_later.ensures.rouses)
    (subst (RousesNone c.wake_later.new.task) (sym c.unqueue_handed.ensures.step)
    (none_stored c.wake_later.new.task (step.Unqueue (index c.owner-3.result c.slot-2.result)) refl))
    (ap (λ (k : Known). k.domain) c.unqueue_handed.ensures.step)

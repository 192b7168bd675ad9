use Rattle.std.proofs.Common.{◌∙◌, ap, sym, subst}
use Rattle.wait_model.specs.declared.steps.Step.TheVariants as step
use Rattle.wait_model.specs.declared.watches.Mode.TheVariants as mode
use Rattle.wait_model.specs.Watches.{mask_of}
use Rattle.wait_rule.specs.declared.journal.Item.TheVariants as item
use Rattle.wait_rule.specs.{Known.Known, Says.added, PageCalls.HasTold}
use Rattle.wait_rule.proofs.KnownLaws.CarriedPages.{told_woken}
use Rattle.wait_rule.proofs.pages.hand_over.Goals as goal

pub unqueue_handed-requires-clause-told : goal.unqueue_handed-requires-clause-told
unqueue_handed-requires-clause-told g c = subst (λ (k : Known). HasTold k c.args.who c.args.slot)
    (sym (c.wake_task-met.ensures.step.2
    ∙ ap (λ (k : Known). added k (item.Made (step.Wake c.args.who
    (mask_of mode.Normal) c.wake_task-met.ensures.step.0)))
    c.handed_store.ensures.step))
    (told_woken c.args.task.now c.args.who c.args.slot c.wake_task-met.ensures.step.0 c.requires.entry.0
    c.requires.entry.1)

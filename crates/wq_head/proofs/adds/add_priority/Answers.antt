use Rattle.std.proofs.Common.{refl, sym, true}
use Rattle.std.proofs.lemmas.Result.{IfOk-weaker}
use Rattle.wait_model.specs.declared.queues.Form.TheVariants as forms
use Rattle.wq_head.specs.Adds.{priority_entry}
use Rattle.wq_head.proofs.AddedEntries.{added_at, plain_tries}
use Rattle.wq_head.proofs.PermitHeads.{found_low, plain_low}
use Rattle.wq_head.proofs.adds.add_priority.Goals as goal

pub add-requires-clause-permits : goal.add-requires-clause-permits
add-requires-clause-permits c = found_low c.args.task.now c.args.slot _ (sym c.requires.head)
    (plain_low c.args.watch c.args.kind c.requires.plain)

pub returns-clause-queued : goal.returns-clause-queued
returns-clause-queued c = IfOk-weaker c.add.result _ _ (λ _ h. added_at forms.Priority c.args.task.now c.add.new.task
    c.args.slot (priority_entry c.args.watch c.args.kind) (λ p. refl) h
    (plain_tries c.args.watch c.args.kind true true h.place c.requires.plain)
    (plain_low c.args.watch c.args.kind c.requires.plain)) c.add.ensures.queued

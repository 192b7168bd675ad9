use Rattle.std.proofs.Common.{◌∙◌, ap}
use Rattle.wait_rule.specs.{Known.Known, Says.added, Queues.index}
use Rattle.wait_rule.proofs.KnownLaws.CarriedStores.{entry_put_as}
use Rattle.wait_rule.specs.declared.journal.Item.TheVariants as item
use Rattle.wait_rule.proofs.members.queue_member.Goals as goal

pub returns-clause-stores : goal.returns-clause-stores
returns-clause-stores c e is =
    let s = c.queue_store.ensures.step in
    entry_put_as c.args.task.now c.member_store.new.task (index c.args.task.now.view.number c.args.slot) _ s.0 e s.1 is
    (c.member_store.ensures.step ∙ ap (λ (k : Known). added k item.Member) s.2)

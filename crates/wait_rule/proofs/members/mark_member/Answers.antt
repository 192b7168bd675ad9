use Rattle.std.proofs.Common.{◌∙◌, ap, sym, arith}
use Rattle.std.specs.Prelude.{ℕ, Some}
use Rattle.wait_rule.specs.{Known.Known, Says.added}
use Rattle.wait_rule.proofs.KnownLaws.MemberBits.{may_store, mark_head, mark_index, mark_put}
use Rattle.wait_rule.proofs.KnownLaws.CarriedStores.{bookmark_put}
use Rattle.wait_rule.specs.declared.journal.Item.TheVariants as item
use Rattle.wait_model.specs.Tables.{mark_of}
use Rattle.wait_rule.proofs.members.mark_member.Goals as goal

pub member_store-requires-clause-may : goal.member_store-requires-clause-may
member_store-requires-clause-may c =
    let n = c.number.ensures in
    may_store c.args.task.now c.mark_store.new.task c.task.inside.head _ _ _ c.mark_store.ensures.step
    (mark_head _ c.args.task.now.book ∙ (c.requires.held ∙ ap (λ (k : Known). Some k.at) (sym c.task.view_is)))
    (mark_index _ c.args.task.now.book c.args.task.now.view.number ∙ ap (λ (x : ℕ). Some x)
    (omega (arith, n.number, c.from-index.ensures)))
    (mark_put c.args.word c.args.task.now.book)

pub returns-clause-stores : goal.returns-clause-stores
returns-clause-stores c = bookmark_put c.args.task.now c.member_store.new.task (mark_of c.args.word)
    (c.member_store.ensures.step ∙ ap (λ (k : Known). added k item.Member) c.mark_store.ensures.step)

use Rattle.std.proofs.Common.{◌∙◌, sym, ap, subst}
use Rattle.std.specs.Prelude.{◌≡◌, ◌+◌, ℕ, Bool, Some}
use Rattle.wait_rule.specs.declared.journal.Item.TheVariants as item
use Rattle.wait_rule.specs.{Says.added, Says.told_of, Queues.saw, Looking.HasSeenEntries}
use Rattle.wait_rule.proofs.KnownLaws.MemberLooks.{entry_more, entry_off, whose_entry}
use Rattle.head_tests.proofs.steps.queues.see_entries.Goals.{then-queued, else-queued}
use Rattle.head_tests.proofs.steps.queues.see_entries.Goals as goal

pub loop-i-preserved : goal.loop-i-preserved
loop-i-preserved c =
    let first = c.args.task.now in
    let old = c.loop-i.task in
    let new = c.entry_load.new.task in
    let i = c.loop-i.i in
    let w = c.entry_load.result.0 in
    let inv = c.loop-i.invariant in
    let held : old.book.head ≡ Some first.at = ap (λ b. b.head) inv.book ∙ c.requires.held in
    let told : (told_of old).hold.head ≡ Some first.at = inv.head ∙ (c.told.ensures.head ∙ c.requires.held) in
    let is : new ≡ added old (item.Made (saw old.book.head i w)) =
    c.entry_load.ensures.step ∙ ap (λ (x : ℕ). added old (item.Made (saw old.book.head x w))) (whose_entry i) in
    elim c.if-queued.branch [
      | then-queued b ↦ subst (λ (e : Bool). HasSeenEntries first new e (i + 1)) (sym b.empty-is)
          (entry_more first old new first.at i w held told is c.loop-i.empty inv)
      | else-queued b ↦ subst (λ (e : Bool). HasSeenEntries first new e (i + 1)) (sym b.empty-is)
          (entry_off first old new first.at i w held told is (sym c.queued.ensures
          ∙ b.if-queued.false) c.loop-i.empty inv)
    ]

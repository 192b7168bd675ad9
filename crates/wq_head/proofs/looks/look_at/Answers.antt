use Rattle.std.proofs.Common.{◌∙◌, ◌≡◌, ◌/◌, ◌%◌, ℕ, true, ap, sym, refl, subst, arith}
use Rattle.wait_model.specs.declared.layout.TheConstants.{SLOTS}
use Rattle.wait_rule.specs.{Ends.place_in, Says.told_of, Says.noted, Queues.index}
use Rattle.wq_head.specs.Looks.{IsLow, entry_place, bookmark_place, is_seen_member}
use Rattle.wq_head.proofs.OneMoreLook.{entry_low, mark_low, saw_looks, saw_is_seen, saw_is_placed, mark_looks}
use Rattle.wq_head.proofs.OneMoreLook.{mark_is_seen, mark_is_placed}
use Rattle.wq_head.proofs.MemberStands.{few, far, saw_stands, mark_stands, saw_book, entry_reads}
use Rattle.wq_head.specs.Members.{IsShownMember, IsWordOf}
use Rattle.wq_head.proofs.looks.look_at.Goals as goal

there : (m : ℕ) → index (m / SLOTS) (m % SLOTS) ≡ m
there m = omega arith

pub returns-then-m-lt-ENTRIES-clause-looks : goal.returns-then-m-lt-ENTRIES-clause-looks
returns-then-m-lt-ENTRIES-clause-looks c = saw_looks _ _ _ _ c.requires.held c.entry_load-word.ensures.step
    c.entry_load-word.ensures.knew

pub returns-then-m-lt-ENTRIES-clause-seen : goal.returns-then-m-lt-ENTRIES-clause-seen
returns-then-m-lt-ENTRIES-clause-seen c =
    let m = c.args.m in
    let new = c.entry_load-word.new.task in
    let low = c.if-m-lt-ENTRIES.true in
    subst (λ (y : ℕ). is_seen_member (told_of new) (noted new) y ≡ true) (there m)
    (saw_is_seen _ _ _ _ c.requires.held c.entry_load-word.ensures.step c.entry_load-word.ensures.knew
    (few (index (m / SLOTS) (m % SLOTS)) (omega arith)))

pub returns-then-m-lt-ENTRIES-clause-place : goal.returns-then-m-lt-ENTRIES-clause-place
returns-then-m-lt-ENTRIES-clause-place c =
    let m = c.args.m in
    let new = c.entry_load-word.new.task in
    let low = c.if-m-lt-ENTRIES.true in
    subst (λ (y : ℕ). c.entry_place.result ≡ place_in (told_of new) (noted new) y) (there m)
    (c.entry_place.ensures ∙ ((λ i. entry_place (c.requires.head i) (c.entry_of.ensures i))
    ∙ sym (saw_is_placed _ _ _ _ c.requires.held c.entry_load-word.ensures.step c.entry_load-word.ensures.knew
    (few (index (m / SLOTS) (m % SLOTS)) (omega arith)))))

pub returns-else-m-lt-ENTRIES-clause-looks : goal.returns-else-m-lt-ENTRIES-clause-looks
returns-else-m-lt-ENTRIES-clause-looks c = mark_looks _ _ _ _ c.requires.held c.mark_load-word.ensures.step
    c.mark_load-word.ensures.knew

pub returns-else-m-lt-ENTRIES-clause-seen : goal.returns-else-m-lt-ENTRIES-clause-seen
returns-else-m-lt-ENTRIES-clause-seen c = mark_is_seen _ _ _ _ c.requires.held c.mark_load-word.ensures.step
    c.mark_load-word.ensures.knew c.args.m refl (far c.args.m c.if-m-lt-ENTRIES.false)

pub returns-else-m-lt-ENTRIES-clause-place : goal.returns-else-m-lt-ENTRIES-clause-place
returns-else-m-lt-ENTRIES-clause-place c = c.bookmark_place.ensures
    ∙ ((λ i. bookmark_place (c.requires.head i) (c.mark_of.ensures i))
    ∙ sym (mark_is_placed _ _ _ _ c.requires.held c.mark_load-word.ensures.step c.mark_load-word.ensures.knew
    c.args.m refl (far c.args.m c.if-m-lt-ENTRIES.false)))

pub returns-then-m-lt-ENTRIES-clause-below : goal.returns-then-m-lt-ENTRIES-clause-below
returns-then-m-lt-ENTRIES-clause-below c = subst IsLow
    (sym (c.entry_place.ensures ∙ ap (entry_place c.args.head) c.entry_of.ensures))
    (entry_low c.args.head _ _ c.entry_load-word.ensures.lawful)

pub returns-else-m-lt-ENTRIES-clause-below : goal.returns-else-m-lt-ENTRIES-clause-below
returns-else-m-lt-ENTRIES-clause-below c = subst IsLow
    (sym (c.bookmark_place.ensures ∙ ap (bookmark_place c.args.head) c.mark_of.ensures))
    (mark_low c.args.head _ c.mark_load-word.ensures.lawful)

pub returns-then-m-lt-ENTRIES-clause-stands : goal.returns-then-m-lt-ENTRIES-clause-stands
returns-then-m-lt-ENTRIES-clause-stands c =
    let m = c.args.m in
    let low = c.if-m-lt-ENTRIES.true in
    subst (IsShownMember c.entry_load-word.new.task) (there m)
    (saw_stands _ _ _ _ c.requires.held c.entry_load-word.ensures.step c.entry_load-word.ensures.knew
    c.entry_load-word.ensures.lawful (omega arith))

pub returns-else-m-lt-ENTRIES-clause-stands : goal.returns-else-m-lt-ENTRIES-clause-stands
returns-else-m-lt-ENTRIES-clause-stands c = mark_stands _ _ _ _ c.if-m-lt-ENTRIES.false
    (mark_is_placed _ _ _ _ c.requires.held c.mark_load-word.ensures.step c.mark_load-word.ensures.knew
    c.args.m refl (far c.args.m c.if-m-lt-ENTRIES.false)) c.mark_load-word.ensures.lawful

pub returns-then-m-lt-ENTRIES-clause-reads : goal.returns-then-m-lt-ENTRIES-clause-reads
returns-then-m-lt-ENTRIES-clause-reads c =
    let m = c.args.m in
    let low = c.if-m-lt-ENTRIES.true in
    let old = c.args.task.now in
    let new = c.entry_load-word.new.task in
    λ p at. subst (λ (y : ℕ). IsWordOf new y c.entry_load-word.result.0 p) (there m)
    (entry_reads new old.at (index (m / SLOTS) (m % SLOTS)) c.entry_load-word.result.0 p (omega arith)
    (saw_book old new (index (m / SLOTS) (m % SLOTS)) c.entry_load-word.result.0 c.requires.held
    c.entry_load-word.ensures.step
    c.entry_load-word.ensures.knew)
    (sym (c.entry_place.ensures ∙ (λ i. entry_place (c.requires.head i) (c.entry_of.ensures i))) ∙ at))

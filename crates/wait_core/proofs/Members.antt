-- A queue is the members of its head, so the first of it from a rank on is the head's next member.
use Rattle.std.proofs.lemmas.Bool.Decides.{nat_tests}
use Rattle.wait_model.specs.{declared.layout.TheConstants.ENTRIES, declared.queues.Member.Member}
use Rattle.wait_model.specs.{declared.queues.Mark.Mark, Runs.State}
use Rattle.wait_model.specs.Queues.{stand_of, member_from, IsIn}
use Rattle.wait_model.specs.Reached.{IsSound, IsMember, IsBookmark}
use Rattle.std.proofs.Common.{refl, sym, ◌∙◌, ap, subst, arith, inl, inr}
use Rattle.std.specs.Prelude.{ℕ, ◌≡◌, ◌+◌, ◌-◌, ◌<◌, ◌≤◌, Bool, true, false, nat_lt, Option, Some, None}
use Rattle.wait_model.proofs.QueueLaws.QueueOrder.{IsFirstFrom, first_is}
use Rattle.wait_model.proofs.QueueLaws.MemberStands.{some_stands, mark_stands, member_is}
use Rattle.wait_core.specs.Members.{IsMemberAt, IsNextAt}

module _ (s : State) (n : ℕ) (sound : IsSound s n) (head : ℕ) where
  abbrev stands : ℕ → Option Mark
  stands = stand_of s.table.entry s.table.mark

  abbrev there : Member → Mark
  there m = record { head = head; place = m.place }

  -- whatever stands at the head is in its queue
  stands_in : (m : Member) (k : Mark) → stands m.at ≡ Some k → k.head ≡ head → k.place ≡ m.place
      → IsIn m (s.queue head)
  stands_in m k is at place = subst (λ (j : ℕ). IsIn m (s.queue j)) at
      (subst (λ (p : ℕ). IsIn (record { at = m.at; place = p }) (s.queue k.head)) place
      (sound.linked.ordered.inside m.at k is).inside)

  member_in : (m : Member) → IsMemberAt s.table head m → IsIn m (s.queue head)
  member_in m (inl e) = stands_in m _ (some_stands s.table.entry s.table.mark m.at e.entry e.number e.stands) e.head
      e.place
  member_in m (inr k) = stands_in m (there m)
      (ap stands k.number ∙ mark_stands s.table.entry s.table.mark k.task ∙ k.stands) refl refl

  -- and whatever is in its queue stands there
  is_member : (m : Member) → IsIn m (s.queue head) → IsMemberAt s.table head m
  is_member m i = by (nat_lt m.at ENTRIES) refl (sound.linked.ordered.members head m i)
    where
      by : (b : Bool) → nat_lt m.at ENTRIES ≡ b → stands m.at ≡ Some (there m) → IsMemberAt s.table head m
      by true l is =
          let small : m.at < ENTRIES = grind (arith, nat_tests) in
          let it : IsMember s.table.entry head m = member_is s.table.entry s.table.mark s.queue n head m
          sound.linked.ordered small i in
          inl (record { number = small; entry = it.entry; stands = it.stands; head = it.head; place = it.place })
      by false l is =
          let large : ENTRIES ≤ m.at = grind (arith, nat_tests) in
          let number : m.at ≡ ENTRIES + (m.at - ENTRIES) = omega arith in
          let stand : s.table.mark (m.at - ENTRIES) ≡ Some (there m) =
          sym (mark_stands s.table.entry s.table.mark (m.at - ENTRIES)) ∙ ap stands (sym number) ∙ is in
          let k : IsBookmark (m.at - ENTRIES) (there m) = sound.linked.marks (m.at - ENTRIES) (there m) stand in
          inr (record { task = m.at - ENTRIES; exists = k.number; number = number; stands = stand })

  next_of : (least : ℕ) (r : Option Member) → IsFirstFrom (λ _. true) least (s.queue head) r
      → IsNextAt s.table head least r
  next_of least None f = λ m i. f m (member_in m i) refl
  next_of least (Some m) f = (is_member m f.0, f.2, λ o i l. f.3 o (member_in o i) refl l)

  pub next_member : (least : ℕ) → IsNextAt s.table head least (member_from least (s.queue head))
  next_member least = next_of least (member_from least (s.queue head))
      (first_is (λ _. true) least (s.queue head) (sound.linked.ordered.order head))

-- A walk comes to each entry of its watch in turn: none stands from where it goes on and before the one that it calls,
-- before the bookmark that it puts, or where it ends.
use Rattle.std.proofs.lemmas.Option.{none-some}
use Rattle.std.proofs.lemmas.Bool.Decides.{nat_tests}
use Rattle.std.proofs.Common.{refl, sym, ◌∙◌, ap, subst, arith, inl, inr}
use Rattle.std.specs.Prelude.{ℕ, ◌≡◌, ◌+◌, ◌-◌, ◌<◌, ◌≤◌, ◌⊎◌, Option, Some, None, Bool, true, false, List, nat_lt}
use Rattle.std.specs.Prelude.{if◌then◌else◌}
use Rattle.wait_model.specs.{declared.layout.TheConstants.ENTRIES, declared.layout.TheConstants.BREAK}
use Rattle.wait_model.specs.{declared.queues.Member.Member, declared.queues.Mark.Mark}
use Rattle.wait_model.specs.{declared.queues.CalledEntry.CalledEntry, declared.watches.Entry.Entry}
use Rattle.wait_model.specs.declared.watches.Watch.{Watch}
use Rattle.wait_model.specs.Queues.{is_entry, rank, rank_at, mark_place, IsIn}
use Rattle.wait_model.specs.Reached.{IsQueued, IsMember, IsLinked}
use Rattle.wait_model.specs.Runs.{own, called_as, called_by, called_of}
use Rattle.wait_model.specs.Watches.{same, head_of, owner, is_for}
use Rattle.wait_model.proofs.{Functions.both_left, QueueLaws.Arrivals.in_from, QueueLaws.MemberStands.some_stands}
use Rattle.wait_model.proofs.{QueueLaws.MemberStands.member_is, Sameness.same_head, WordLaws.DecodedWords.owner_own}
use Rattle.wait_model.proofs.QueueLaws.FoundEntries.{reach, arrived, inside}
use Rattle.wait_model.proofs.QueueLaws.PlacesApart.{AreApart, entry_number, entry_inside}

-- the parts of marks and of called entries that are one
mark_parts : (a b : Mark) → Some a ≡ Some b → (a.head ≡ b.head) × (a.place ≡ b.place)
mark_parts a b s = let z : a ≡ b = cc in (ap (λ (k : Mark). k.head) z, ap (λ (k : Mark). k.place) z)

called_parts : (a b : CalledEntry) → Some a ≡ Some b → (a.who ≡ b.who) × (a.place ≡ b.place)
called_parts a b s = let z : a ≡ b = cc in (ap (λ (k : CalledEntry). k.who) z, ap (λ (k : CalledEntry). k.place) z)

-- of two places the first is before the second, or they are one
place_case : (p q : ℕ) → p ≤ q → (p ≡ q) ⊎ (p < q)
place_case p q le = by (nat_lt p q) refl
  where
    by : (b : Bool) → nat_lt p q ≡ b → (p ≡ q) ⊎ (p < q)
    by true t = inr (grind (arith, nat_tests))
    by false t = inl (let u : q ≤ p = grind (arith, nat_tests) in omega arith)

module _ (entry : ℕ → Option Entry) (mark : ℕ → Option Mark) (queue : ℕ → List Member) (n : ℕ)
    (l : IsLinked entry mark queue n) where
  pub own_index : (x : ℕ) (e : Entry) → entry x ≡ Some e → own (owner x) ≡ x
  own_index x e stands =
      let q : IsQueued n x e = l.entries x e stands in
      ap own (ap owner q.is_own ∙ owner_own q.task) ∙ sym q.is_own

  -- two entries of a head, of which the first does not stand behind the second
  pub one_or_behind : AreApart entry → (x y : ℕ) (d e : Entry) → entry x ≡ Some d → entry y ≡ Some e
      → head_of d.watch ≡ head_of e.watch → d.place ≤ e.place → (x ≡ y) ⊎ (d.place < e.place)
  one_or_behind apart x y d e s t head le = elim (place_case d.place e.place le) [
    | inl q ↦ inl (apart x y d e s t head q)
    | inr q ↦ inr q
  ]

  module _ (c : Watch) (place calls : ℕ) (few : calls ≤ BREAK + 1) where
    -- an entry of the watch stands at the place, or behind it
    module _ (x : ℕ) (e : Entry) (stands : entry x ≡ Some e) (key : same e.watch c ≡ true) (from : place ≤ e.place)
      where
        abbrev it : Member
        it = record { at = x; place = e.place }

        small : x < ENTRIES
        small = entry_number entry mark queue n l x e stands

        -- the walk comes to it, or to a member before it
        first_called : (m : Member) × ((reach entry mark queue n l c place calls few).member ≡ Some m) ×
            (rank m ≤ rank it)
        first_called = (arrived entry mark queue n l c place calls few).ahead it
            (in_from (rank_at place) it (queue (head_of c)) (omega arith)
            (subst (λ (h : ℕ). IsIn it (queue h)) (same_head e.watch c key)
            (entry_inside entry mark queue n l x e stands)))
            (rw (ap (is_for c) stands, key) (let b : nat_lt x ENTRIES ≡ true =
            (let s = small in grind (arith, nat_tests))
            in rw b refl))

        -- where the walk does not break it calls an entry
        pub not_called : (reach entry mark queue n l c place calls few).breaks ≡ false
            → called_by entry (reach entry mark queue n l c place calls few).member ≡ None → ⊥
        not_called on none =
            let f = first_called in
            let k = (arrived entry mark queue n l c place calls few).called f.0 f.1 on in
            let b : is_entry f.0 ≡ true = both_left (is_entry f.0) (is_for c (entry f.0.at)) k.0 in
            let m : IsMember entry (head_of c) f.0 = member_is entry mark queue n (head_of c) f.0 l.ordered
            (grind (arith, nat_tests)) (inside entry mark queue n l c place calls few f.0 f.1) in
            some_called f.0 m.entry m.stands (ap (called_by entry) (sym f.1) ∙ none)
          where
            some_called : (m : Member) (g : Entry) → entry m.at ≡ Some g → called_by entry (Some m) ≡ None → ⊥
            some_called m g s h = let z : Some (called_of (owner m.at) g) ≡ None =
                sym (ap (called_as (owner m.at)) s) ∙ h
                in cc

        -- so a bookmark goes to no place behind it
        pub marked_before : mark_place (reach entry mark queue n l c place calls few).member ≤ e.place
        marked_before =
            let f = first_called in
            let s : x < ENTRIES = small in
            let r : rank f.0 ≤ rank it = f.2 in
            rw f.1 (by f.0 (is_entry f.0) r s)
          where
            by : (m : Member) (b : Bool) → rank m ≤ rank it → x < ENTRIES
                → (if b then m.place - 1 else m.place) ≤ e.place
            by m true r s = omega arith
            by m false r s = omega arith

        -- the entry that it calls is this one, or stands before it
        from_entry : AreApart entry → (d : CalledEntry) (m : Member) (g : Entry) → entry m.at ≡ Some g
            → (owner m.at ≡ d.who) × (g.place ≡ d.place) → (head_of g.watch ≡ head_of c) × (g.place ≡ m.place)
            → rank m ≤ rank it → (x ≡ own d.who) ⊎ (d.place < e.place)
        from_entry apart d m g s who there r =
            let xs : x < ENTRIES = small in
            let gp : g.place ≡ m.place = there.1 in
            elim (one_or_behind apart m.at x g e s stands (there.0 ∙ sym (same_head e.watch c key)) (omega arith)) [
              | inl q ↦ inl (sym q ∙ sym (own_index m.at g s) ∙ ap own who.0)
              | inr q ↦ inr (subst (λ (i : ℕ). i < e.place) who.1 q)
            ]

        pub at_or_behind : AreApart entry → (d : CalledEntry)
            → called_by entry (reach entry mark queue n l c place calls few).member ≡ Some d
            → (x ≡ own d.who) ⊎ (d.place < e.place)
        at_or_behind apart d is = by (entry f.0.at) refl
          where
            f : (m : Member) × ((reach entry mark queue n l c place calls few).member ≡ Some m) × (rank m ≤ rank it)
            f = first_called

            seen : called_as (owner f.0.at) (entry f.0.at) ≡ Some d
            seen = ap (called_by entry) (sym f.1) ∙ is

            by : (o : Option Entry) → entry f.0.at ≡ o → (x ≡ own d.who) ⊎ (d.place < e.place)
            by None s = absurd (none-some d (sym (ap (called_as (owner f.0.at)) s) ∙ seen))
            by (Some g) s = from_entry apart d f.0 g s
                (called_parts (called_of (owner f.0.at) g) d (sym (ap (called_as (owner f.0.at)) s) ∙ seen))
                (mark_parts (record { head = head_of g.watch; place = g.place })
                (record { head = head_of c; place = f.0.place })
                (sym (some_stands entry mark f.0.at g (entry_number entry mark queue n l f.0.at g s) s)
                ∙ l.ordered.members (head_of c) f.0 (inside entry mark queue n l c place calls few f.0 f.1))) f.2

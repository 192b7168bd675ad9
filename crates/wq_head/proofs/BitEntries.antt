-- The function of an entry for a bit, and the load that it begins with.
use Rattle.std.proofs.Common.{◌∙◌, ap, sym, refl, subst, inl, inr, arith}
use Rattle.std.proofs.lemmas.Bool.{and_from, or_left}
use Rattle.std.specs.Prelude.{ℕ, ◌+◌, ◌≡◌, ◌<◌, ◌≤◌, ◌⊎◌, ◌||◌, Bool, true, false, if◌then◌else◌, Option, Some}
use Rattle.std.specs.Prelude.{None, [], ◌∷◌}
use Rattle.wait_model.specs.{declared.layout.TheConstants.ENTRIES, declared.watches.Entry.Entry}
use Rattle.wait_model.specs.{declared.watches.Aim.Aim, declared.queues.Walking.Walking, Tasks.meets, Tasks.task_of}
use Rattle.wait_model.specs.{Fold.after, Fold.finds_bit_set, Programs.past, Programs.reached}
use Rattle.wait_model.specs.Watches.{owner, mask_of, misses, failing, is_bit, is_woken, is_page}
use Rattle.wait_model.specs.Views.{View as Told, Walk, Look, gone, passed}
use Rattle.wait_model.specs.declared.watches.Kind.TheVariants as kind
use Rattle.wait_model.specs.declared.points.Point.TheVariants as at
use Rattle.wait_model.specs.declared.points.WalkPoint.TheVariants as walking
use Rattle.wait_model.specs.declared.points.Next.TheVariants as next
use Rattle.wait_model.specs.declared.steps.Step.TheVariants as step
use Rattle.wait_rule.specs.declared.journal.Item.TheVariants as item
use Rattle.wait_rule.specs.{Known.Known, Queues.place_by, Notes.Notes, Shown.look_entry, Transitions.walk_program}
use Rattle.wait_rule.specs.Says.{told_of, noted, added}
use Rattle.wait_rule.proofs.KnownLaws.AfterSteps.{told_added, noted_added}
use Rattle.wait_rule.proofs.KnownLaws.Transitions.{goes_on}
use Rattle.wq_head.specs.{declared.functions.ShownEntry.ShownEntry, Walks.IsFull}
use Rattle.wq_head.specs.Walking.{StaysInWalk, IsHeld, AreCalled, IsWalking, IsCalling, IsNextEntry, HasCalled}
use Rattle.wq_head.specs.Walking.{WakesOff, woke_by, SamePlaces, entry_called, rest_of, with_left, is_used}
use Rattle.wq_head.proofs.{CalledEntries.called_less, FullHeads.one_of, FullHeads.kind_bit, PastMembers.passed_more}
use Rattle.wq_head.proofs.EntryFunctions.{passes_told, next_same, under_one}
use Rattle.wq_head.proofs.EntryOffs.{onto, off_bit, off_called}
use Rattle.wq_head.proofs.EntryWakes.{load_transition, load_goes, bit_transition, bit_goes}
use Rattle.wq_head.proofs.QuietSteps.{load_quiet, load_stays, quiet_marks, quiet_keeps, quiet_walking}
use Rattle.wq_head.proofs.ShownMembers.{whole_same, standing_same, places_same}

or_in : (a b c : Bool) → (a || b) ≡ true → (a || (b || c)) ≡ true
or_in true b c is = refl
or_in false true c is = refl
or_in false false c is = absurd (cc)

or_right : (a b c : Bool) → c ≡ true → (a || (b || c)) ≡ true
or_right true b c is = refl
or_right false true c is = refl
or_right false false c is = is

-- entries of kind Bit and of kind Page are for a bit
pub bit_here : (a : Aim) (k : Known) (v : ShownEntry) (w : Walking) → IsNextEntry a k w v → v.entry.kind ≡ kind.Bit
    → is_bit a.watch ≡ true
bit_here a k v w n is =
    let low = n.counts in
    let s = ((n.calling.standing v.member (omega arith)).entry low v.entry (ap look_entry n.shows)).0 in
    sym (one_of v.entry.watch a.watch n.sought).bit ∙ kind_bit v.member v.entry s is

-- the function of such an entry loads the bit
module _ (a : Aim) (k : Known) (v : ShownEntry) (full : IsFull a.watch) (w : Walking) (n : IsNextEntry a k w v)
    (r : ℕ) (tested_bit : is_bit a.watch ≡ true) where
  abbrev pub tested : Known
  tested = added k (item.Made (step.Load a.watch r))

  pub told_tested : told_of tested ≡ after (step.Load a.watch r) (told_of k)
  told_tested = told_added k (item.Made (step.Load a.watch r))

  pub tested_book : (told_of tested).hold.book ≡ (told_of k).hold.book
  tested_book = ap (λ (u : Told). u.hold.book) told_tested

  pub tested_marks : (noted tested).marks ≡ (noted k).marks
  tested_marks = quiet_marks a k (step.Load a.watch r) (load_quiet a.watch r)

  tested_notes : noted tested ≡ noted k
  tested_notes = noted_added k (item.Made (step.Load a.watch r))

  pub tested_keeps : StaysInWalk a k tested
  tested_keeps = quiet_keeps a k (step.Load a.watch r) (load_quiet a.watch r) (load_stays k a.watch r)

  pub tested_places : SamePlaces (v.entry.place + 1) (place_by k) (place_by tested)
  tested_places = places_same k tested tested_book tested_marks refl (v.entry.place + 1)

  gone_more : (x : ℕ) (e : Entry) → gone (told_of k) x e ≡ true → gone (after (step.Load a.watch r) (told_of k)) x e
      ≡ true
  gone_more x e was = by (is_woken e.kind) (is_page e.kind) was
    where
      by : (b p : Bool) → (if b then (told_of k).hold.rung x else if p then (told_of k).hold.moot
          else ((told_of k).hold.called (owner x) || (told_of k).hold.moot)) ≡ true
          → (if b then (told_of k).hold.rung x else if p then (after (step.Load a.watch r) (told_of k)).hold.moot
          else ((told_of k).hold.called (owner x) || (after (step.Load a.watch r) (told_of k)).hold.moot)) ≡ true
      by true p s = s
      by false true s = or_left (told_of k).hold.moot (finds_bit_set (told_of k).walk a.watch r) s
      by false false s = or_last (told_of k).hold.called (owner x) s
        where
          or_last : (f : ℕ → Bool) (o : ℕ) → (f o || (told_of k).hold.moot) ≡ true
              → (f o || ((told_of k).hold.moot || finds_bit_set (told_of k).walk a.watch r)) ≡ true
          or_last f o t = or_in (f o) (told_of k).hold.moot (finds_bit_set (told_of k).walk a.watch r) t

  found_set : misses a.watch r ≡ true → finds_bit_set (told_of k).walk a.watch r ≡ true
  found_set set =
      let held : IsHeld a k (rest_of a w) = n.calling.walking.held in
      ap (λ (t : Option Walk). finds_bit_set t a.watch r) held.under.under
      ∙ and_from (is_bit held.walk.watch) (failing a.watch r held.walk.watch)
      (sym (under_one a k (rest_of a w) held).bit ∙ tested_bit)
      ((under_one a k (rest_of a w) held).fails tested_bit r ∙ set)

  called_same : (place : ℕ) → AreCalled a k place → AreCalled a tested place
  called_same place c = called_less a k tested place (ap (λ (m : Notes). m.from) tested_notes)
      (ap (λ (m : Notes). m.called) tested_notes)
      (λ y e _ there. ap (λ (f : ℕ → Look). look_entry (f y)) (sym tested_book) ∙ there) c

  -- where it is clear the walk goes on to wake the task
  tested_walking : IsWalking a tested w.place (rest_of a w)
  tested_walking = quiet_walking a k (step.Load a.watch r) (load_quiet a.watch r) w.place w.place (rest_of a w)
      (rest_of a w) n.calling.walking (ap (λ (m : Notes). m.walk) tested_notes ∙ n.calling.walking.held.aim)
      (ap (λ (m : Notes). m.used) tested_notes ∙ n.calling.walking.held.used)
      (called_same w.place n.calling.walking.called)
      (λ p. subst (λ (u : Told). (y : ℕ) → y < ENTRIES
      → (passed n.calling.walking.held.walk u (λ _. false) (u.hold.book y) y ≡ true)
      ⊎ ((f : Entry) × (look_entry (u.hold.book y) ≡ Some f) × (w.place ≤ f.place))) (sym told_tested)
      (λ y low. elim (p y low) [
        | inl done ↦ inl (passed_more n.calling.walking.held.walk (told_of k) (after (step.Load a.watch r) (told_of k))
            (λ _. false) (λ _. false) ((told_of k).hold.book y) y (λ q s. s) (gone_more y) done)
        | inr c ↦ inr c
      ]))

  pub tested_next : IsNextEntry a tested w v
  tested_next = next_same a k tested w v tested_book tested_marks refl refl
      (ap (λ (u : Told). u.bits.stored) told_tested) tested_walking n

  pub bit_called : v.entry.kind ≡ kind.Bit → misses a.watch r ≡ false → (new : Known) (yes_no : Bool)
      → WakesOff a tested new v yes_no → HasCalled a k new w v yes_no
  bit_called is clear = off_called a k tested v full w tested_next (off_bit v.entry.kind is) tested_keeps tested_places
      (λ found real c. (
        load_transition a k v full w n real c r
            ∷ bit_transition a k v full w n real c tested (owner v.member) (mask_of a.mode) found ∷ [],
        goes_on (walk_program a) k tested (woke_by a tested v found) (next.Go (at.Walk (walking.Call real)))
            (next.Go (at.Walk (walking.Bit (reached real w.calls) (entry_called v))))
            (onto a v w real (meets (mask_of a.mode) (task_of found).state))
            (load_transition a k v full w n real c r ∷ [])
            (bit_transition a k v full w n real c tested (owner v.member) (mask_of a.mode) found ∷ [])
            (load_goes a k v full w n real c r false clear is)
            (bit_goes a k v full w n real c tested (owner v.member) (mask_of a.mode) found refl refl),
      ))

  -- where it is set the walk is past all entries
  pub set_moot : misses a.watch r ≡ true → (told_of tested).hold.moot ≡ true
  set_moot set = ap (λ (u : Told). u.hold.moot) told_tested
      ∙ or_set (told_of k).hold.moot (finds_bit_set (told_of k).walk a.watch r) (found_set set)
    where
      or_set : (b c : Bool) → c ≡ true → (b || c) ≡ true
      or_set true c is = refl
      or_set false c is = is

  -- and the function of an entry for the bit answers no
  moot_now : v.entry.kind ≡ kind.Bit → misses a.watch r ≡ true
      → gone (after (step.Load a.watch r) (told_of k)) v.member v.entry ≡ true
  moot_now is set = ap (λ (b : Bool). if b then (told_of k).hold.rung v.member
      else if is_page v.entry.kind then (after (step.Load a.watch r) (told_of k)).hold.moot
      else ((told_of k).hold.called (owner v.member) || (after (step.Load a.watch r) (told_of k)).hold.moot))
      (ap is_woken is)
      ∙ (ap (λ (b : Bool). if b then (after (step.Load a.watch r) (told_of k)).hold.moot
      else ((told_of k).hold.called (owner v.member) || (after (step.Load a.watch r) (told_of k)).hold.moot))
      (ap is_page is)
      ∙ or_right ((told_of k).hold.called (owner v.member)) (told_of k).hold.moot
      (finds_bit_set (told_of k).walk a.watch r) (found_set set))

  set_calling : v.entry.kind ≡ kind.Bit → misses a.watch r ≡ true
      → IsCalling a tested (v.entry.place + 1) (rest_of a (past w (entry_called v) false))
  set_calling is set = record {
    walking = quiet_walking a k (step.Load a.watch r) (load_quiet a.watch r) w.place (v.entry.place + 1) (rest_of a w)
        (rest_of a (past w (entry_called v) false)) n.calling.walking
        (ap (λ (m : Notes). m.walk) tested_notes ∙ (n.calling.walking.held.aim ∙ rest_same))
        (ap (λ (m : Notes). m.used) tested_notes ∙ (n.calling.walking.held.used ∙ ap is_used rest_same))
        set_called
        (λ p. subst (λ (u : Told). (x : ℕ) → x < ENTRIES
        → (passed n.calling.walking.held.walk u (λ _. false) (u.hold.book x) x ≡ true)
        ⊎ ((f : Entry) × (look_entry (u.hold.book x) ≡ Some f) × (v.entry.place + 1 ≤ f.place))) (sym told_tested)
        (passes_told a k v full w n n.calling.walking.held.walk (after (step.Load a.watch r) (told_of k)) refl
        gone_more (moot_now is set) p));
    whole = whole_same k tested tested_book tested_marks refl n.calling.whole;
    standing = standing_same k tested tested_book tested_marks refl n.calling.standing;
  }
    where
      rest_same : rest_of a w ≡ rest_of a (past w (entry_called v) false)
      rest_same = ap (λ (b : Bool). if b then None else Some (with_left a w.left)) n.going

      set_called : AreCalled a tested (v.entry.place + 1)
      set_called =
          let c = called_same w.place n.calling.walking.called in record {
            from = let low = c.from in let later = n.behind in omega (arith, low, later);
            before = λ no_bit. let z : true ≡ false = sym tested_bit ∙ no_bit in absurd (cc);
            ahead = λ x e low there later. c.ahead x e low there
                (let behind = n.behind in omega (arith, behind, later));
          }

  pub set_passed : v.entry.kind ≡ kind.Bit → misses a.watch r ≡ true → HasCalled a k tested w v false
  set_passed is set = record {
    goes = λ real c. (load_transition a k v full w n real c r ∷ [], load_goes a k v full w n real c r true set is);
    keeps = tested_keeps;
    calling = set_calling is set;
    same = tested_places;
    spends = λ z. absurd (cc);
  }

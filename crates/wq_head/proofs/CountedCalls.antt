-- The call of the entry at hand: by the list of its hold the walk calls that entry, and what is left of its count.
use Rattle.std.proofs.Common.{◌∙◌, ap, sym, refl, inl, inr, eq-eqb, arith}
use Rattle.std.proofs.lemmas.Bool.Decides.{nat_tests}
use native.Mathlib.Decide.{dec_le}
use Rattle.std.specs.Prelude.{ℕ, ◌+◌, ◌-◌, ◌*◌, ◌%◌, ◌≡◌, ◌≢◌, ◌<◌, ◌≤◌, ◌⊎◌, ◌&&◌, ◌||◌, ◌==◌, not, Bool, true, false}
use Rattle.std.specs.Prelude.{nat_le, if◌then◌else◌, Option, Some, None}
use Rattle.wait_model.specs.{declared.layout.TheConstants.ENTRIES, declared.watches.Entry.Entry}
use Rattle.wait_model.specs.{declared.watches.Aim.Aim, declared.queues.Walking.Walking, Functions.put, Fold.met_task}
use Rattle.wait_model.specs.Programs.{past}
use Rattle.wait_model.specs.Watches.{same, is_bit, is_page, owner, mask_of}
use Rattle.wait_model.specs.Views.{View as Told, Look, unseen, off, elsewhere, shown}
use Rattle.wait_model.specs.declared.steps.Step.TheVariants as step
use Rattle.wait_model.proofs.Functions.{put_at, put_other}
use Rattle.wait_rule.specs.declared.journal.Item.TheVariants as item
use Rattle.wait_rule.specs.{Known.Known, Shown.look_entry, Shown.shown_entry}
use Rattle.wait_rule.specs.Notes.{Notes, notes_after_wake, after_noted_call, callee, first_due, is_due, is_for_look}
use Rattle.wait_rule.specs.Notes.{is_ahead, is_sooner, is_exclusive_look, look_place, lowered, with_normal}
use Rattle.wait_rule.specs.Says.{told_of, noted, added}
use Rattle.wait_rule.proofs.KnownLaws.AfterSteps.{told_added, noted_added}
use Rattle.wq_head.specs.declared.functions.ShownEntry.{ShownEntry}
use Rattle.wq_head.specs.Walking.{IsNextEntry, AreCalled, entry_called, rest_of, with_left, is_used}
use Rattle.wq_head.proofs.{MemberStands.look_is_shown, FullHeads.bit_kinds, FullHeads.one_of}

-- the first of two entries that are due
first_alone : (d s : Bool) (x : ℕ) → (d ≡ true → s ≡ false) → first_due true d s x ≡ Some x
first_alone true true x only = let clash = only refl in absurd (cc)
first_alone true false x only = refl
first_alone false s x only = refl

second_alone : (d s : Bool) (x : ℕ) → (d ≡ true → s ≡ true) → first_due d true s x ≡ Some (x + 1)
second_alone true true x only = refl
second_alone true false x only = let clash = only refl in absurd (cc)
second_alone false s x only = refl

both_true : (a b c : Bool) → a ≡ true → b ≡ true → c ≡ false → (a && (b && not c)) ≡ true
both_true true true false one two three = refl
both_true true true true one two three = absurd (cc)
both_true true false c one two three = absurd (cc)
both_true false b c one two three = absurd (cc)

and_first : (a b c : Bool) → (a && (b && not c)) ≡ true → a ≡ true
and_first true b c is = refl
and_first false b c is = absurd (cc)

both_parts : (a b c : Bool) → (a && (b && not c)) ≡ true → (b ≡ true) × (c ≡ false)
both_parts true true false is = (refl, refl)
both_parts true true true is = absurd (cc)
both_parts true false c is = absurd (cc)
both_parts false b c is = absurd (cc)

false_not : false ≡ true → ⊥
false_not e = cc

called_not : (b : Bool) → b ≡ true → b ≡ false → ⊥
called_not b was now = cc

places_ordered : (p q : ℕ) → p < q → (is_sooner (Some p) (Some q) ≡ true) × (is_sooner (Some q) (Some p) ≡ false)
places_ordered p q later = (grind (arith, nat_tests), grind (arith, nat_tests))

from_ahead : (p q : ℕ) → nat_le p q ≡ true → p ≤ q
from_ahead p q ahead = grind (arith, nat_tests)

ahead_from : (p q r : ℕ) → p ≤ q → q ≤ r → nat_le p r ≡ true
ahead_from p q r low later = grind (arith, nat_tests)

-- whose entries these are
pub first_owner : (who : ℕ) → owner (2 * who) ≡ who
unfolding owner
first_owner who = omega arith

pub second_owner : (who : ℕ) → owner (2 * who + 1) ≡ who
unfolding owner
second_owner who = omega arith

-- the call of the entry at hand
module _ (a : Aim) (k : Known) (v : ShownEntry) (w : Walking) (n : IsNextEntry a k w v) where
  abbrev pub rest_now : Aim
  rest_now = with_left a w.left

  rest_is : rest_of a w ≡ Some rest_now
  rest_is = ap (λ (b : Bool). if b then None else Some rest_now) n.going

  pub walk_is : (noted k).walk ≡ Some rest_now
  walk_is = n.calling.walking.held.aim ∙ rest_is

  pub used_is : (noted k).used ≡ false
  used_is = n.calling.walking.held.used ∙ ap is_used rest_is

  pub shows_entry : shown_entry k v.member ≡ Some v.entry
  shows_entry = ap look_entry n.shows

  -- an entry for a bit or a page stands in slot 0, and a task has one entry there
  pub even_index : (x : ℕ) (e : Entry) → x < ENTRIES → shown_entry k x ≡ Some e → same e.watch a.watch ≡ true
      → is_bit a.watch ≡ true → x % 2 ≡ 0
  even_index x e low is sought bit =
      let s = ((n.calling.standing x (omega arith)).entry low e is).0 in
      elim (bit_kinds x e s ((one_of e.watch a.watch sought).bit ∙ bit)) [
        | inl of_bit ↦ s.slot of_bit
        | inr of_page ↦ s.page_slot (ap is_page of_page)
      ]

  pub one_slot : (x y : ℕ) → x % 2 ≡ 0 → y % 2 ≡ 0 → owner y ≡ owner x → (y ≡ x → ⊥) → ⊥
  unfolding owner
  one_slot x y even also of_task other = other (omega (arith, even, also, of_task))

  -- what the list tells after it, where the entry's function answered so
  abbrev pub call_notes : Bool → Notes
  call_notes met = after_noted_call rest_now (Some v.member) met (told_of k) (noted k)

  module _ (new : Known) (met : Bool) (walks : (noted new).walk ≡ (call_notes met).walk)
      (uses : (noted new).used ≡ (call_notes met).used) (from : (noted new).from ≡ (noted k).from)
      (called_is : (noted new).called ≡ put (noted k).called v.member true)
      (less : (x : ℕ) (e : Entry) → shown_entry new x ≡ Some e → shown_entry k x ≡ Some e) where
    selects : (met && is_exclusive_look ((told_of k).hold.book v.member)) ≡ (met && v.entry.exclusive)
    selects = ap (λ (l : Look). met && is_exclusive_look l) n.shows

    abbrev left : Option Aim
    left = rest_of a (past w (entry_called v) met)

    pub call_left : (noted new).walk ≡ left
    call_left = walks ∙ (ap (λ (b : Bool). if b then lowered rest_now else Some rest_now) selects
        ∙ by (met && v.entry.exclusive))
      where
        by : (b : Bool) → (if b then lowered rest_now else Some rest_now)
            ≡ (if b && (w.left == 1) then None else Some (with_left a (if b then w.left - 1 else w.left)))
        by true = refl
        by false = refl

    pub call_used : (noted new).used ≡ is_used left
    call_used = uses
        ∙ (ap (λ (b : Bool). b || ((met && is_exclusive_look ((told_of k).hold.book v.member)) && (w.left == 1)))
        used_is
        ∙ (ap (λ (b : Bool). b && (w.left == 1)) selects
        ∙ by ((met && v.entry.exclusive) && (w.left == 1)) (if met && v.entry.exclusive then w.left - 1 else w.left)))
      where
        by : (b : Bool) (m : ℕ) → b ≡ is_used (if b then None else Some (with_left a m))
        by true m = refl
        by false m = refl

    -- it has called the entries up to this one
    pub call_called : AreCalled a new (v.entry.place + 1)
    call_called = record {
      from = let low = n.calling.walking.called.from in let later = n.behind in omega (arith, from, low, later);
      before = λ no_bit x e low is sought after_from before.
          let was : shown_entry k x ≡ Some e = less x e is in
          let from_low : (noted k).from ≤ e.place = omega (arith, from, after_from) in
          ap (λ (f : ℕ → Bool). f x) called_is
          ∙ put_at (λ (b : Bool). b ≡ true) (noted k).called v.member true x (λ _. refl)
          (λ other. reach no_bit x e low was sought from_low before other (dec_le w.place e.place));
      ahead = λ x e low is later.
          let was : shown_entry k x ≡ Some e = less x e is in
          ap (λ (f : ℕ → Bool). f x) called_is
          ∙ (put_other (noted k).called v.member true x (not_here x e was later)
          ∙ n.calling.walking.called.ahead x e low was
          (let behind = n.behind in omega (arith, behind, later)));
    }
      where
        not_here : (x : ℕ) (e : Entry) → shown_entry k x ≡ Some e → v.entry.place + 1 ≤ e.place → x ≢ v.member
        not_here x e was later same =
            let both : Some e ≡ Some v.entry = sym was ∙ (ap (shown_entry k) same ∙ shows_entry) in
            let e_is : e ≡ v.entry = cc in
            let place_is : e.place ≡ v.entry.place = ap (λ (f : Entry). f.place) e_is in
            omega (arith, place_is, later)

        reach : is_bit a.watch ≡ false → (x : ℕ) (e : Entry) → x < ENTRIES → shown_entry k x ≡ Some e
            → same e.watch a.watch ≡ true → (noted k).from ≤ e.place → e.place < v.entry.place + 1 → x ≢ v.member
            → Dec (w.place ≤ e.place) → (noted k).called x ≡ true
        reach no_bit x e low was sought from_low before other (yes later) =
            let least = n.first x e low was later in
            absurd (other (n.apart x e low (look_is_shown ((told_of k).hold.book x) e was)
            (omega (arith, before, least))))
        reach no_bit x e low was sought from_low before other (no sooner) =
            n.calling.walking.called.before no_bit x e low was sought from_low (omega (arith, sooner))

module _ (a : Aim) (k : Known) (v : ShownEntry) (w : Walking) (n : IsNextEntry a k w v)
    (who mask found : ℕ) (mine : who ≡ owner v.member) (masked : mask ≡ mask_of a.mode) where
  abbrev notes : Notes
  notes = noted k

  abbrev view : Told
  view = told_of k

  abbrev met : Bool
  met = met_task mask found

  abbrev rest : Aim
  rest = rest_now a k v w n

  calls : AreCalled a k w.place
  calls = n.calling.walking.called

  -- the entry at hand is due
  due_here : is_due view notes a.watch v.member ≡ true
  due_here = both_true (is_for_look a.watch (view.hold.book v.member)) (is_ahead notes.from (view.hold.book v.member))
      (notes.called v.member) (ap (is_for_look a.watch) n.shows ∙ n.sought)
      (ap (is_ahead notes.from) n.shows ∙ ahead_here)
      (calls.ahead v.member v.entry n.counts (shows_entry a k v w n) n.behind)
    where
      ahead_here : nat_le notes.from v.entry.place ≡ true
      ahead_here = ahead_from notes.from w.place v.entry.place calls.from n.behind

  -- another one that is due stands after it; where the walk is for a bit, no other slot of a task has an entry for it
  other_due : (y : ℕ) → y < ENTRIES → (y ≡ v.member → ⊥) → owner y ≡ owner v.member
      → is_due view notes a.watch y ≡ true → (e : Entry) × (view.hold.book y ≡ shown e) × (v.entry.place < e.place)
  other_due y low other of_task due = by (view.hold.book y) refl
    where
      parts : (is_ahead notes.from (view.hold.book y) ≡ true) × (notes.called y ≡ false)
      parts = both_parts (is_for_look a.watch (view.hold.book y)) (is_ahead notes.from (view.hold.book y))
          (notes.called y) due

      stands : (e : Entry) → view.hold.book y ≡ shown e → same e.watch a.watch ≡ true
          → nat_le notes.from e.place ≡ true → v.entry.place < e.place
      stands e is sought ahead = decide (dec_le w.place e.place)
        where
          of_bit : (b : Bool) → is_bit a.watch ≡ b → is_bit a.watch ≡ false
          of_bit false none = none
          of_bit true bit = absurd (one_slot a k v w n v.member y
              (even_index a k v w n v.member v.entry n.counts (shows_entry a k v w n) n.sought bit)
              (even_index a k v w n y e low (ap look_entry is) sought bit) of_task other)

          is_shown : shown_entry k y ≡ Some e
          is_shown = ap look_entry is

          decide : Dec (w.place ≤ e.place) → v.entry.place < e.place
          decide (yes later) =
              let least = n.first y e low is_shown later in
              apart (dec_le (v.entry.place + 1) e.place) least
            where
              apart : Dec (v.entry.place + 1 ≤ e.place) → v.entry.place ≤ e.place → v.entry.place < e.place
              apart (yes past_it) least = omega (arith, past_it)
              apart (no not_past) least = absurd (other (n.apart y e low is (omega (arith, not_past, least))))
          decide (no sooner) =
              absurd (called_not (notes.called y) (calls.before (of_bit (is_bit a.watch) refl) y e low is_shown sought
              (from_ahead notes.from e.place ahead) (omega (arith, sooner))) parts.1)

      by : (l : Look) → view.hold.book y ≡ l
          → (e : Entry) × (view.hold.book y ≡ shown e) × (v.entry.place < e.place)
      by unseen is = absurd (false_not (ap (is_ahead notes.from) (sym is) ∙ parts.0))
      by off is = absurd (false_not (ap (is_ahead notes.from) (sym is) ∙ parts.0))
      by elsewhere is = absurd (false_not (ap (is_ahead notes.from) (sym is) ∙ parts.0))
      by (shown e) is = (
        e,
        is,
        stands e is (sym (ap (is_for_look a.watch) is) ∙ and_first (is_for_look a.watch (view.hold.book y))
            (is_ahead notes.from (view.hold.book y)) (notes.called y) due)
            (ap (is_ahead notes.from) (sym is) ∙ parts.0),
      )

  abbrev sooner_of : ℕ → ℕ → Bool
  sooner_of x y = is_sooner (look_place (view.hold.book x)) (look_place (view.hold.book y))

  sooner_here : (y : ℕ) → y < ENTRIES → (y ≡ v.member → ⊥) → owner y ≡ owner v.member
      → is_due view notes a.watch y ≡ true → (sooner_of v.member y ≡ true) × (sooner_of y v.member ≡ false)
  sooner_here y low other of_task due =
      let d = other_due y low other of_task due in
      let ordered = places_ordered v.entry.place d.0.place d.2 in (
        (λ i. is_sooner (look_place (n.shows i)) (look_place (d.1 i))) ∙ ordered.0,
        (λ i. is_sooner (look_place (d.1 i)) (look_place (n.shows i))) ∙ ordered.1,
      )

  -- so it is the one that the wake calls
  owner_of : (v.member ≡ 2 * who) ⊎ (v.member ≡ 2 * who + 1)
  unfolding owner
  owner_of = by (dec_le v.member (2 * who))
    where
      by : Dec (v.member ≤ 2 * who) → (v.member ≡ 2 * who) ⊎ (v.member ≡ 2 * who + 1)
      by (yes low) = inl (omega (arith, mine, low))
      by (no high) = inr (omega (arith, mine, high))

  pub callee_is : callee view notes a.watch who ≡ Some v.member
  callee_is = elim owner_of [
    | inl first ↦
        let due = ap (is_due view notes a.watch) (sym first) ∙ due_here in
        ap (λ (b : Bool). first_due b (is_due view notes a.watch (2 * who + 1))
        (sooner_of (2 * who + 1) (2 * who)) (2 * who)) due
        ∙ (first_alone (is_due view notes a.watch (2 * who + 1)) (sooner_of (2 * who + 1) (2 * who)) (2 * who)
        (λ d. ap (sooner_of (2 * who + 1)) (sym first) ∙ (sooner_here (2 * who + 1)
        (let low = n.counts in omega (arith, first, low)) (λ same. omega (arith, first, same)) (second_owner who ∙ mine)
        d).1)
        ∙ ap (λ (x : ℕ). Some x) (sym first))
    | inr second ↦
        let due = ap (is_due view notes a.watch) (sym second) ∙ due_here in
        ap (λ (b : Bool). first_due (is_due view notes a.watch (2 * who)) b
        (sooner_of (2 * who + 1) (2 * who)) (2 * who)) due
        ∙ (second_alone (is_due view notes a.watch (2 * who)) (sooner_of (2 * who + 1) (2 * who)) (2 * who)
        (λ d. ap (λ (x : ℕ). sooner_of x (2 * who)) (sym second) ∙ (sooner_here (2 * who)
        (let low = n.counts in omega (arith, second, low)) (λ same. omega (arith, second, same)) (first_owner who ∙ mine)
        d).0)
        ∙ ap (λ (x : ℕ). Some x) (sym second))
  ]

  -- the notes after it
  abbrev woke : Known
  woke = added k (item.Made (step.Wake who mask found))

  noted_is : noted woke ≡ with_normal who (mask == 3) (after_noted_call rest (Some v.member) met view notes)
  noted_is = noted_added k (item.Made (step.Wake who mask found))
      ∙ ap (with_normal who (mask == 3)) (ap (λ (o : Option Aim). notes_after_wake o who mask met view notes)
      (walk_is a k v w n)
      ∙ (ap (λ (b : Bool). if b then after_noted_call rest (callee view notes a.watch who) met view notes else notes)
      (eq-eqb mask (mask_of a.mode) masked)
      ∙ ap (λ (o : Option ℕ). after_noted_call rest o met view notes) callee_is))

  -- it has called that entry
  less : (x : ℕ) (e : Entry) → shown_entry woke x ≡ Some e → shown_entry k x ≡ Some e
  less x e is = sym (ap (λ (u : Told). look_entry (u.hold.book x))
      (told_added k (item.Made (step.Wake who mask found)))) ∙ is

  pub wake_left : (noted woke).walk ≡ rest_of a (past w (entry_called v) met)
  wake_left = call_left a k v w n woke met (ap (λ (m : Notes). m.walk) noted_is) (ap (λ (m : Notes). m.used) noted_is)
      (ap (λ (m : Notes). m.from) noted_is) (ap (λ (m : Notes). m.called) noted_is) less

  pub wake_used : (noted woke).used ≡ is_used (rest_of a (past w (entry_called v) met))
  wake_used = call_used a k v w n woke met (ap (λ (m : Notes). m.walk) noted_is) (ap (λ (m : Notes). m.used) noted_is)
      (ap (λ (m : Notes). m.from) noted_is) (ap (λ (m : Notes). m.called) noted_is) less

  pub wake_called : AreCalled a woke (v.entry.place + 1)
  wake_called = call_called a k v w n woke met (ap (λ (m : Notes). m.walk) noted_is)
      (ap (λ (m : Notes). m.used) noted_is) (ap (λ (m : Notes). m.from) noted_is)
      (ap (λ (m : Notes). m.called) noted_is) less

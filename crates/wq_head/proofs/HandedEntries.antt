-- The function of an entry for a page that was free: the task is told and woken, and the entry taken off.
use Rattle.std.proofs.Common.{◌∙◌, ap, sym, refl, subst, inl, inr, eqb-true, eq-eqb, arith}
use Rattle.std.proofs.lemmas.Bool.{and_from, and_left, or_left, or_right}
use Rattle.std.specs.Prelude.{ℕ, ◌+◌, ◌*◌, ◌≡◌, ◌≢◌, ◌<◌, ◌&&◌, ◌||◌, ◌==◌, not, Bool, true, false}
use Rattle.std.specs.Prelude.{if◌then◌else◌, Option, Some, None, [], ◌∷◌}
use Rattle.wait_model.specs.{declared.watches.Watch.Watch, declared.watches.Entry.Entry, declared.watches.Aim.Aim}
use Rattle.wait_model.specs.{declared.queues.Walking.Walking, declared.points.Next.Next, Functions.put, Rows.MaySpend}
use Rattle.wait_model.specs.{Programs.past, Programs.reached}
use Rattle.wait_model.specs.declared.layout.TheConstants.{SLOTS, ENTRIES, MEMBERS}
use Rattle.wait_model.specs.Watches.{is_bit, is_simple, mask_of, misses, owner, page, same, was_clear, word_of}
use Rattle.wait_model.specs.Views.{View as Told, Walk, Look, off, shown, is_trying_for}
use Rattle.wait_model.specs.Fold.{after, is_for_page, met_task}
use Rattle.wait_model.specs.declared.watches.Kind.TheVariants as kind
use Rattle.wait_model.specs.declared.watches.Mode.TheVariants as mode
use Rattle.wait_model.specs.declared.points.Point.TheVariants as at
use Rattle.wait_model.specs.declared.points.WalkPoint.TheVariants as walking
use Rattle.wait_model.specs.declared.points.PageStage.TheVariants as staging
use Rattle.wait_model.specs.declared.points.Next.TheVariants as next
use Rattle.wait_model.specs.declared.steps.Step.TheVariants as step
use Rattle.wait_model.proofs.Functions.{put_at, put_same}
use Rattle.wait_rule.specs.declared.journal.Item.TheVariants as item
use Rattle.wait_rule.specs.{Known.Known, Members.IsOwnKind, Shown.look_entry, Shown.shown_entry, Stays.Stays}
use Rattle.wait_rule.specs.{Stays.no_entries, Transitions.walk_program, Transitions.Goes}
use Rattle.wait_rule.specs.Notes.{Notes, after_noted_call, after_telling, callee, first_due, is_ahead, is_due}
use Rattle.wait_rule.specs.Notes.{is_for_look, is_simple_look, notes_after_wake, with_normal, without_normal}
use Rattle.wait_rule.specs.Queues.{IsWholeBook, index, place_by}
use Rattle.wait_rule.specs.Says.{added, noted, stored_with, told_of}
use Rattle.wait_rule.proofs.{KnownLaws.AfterSteps.told_added, KnownLaws.AfterSteps.noted_added}
use Rattle.wait_rule.proofs.{KnownLaws.Debts.step_debts, KnownLaws.MemberBits.told_stored}
use Rattle.wait_rule.proofs.{KnownLaws.MemberBits.noted_stored, KnownLaws.Transitions.goes_on}
use Rattle.wait_rule.proofs.{KnownLaws.StayingParts.stays_bits, KnownLaws.StayingParts.stays_on}
use Rattle.wq_head.specs.{declared.functions.ShownEntry.ShownEntry, Members.AreStanding, Walks.IsFull}
use Rattle.wq_head.specs.Walking.{HandsPage, HasCalled, IsCalling, IsHeld, IsNextEntry, SamePlaces, StaysInWalk}
use Rattle.wq_head.specs.Walking.{entry_called, rest_of, next_in_walk, with_left}
use Rattle.wq_head.proofs.{BitEntries.tested_places, EntryFunctions.keeps_on, EntryFunctions.under_one}
use Rattle.wq_head.proofs.{EntryWakes.load_transition, EntryWakes.page_goes, PassedBits.passes_all}
use Rattle.wq_head.proofs.QuietSteps.{off_stays}
use Rattle.wq_head.proofs.CountedCalls.{call_called, call_left, call_notes, call_used, even_index, one_slot, rest_now}
use Rattle.wq_head.proofs.CountedCalls.{first_owner, second_owner, shows_entry, walk_is}
use Rattle.wq_head.proofs.PageEntries.{clear_is, for_page, looked, looked_keeps, looked_next, noted_tried, page_bit}
use Rattle.wq_head.proofs.PageEntries.{told_tried, tried, tries}
use Rattle.wq_head.proofs.PageTransitions.{at_stage, hand_goes, hand_transition, leave_goes, leave_transition}
use Rattle.wq_head.proofs.PageTransitions.{rouse_goes, rouse_transition, try_goes, try_transition}
use Rattle.wq_head.proofs.ShownMembers.{off_entry, places_off, standing_off, whole_off}

used_still : (u s m : Bool) → s ≡ false → (u || (s && m)) ≡ u
used_still true s m none = refl
used_still false false m none = refl
used_still false true m none = absurd (cc)

-- of two entries none is due
none_first : (d e s : Bool) (x : ℕ) → d ≡ false → e ≡ false → first_due d e s x ≡ None
none_first true e s x one two = absurd (cc)
none_first false true s x one two = absurd (cc)
none_first false false s x one two = refl

was_called : (b c t : Bool) → t ≡ true → (b && (c && not t)) ≡ false
was_called true true true is = refl
was_called true true false is = absurd (cc)
was_called true false t is = refl
was_called false c t is = refl

-- a walk with what is left of its count is for the same watch
left_watch : (a b : Aim) (m l : ℕ) (e z : Bool) → (if e then (if z then None else Some (record {
  watch = a.watch;
  mode = a.mode;
  count = m;
})) else Some (with_left a l)) ≡ Some b → b.watch ≡ a.watch
left_watch a b m l true true is = absurd (cc)
left_watch a b m l true false is =
    let one : with_left a m ≡ b = cc in
    ap (λ (c : Aim). c.watch) (sym one)
left_watch a b m l false z is =
    let one : with_left a l ≡ b = cc in
    ap (λ (c : Aim). c.watch) (sym one)

-- the page was free
module _ (a : Aim) (k : Known) (v : ShownEntry) (full : IsFull a.watch) (w : Walking) (n : IsNextEntry a k w v)
    (is : v.entry.kind ≡ kind.Page) (t : ℕ) (clear : misses a.watch t ≡ false) (found : ℕ) where
  abbrev x : ℕ
  x = v.member

  abbrev who : ℕ
  who = owner v.member

  abbrev mask : ℕ
  mask = mask_of mode.Normal

  abbrev free : Known
  free = tried a k v full w n is t

  abbrev pub informed : Known
  informed = added free (item.Made (step.Handed x))

  abbrev pub woke : Known
  woke = added informed (item.Made (step.Wake who mask found))

  abbrev pub handed : Known
  handed = stored_with woke (step.Unqueue x)

  -- what the history tells then
  told_informed : told_of informed ≡ after (tries a k v full w n is t) (told_of k)
  told_informed = told_added free (item.Made (step.Handed x)) ∙ told_tried a k v full w n is t

  told_woke : told_of woke ≡ after (step.Wake who mask found) (after (tries a k v full w n is t) (told_of k))
  told_woke = told_added informed (item.Made (step.Wake who mask found))
      ∙ ap (after (step.Wake who mask found)) told_informed

  told_handed : told_of handed ≡ after (step.Unqueue x) (after (step.Wake who mask found)
      (after (tries a k v full w n is t) (told_of k)))
  told_handed = told_stored woke (step.Unqueue x) ∙ ap (after (step.Unqueue x)) told_woke

  shows_free : (told_of free).hold.book x ≡ shown v.entry
  shows_free = ap (λ (u : Told). u.hold.book x) (told_tried a k v full w n is t) ∙ n.shows

  shows_woke : (told_of woke).hold.book x ≡ shown v.entry
  shows_woke = ap (λ (u : Told). u.hold.book x) told_woke ∙ n.shows

  -- what the list tells: the walk called the entry as it told the task
  noted_informed : noted informed ≡ without_normal who (call_notes a k v w n true)
  noted_informed = noted_added free (item.Made (step.Handed x))
      ∙ ap (without_normal who)
      (ap (λ (o : Option Aim). after_telling o x (told_of free) (noted free))
      (ap (λ (m : Notes). m.walk) (noted_tried a k v full w n is t) ∙ walk_is a k v w n)
      ∙ (ap (λ (b : Bool). if b then after_noted_call (rest_now a k v w n) (Some x) true (told_of free) (noted free)
      else noted free) (ap (is_for_look a.watch) shows_free ∙ n.sought)
      ∙ (λ i. after_noted_call (rest_now a k v w n) (Some x) true (told_tried a k v full w n is t i)
      (noted_tried a k v full w n is t i))))

  called_it : (noted informed).called x ≡ true
  called_it = ap (λ (m : Notes). m.called x) noted_informed ∙ put_same (noted k).called x true

  low_index : (y : ℕ) → owner y ≡ who → y < ENTRIES
  unfolding owner
  low_index y mine = let few = n.counts in omega (arith, few, mine)

  -- no entry of the task is due after that, so that the wake calls none
  no_other : (y : ℕ) → y ≢ x → owner y ≡ who → is_for_look a.watch ((told_of informed).hold.book y) ≡ false
  no_other y other mine = ap (λ (u : Told). is_for_look a.watch (u.hold.book y)) told_informed
      ∙ by ((told_of k).hold.book y) refl
    where
      low : y < ENTRIES
      low = low_index y mine

      strange : (e : Entry) → (told_of k).hold.book y ≡ shown e → (b : Bool) → same e.watch a.watch ≡ b → b ≡ false
      strange e there false sought = refl
      strange e there true sought = absurd (one_slot a k v w n x y
          (even_index a k v w n x v.entry n.counts (shows_entry a k v w n) n.sought (page_bit a k v w n is))
          (even_index a k v w n y e low (ap look_entry there) sought (page_bit a k v w n is)) mine other)

      by : (l : Look) → (told_of k).hold.book y ≡ l → is_for_look a.watch l ≡ false
      by (shown e) there = strange e there (same e.watch a.watch) refl
      by _ there = refl

  not_due : (y : ℕ) → owner y ≡ who → is_due (told_of informed) (noted informed) a.watch y ≡ false
  not_due y mine = by (y == x) refl
    where
      by : (b : Bool) → (y == x) ≡ b → is_due (told_of informed) (noted informed) a.watch y ≡ false
      by true here = was_called (is_for_look a.watch ((told_of informed).hold.book y))
          (is_ahead (noted informed).from ((told_of informed).hold.book y)) ((noted informed).called y)
          (ap (noted informed).called (eqb-true y x here) ∙ called_it)
      by false there = and_left (is_for_look a.watch ((told_of informed).hold.book y)) _
          (no_other y (λ at_x. let z : true ≡ false = sym (eq_self y x at_x) ∙ there in absurd (cc)) mine)
        where
          eq_self : (m o : ℕ) → m ≡ o → (m == o) ≡ true
          eq_self m o same_one = eq-eqb m o same_one

  callee_none : callee (told_of informed) (noted informed) a.watch who ≡ None
  callee_none = none_first (is_due (told_of informed) (noted informed) a.watch (2 * who))
      (is_due (told_of informed) (noted informed) a.watch (2 * who + 1)) _ (2 * who)
      (not_due (2 * who) (first_owner who)) (not_due (2 * who + 1) (second_owner who))

  calls_none : (o : Option Aim) → ((b : Aim) → o ≡ Some b → b.watch ≡ a.watch)
      → notes_after_wake o who mask (met_task mask found) (told_of informed) (noted informed) ≡ noted informed
  calls_none None same_watch = refl
  calls_none (Some b) same_watch = by (mask == mask_of b.mode)
    where
      none : callee (told_of informed) (noted informed) b.watch who ≡ None
      none = ap (λ (c : Watch). callee (told_of informed) (noted informed) c who) (same_watch b refl) ∙ callee_none

      by : (z : Bool) → (if z then after_noted_call b (callee (told_of informed) (noted informed) b.watch who)
          (met_task mask found) (told_of informed) (noted informed) else noted informed) ≡ noted informed
      by true = ap (λ (o : Option ℕ). after_noted_call b o (met_task mask found) (told_of informed) (noted informed)) none
      by false = refl

  noted_woke : noted woke ≡ with_normal who (mask == 3) (without_normal who (call_notes a k v w n true))
  noted_woke = noted_added informed (item.Made (step.Wake who mask found))
      ∙ ap (with_normal who (mask == 3)) (calls_none (noted informed).walk (λ b left. left_watch a b _ _ _ _
      (sym (ap (λ (m : Notes). m.walk) noted_informed) ∙ left)) ∙ noted_informed)

  -- and the list as the entry is off
  off_used : (noted handed).used ≡ (noted woke).used
  off_used = ap (λ (m : Notes). m.used) (noted_stored woke (step.Unqueue x))
      ∙ used_still (noted woke).used (is_simple_look ((told_of woke).hold.book x)) ((noted woke).normal who)
      (ap is_simple_look shows_woke ∙ ap is_simple is)

  now_walk : (noted handed).walk ≡ (call_notes a k v w n true).walk
  now_walk = ap (λ (m : Notes). m.walk) (noted_stored woke (step.Unqueue x)) ∙ ap (λ (m : Notes). m.walk) noted_woke

  now_used : (noted handed).used ≡ (call_notes a k v w n true).used
  now_used = off_used ∙ ap (λ (m : Notes). m.used) noted_woke

  now_from : (noted handed).from ≡ (noted k).from
  now_from = ap (λ (m : Notes). m.from) (noted_stored woke (step.Unqueue x)) ∙ ap (λ (m : Notes). m.from) noted_woke

  now_called : (noted handed).called ≡ put (noted k).called x true
  now_called = ap (λ (m : Notes). m.called) (noted_stored woke (step.Unqueue x))
      ∙ ap (λ (m : Notes). m.called) noted_woke

  now_own : (noted handed).own ≡ (noted k).own
  now_own = ap (λ (m : Notes). m.own) (noted_stored woke (step.Unqueue x)) ∙ ap (λ (m : Notes). m.own) noted_woke

  now_marks : (noted handed).marks ≡ (noted k).marks
  now_marks = ap (λ (m : Notes). m.marks) (noted_stored woke (step.Unqueue x)) ∙ ap (λ (m : Notes). m.marks) noted_woke

  -- what the hold shows
  now_book : (told_of handed).hold.book ≡ put (told_of k).hold.book x off
  now_book = ap (λ (u : Told). u.hold.book) told_handed

  less : (y : ℕ) (e : Entry) → shown_entry handed y ≡ Some e → shown_entry k y ≡ Some e
  less y e there = off_entry k handed x v.entry now_book now_marks refl n.shows y e there

  pub handed_whole : IsWholeBook handed
  handed_whole = whole_off k handed x v.entry now_book now_marks refl n.shows n.calling.whole

  pub handed_standing : AreStanding handed MEMBERS
  handed_standing = standing_off k handed x v.entry now_book now_marks refl n.shows n.calling.standing

  pub handed_places : SamePlaces (v.entry.place + 1) (place_by k) (place_by handed)
  handed_places = places_off k handed x v.entry now_book now_marks refl n.shows

  handed_moot : (told_of handed).hold.moot ≡ true
  handed_moot = ap (λ (u : Told). u.hold.moot) told_handed ∙ or_right (told_of k).hold.moot
      (is_for_page (told_of k).walk (word_of a.watch)) (for_page a k v w n is)

  handed_picked : (told_of handed).hold.picked ≡ true
  handed_picked = ap (λ (u : Told). u.hold.picked) told_handed
      ∙ or_left _ _ (or_right (told_of k).hold.picked _
      (and_from (is_for_page (told_of k).walk (word_of a.watch)) (was_clear (page (word_of a.watch)) t)
      (for_page a k v w n is) (clear_is a k v w n is t clear)))

  -- an own entry for a page is none that its task alone takes off
  loose : (slot : ℕ) → slot < SLOTS → x ≡ index k.view.number slot → (e : Entry)
      → (told_of k).bits.stored x ≡ Some e → IsOwnKind e.kind → ⊥
  loose slot few at_x e stored own =
      let one : Some v.entry ≡ Some e = sym (n.own slot few at_x) ∙ stored in
      let same_entry : v.entry ≡ e = cc in
      let paged : e.kind ≡ kind.Page = ap (λ (f : Entry). f.kind) (sym same_entry) ∙ is in
      elim own [ inl default ↦ absurd (cc) | inr woken ↦ absurd (cc) ]

  handed_stays : Stays no_entries k handed
  handed_stays = stays_on no_entries k woke handed
      (stays_bits k woke refl refl refl refl (ap (λ (u : Told). u.bits) told_woke) (λ f d.
      step_debts informed woke (step.Wake who mask found) refl refl f
      (step_debts free informed (step.Handed x) refl refl f
      (step_debts k free (tries a k v full w n is t) refl refl f d))))
      (off_stays woke x (λ slot few at_x e stored own. loose slot few at_x e
      (sym (ap (λ (u : Told). u.bits.stored x) told_woke) ∙ stored) own))

  pub handed_keeps : StaysInWalk a k handed
  handed_keeps = record {
    stays = handed_stays;
    owes = inl (λ c σ. ap (λ (u : Told). u.duty.owes c σ) told_handed);
  }

  abbrev left : Option Aim
  left = rest_of a (past w (entry_called v) true)

  handed_held : IsHeld a handed left
  handed_held =
      let h = n.calling.walking.held in record {
        up = h.up;
        holding = record {
          locked = h.holding.locked;
          agreed = refl;
          told = ap (λ (u : Told). u.hold.head) told_handed ∙ h.holding.told;
        };
        at = h.at;
        aim = call_left a k v w n handed true now_walk now_used now_from now_called less;
        used = call_used a k v w n handed true now_walk now_used now_from now_called less;
        clear = now_own ∙ h.clear;
        unmarked = ap (λ (u : Told). u.mark) told_handed ∙ h.unmarked;
        tries = λ bit y c. ap (λ (u : Told). is_trying_for (u.bits.stored y) c) told_handed
            ∙ put_at (λ (s : Option Entry). is_trying_for s c ≡ false) (told_of k).bits.stored x None y (λ _. refl)
            (λ _. h.tries bit y c);
        walk = h.walk;
        under = record {
          under = ap (λ (u : Told). u.walk) told_handed ∙ h.under.under;
          watch = h.under.watch;
          mask = h.under.mask;
        };
      }

  pub handed_calling : IsCalling a handed (v.entry.place + 1) left
  handed_calling = record {
    walking = record {
      held = handed_held;
      passing = inl (λ y low. inl (passes_all a full handed handed_held.walk handed_held.under.watch handed_held.at
          handed_whole handed_standing (page_bit a k v w n is) handed_moot y low));
      called = call_called a k v w n handed true now_walk now_used now_from now_called less;
    };
    whole = handed_whole;
    standing = handed_standing;
  }

  pub handed_spends : MaySpend (told_of handed) true
  handed_spends walk under _ =
      let one : Some walk ≡ Some handed_held.walk = sym under ∙ handed_held.under.under in
      let walk_same : walk ≡ handed_held.walk = cc in
      inr (
        ap (λ (o : Walk). is_bit o.watch) walk_same
            ∙ (sym (under_one a handed left handed_held).bit ∙ page_bit a k v w n is),
        handed_picked,
      )

  -- from the test-and-set on, by the program
  abbrev end : Walking → Next
  end real = next_in_walk (past (reached real w.calls) (entry_called v) true)

  pub handed_goes : (real : Walking) → Goes (walk_program a) k (next.Go (at.Walk (at_stage a v w real staging.Try)))
      (try_transition a v w real k t ∷ hand_transition a v w real free ∷ rouse_transition a v w real informed found
      ∷ leave_transition a v w real woke ∷ []) handed (next_in_walk (past (reached real w.calls) (entry_called v) true))
  handed_goes real = goes_on (walk_program a) k free handed (next.Go (at.Walk (at_stage a v w real staging.Try)))
      (next.Go (at.Walk (at_stage a v w real staging.Hand))) (end real) (try_transition a v w real k t ∷ [])
      (hand_transition a v w real free ∷ rouse_transition a v w real informed found
      ∷ leave_transition a v w real woke ∷ []) (try_goes a v w real k t false clear (shows_entry a k v w n))
      (goes_on (walk_program a) free informed handed (next.Go (at.Walk (at_stage a v w real staging.Hand)))
      (next.Go (at.Walk (at_stage a v w real staging.Wake))) (end real) (hand_transition a v w real free ∷ [])
      (rouse_transition a v w real informed found ∷ leave_transition a v w real woke ∷ [])
      (hand_goes a v w real free (ap look_entry shows_free))
      (goes_on (walk_program a) informed woke handed (next.Go (at.Walk (at_stage a v w real staging.Wake)))
      (next.Go (at.Walk (at_stage a v w real staging.Off))) (end real) (rouse_transition a v w real informed found ∷ [])
      (leave_transition a v w real woke ∷ []) (rouse_goes a v w real informed found)
      (leave_goes a v w real woke (ap look_entry shows_woke))))

-- with the load before it
module _ (a : Aim) (k : Known) (v : ShownEntry) (full : IsFull a.watch) (w : Walking) (n : IsNextEntry a k w v)
    (is : v.entry.kind ≡ kind.Page) (r t : ℕ) (clear : misses a.watch r ≡ false)
    (free : misses a.watch t ≡ false) where
  abbrev mid : Known
  mid = looked a k v full w n is r

  abbrev next_mid : IsNextEntry a mid w v
  next_mid = looked_next a k v full w n is r

  pub page_called : (new : Known) → HandsPage (tried a mid v full w next_mid is t) new v → HasCalled a k new w v true
  page_called new h = subst (λ (j : Known). HasCalled a k j w v true) (sym h.is) (record {
    goes = λ real c. (
      load_transition a k v full w n real c r ∷ try_transition a v w real mid t
          ∷ hand_transition a v w real (tried a mid v full w next_mid is t)
          ∷ rouse_transition a v w real (informed a mid v full w next_mid is t free h.found) h.found
          ∷ leave_transition a v w real (woke a mid v full w next_mid is t free h.found) ∷ [],
      goes_on (walk_program a) k mid (handed a mid v full w next_mid is t free h.found)
          (next.Go (at.Walk (walking.Call real))) (next.Go (at.Walk (at_stage a v w real staging.Try)))
          (next_in_walk (past (reached real w.calls) (entry_called v) true)) (load_transition a k v full w n real c r ∷ [])
          (try_transition a v w real mid t ∷ hand_transition a v w real (tried a mid v full w next_mid is t)
          ∷ rouse_transition a v w real (informed a mid v full w next_mid is t free h.found) h.found
          ∷ leave_transition a v w real (woke a mid v full w next_mid is t free h.found) ∷ [])
          (page_goes a k v full w n real c r false clear is)
          (handed_goes a mid v full w next_mid is t free h.found real),
    );
    keeps = keeps_on a k mid (handed a mid v full w next_mid is t free h.found) (looked_keeps a k v full w n is r)
        (handed_keeps a mid v full w next_mid is t free h.found);
    calling = handed_calling a mid v full w next_mid is t free h.found;
    same = λ m p low over.
        let one = tested_places a k v full w n r (page_bit a k v w n is) m p low over in
        let two = handed_places a mid v full w next_mid is t free h.found m p low over in
        (λ there. two.0 (one.0 there), λ there. one.1 (two.1 there));
    spends = λ _. handed_spends a mid v full w next_mid is t free h.found;
  })

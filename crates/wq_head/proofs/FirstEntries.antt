-- The first entry that a hold of a simple head shows, and what its selection leaves.
use Rattle.std.proofs.Common.{◌∙◌, ap, sym, refl, subst, inl, inr, eq-eqb, arith}
use Rattle.std.proofs.lemmas.Bool.Decides.{nat_tests}
use Rattle.std.specs.Prelude.{ℕ, ◌-◌, ◌/◌, ◌%◌, ◌≡◌, ◌≢◌, ◌<◌, ◌≤◌, ◌&&◌, ◌||◌, ◌==◌}
use Rattle.std.specs.Prelude.{Bool, true, false, nat_lt, if◌then◌else◌, Option, Some, None}
use Rattle.wait_model.specs.{declared.watches.Entry.Entry, declared.watches.Kind.Kind, declared.queues.Member.Member}
use Rattle.wait_model.specs.{Facts.Agrees, Functions.put, Tasks.IsLawfulWord, Words.entry_of}
use Rattle.wait_model.specs.declared.layout.TheConstants.{SLOTS, ENTRIES, MEMBERS}
use Rattle.wait_model.specs.Fold.{after, is_off, met_task}
use Rattle.wait_model.specs.Queues.{is_entry, entry_from, rank}
use Rattle.wait_model.specs.Views.{View as Told, Look, off, shown}
use Rattle.wait_model.specs.Watches.{is_page, is_simple, mask_of, owner}
use Rattle.wait_model.specs.declared.watches.Kind.TheVariants as kind
use Rattle.wait_model.specs.declared.watches.Mode.TheVariants as mode
use Rattle.wait_model.specs.declared.steps.Step.TheVariants as step
use Rattle.wait_model.proofs.Functions.{put_at, put_same}
use Rattle.wait_model.proofs.QueueLaws.QueueOrder.{first_is, one_first}
use Rattle.wait_rule.specs.declared.journal.Item.TheVariants as item
use Rattle.wait_rule.specs.{Known.Known, Members.IsOwnKind, Shown.shown_entry, Shown.shown_queue}
use Rattle.wait_rule.specs.Notes.{Notes, is_simple_look, look_place, glance_place, notes_after_wake}
use Rattle.wait_rule.specs.Queues.{IsWholeBook, KnewEntry, MayUnqueue, index, place_by, saw}
use Rattle.wait_rule.specs.Says.{told_of, noted, added, stored_with}
use Rattle.wait_rule.proofs.KnownLaws.AfterSteps.{told_added, noted_added}
use Rattle.wait_rule.proofs.KnownLaws.HeadLinks.{wake_marks}
use Rattle.wait_rule.proofs.KnownLaws.MemberBits.{told_stored, noted_stored}
use Rattle.wq_head.specs.{Looks.Looks, Members.AreStanding, Selects.ShowsNoEntry, Selects.simple_aim}
use Rattle.wq_head.specs.{Selecting.IsFirstEntry, Selecting.HasSelectedFirst}
use Rattle.wq_head.proofs.{OneMoreLook.saw_looks, OneMoreLook.saw_bits, SimpleEntries.is_simple_entry}
use Rattle.wq_head.proofs.KeptHolds.{hold_on, hold_looks, hold_wake, hold_off}
use Rattle.wq_head.proofs.LookingHold.{looks_whole, looks_place, looks_standing}
use Rattle.wq_head.proofs.MemberStands.{few, entry_shown, look_is_shown, place_under}
use Rattle.wq_head.proofs.ShownMembers.{place_same, whole_same, standing_same, whole_off, standing_off, off_place}
use Rattle.wq_head.proofs.ShownQueue.{queue_in_order, queue_has, queue_of}

-- the first entry of the queue, and none
pub first_entry : (k : Known) (s : Member) → s.at < ENTRIES → place_by k s.at ≡ Some s.place
    → ((m p : ℕ) → m < ENTRIES → place_by k m ≡ Some p → rank s ≤ rank (record { at = m; place = p }))
    → entry_from 0 (shown_queue k) ≡ Some s
first_entry k s low stands least = one_first is_entry 0 (shown_queue k) (entry_from 0 (shown_queue k)) (Some s)
    (queue_in_order k) (first_is is_entry 0 (shown_queue k) (queue_in_order k)) (
      queue_of k s (omega arith) stands,
      few s.at low,
      omega arith,
      λ e i is _. least e.at e.place (grind (arith, nat_tests)) (queue_has k e i).1,
    )

pub no_entry : (k : Known) → ShowsNoEntry k → entry_from 0 (shown_queue k) ≡ None
no_entry k none = one_first is_entry 0 (shown_queue k) (entry_from 0 (shown_queue k)) None
    (queue_in_order k) (first_is is_entry 0 (shown_queue k) (queue_in_order k))
    (λ e i is.
    let low : e.at < ENTRIES = grind (arith, nat_tests) in
    let f = entry_shown k e.at e.place low (queue_has k e i).1 in
    absurd (none e.at f.0 low f.1))

-- an entry that its task alone takes off is no simple one
not_own : (e d : Entry) → e.kind ≡ kind.Simple → Some e ≡ Some d → IsOwnKind d.kind → ⊥
not_own e d simple same own =
    let here : e ≡ d = cc in
    let kind_is : d.kind ≡ kind.Simple = ap (λ (f : Entry). f.kind) (sym here) ∙ simple in
    elim own [ inl is ↦ absurd (cc) | inr is ↦ absurd (cc) ]

not_default : (k : Kind) → k ≡ kind.Simple → k ≢ kind.Default
not_default k is other = let z : kind.Simple ≡ kind.Default = sym is ∙ other in absurd (cc)

not_woken : (k : Kind) → k ≡ kind.Simple → k ≢ kind.Woken
not_woken k is other = let z : kind.Simple ≡ kind.Woken = sym is ∙ other in absurd (cc)

or_here : (a b c : Bool) → b ≡ true → c ≡ true → (a || (b && c)) ≡ true
or_here true b c one two = refl
or_here false true c one two = two
or_here false false c one two = absurd (cc)

-- what a wake with NORMAL notes
pub wake_book : (k : Known) (who mask v : ℕ) → (told_of (added k (item.Made (step.Wake who mask v)))).hold.book
    ≡ (told_of k).hold.book
wake_book k who mask v = ap (λ (u : Told). u.hold.book) (told_added k (item.Made (step.Wake who mask v)))

pub wake_notes : (k : Known) (who mask v : ℕ) → (noted (added k (item.Made (step.Wake who mask v)))).marks
    ≡ (noted k).marks
wake_notes k who mask v = ap (λ (n : Notes). n.marks) (noted_added k (item.Made (step.Wake who mask v)))
    ∙ wake_marks (noted k).walk who mask (met_task mask v) (told_of k) (noted k)

wake_normal : (k : Known) (who mask v : ℕ) → mask ≡ mask_of mode.Normal
    → (noted (added k (item.Made (step.Wake who mask v)))).normal who ≡ true
wake_normal k who mask v masked = ap (λ (n : Notes). n.normal who) (noted_added k (item.Made (step.Wake who mask v)))
    ∙ or_here ((notes_after_wake (noted k).walk who mask (met_task mask v) (told_of k) (noted k)).normal who)
    (mask == 3) (who == who) (eq-eqb mask 3 masked) (eq-eqb who who refl)

-- the word of the entry was loaded
module _ (old seen : Known) (x w : ℕ) (f : IsFirstEntry old x)
    (is : seen ≡ added old (item.Made (saw old.book.head x w))) (knew : KnewEntry old x w) where
  pub first_looks : Looks old seen
  first_looks = saw_looks old seen x w f.holding is knew

  found : (e : Entry) × (shown_entry old x ≡ Some e) × (e.place ≡ f.place)
  found = entry_shown old x f.place f.counts f.stands

  shows_old : (told_of old).hold.book x ≡ shown found.0
  shows_old = look_is_shown ((told_of old).hold.book x) found.0 found.1

  reads : entry_of w ≡ Some found.0
  reads = (subst (λ (l : Look). Agrees old.at l (entry_of w)) shows_old
      (knew.shown old.at f.holding.locked)).0

  simple : found.0.kind ≡ kind.Simple
  simple = let low = f.counts in let s = (f.standing x (omega arith)).entry f.counts found.0 found.1 in
      is_simple_entry x found.0 old.at s.0 s.1 f.simple

  shows_seen : (told_of seen).hold.book x ≡ shown found.0
  shows_seen = first_looks.from.shows x found.0 shows_old

  whole_seen : IsWholeBook seen
  whole_seen = looks_whole (simple_aim old.at) old seen first_looks f.whole

  standing_seen : AreStanding seen MEMBERS
  standing_seen = looks_standing (simple_aim old.at) old seen first_looks f.whole f.standing

  place_seen : (m : ℕ) → m < MEMBERS → place_by seen m ≡ place_by old m
  place_seen m low = looks_place (simple_aim old.at) old seen first_looks f.whole m low

  first_seen : entry_from 0 (shown_queue seen) ≡ Some (record { at = x; place = f.place })
  first_seen = let low = f.counts in first_entry seen (record { at = x; place = f.place }) f.counts
      (place_seen x (omega arith) ∙ f.stands)
      (λ m p small at. f.least m p small (sym (place_seen m (omega arith)) ∙ at))

  -- an own entry that was stored is that one
  stored_seen : (slot : ℕ) → slot < SLOTS → x ≡ index seen.view.number slot → (e : Entry)
      → (told_of seen).bits.stored x ≡ Some e → Some found.0 ≡ Some e
  stored_seen slot small mine e stored =
      let same : x ≡ index old.view.number slot = mine ∙ ap (λ (k : Known). index k.view.number slot) is in
      sym (knew.own slot small same found.0 reads)
      ∙ (sym (ap (λ (b : _). b.stored x) (saw_bits old seen x w f.holding is knew)
      ∙ ap (λ (o : Option Entry). (if is_off o then put (told_of old).bits.stored x None
      else (told_of old).bits.stored) x) reads) ∙ stored)

  -- its task was woken
  module _ (who v : ℕ) (mine : who ≡ owner x) where
    abbrev mask : ℕ
    mask = mask_of mode.Normal

    abbrev woke : Known
    woke = added seen (item.Made (step.Wake who mask v))

    told_woke : told_of woke ≡ after (step.Wake who mask v) (told_of seen)
    told_woke = told_added seen (item.Made (step.Wake who mask v))

    book_woke : (told_of woke).hold.book ≡ (told_of seen).hold.book
    book_woke = wake_book seen who mask v

    marks_woke : (noted woke).marks ≡ (noted seen).marks
    marks_woke = wake_notes seen who mask v

    shows_woke : (told_of woke).hold.book x ≡ shown found.0
    shows_woke = ap (λ (g : ℕ → Look). g x) book_woke ∙ shows_seen

    normal : (noted woke).normal who ≡ true
    normal = wake_normal seen who mask v refl

    pub take_may : (slot : ℕ) → index who slot ≡ x → MayUnqueue woke who slot
    take_may slot at_x = record {
      entry = found.0;
      shows = ap (told_of woke).hold.book at_x ∙ shows_woke;
      may = inr (
        (not_default found.0.kind simple, (not_woken found.0.kind simple, ap is_page simple)),
        inr (ap is_simple simple, normal),
      );
    }

    loose : (slot : ℕ) → slot < SLOTS → x ≡ index woke.view.number slot → (e : Entry)
        → (told_of woke).bits.stored x ≡ Some e → IsOwnKind e.kind → ⊥
    loose slot small at_own e stored own = not_own found.0 e simple (stored_seen slot small at_own e
        (sym (ap (λ (u : Told). u.bits.stored x) told_woke) ∙ stored)) own

    abbrev new : Known
    new = stored_with woke (step.Unqueue x)

    book_new : (told_of new).hold.book ≡ put (told_of woke).hold.book x off
    book_new = ap (λ (u : Told). u.hold.book) (told_stored woke (step.Unqueue x))

    marks_new : (noted new).marks ≡ (noted woke).marks
    marks_new = ap (λ (n : Notes). n.marks) (noted_stored woke (step.Unqueue x))

    used_new : (noted new).used ≡ true
    used_new = ap (λ (n : Notes). n.used) (noted_stored woke (step.Unqueue x))
        ∙ or_here (noted woke).used (is_simple_look ((told_of woke).hold.book x)) ((noted woke).normal (owner x))
        (ap is_simple_look shows_woke ∙ ap is_simple simple) (ap (noted woke).normal (sym mine) ∙ normal)

    other_new : (m p : ℕ) → m ≢ x → place_by woke m ≡ Some p → place_by new m ≡ Some p
    other_new m p away at = (λ i. if nat_lt m ENTRIES then look_place (book_new i m) else glance_place
        (marks_new i (m - ENTRIES))) ∙ by (nat_lt m ENTRIES) at
      where
        by : (b : Bool) → (if b then look_place ((told_of woke).hold.book m) else glance_place
            ((noted woke).marks (m - ENTRIES))) ≡ Some p
            → (if b then look_place (put (told_of woke).hold.book x off m) else glance_place
            ((noted woke).marks (m - ENTRIES))) ≡ Some p
        by true s = put_at (λ (l : Look). look_place l ≡ Some p) (told_of woke).hold.book x off m
            (λ same. absurd (away same)) (λ _. s)
        by false s = s

    taken : IsLawfulWord v → HasSelectedFirst old new x
    taken lawful = record {
      selects = record {
        seen = seen;
        looks = first_looks;
        whole = whole_seen;
        member = record { at = x; place = f.place };
        first = first_seen;
        found = v;
        lawful = lawful;
        is = λ i. stored_with (added seen (item.Made (step.Wake (mine i) mask v))) (step.Unqueue x);
      };
      keeps = hold_on old woke new (hold_on old seen woke (hold_looks old seen first_looks) (hold_wake seen who mask v))
          (hold_off woke x loose);
      whole = whole_off woke new x found.0 book_new marks_new refl shows_woke
          (whole_same seen woke book_woke marks_woke refl whole_seen);
      standing = standing_off woke new x found.0 book_new marks_new refl shows_woke
          (standing_same seen woke book_woke marks_woke refl standing_seen);
      used = used_new;
      is_off = place_under new x f.counts ∙ ap look_place (ap (λ (g : ℕ → Look). g x) book_new
          ∙ put_same (told_of woke).hold.book x off);
      others = λ m p low away at. other_new m p away (place_same seen woke book_woke marks_woke refl m
          ∙ (place_seen m low ∙ at));
      stood = λ m p low at. sym (place_seen m low) ∙ (sym (place_same seen woke book_woke marks_woke refl m)
          ∙ off_place woke new x found.0 book_new marks_new refl shows_woke m p at);
    }

    pub taken_by : IsLawfulWord v → (by : Known) → by ≡ woke → (slot : ℕ) → index who slot ≡ x → (new_by : Known)
        → new_by ≡ stored_with by (step.Unqueue (index who slot)) → HasSelectedFirst old new_by x
    taken_by lawful by by_is slot at_x new_by is_new = subst (λ (k : Known). HasSelectedFirst old k x)
        (sym (is_new ∙ (λ i. stored_with (by_is i) (step.Unqueue (at_x i))))) (taken lawful)

-- whose entry it is, and in which slot
pub owner_of : (x : ℕ) → x / SLOTS ≡ owner x
unfolding owner
owner_of x = refl

pub index_of : (x : ℕ) → index (x / SLOTS) (x % SLOTS) ≡ x
index_of x = omega arith

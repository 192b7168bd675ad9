-- What a load of a member word without the lock asks of the table of words.
use Rattle.std.proofs.lemmas.Bool.{both_ways}
use Rattle.std.proofs.Common.{refl, sym, ◌∙◌, ap, subst, arith, inl, inr}
use Rattle.std.specs.Prelude.{ℕ, zero, suc, ◌≡◌, ◌≢◌, ◌+◌, ◌-◌, ◌*◌, ◌/◌, ◌%◌, ◌<◌, ◌⊎◌, Bool, true, false, ◌==◌}
use Rattle.std.specs.Prelude.{Option, Some, None, List, [], ◌∷◌, slice_index}
use Rattle.std.proofs.lemmas.Bool.Decides.{eqb_tells}
use mathlib.Core.Option.{none}
use Rattle.atomic_table.specs.Table.{step as move, Allows}
use Rattle.wait_model.specs.{declared.watches.Entry.Entry, Words.bit_at, Words.bit_word, Fold.view_of, Tables.Table}
use Rattle.wait_model.specs.{Rows.IsUntested, Rows.AreUntested}
use Rattle.wait_model.specs.declared.layout.TheConstants.{TASKS, ENTRIES, HEADS, MEMBER_WORDS, WORD_BITS, MEMBER_AT}
use Rattle.wait_model.specs.Watches.{head_of, owner, part_of, stands_at}
use Rattle.wait_model.specs.Locations.{Location, IsLocation, position_of, word_in}
use Rattle.wait_model.specs.declared.steps.Step.TheVariants as step
use Rattle.wait_model.specs.Locations as place
use Rattle.wait_model.proofs.WordLaws.BitWords.{bit_read}
use Rattle.wait_rule.specs.{declared.journal.Item.Item, Journals.Scene, Journals.moved, Plays.Sat, Plays.seat_with}
use Rattle.wait_rule.specs.QueuePlays.{member_scanned_play}
use Rattle.wait_rule.specs.Items.{Difference, nothing, at_entry, at_mark, page_taken, page_told, Book, steps_of}
use Rattle.wait_rule.specs.Items.{book_of, Fits}
use Rattle.wait_rule.specs.MemberWords.{names, index_named, is_put, all_differences, AreMembers}
use Rattle.wait_rule.specs.Rule.{IsRuled, Law, Holds}
use Rattle.wait_rule.specs.declared.journal.Item.TheVariants as item
use Rattle.wait_rule.proofs.{KnownLaws.HeadLinks.off_links, KnownLaws.MemberPlaces.still_places}
use Rattle.wait_rule.proofs.{KnownLaws.MemberSteps.nothing_named, KnownLaws.MemberSteps.entry_names}
use Rattle.wait_rule.proofs.{KnownLaws.TicketSteps.to_test, StepKinds.EntryKinds.load_leaves}
use Rattle.wait_rule.proofs.{TableSteps.StateLaws.allows, TableSteps.QueueMoves.head_seen}
use Rattle.wait_rule.proofs.{TableSteps.LookedBits.look_law, TableSteps.LookedBits.word_back}
use Rattle.wait_rule.proofs.TableSteps.KeptSteps.{ChangesNone, IsOwn, KeepsLaw, told_as}

no_bits : (n : ℕ) → bit_word n (λ _. false) ≡ 0
unfolding bit_word
no_bits zero = refl
no_bits (suc n) = ap (λ (k : ℕ). k + 0) (no_bits n)

zero_bit : (k : ℕ) → k < WORD_BITS → bit_at 0 k ≡ false
zero_bit k small = ap (λ (w : ℕ). bit_at w k) (sym (no_bits WORD_BITS)) ∙ bit_read (λ _. false) k small

some_same : (x y : ℕ) → ◌≡◌ {A = Option ℕ} (Some x) (Some y) → x ≡ y
some_same x y e = cc

set_is : {A : Type 0} (b : Bool) → b ≡ false → b ≡ true → A
set_is b off on = absurd (both_ways false refl (sym off ∙ on))

-- where a member word shows no bit, an entry of its indexes that stands at the head is untested: its owner names it
module _ (s : Table) (items : ℕ → List Item) (ruled : IsRuled s items) (differs : ℕ → Difference)
    (beside : Location → ℕ) (m : AreMembers s differs beside) (h i : ℕ) (few : i < MEMBER_WORDS)
    (empty : beside (place.Member (MEMBER_WORDS * h + i)) ≡ 0) where
  clear : (x : ℕ) → part_of x ≡ i → m.bits h x ≡ false
  unfolding part_of
  clear x part =
      let whole : x ≡ WORD_BITS * i + x % WORD_BITS = omega arith in
      ap (m.bits h) whole ∙ (sym (bit_read (λ j. m.bits h (WORD_BITS * i + j)) (x % WORD_BITS) (omega arith))
      ∙ (ap (λ (w : ℕ). bit_at w (x % WORD_BITS)) (sym (m.spells h i few) ∙ empty)
      ∙ zero_bit (x % WORD_BITS) (omega arith)))

  module _ (x : ℕ) (e : Entry) (part : part_of x ≡ i) (at : s.entry x ≡ Some e) (here : head_of e.watch ≡ h) where
    small : x < ENTRIES
    small = ruled.whole.kept.facts.named x e at

    named_now : names s h x ≡ true
    named_now = entry_names s h x small ∙ (ap (λ (o : Option Entry). stands_at o h) at
        ∙ (ap (λ (g : ℕ). g == h) here ∙ to_test h))

    -- a holder names it
    not_far : {A : Type 0} → ((b : ℕ) → (s.view b).hold.head ≡ Some h → index_named b (differs b) ≢ Some x) → A
    not_far far = set_is (m.bits h x) (clear x part) (m.agrees h x far ∙ named_now)

    by_holder : {A : Type 0} (b : ℕ) → (s.view b).hold.head ≡ Some h → index_named b (differs b) ≢ Some x → A
    by_holder b holds ne = not_far (λ c held. subst (λ (k : ℕ). index_named k (differs k) ≢ Some x)
        (sym (ruled.whole.kept.facts.one_holder c b h held holds)) ne)

    by_difference : (b : ℕ) → (s.view b).hold.head ≡ Some h → (d : Difference) → differs b ≡ d
        → IsUntested (s.view (owner x)) h x
    by_difference b holds nothing is = by_holder b holds (nothing_named b (differs b) x is)
    by_difference b holds (page_taken y) is = by_holder b holds (λ q.
        let none : ◌≡◌ {A = Option ℕ} None (Some x) = sym (ap (index_named b) is) ∙ q in
        absurd (cc))
    by_difference b holds (page_told y) is = by_holder b holds (λ q.
        let none : ◌≡◌ {A = Option ℕ} None (Some x) = sym (ap (index_named b) is) ∙ q in
        absurd (cc))
    by_difference b holds (at_mark on) is = by_holder b holds (λ q.
        let same : ENTRIES + b ≡ x = some_same (ENTRIES + b) x (sym (ap (index_named b) is) ∙ q) in
        let low = small in
        absurd (omega arith))
    by_difference b holds (at_entry y on) is = by (eqb_tells y x)
      where
        by : (((y == x) ≡ true) × (y ≡ x)) ⊎ (((y == x) ≡ false) × (y ≢ x)) → IsUntested (s.view (owner x)) h x
        by (inr q) = by_holder b holds (λ p. q.1 (some_same y x (sym (ap (index_named b) is) ∙ p)))
        by (inl q) =
            let put : on ≡ true = sym (ap is_put is) ∙ (sym (m.named b h x holds (ap (index_named b) is
            ∙ ap (λ (j : ℕ). Some j) q.1)) ∙ named_now) in
            let u = m.untested b h x holds (is ∙ (λ j. at_entry (q.1 j) (put j))) in
            subst (λ (k : ℕ). IsUntested (s.view k) h x) (sym u.0) u.1

    by_hold : (t : Bool) → s.holder h ≡ t → IsUntested (s.view (owner x)) h x
    by_hold true held = let d = ruled.linked.holder h held in by_difference d.0 d.1 (differs d.0) refl
    by_hold false free = not_far (λ b held. set_is (s.holder h) free
        ((ruled.whole.kept.facts.views b).hold.held h held))

  pub are_untested : AreUntested s h i
  are_untested x e part at here = by_hold x e part at here (s.holder h) refl

-- the step keeps the law
module _ (s : Table) (items : ℕ → List Item) (ruled : IsRuled s items) (a : ℕ) (b : Book)
    (fits : Fits (s.task a) b) where
  scans : (h i w : ℕ) → (s.view a).hold.head ≡ None → (w ≡ 0 → AreUntested s h i)
      → KeepsLaw s a place.Base (word_in s place.Base) (step.Scan h i w) b
  scans h i w out untested = record {
    allowed = (out, untested);
    stored = tt;
    orderly = tt;
    places = still_places s a (step.Scan h i w) refl refl;
    links = off_links s a (step.Scan h i w) tt;
    leaves = load_leaves s a place.Base b _ _ ruled.lawful fits;
  }

scan_none : (a h i w : ℕ) → ChangesNone a (step.Scan h i w)
scan_none a h i w s place.Base = refl
scan_none a h i w s l = refl

module _ (c : Scene) (law : Law c) (a h i : ℕ) (head : h < HEADS) (few : i < MEMBER_WORDS) (less : a < TASKS)
    (out : (law.table.view a).hold.head ≡ None) where
  abbrev W : ℕ
  W = slice_index c.words (position_of (place.Member (MEMBER_WORDS * h + i)))

  there : IsLocation (place.Member (MEMBER_WORDS * h + i))
  there = omega arith

  scan_law : Law (moved c a (position_of (place.Member (MEMBER_WORDS * h + i))) W (item.Made (step.Scan h i W) ∷ []))
  scan_law = word_back c a (MEMBER_WORDS * h + i) (item.Made (step.Scan h i W) ∷ [])
      (look_law c law a place.Base (word_in law.table place.Base) (step.Scan h i W) less (scan_none a h i W)
      (scans law.table c.items law.ruled a (book_of (c.items a)) (law.ruled.fits a less) h i W out
      (λ empty. are_untested law.table c.items law.ruled (all_differences c.items) law.beside law.members h i few
      (sym (law.shown.each (place.Member (MEMBER_WORDS * h + i)) there) ∙ empty)))) there

own_of : (c : Scene) (law : Law c) (me : Sat) → c.items me.0.number ≡ me.0.items → IsOwn law.table c.items me
own_of c law me own = record {
  told = law.ruled.whole.told me.0.number ∙ (ap view_of (law.ruled.histories me.0.number)
      ∙ ap (λ (xs : List Item). view_of (steps_of xs)) own);
  list = own;
}

pub scan_moves : (slots id : ℕ) (me : Sat) → me.0.lives ≡ true → (h i p : ℕ) → h < HEADS → i < MEMBER_WORDS
    → p ≡ position_of (place.Member (MEMBER_WORDS * h + i)) → (book_of me.0.items).head ≡ None
    → Allows (Holds Law) slots id me p (λ n. n) (member_scanned_play (move slots p 0 0 none) me)
scan_moves slots id me lives h i p head few at free s r long at_id less =
    let head_is : h ≡ (p - MEMBER_AT) / MEMBER_WORDS = omega arith in
    let word_is : i ≡ (p - MEMBER_AT) % MEMBER_WORDS = omega arith in
    let a = subst (λ (q : ℕ). Allows (Holds Law) slots id me q (λ n. n)
    (λ n m. (m ≡ seat_with me (item.Made (step.Scan h i n))) × Unit {0})) (sym at)
    (allows Law slots id me.0 me.1 (position_of (place.Member (MEMBER_WORDS * h + i))) (λ n. n)
    (λ n. item.Made (step.Scan h i n) ∷ []) (λ _. Unit {0}) lives
    (λ c law few_tasks own _. (
      scan_law c law me.0.number h i head few few_tasks
          (head_seen law.table c.items me None (own_of c law me own) free),
      tt,
    ))) s r long at_id less in
    told_as a (λ _ _ t. t.0 ∙ (λ j. seat_with me (item.Made (step.Scan (head_is j) (word_is j)
    (slice_index s.words p)))))

-- A queue with one entry, as the test of single steps makes it.
use Rattle.std.proofs.Common.{refl, sym, ◌∙◌, ap, arith, inl, inr}
use Rattle.std.specs.Prelude.{ℕ, ◌≡◌, ◌≢◌, ◌-◌, ◌<◌, ◌≤◌, Bool, true, false, nat_lt, if◌then◌else◌, Some, None}
use Rattle.wait_model.specs.{declared.watches.Kind.Kind, declared.watches.Entry.Entry, Watches.is_page}
use Rattle.wait_model.specs.Watches.{is_simple}
use Rattle.wait_model.specs.declared.layout.TheConstants.{TASKS, ENTRIES, MEMBERS, FIRST_PLAIN_HEAD, FIRST_PLACE}
use Rattle.wait_model.specs.Views.{View as Told, Look, off, shown, unseen}
use Rattle.wait_model.specs.Words.{entry_word, entry_of, IsLawfulEntry}
use Rattle.wait_model.specs.declared.watches.Watch.TheVariants as watch
use Rattle.wait_model.specs.declared.watches.Kind.TheVariants as kind
use Rattle.wait_model.specs.declared.steps.Step.TheVariants as step
use Rattle.wait_model.proofs.{WordLaws.DecodedWords.head_plain, WordLaws.DecodedWords.entry_read, Functions.put_same}
use Rattle.wait_rule.specs.declared.journal.Item.TheVariants as item
use Rattle.wait_rule.specs.{Known.Known, Asked.nothing_asked, Pages.uses_flag, Looking.ShowsEmpty}
use Rattle.wait_rule.specs.Notes.{Notes, Glance, away, unknown, look_place, glance_place}
use Rattle.wait_rule.specs.Says.{added, asks_for, told_of, noted}
use Rattle.wait_rule.specs.Queues.{index, place_by, MayFlag, MayQueue, MayMark, MayUnmark}
use Rattle.wait_rule.proofs.{KnownLaws.AfterSteps.told_added, KnownLaws.AfterSteps.noted_added}
use Rattle.wait_rule.proofs.{KnownLaws.PageSteps.not_both, KnownLaws.StandingKinds.plain_not_page}
use Rattle.wait_rule.proofs.KnownLaws.MemberBits.{bit_told, bit_noted, bit_at}

-- the only entry of a queue
abbrev pub lone : Bool → Kind → Entry
lone exclusive form = record {
  watch = watch.Plain 0;
  place = FIRST_PLACE;
  exclusive = exclusive;
  priority = false;
  kind = form;
}

abbrev pub first : Entry
first = lone false kind.Woken

first_lawful : IsLawfulEntry first
first_lawful = record { place = omega arith; suited = (omega arith, inr (inr (inl refl)), λ far. absurd (omega arith)) }

-- the entry that its word shows
pub shown_lone : (exclusive : Bool) (form : Kind) → IsLawfulEntry (lone exclusive form) → (w : ℕ) (e : Entry)
    → w ≡ entry_word (Some (lone exclusive form)) → entry_of w ≡ Some e → e ≡ lone exclusive form
shown_lone exclusive form lawful w e is reads =
    let z : Some e ≡ Some (lone exclusive form) = sym reads
    ∙ (ap entry_of is ∙ entry_read (lone exclusive form) lawful) in cc

pub shown_first : (w : ℕ) (e : Entry) → w ≡ entry_word (Some first) → entry_of w ≡ Some e → e ≡ first
shown_first = shown_lone false kind.Woken first_lawful

pub not_unseen : (l : Look) → l ≡ off → l ≢ unseen
not_unseen l q r = let z : off ≡ unseen = sym q ∙ r in cc

pub not_unknown : (g : Glance) → g ≡ away → g ≢ unknown
not_unknown g q r = let z : away ≡ unknown = sym q ∙ r in cc

-- nothing stands anywhere
off_nowhere : (p : ℕ) → look_place off ≡ Some p → ⊥
off_nowhere p is = cc

away_nowhere : (p : ℕ) → glance_place away ≡ Some p → ⊥
away_nowhere p is = cc

below : (m n : ℕ) → nat_lt m n ≡ true → m < n
below m n is = grind arith

from_on : (m n : ℕ) → nat_lt m n ≡ false → n ≤ m
from_on m n is = grind arith

mark_low : (m : ℕ) → ENTRIES ≤ m → m < MEMBERS → m - ENTRIES < TASKS
mark_low m far small = omega arith

pub none_by : (k : Known) → ShowsEmpty k → (m p : ℕ) → m < MEMBERS → place_by k m ≡ Some p → ⊥
none_by k s m p small = by (nat_lt m ENTRIES) refl
  where
    by : (b : Bool) → nat_lt m ENTRIES ≡ b
        → (if b then look_place ((told_of k).hold.book m) else glance_place ((noted k).marks (m - ENTRIES))) ≡ Some p
        → ⊥
    by true q is = off_nowhere p (sym (ap look_place (s.entries m (below m ENTRIES q))) ∙ is)
    by false q is =
        away_nowhere p (sym (ap glance_place (s.marks (m - ENTRIES) (mark_low m (from_on m ENTRIES q) small))) ∙ is)

-- the empty queue lets it be queued
pub may_queue_lone : (exclusive : Bool) (form : Kind) → IsLawfulEntry (lone exclusive form) → is_simple form ≡ false
    → (k : Known) → (uses_flag form ≡ true → asks_for k ≡ nothing_asked) → ShowsEmpty k → k.at ≡ FIRST_PLAIN_HEAD
    → k.view.number < TASKS → MayQueue k 0 (lone exclusive form)
may_queue_lone exclusive form lawful plain k asks s at few = record {
  head = head_plain 0 ∙ sym at;
  standing = record {
    lawful = lawful;
    slot = λ _. omega arith;
    page_slot = λ _. omega arith;
    kind = λ _. plain;
    even = omega arith;
    priority = λ q. absurd (cc);
    plain = λ _. omega arith;
  };
  is_off = s.entries (index k.view.number 0) (omega arith);
  whole = record {
    entries = λ x small. not_unseen ((told_of k).hold.book x) (s.entries x small);
    marks = λ t small. not_unknown ((noted k).marks t) (s.marks t small);
  };
  place = inl (None, (λ p z. none_by k s z.member p z.counts z.stands), refl);
  tail = λ paged. not_both (is_page form) paged (plain_not_page form lawful.suited.1);
  asks = asks;
}

pub may_queue : (k : Known) → asks_for k ≡ nothing_asked → ShowsEmpty k → k.at ≡ FIRST_PLAIN_HEAD
    → k.view.number < TASKS → MayQueue k 0 first
may_queue k asks = may_queue_lone false kind.Woken first_lawful refl k (λ uses. asks)

module _ (k p q : Known) (x : ℕ) (at : k.at ≡ FIRST_PLAIN_HEAD) (few : x < ENTRIES) (clear : (noted k).own ≡ None)
    (is : p ≡ added k (item.Made (step.Queue x first))) (bit : q ≡ added p item.Member) where
  shows_first : (told_of q).hold.book x ≡ shown first
  shows_first = ap (λ (v : Told). v.hold.book x) (bit_told p q bit)
      ∙ (ap (λ (z : Known). (told_of z).hold.book x) is
      ∙ (ap (λ (v : Told). v.hold.book x) (told_added k (item.Made (step.Queue x first)))
      ∙ put_same (told_of k).hold.book x (shown first)))

  pub may_flag : (who : ℕ) → index who 0 ≡ x → MayFlag q who 0
  may_flag who mine = record {
    entry = first;
    shows = ap (told_of q).hold.book mine ∙ shows_first;
    woken = refl;
  }

  module _ (f : Known) (rung : f ≡ added q (item.Made (step.Woken x))) where
    at_f : f.at ≡ FIRST_PLAIN_HEAD
    at_f = ap (λ (z : Known). z.at) rung ∙ (bit_at p q bit ∙ (ap (λ (z : Known). z.at) is ∙ at))

    shows_rung : (told_of f).hold.book x ≡ shown first
    shows_rung = ap (λ (z : Known). (told_of z).hold.book x) rung
        ∙ (ap (λ (v : Told). v.hold.book x) (told_added q (item.Made (step.Woken x))) ∙ shows_first)

    stands_first : place_by f x ≡ Some FIRST_PLACE
    stands_first = ap (λ (b : Bool). if b then look_place ((told_of f).hold.book x) else glance_place
        ((noted f).marks (x - ENTRIES)))
        (let z : nat_lt x ENTRIES ≡ true = grind arith in z) ∙ ap look_place shows_rung

    pub may_mark : MayMark f (record { head = FIRST_PLAIN_HEAD; place = FIRST_PLACE - 1 })
    may_mark = record {
      head = sym at_f;
      standing = record { head = omega arith; odd = omega arith; low = omega arith; high = omega arith };
      none = ap (λ (z : Known). (noted z).own) rung
          ∙ (ap (λ (n : Notes). n.own) (noted_added q (item.Made (step.Woken x)))
          ∙ (ap (λ (n : Notes). n.own) (bit_noted p q bit)
          ∙ (ap (λ (z : Known). (noted z).own) is
          ∙ (ap (λ (n : Notes). n.own) (noted_added k (item.Made (step.Queue x first))) ∙ clear))));
      member = x;
      before = inl (few, stands_first);
    }

    module _ (l m : Known) (then_is : l ≡ added f (item.Made (step.Mark FIRST_PLAIN_HEAD (FIRST_PLACE - 1))))
        (then_bit : m ≡ added l item.Member) where
      at_m : m.at ≡ FIRST_PLAIN_HEAD
      at_m = bit_at l m then_bit ∙ (ap (λ (z : Known). z.at) then_is ∙ at_f)

      pub may_unmark : MayUnmark m
      may_unmark = record {
        mark = record { head = FIRST_PLAIN_HEAD; place = FIRST_PLACE - 1 };
        own = ap (λ (n : Notes). n.own) (bit_noted l m then_bit) ∙ (ap (λ (z : Known). (noted z).own) then_is
            ∙ ap (λ (n : Notes). n.own) (noted_added f (item.Made (step.Mark FIRST_PLAIN_HEAD (FIRST_PLACE - 1)))));
        head = sym at_m;
      }

      pub still_first : (t u : Known) → t ≡ added m (item.Made step.Unmark) → u ≡ added t item.Member
          → (told_of u).hold.book x ≡ shown first
      still_first t u last last_bit = ap (λ (v : Told). v.hold.book x) (bit_told t u last_bit)
          ∙ (ap (λ (z : Known). (told_of z).hold.book x) last
          ∙ (ap (λ (v : Told). v.hold.book x) (told_added m (item.Made step.Unmark))
          ∙ (ap (λ (v : Told). v.hold.book x) (bit_told l m then_bit)
          ∙ (ap (λ (z : Known). (told_of z).hold.book x) then_is
          ∙ (ap (λ (v : Told). v.hold.book x) (told_added f (item.Made (step.Mark FIRST_PLAIN_HEAD (FIRST_PLACE - 1))))
          ∙ shows_rung)))))

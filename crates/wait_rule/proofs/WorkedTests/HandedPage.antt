-- An entry for a page on an empty queue, and what its task and who hands the page over know of it, as the test of
-- pages makes them.
use Rattle.std.proofs.Common.{refl, sym, ◌∙◌, ap, arith, inr}
use Rattle.std.specs.Prelude.{ℕ, ◌≡◌, ◌*◌, ◌+◌, ◌<◌, Bool, false, if◌then◌else◌, Option, Some, None}
use Rattle.wait_model.specs.{declared.watches.Aim.Aim, declared.watches.Entry.Entry, declared.watches.Watch.Watch}
use Rattle.wait_model.specs.{EntryWords.is_shown, Views.View as Told, Views.look_at, Fold.is_off}
use Rattle.wait_model.specs.declared.layout.TheConstants.{TASKS, ENTRIES, HEADS, PAGES, WORD_BITS, FIRST_DONE_HEAD}
use Rattle.wait_model.specs.Watches.{head_of, hashed, page}
use Rattle.wait_model.specs.Words.{IsLawfulEntry, entry_of, entry_word}
use Rattle.wait_model.specs.declared.steps.Step.TheVariants as step
use Rattle.wait_model.proofs.{Functions.put_same, WordLaws.DecodedWords.entry_read}
use Rattle.wait_rule.specs.{declared.journal.Item.Item, Bits.StaysBeside, Items.Book, Known.Known}
use Rattle.wait_rule.specs.Asked.{Asked, nothing_asked, after_item, given_if, was_given_at, waits_at}
use Rattle.wait_rule.specs.Looking.{HasSeenEntries, HasSeenMarks, ShowsEmpty, StaysIdle, page_entry}
use Rattle.wait_rule.specs.Says.{IsUp, added, asks_for, noted, stored_with, told_of}
use Rattle.wait_rule.specs.Queues.{IsIdle, IsTailPlace, MayQueue, ShowsEntry, at_head, index, saw}
use Rattle.wait_rule.specs.declared.journal.Item.TheVariants as item
use Rattle.wait_rule.proofs.{KnownLaws.AfterSteps.told_added, KnownLaws.AskedPages.asked_added}
use Rattle.wait_rule.proofs.{KnownLaws.CarriedTasks.look_here, KnownLaws.MemberBits.told_stored}
use Rattle.wait_rule.proofs.{KnownLaws.PageStates.given_where_waited, KnownLaws.SettledTasks.unlock_mark}
use Rattle.wait_rule.proofs.KnownLaws.TicketSteps.{to_test}
use Rattle.wait_rule.proofs.WorkedTests.QueuedEntry.{none_by, not_unknown, not_unseen}

page_lawful : (w : ℕ) → w < PAGES → IsLawfulEntry (page_entry w)
page_lawful w few = record { place = omega arith; suited = (omega (arith, few), omega arith, inr (refl, refl)) }

-- the entry that its word shows
pub shown_page : (w n : ℕ) (e : Entry) → w < PAGES → n ≡ entry_word (Some (page_entry w)) → entry_of n ≡ Some e
    → e ≡ page_entry w
shown_page w n e few is reads =
    let z : Some e ≡ Some (page_entry w) = sym reads
    ∙ (ap entry_of is ∙ entry_read (page_entry w) (page_lawful w few)) in cc

hashed_low : (n : ℕ) → hashed n < 256
unfolding hashed
hashed_low n = omega arith

-- its head is one, and none of a completion
pub page_head_fits : (w h : ℕ) → h ≡ head_of (page w) → h < HEADS
unfolding head_of
page_head_fits w h is = let low = hashed_low (w * WORD_BITS + 0) in omega (arith, low, is)

pub page_head_low : (w h : ℕ) → h ≡ head_of (page w) → h < FIRST_DONE_HEAD
unfolding head_of
page_head_low w h is = let low = hashed_low (w * WORD_BITS + 0) in omega (arith, low, is)

-- the empty queue lets it be queued at the tail
pub may_queue_page : (k : Known) (w : ℕ) → w < PAGES → asks_for k ≡ nothing_asked → ShowsEmpty k
    → k.at ≡ head_of (page w) → k.view.number < TASKS → MayQueue k 0 (page_entry w)
may_queue_page k w page asks s at few = record {
  head = sym at;
  standing = record {
    lawful = page_lawful w page;
    slot = λ _. omega arith;
    page_slot = λ _. omega arith;
    kind = λ _. refl;
    even = omega arith;
    priority = λ q. absurd (cc);
    plain = λ _. omega arith;
  };
  is_off = s.entries (index k.view.number 0) (omega (arith, few));
  whole = record {
    entries = λ x small. not_unseen ((told_of k).hold.book x) (s.entries x small);
    marks = λ t small. not_unknown ((noted k).marks t) (s.marks t small);
  };
  place = inr tail;
  tail = λ _. tail;
  asks = λ _. asks;
}
  where
    tail : IsTailPlace k (page_entry w).place
    tail = (None, (λ p z. none_by k s z.member p z.counts z.stands), refl)

-- what a list tells of the page that is asked for, over a step that asks for none
pub waits_on : (k q : Known) (i : Item) (x w : ℕ) → q ≡ added k i → ((a : Asked) → after_item i a ≡ a)
    → waits_at x (asks_for k) ≡ Some w → waits_at x (asks_for q) ≡ Some w
waits_on k q i x w is same waits = ap (waits_at x) (ap asks_for is ∙ (asked_added k i ∙ same (asks_for k))) ∙ waits

pub waits_queued : (k q : Known) (x w : ℕ) → q ≡ stored_with k (step.Queue x (page_entry w))
    → waits_at x (asks_for q) ≡ Some w
waits_queued k q x w is = ap (waits_at x) (ap asks_for is
    ∙ (asked_added (added k (item.Made (step.Queue x (page_entry w)))) item.Member
    ∙ asked_added k (item.Made (step.Queue x (page_entry w)))))
    ∙ ap (λ (b : Bool). if b then Some w else None) (to_test x)

none_shown : (o : Option Entry) → is_shown o ≡ false → o ≡ None
none_shown None is = refl
none_shown (Some e) is = absurd (cc)

-- its entry was found off: a walk took the page for it
pub given_found : (k m f : Known) (x w v y g : ℕ) → k.book.head ≡ None
    → m ≡ added k (item.Made (saw k.book.head x v)) → is_shown (entry_of v) ≡ false
    → f ≡ added m (item.Made (step.Flag y g)) → waits_at x (asks_for k) ≡ Some w → was_given_at x (asks_for f) ≡ Some w
given_found k m f x w v y g out is off flag waits = ap (was_given_at x) (ap asks_for flag
    ∙ (asked_added m (item.Made (step.Flag y g)) ∙ (ap asks_for is
    ∙ (ap (λ (o : Option ℕ). asks_for (added k (item.Made (saw o x v)))) out
    ∙ (asked_added k (item.Made (step.Peek x v))
    ∙ ap (λ (o : Option Entry). given_if (is_off o) x (asks_for k)) (none_shown (entry_of v) off))))))
    ∙ given_where_waited x w (asks_for k) waits

-- in a hold that shows the entry
module _ (k m : Known) (x v at : ℕ) (e : Entry) (is : m ≡ added k (item.Made (saw k.book.head x v)))
    (held : k.book.head ≡ Some at) (told : (told_of k).hold.head ≡ Some at) where
  now : m ≡ added k (item.Made (step.Saw x v))
  now = is ∙ ap (λ (o : Option ℕ). added k (item.Made (saw o x v))) held

  pub shows_page : entry_of v ≡ Some e → head_of e.watch ≡ at → ShowsEntry m x e
  shows_page reads here = ap (λ (z : Known). (told_of z).hold.book x) now
      ∙ (ap (λ (t : Told). t.hold.book x) (told_added k (item.Made (step.Saw x v)))
      ∙ (put_same (told_of k).hold.book x (look_at (told_of k).hold.head (entry_of v))
      ∙ ((λ i. look_at (told i) (reads i)) ∙ look_here at e here)))

-- after a try of the page
module _ (m t : Known) (x w r : ℕ) (is : t ≡ added m (item.Made (step.TasFor x w r))) where
  pub tried_shows : (e : Entry) → ShowsEntry m x e → ShowsEntry t x e
  tried_shows e shows = ap (λ (z : Known). (told_of z).hold.book x) is
      ∙ (ap (λ (v : Told). v.hold.book x) (told_added m (item.Made (step.TasFor x w r))) ∙ shows)

-- a head is taken by the first ticket, for an entry that is queued there, and given back
module _ (k t l : Known) (h n w found : ℕ) (walk : Option Aim)
    (turn : t ≡ added (added k (item.Drawn h n)) (item.Serving h w))
    (lock : l ≡ at_head h (added t (item.Made (step.Lock h walk found)))) where
  pub locked_asks : asks_for k ≡ nothing_asked → asks_for l ≡ nothing_asked
  locked_asks none = ap asks_for lock ∙ (asked_added t (item.Made (step.Lock h walk found)) ∙ (ap asks_for turn
      ∙ (asked_added (added k (item.Drawn h n)) (item.Serving h w) ∙ (asked_added k (item.Drawn h n) ∙ none))))

  locked_mark : (told_of l).mark ≡ (told_of k).mark
  locked_mark = ap (λ (z : Known). (told_of z).mark) lock
      ∙ (ap (λ (v : Told). v.mark) (told_added t (item.Made (step.Lock h walk found)))
      ∙ (ap (λ (z : Known). (told_of z).mark) turn
      ∙ (ap (λ (v : Told). v.mark) (told_added (added k (item.Drawn h n)) (item.Serving h w))
      ∙ ap (λ (v : Told). v.mark) (told_added k (item.Drawn h n)))))

  module _ (m z q b u s : Known) (empty clear : Bool) (x p at : ℕ) (changes : Watch → Bool)
      (entries : HasSeenEntries l m empty ENTRIES) (marks : HasSeenMarks m z clear TASKS)
      (queued : q ≡ stored_with z (step.Queue x (page_entry p))) (stays : StaysBeside changes q b)
      (unlock : u ≡ added b (item.Made (step.Unlock at false))) (serve : s ≡ added u item.Served) where
    pub come_idle : IsUp k → IsIdle k → StaysIdle k s
    come_idle up idle = record {
      domain = ap (λ (y : Known). y.domain) serve ∙ (ap (λ (y : Known). y.domain) unlock ∙ (stays.domain
          ∙ (ap (λ (y : Known). y.domain) queued ∙ (marks.domain ∙ (entries.domain
          ∙ (ap (λ (y : Known). y.domain) lock ∙ ap (λ (y : Known). y.domain) turn))))));
      number = ap (λ (y : Known). y.view.number) serve ∙ (ap (λ (y : Known). y.view.number) unlock ∙ (stays.number
          ∙ (ap (λ (y : Known). y.view.number) queued ∙ (marks.number ∙ (entries.number
          ∙ (ap (λ (y : Known). y.view.number) lock ∙ ap (λ (y : Known). y.view.number) turn))))));
      up = ap (λ (y : Known). y.book.awake) serve ∙ (ap (λ (y : Known). y.book.awake) unlock ∙ (stays.awake
          ∙ (ap (λ (y : Known). y.book.awake) queued ∙ (ap (λ (c : Book). c.awake) marks.book
          ∙ (ap (λ (c : Book). c.awake) entries.book
          ∙ (ap (λ (y : Known). y.book.awake) lock ∙ (ap (λ (y : Known). y.book.awake) turn ∙ up)))))));
      idle = record {
        running = ap (λ (y : Known). y.book.state) serve ∙ (ap (λ (y : Known). y.book.state) unlock ∙ (stays.state
            ∙ (ap (λ (y : Known). y.book.state) queued ∙ (ap (λ (c : Book). c.state) marks.book
            ∙ (ap (λ (c : Book). c.state) entries.book
            ∙ (ap (λ (y : Known). y.book.state) lock
            ∙ (ap (λ (y : Known). y.book.state) turn ∙ idle.running)))))));
        free = record {
          head = ap (λ (y : Known). y.book.head) serve ∙ ap (λ (y : Known). y.book.head) unlock;
          ticket = ap (λ (y : Known). y.book.ticket) serve;
        };
        unmarked = ap (λ (y : Known). (told_of y).mark) serve
            ∙ (ap (λ (v : Told). v.mark) (told_added u item.Served)
            ∙ (ap (λ (y : Known). (told_of y).mark) unlock
            ∙ (ap (λ (v : Told). v.mark) (told_added b (item.Made (step.Unlock at false)))
            ∙ (unlock_mark (told_of b) (told_of b).walk false ∙ (stays.mark
            ∙ (ap (λ (y : Known). (told_of y).mark) queued
            ∙ (ap (λ (v : Told). v.mark) (told_stored z (step.Queue x (page_entry p)))
            ∙ (ap (λ (v : Told). v.mark) marks.told ∙ (entries.mark ∙ (locked_mark ∙ idle.unmarked))))))))));
      };
    }

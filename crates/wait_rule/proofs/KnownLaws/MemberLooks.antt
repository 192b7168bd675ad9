-- Looks at the members of a head, one more at a time.
use Rattle.std.proofs.Common.{refl, ◌∙◌, ap, arith}
use Rattle.std.specs.Prelude.{ℕ, ◌≡◌, ◌+◌, ◌*◌, ◌/◌, ◌%◌, ◌<◌, Bool, true, false, Option, Some, None}
use Rattle.wait_model.specs.{declared.watches.Entry.Entry, EntryWords.is_shown, Words.entry_of, Tables.mark_of}
use Rattle.wait_model.specs.Views.{View as Told, Look, off, look_at}
use Rattle.wait_model.specs.declared.steps.Step.TheVariants as step
use Rattle.wait_model.proofs.Functions.{put_at}
use Rattle.wait_rule.specs.declared.journal.Item.TheVariants as item
use Rattle.wait_rule.specs.{Known.Known, Asked.ask_step, Queues.saw, Looking.HasSeenEntries, Looking.HasSeenMarks}
use Rattle.wait_rule.specs.Notes.{Notes, Glance, away, glance_at}
use Rattle.wait_rule.specs.Says.{added, asks_for, told_of, noted}
use Rattle.wait_rule.proofs.KnownLaws.AfterSteps.{told_added, noted_added}
use Rattle.wait_rule.proofs.KnownLaws.AskedPages.{asked_added, asks_nothing}

none_off : (o : Option Entry) (h : ℕ) → is_shown o ≡ false → look_at (Some h) o ≡ off
none_off None h q = refl
none_off (Some e) h q = absurd (cc)

module _ (first old new : Known) (h x w : ℕ) (held : old.book.head ≡ Some h) (told : (told_of old).hold.head ≡ Some h)
    (is : new ≡ added old (item.Made (saw old.book.head x w))) where
  now : new ≡ added old (item.Made (step.Saw x w))
  now = is ∙ ap (λ (o : Option ℕ). added old (item.Made (saw o x w))) held

  told_now : told_of new ≡ told_of (added old (item.Made (step.Saw x w)))
  told_now = ap told_of now

  -- by what it has seen then
  entry_on : (empty then_empty : Bool)
      → (then_empty ≡ true → (y : ℕ) → y < x + 1 → (told_of new).hold.book y ≡ off)
      → HasSeenEntries first old empty x → HasSeenEntries first new then_empty (x + 1)
  entry_on empty then_empty seen s = record {
    domain = ap (λ (k : Known). k.domain) now ∙ s.domain;
    at = ap (λ (k : Known). k.at) now ∙ s.at;
    book = ap (λ (k : Known). k.book) now ∙ s.book;
    number = ap (λ (k : Known). k.view.number) now ∙ s.number;
    head = ap (λ (v : Told). v.hold.head) (told_now ∙ told_added old (item.Made (step.Saw x w))) ∙ s.head;
    walk = ap (λ (v : Told). v.walk) (told_now ∙ told_added old (item.Made (step.Saw x w))) ∙ s.walk;
    mark = ap (λ (v : Told). v.mark) (told_now ∙ told_added old (item.Made (step.Saw x w))) ∙ s.mark;
    noted = ap noted now ∙ (noted_added old (item.Made (step.Saw x w)) ∙ s.noted);
    asks = λ none. ap asks_for now ∙ (asked_added old (item.Made (step.Saw x w))
        ∙ (ap (ask_step (step.Saw x w)) (s.asks none) ∙ asks_nothing (step.Saw x w) (λ y f same. absurd (cc))));
    seen = seen;
  }

  pub entry_more : (empty : Bool) → HasSeenEntries first old empty x
      → HasSeenEntries first new false (x + 1)
  entry_more empty s = entry_on empty false (λ q. absurd (cc)) s

  pub entry_off : is_shown (entry_of w) ≡ false → (empty : Bool) → HasSeenEntries first old empty x
      → HasSeenEntries first new empty (x + 1)
  entry_off none empty s = entry_on empty empty
      (λ q y small. ap (λ (v : Told). v.hold.book y) (told_now ∙ told_added old (item.Made (step.Saw x w)))
      ∙ put_at (λ (l : Look). l ≡ off) (told_of old).hold.book x (look_at (told_of old).hold.head (entry_of w)) y
      (λ _. ap (λ (o : Option ℕ). look_at o (entry_of w)) told ∙ none_off (entry_of w) h none)
      (λ ne. s.seen q y (omega arith))) s

module _ (first old new : Known) (h t w : ℕ) (told : (told_of old).hold.head ≡ Some h)
    (is : new ≡ added old (item.Bookmark t w)) where
  mark_on : (empty then_empty : Bool) → (then_empty ≡ true → (u : ℕ) → u < t + 1 → (noted new).marks u ≡ away)
      → HasSeenMarks first old empty t → HasSeenMarks first new then_empty (t + 1)
  mark_on empty then_empty seen s = record {
    domain = ap (λ (k : Known). k.domain) is ∙ s.domain;
    at = ap (λ (k : Known). k.at) is ∙ s.at;
    book = ap (λ (k : Known). k.book) is ∙ s.book;
    number = ap (λ (k : Known). k.view.number) is ∙ s.number;
    told = ap told_of is ∙ (told_added old (item.Bookmark t w) ∙ s.told);
    own = ap (λ (k : Known). (noted k).own) is
        ∙ (ap (λ (k : Notes). k.own) (noted_added old (item.Bookmark t w)) ∙ s.own);
    walk = ap (λ (k : Known). (noted k).walk) is
        ∙ (ap (λ (k : Notes). k.walk) (noted_added old (item.Bookmark t w)) ∙ s.walk);
    from = ap (λ (k : Known). (noted k).from) is
        ∙ (ap (λ (k : Notes). k.from) (noted_added old (item.Bookmark t w)) ∙ s.from);
    called = ap (λ (k : Known). (noted k).called) is
        ∙ (ap (λ (k : Notes). k.called) (noted_added old (item.Bookmark t w)) ∙ s.called);
    asks = ap asks_for is ∙ (asked_added old (item.Bookmark t w) ∙ s.asks);
    seen = seen;
  }

  pub mark_more : (empty : Bool) → HasSeenMarks first old empty t → HasSeenMarks first new false (t + 1)
  mark_more empty s = mark_on empty false (λ q. absurd (cc)) s

  pub mark_off : mark_of w ≡ None → (empty : Bool) → HasSeenMarks first old empty t
      → HasSeenMarks first new empty (t + 1)
  mark_off none empty s = mark_on empty empty (λ q u small. ap (λ (k : Known). (noted k).marks u) is
      ∙ (ap (λ (k : Notes). k.marks u) (noted_added old (item.Bookmark t w))
      ∙ put_at (λ (g : Glance). g ≡ away) (noted old).marks t (glance_at (told_of old).hold.head (mark_of w)) u
      (λ _. (λ i. glance_at (told i) (none i))) (λ ne. s.seen q u (omega arith)))) s

pub zero_mark : mark_of 0 ≡ None
unfolding mark_of
zero_mark = refl

pub whose_entry : (i : ℕ) → 2 * (i / 2) + i % 2 ≡ i
whose_entry i = omega arith

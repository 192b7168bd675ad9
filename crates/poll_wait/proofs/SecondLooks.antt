-- A look at the own entry of slot 1.
use Rattle.std.proofs.Common.{◌∙◌, ap, sym, refl, subst, arith, eq-eqb}
use Rattle.std.specs.Prelude.{ℕ, ◌≡◌, Bool, if◌then◌else◌, Option, Some, None, [], ◌∷◌}
use Rattle.wait_model.specs.declared.steps.Step.TheVariants as step
use Rattle.wait_model.specs.{declared.watches.Entry.Entry, Fold.forgotten, Watches.head_of, Watches.owner}
use Rattle.wait_model.specs.Words.{entry_of}
use Rattle.wait_model.specs.Views.{View as Told, Look, look_at, elsewhere, shown}
use Rattle.wait_model.proofs.Functions.{put_same}
use Rattle.wait_rule.specs.declared.journal.Item.TheVariants as item
use Rattle.wait_rule.specs.{Items.book_from, Known.Known, Queues.index, Queues.saw, Says.added, Says.told_of}
use Rattle.wait_rule.specs.Transitions.{AreLooks, IsSeenAs, OnlyLooks}
use Rattle.wait_rule.proofs.{KnownLaws.AfterSteps.told_added, KnownLaws.Transitions.only_looked}
use Rattle.wq_head.specs.{Holds.IsHolding, Looks.Looks}
use Rattle.wq_head.proofs.OneMoreLook.{saw_looks}
use Rattle.poll_wait.specs.{Seconds.second_of, SecondSteps.HasSeenSecond}

pub owner_second : (n : ℕ) → owner (index n 1) ≡ n
unfolding owner
owner_second n = omega arith

module _ (old new : Known) (o : Option Entry) (h : HasSeenSecond old new o) where
  abbrev x : ℕ
  x = second_of old

  bits_by : (q : Option ℕ) → (told_of (added old (item.Made (saw q x h.word)))).bits.stored
      ≡ forgotten (told_of old) x (entry_of h.word)
  bits_by None = ap (λ (v : Told). v.bits.stored) (told_added old (item.Made (step.Peek x h.word)))
  bits_by (Some i) = ap (λ (v : Told). v.bits.stored) (told_added old (item.Made (step.Saw x h.word)))

  book_by : (q : Option ℕ) → (added old (item.Made (saw q x h.word))).book ≡ old.book
  book_by None = refl
  book_by (Some i) = refl

  left_by : (f : Option Entry) → ((e : Entry) → f ≡ Some e → (told_of old).bits.stored x ≡ Some e)
      → forgotten (told_of old) x f x ≡ f
  left_by None stays = put_same (told_of old).bits.stored x None
  left_by (Some e) stays = stays e refl

  -- what it shows is what the history had stored
  pub second_stored : (e : Entry) → o ≡ Some e → (told_of old).bits.stored x ≡ Some e
  second_stored e is = h.knew.own 1 (omega arith) refl e (sym h.reads ∙ is)

  -- what the history has stored is now what the word showed
  pub second_is : (told_of new).bits.stored x ≡ o
  second_is = ap (λ (j : Known). (told_of j).bits.stored x) h.is
      ∙ (ap (λ (f : ℕ → Option Entry). f x) (bits_by old.book.head)
      ∙ (left_by (entry_of h.word) (λ e is. h.knew.own 1 (omega arith) refl e is) ∙ sym h.reads))

  -- in a hold the look enters what the hold shows
  pub second_looks : (i : ℕ) → old.book.head ≡ Some i → OnlyLooks old new
  second_looks i held = only_looked old new (item.Made (saw old.book.head x h.word) ∷ []) (same old.book.head)
      (by old.book.head held) (h.is ∙ (λ j. record (added old (item.Made (saw old.book.head x h.word))) {
        book = book_by old.book.head j;
      }))
    where
      same : (q : Option ℕ) → book_from old.book (item.Made (saw q x h.word) ∷ []) ≡ old.book
      same None = refl
      same (Some j) = refl

      by : (q : Option ℕ) → q ≡ Some i → AreLooks (item.Made (saw q x h.word) ∷ [])
      by None at = absurd (cc)
      by (Some j) at = (tt, tt)

  seen_at : (i : ℕ) → old.book.head ≡ Some i → (told_of old).hold.head ≡ Some i
      → (told_of new).hold.book x ≡ look_at (Some i) (entry_of h.word)
  seen_at i held told = ap (λ (j : Known). (told_of j).hold.book x) (h.is
      ∙ ap (λ (q : Option ℕ). added old (item.Made (saw q x h.word))) held)
      ∙ (ap (λ (v : Told). v.hold.book x) (told_added old (item.Made (step.Saw x h.word)))
      ∙ (put_same (told_of old).hold.book x (look_at (told_of old).hold.head (entry_of h.word))
      ∙ ap (λ (q : Option ℕ). look_at q (entry_of h.word)) told))

  pub second_shows : (i : ℕ) → old.book.head ≡ Some i → (told_of old).hold.head ≡ Some i → (e : Entry) → o ≡ Some e
      → head_of e.watch ≡ i → (told_of new).hold.book x ≡ shown e
  second_shows i held told e some here = seen_at i held told ∙ (ap (look_at (Some i)) (sym h.reads ∙ some)
      ∙ ap (λ (b : Bool). if b then shown e else elsewhere) (eq-eqb (head_of e.watch) i here))

  -- so the program finds it
  pub finds_second : (i : ℕ) → old.book.head ≡ Some i → (told_of old).hold.head ≡ Some i
      → ((e : Entry) → o ≡ Some e → head_of e.watch ≡ i) → (f : Option Entry) → o ≡ f
      → IsSeenAs ((told_of new).hold.book x) f
  finds_second i held told here None is = subst (λ (l : Look). IsSeenAs l None)
      (sym (seen_at i held told ∙ ap (look_at (Some i)) (sym h.reads ∙ is))) refl
  finds_second i held told here (Some e) is = subst (λ (l : Look). IsSeenAs l (Some e))
      (sym (second_shows i held told e is (here e is))) refl

  module _ (held : IsHolding old) where
    pub hold_looks : Looks old new
    hold_looks = saw_looks old new x h.word held h.is h.knew

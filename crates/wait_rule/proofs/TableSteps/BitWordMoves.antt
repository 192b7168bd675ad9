-- What each step on a bit word asks of the table of words, by the law of its kind.
use Rattle.std.proofs.Common.{refl, sym, ◌∙◌, ap, subst, inl, inr}
use Rattle.std.specs.Prelude.{ℕ, ◌≡◌, ◌+◌, ◌-◌, ◌*◌, ◌%◌, ◌^◌, ◌<◌, ◌⊎◌, true, Some, None, bit_and, bit_or}
use Rattle.std.specs.Prelude.{slice_index}
use mathlib.Core.Option.{none}
use Rattle.atomic_table.specs.{Seated.TableId, Table.step as move, Table.Allows}
use Rattle.wait_model.specs.{declared.watches.Watch.Watch, Words.bit_word, Views.View as Told}
use Rattle.wait_model.specs.declared.layout.TheConstants.{BIT_WORDS, WORD_BITS, CONDITION_AT, FIRST_BIT_WORD}
use Rattle.wait_model.specs.declared.watches.Watch.TheVariants as watch
use Rattle.wait_model.specs.declared.steps.Step.TheVariants as step
use Rattle.wait_model.specs.Locations as place
use Rattle.wait_model.proofs.WordLaws.BitWords.{bit_word_set, bit_word_clear}
use Rattle.wait_rule.specs.declared.journal.Item.TheVariants as item
use Rattle.wait_rule.specs.{Items.nothing, Items.book_of, Known.known, Says.told_of, Rule.Law, Rule.Holds, Plays.Sat}
use Rattle.wait_rule.specs.{Plays.seat_with, BitPlays.bit_set_play, BitPlays.bit_cleared_play}
use Rattle.wait_rule.proofs.TableSteps.KeptSteps.{KeepsLaw, steps, told_as}
use Rattle.wait_rule.proofs.TableSteps.QueueMoves.{head_seen}
use Rattle.wait_rule.proofs.StepKinds.BitKinds.{bit_sets, bit_clears}

-- whoever stored RUNNING last is in that state
running_still : (n b : ℕ) → (n ≡ 0) ⊎ (n ≡ b) → b ≡ 0 → n ≡ 0
running_still n b (inl is) zero = is
running_still n b (inr is) zero = is ∙ zero

module _ (slots id : ℕ) (me : Sat) (lives : me.0.lives ≡ true) (w b p : ℕ) (named : Watch)
    (same : watch.Bit w b ≡ named) (few : w < BIT_WORDS) (small : b < WORD_BITS)
    (at : p ≡ CONDITION_AT + FIRST_BIT_WORD + w) where
  pub bit_set_moves : ((h : ℕ) → (book_of me.0.items).head ≡ Some h → (book_of me.0.items).differs ≡ nothing)
      → Allows (Holds Law) slots id me p (λ n. bit_or n (1 * 2 ^ b % 2 ^ 64))
      (bit_set_play named (move slots p (1 * 2 ^ b % 2 ^ 64) 0 none) me)
  bit_set_moves clear s r long at_id less =
      let a = steps slots id me lives (place.Bits w) few p at refl (λ n. bit_or n (1 * 2 ^ b % 2 ^ 64))
      (λ n. step.Consume (watch.Bit w b) 1 n) (λ _. Unit {0})
      (λ z items ruled own fits. (
        subst (λ (n : ℕ). KeepsLaw z me.0.number (place.Bits w) n
            (step.Consume (watch.Bit w b) 1 (bit_word WORD_BITS (z.words.bits w))) (book_of me.0.items))
            (bit_word_set (z.words.bits w) b small)
            (bit_sets z items ruled me.0.number (book_of me.0.items) fits w b small
            (λ h held. clear h (sym (head_seen z items me (book_of me.0.items).head own refl) ∙ held))),
        tt,
      )) s r long at_id less in
      told_as a (λ _ _ t. t.0 ∙ ap (λ (k : Watch). seat_with me (item.Made (step.Consume k 1 (slice_index s.words p)))) same)

  pub bit_clear_moves : (d : TableId) (at_last : ℕ) → (book_of me.0.items).head ≡ None
      → (book_of me.0.items).state ≡ 0
      → (told_of (known d me.0 at_last)).bits.keeps (watch.Bit w b) ≡ true
      → Allows (Holds Law) slots id me p (λ n. bit_and n (2 ^ 64 - 1 - 1 * 2 ^ b % 2 ^ 64))
      (bit_cleared_play named (move slots p (2 ^ 64 - 1 - 1 * 2 ^ b % 2 ^ 64) 0 none) me)
  bit_clear_moves d at_last free running keeps s r long at_id less =
      let a = steps slots id me lives (place.Bits w) few p at refl
      (λ n. bit_and n (2 ^ 64 - 1 - 1 * 2 ^ b % 2 ^ 64))
      (λ n. step.Publish (watch.Bit w b) 0 n) (λ _. Unit {0})
      (λ z items ruled own fits. (
        subst (λ (n : ℕ). KeepsLaw z me.0.number (place.Bits w) n
            (step.Publish (watch.Bit w b) 0 (bit_word WORD_BITS (z.words.bits w))) (book_of me.0.items))
            (bit_word_clear (z.words.bits w) b small)
            (bit_clears z items ruled me.0.number (book_of me.0.items) fits w b small
            (head_seen z items me None own free)
            (running_still (z.task me.0.number).state (book_of me.0.items).state fits.stored running)
            (ap (λ (v : Told). v.bits.keeps (watch.Bit w b)) own.told ∙ keeps)),
        tt,
      )) s r long at_id less in
      told_as a (λ _ _ t. t.0 ∙ ap (λ (k : Watch). seat_with me (item.Made (step.Publish k 0 (slice_index s.words p)))) same)

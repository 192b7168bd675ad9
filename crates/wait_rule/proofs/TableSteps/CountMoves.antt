-- What each step on a done count asks of the table of words, by the law of its kind.
use Rattle.std.proofs.Common.{refl, sym, ◌∙◌, ap, subst, arith, inl, inr}
use Rattle.std.specs.Prelude.{ℕ, ◌≡◌, ◌+◌, ◌<◌, true, Option, Some, List, slice_index}
use mathlib.Core.Option.{none}
use Rattle.atomic_table.specs.{Seated.TableId, Table.step as move, Table.Allows}
use Rattle.wait_model.specs.{DoneCounts.IsStored, Runs.set_step, Watches.head_of, Tables.Table}
use Rattle.wait_model.specs.declared.layout.TheConstants.{COMPLETIONS, CONDITION_AT, FIRST_DONE}
use Rattle.wait_model.specs.declared.watches.Watch.TheVariants as watch
use Rattle.wait_model.specs.declared.steps.Step.TheVariants as step
use Rattle.wait_model.specs.Locations as place
use Rattle.wait_rule.specs.{declared.journal.Item.Item, HeldValues.count_in, Known.known, Plays.Sat, Plays.seat_with}
use Rattle.wait_rule.specs.Items.{nothing, steps_of, book_of}
use Rattle.wait_rule.specs.Rule.{IsRuled, Law, Holds}
use Rattle.wait_rule.specs.Counts.{FindsCount, MayStoreCount, IsCountFor}
use Rattle.wait_rule.specs.CountPlays.{cell_of_place, count_loaded_play, count_stored_play}
use Rattle.wait_rule.specs.declared.journal.Item.TheVariants as item
use Rattle.wait_rule.proofs.TableSteps.KeptSteps.{IsOwn, steps, told_as}
use Rattle.wait_rule.proofs.TableSteps.QueueMoves.{head_seen}
use Rattle.wait_rule.proofs.StepKinds.CountKinds.{count_loads, count_stores}

-- what is known of a count that stands
finds_count : (s : Table) (items : ℕ → List Item) (me : Sat) (d : ℕ) → IsRuled s items → IsOwn s items me
    → (t : TableId) → FindsCount (known t me.0 0) d (s.words.dones d)
finds_count s items me d ruled own t = (
  (ruled.whole.counts d).range,
  λ held v is. ruled.counts me.0.number d v (head_seen s items me (Some (head_of (watch.Done d))) own held)
      (ap (count_in d) (ruled.histories me.0.number ∙ ap steps_of own.list) ∙ is),
)

-- a value that may be stored is one of those that a store may leave
stored_for : (o : Option ℕ) (found n : ℕ) → IsCountFor o n → ((v : ℕ) → o ≡ Some v → found ≡ v) → IsStored n found
stored_for o found n (inl zero) same = (omega (arith, zero), inr (inr (inl zero)))
stored_for o found n (inr (inl all)) same = (omega (arith, all), inr (inr (inr all)))
stored_for o found n (inr (inr k)) same = subst (IsStored n) (sym (same k.0 k.1)) k.2

module _ (slots id : ℕ) (me : Sat) (lives : me.0.lives ≡ true) (d p : ℕ) (small : d < COMPLETIONS)
    (at : p ≡ CONDITION_AT + FIRST_DONE + d) where
  count_there : d ≡ cell_of_place p
  count_there = omega arith

  pub count_load_moves : ((h : ℕ) → (book_of me.0.items).head ≡ Some h → (book_of me.0.items).differs ≡ nothing)
      → Allows (Holds Law) slots id me p (λ n. n) (count_loaded_play (move slots p 0 0 none) me)
  count_load_moves clear = subst
      (λ (k : ℕ). Allows (Holds Law) slots id me p (λ n. n)
      (λ n m. (m ≡ seat_with me (item.Made (step.Load (watch.Done k) n)))
      × ((t : TableId) → FindsCount (known t me.0 0) k n))) count_there
      (steps slots id me lives (place.Done d) small p at refl (λ n. n) (λ w. step.Load (watch.Done d) w)
      (λ n. (t : TableId) → FindsCount (known t me.0 0) d n)
      (λ s items ruled own fits. (
        count_loads s items ruled me.0.number (book_of me.0.items) fits d
            (λ h held. clear h (sym (head_seen s items me (book_of me.0.items).head own refl) ∙ held)),
        finds_count s items me d ruled own,
      )))

  pub count_store_moves : (t : TableId) (n at_last : ℕ) → MayStoreCount (known t me.0 at_last) d n
      → Allows (Holds Law) slots id me p (λ _. n) (λ _. count_stored_play (move slots p n 0 none) me n)
  count_store_moves t n at_last may s r long at_id few =
      let a = steps slots id me lives (place.Done d) small p at refl (λ _. n) (λ w. set_step (watch.Done d) n w)
      (λ w. (t : TableId) → FindsCount (known t me.0 0) d w)
      (λ z items ruled own fits.
      let finds = finds_count z items me d ruled own in (
        count_stores z items ruled me.0.number (book_of me.0.items) fits d n
            (head_seen z items me (Some (head_of (watch.Done d))) own may.held)
            (stored_for (count_in d (steps_of me.0.items)) (z.words.dones d) n may.value
            (λ v is. (finds t).1 may.held v is)),
        finds,
      )) s r long at_id few in
      told_as a (λ _ _ t. (
        slice_index s.words p,
        subst (λ (k : ℕ). (t : TableId) → FindsCount (known t me.0 0) k (slice_index s.words p)) count_there t.1,
        t.0
            ∙ ap (λ (k : ℕ). seat_with me (item.Made (set_step (watch.Done k) n (slice_index s.words p))))
            count_there,
      ))

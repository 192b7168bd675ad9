-- What each step by which a page is handed over asks of the table of words, by the law of its kind.
use Rattle.std.proofs.Common.{refl, ◌∙◌, ap, subst, sym, arith, inl, inr}
use Rattle.std.specs.Prelude.{ℕ, ◌≡◌, ◌<◌, ◌+◌, ◌-◌, Bool, true, false, Some, List, slice_index, bit_or}
use mathlib.Core.Option.{none}
use Rattle.atomic_table.specs.{Seated.TableId, Table.step as move, Table.Allows}
use Rattle.wait_model.specs.{declared.watches.Entry.Entry, Views.View as Told, Views.shown, Tables.Table}
use Rattle.wait_model.specs.declared.layout.TheConstants.{BIT_WORDS, WORD_BITS, ENTRIES, CONDITION_AT, FIRST_BIT_WORD}
use Rattle.wait_model.specs.declared.layout.TheConstants.{ENTRY_AT, FLAG_AT, HANDED}
use Rattle.wait_model.specs.Watches.{is_page, owner, page}
use Rattle.wait_model.specs.Words.{bit_word, done_word, flag_word}
use Rattle.wait_model.specs.declared.steps.Step.TheVariants as step
use Rattle.wait_model.specs.Locations as place
use Rattle.wait_model.proofs.WordLaws.BitWords.{bit_word_set}
use Rattle.wait_rule.specs.{declared.journal.Item.Item, Known.known, Asked.asked_by_items, Asked.was_given_at}
use Rattle.wait_rule.specs.{Pages.IsPageless, Quiet.is_quiet_at, Quiet.is_told, QueuePlays.unqueued_play, Says.told_of}
use Rattle.wait_rule.specs.{Rule.Holds, Rule.Law, Plays.Sat, Plays.seat_with}
use Rattle.wait_rule.specs.Items.{nothing, page_taken, page_told, book_of, steps_of}
use Rattle.wait_rule.specs.PageCalls.{IsFlagWord, ShowsGiven, ShowsNoFlag, tried_for_play, told_play, flag_word_play}
use Rattle.wait_rule.specs.PageCalls.{noted_play}
use Rattle.wait_rule.specs.declared.journal.Item.TheVariants as item
use Rattle.wait_rule.proofs.{TableSteps.QueueMoves.head_seen, StepKinds.EntryKinds.unqueues}
use Rattle.wait_rule.proofs.StepKinds.FlagKinds.{flag_loads}
use Rattle.wait_rule.proofs.TableSteps.KeptSteps.{IsOwn, KeepsLaw, steps, told_as}
use Rattle.wait_rule.proofs.StepKinds.PageKinds.{tries_for, tells, told_fair, shows_given, shows_none, notes_page}

is_flag_word : (woken done : Bool) → IsFlagWord (done_word woken done)
is_flag_word true true = inr (inr refl)
is_flag_word true false = inr (inl refl)
is_flag_word false done = inl refl

module _ (slots id : ℕ) (me : Sat) (lives : me.0.lives ≡ true) where
  differs_own : (s : Table) (items : ℕ → List Item) → IsOwn s items me
      → (book_of (items me.0.number)).differs ≡ (book_of me.0.items).differs
  differs_own s items own = ap (λ (xs : List Item). (book_of xs).differs) own.list

  pub try_for_moves : (x named w p h : ℕ) (e : Entry) (d : TableId) → x ≡ named → w < BIT_WORDS
      → p ≡ CONDITION_AT + FIRST_BIT_WORD + w → (book_of me.0.items).head ≡ Some h
      → (told_of (known d me.0 0)).hold.book x ≡ shown e → is_page e.kind ≡ true → e.watch ≡ page w
      → (book_of me.0.items).differs ≡ nothing
      → Allows (Holds Law) slots id me p (λ n. bit_or n 1) (tried_for_play named (move slots p 1 0 none) me)
  try_for_moves x named w p h e d same few at held shows kind for clear s r long at_id less =
      let a = steps slots id me lives (place.Bits w) few p at refl (λ n. bit_or n 1) (λ n. step.TasFor x w n)
      (λ _. Unit {0})
      (λ z items ruled own fits. (
        subst (λ (n : ℕ). KeepsLaw z me.0.number (place.Bits w) n
            (step.TasFor x w (bit_word WORD_BITS (z.words.bits w))) (book_of me.0.items))
            (bit_word_set (z.words.bits w) 0 (omega arith))
            (tries_for z items ruled me.0.number (book_of me.0.items) fits (differs_own z items own) x w h e
            (head_seen z items me (Some h) own held) (ap (λ (v : Told). v.hold.book x) own.told ∙ shows) kind for
            clear),
        tt,
      )) s r long at_id less in
      let there : w ≡ p - (CONDITION_AT + FIRST_BIT_WORD) = omega arith in
      told_as a (λ _ _ t. t.0 ∙ (λ i. seat_with me (item.Made (step.TasFor (same i) (there i) (slice_index s.words p)))))

  module _ (x p : ℕ) (small : x < ENTRIES) (at : p ≡ FLAG_AT + x) where
    flag_there : x ≡ p - FLAG_AT
    flag_there = omega arith

    pub tell_moves : (book_of me.0.items).differs ≡ page_taken x
        → Allows (Holds Law) slots id me p (λ _. HANDED) (λ _. told_play (move slots p HANDED 0 none) me HANDED)
    tell_moves taken s r long at_id few =
        let a = steps slots id me lives (place.Flag x) small p at refl (λ _. HANDED) (λ w. step.Handed x)
        (λ _. Unit {0})
        (λ z items ruled own fits. (
          tells z items ruled me.0.number (book_of me.0.items) fits (differs_own z items own) x taken,
          tt,
        )) s r long at_id few in
        told_as a (λ _ _ t. t.0 ∙ ap (λ (k : ℕ). seat_with me (item.Made (step.Handed k))) flag_there)

    module _ (mine : owner x ≡ me.0.number) where
      pub flag_word_moves : Allows (Holds Law) slots id me p (λ n. n) (flag_word_play (move slots p 0 0 none) me)
      flag_word_moves s r long at_id few =
          let a = steps slots id me lives (place.Flag x) small p at refl (λ n. n) (λ w. step.Flag x w)
          (λ n. IsFlagWord n × ((d : TableId) → ShowsGiven (known d me.0 0) x n)
          × ((d : TableId) → ShowsNoFlag (known d me.0 0) x n))
          (λ z items ruled own fits. (
            flag_loads z items ruled x me.0.number (book_of me.0.items) fits mine,
            (
              is_flag_word (z.flag x) (z.done x),
              λ d q given pageless. shows_given z items ruled me.0.number (book_of me.0.items) fits
                  (differs_own z items own) x q mine
                  (ap (λ (xs : List Item). was_given_at x (asked_by_items xs)) own.list ∙ given)
                  (subst (λ (v : Told). IsPageless (v.bits.stored x)) (sym own.told) pageless),
              λ d none.
                  let shows = shows_none z items ruled me.0.number x mine (ap asked_by_items own.list ∙ none) in
                  let list = ruled.histories me.0.number ∙ ap steps_of own.list in (
                    ap (is_told x) (sym list) ∙ shows.0,
                    λ quiet. shows.1 (ap (is_quiet_at x) list ∙ quiet),
                  ),
            ),
          )) s r long at_id few in
          told_as a (λ _ _ t. (
            t.0 ∙ ap (λ (k : ℕ). seat_with me (item.Made (step.Flag k (slice_index s.words p)))) flag_there,
            (
              t.1.0,
              λ d. subst (λ (k : ℕ). ShowsGiven (known d me.0 0) k (slice_index s.words p)) flag_there
                  (t.1.1 d),
              λ d. subst (λ (k : ℕ). ShowsNoFlag (known d me.0 0) k (slice_index s.words p)) flag_there (t.1.2 d),
            ),
          ))

      pub note_moves : (q named word : ℕ) (d : TableId) → q ≡ named → word ≡ flag_word false
          → was_given_at x (asked_by_items me.0.items) ≡ Some q → IsPageless ((told_of (known d me.0 0)).bits.stored x)
          → Allows (Holds Law) slots id me p (λ _. word) (λ _. noted_play named (move slots p word 0 none) me word)
      note_moves q named word d same is given pageless s r long at_id few =
          let a = steps slots id me lives (place.Flag x) small p at refl (λ _. word) (λ w. step.Unflag x (Some q))
          (λ _. Unit {0})
          (λ z items ruled own fits. (
            subst (λ (n : ℕ). KeepsLaw z me.0.number (place.Flag x) n (step.Unflag x (Some q)) (book_of me.0.items))
                (sym is)
                (notes_page z items ruled me.0.number (book_of me.0.items) fits (differs_own z items own) x q mine
                (ap (λ (xs : List Item). was_given_at x (asked_by_items xs)) own.list ∙ given)
                (subst (λ (v : Told). IsPageless (v.bits.stored x)) (sym own.told) pageless)),
            tt,
          )) s r long at_id few in
          told_as a (λ _ _ t. t.0 ∙ (λ i. seat_with me (item.Made (step.Unflag (flag_there i) (Some (same i))))))

  -- the entry of a task that was told of its page is taken off
  pub handed_moves : (x p : ℕ) → x < ENTRIES → p ≡ ENTRY_AT + x → (h : ℕ) (e : Entry) (d : TableId)
      → (book_of me.0.items).head ≡ Some h → (told_of (known d me.0 0)).hold.book x ≡ shown e
      → (book_of me.0.items).differs ≡ page_told x → Allows (Holds Law) slots id me p (λ _. 0)
      (λ _. unqueued_play (move slots p 0 0 none) me 0)
  handed_moves x p small at h e d held shows told s r long at_id few =
      let a = steps slots id me lives (place.Entry x) small p at refl (λ _. 0) (λ w. step.Unqueue x) (λ _. Unit {0})
      (λ z items ruled own fits. (
        unqueues z items ruled x me.0.number (book_of me.0.items) fits h e (head_seen z items me (Some h) own held)
            (ap (λ (v : Told). v.hold.book x) own.told ∙ shows)
            (told_fair z items ruled me.0.number (book_of me.0.items) fits (differs_own z items own) x told h e
            (head_seen z items me (Some h) own held) (ap (λ (v : Told). v.hold.book x) own.told ∙ shows))
            (inr told, small),
        tt,
      )) s r long at_id few in
      let there : x ≡ p - ENTRY_AT = omega arith in
      told_as a (λ _ _ t. t.0 ∙ ap (λ (k : ℕ). seat_with me (item.Made (step.Unqueue k))) there)

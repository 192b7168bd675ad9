-- What each step of a task on its own flag asks of the table of words, by the law of its kind.
use Rattle.std.proofs.Common.{refl, ◌∙◌, ap, subst, sym, arith, inl, inr}
use Rattle.std.specs.Prelude.{ℕ, ◌≡◌, ◌<◌, ◌+◌, ◌-◌, ◌⊎◌, true, false, Some, None, List, slice_index}
use mathlib.Core.Option.{none}
use Rattle.atomic_table.specs.{Seated.TableId, Table.step as move, Table.Allows}
use Rattle.wait_model.specs.{declared.layout.TheConstants.ENTRIES, declared.layout.TheConstants.FLAG_AT}
use Rattle.wait_model.specs.{declared.watches.Entry.Entry, Tables.Table, Views.View as Told, Watches.owner}
use Rattle.wait_model.specs.{Watches.is_page, Words.flag_word}
use Rattle.wait_model.specs.declared.watches.Kind.TheVariants as kind
use Rattle.wait_model.specs.declared.steps.Step.TheVariants as step
use Rattle.wait_model.specs.Locations as place
use Rattle.wait_rule.specs.{declared.journal.Item.Item, Items.book_of, Asked.nothing_asked, Asked.asked_by_items}
use Rattle.wait_rule.specs.{Known.known, Pages.IsPageless, Says.told_of, Plays.Sat, Plays.seat_with}
use Rattle.wait_rule.specs.{QueuePlays.flag_loaded_play, QueuePlays.flag_cleared_play}
use Rattle.wait_rule.specs.Rule.{Holds, IsRuled, Law}
use Rattle.wait_rule.specs.declared.journal.Item.TheVariants as item
use Rattle.wait_rule.proofs.TableSteps.KeptSteps.{IsOwn, KeepsLaw, steps, told_as}
use Rattle.wait_rule.proofs.KnownLaws.StandingKinds.{asks_none}
use Rattle.wait_rule.proofs.StepKinds.FlagKinds.{flag_loads, unflags, woken_untaken}

module _ (slots id : ℕ) (me : Sat) (lives : me.0.lives ≡ true) (x p : ℕ) (small : x < ENTRIES)
    (at : p ≡ FLAG_AT + x) (mine : owner x ≡ me.0.number) where
  flag_there : x ≡ p - FLAG_AT
  flag_there = omega arith

  pub flag_load_moves : Allows (Holds Law) slots id me p (λ n. n) (flag_loaded_play (move slots p 0 0 none) me)
  flag_load_moves s r long at_id few =
      let a = steps slots id me lives (place.Flag x) small p at refl (λ n. n) (λ w. step.Flag x w) (λ _. Unit {0})
      (λ z items ruled own fits. (
        flag_loads z items ruled x me.0.number (book_of me.0.items) fits mine,
        tt,
      )) s r long at_id few in
      told_as a (λ _ _ t. t.0 ∙ ap (λ (k : ℕ). seat_with me (item.Made (step.Flag k (slice_index s.words p)))) flag_there)

  -- No page is taken for a task that asks for none, or that has an entry of kind Woken stored there: such an entry
  -- stands until the task takes it off itself.
  nothing_taken : (z : Table) (items : ℕ → List Item) → IsRuled z items → IsOwn z items me → (d : TableId)
      → (asked_by_items me.0.items ≡ nothing_asked)
      ⊎ ((e : Entry) × ((told_of (known d me.0 0)).bits.stored x ≡ Some e) × (e.kind ≡ kind.Woken))
      → (z.taken x ≡ None) × IsPageless (z.entry x)
  nothing_taken z items ruled own d (inl nothing) =
      let n = asks_none z items ruled me.0.number (ap asked_by_items own.list ∙ nothing) in
      (n.taken x mine, λ e stands. n.none x e mine stands)
  nothing_taken z items ruled own d (inr w) = (woken_untaken z items ruled x w.0 stands w.2, pageless)
    where
      stands : z.entry x ≡ Some w.0
      stands = ruled.own x w.0 (ap (λ (u : ℕ). (z.view u).bits.stored x) mine
          ∙ (ap (λ (v : Told). v.bits.stored x) own.told ∙ w.1)) (inr w.2)

      pageless : IsPageless (z.entry x)
      pageless e is =
          let both : Some e ≡ Some w.0 = sym is ∙ stands in
          let one : e ≡ w.0 = cc in
          ap (λ (f : Entry). is_page f.kind) one ∙ ap is_page w.2

  pub unflag_moves : (word : ℕ) (d : TableId) → word ≡ flag_word false → (asked_by_items me.0.items ≡ nothing_asked)
      ⊎ ((e : Entry) × ((told_of (known d me.0 0)).bits.stored x ≡ Some e) × (e.kind ≡ kind.Woken))
      → Allows (Holds Law) slots id me p (λ _. word) (λ _. flag_cleared_play (move slots p word 0 none) me word)
  unflag_moves word d is may s r long at_id few =
      let a = steps slots id me lives (place.Flag x) small p at refl (λ _. word) (λ w. step.Unflag x None)
      (λ _. Unit {0})
      (λ z items ruled own fits. (
        subst (λ (n : ℕ). KeepsLaw z me.0.number (place.Flag x) n (step.Unflag x None) (book_of me.0.items)) (sym is)
            (unflags z items ruled x me.0.number (book_of me.0.items) fits mine None
            (nothing_taken z items ruled own d may).0 (inl (nothing_taken z items ruled own d may))),
        tt,
      )) s r long at_id few in
      told_as a (λ _ _ t. t.0 ∙ ap (λ (k : ℕ). seat_with me (item.Made (step.Unflag k None))) flag_there)

-- What a task owes by contracts it owes by its history.
use Rattle.std.proofs.Common.{◌∙◌, ap, sym, subst, inr}
use Rattle.std.specs.Prelude.{ℕ, ◌≡◌, Bool, true, false, not, ◌&&◌, ◌||◌, List}
use Rattle.wait_model.specs.declared.watches.Mode.TheVariants as mode
use Rattle.wait_model.specs.declared.steps.Step.TheVariants as step
use Rattle.wait_model.specs.{Tasks.meets, Watches.mask_of, Views.View, Histories.UnlocksHeld, Tables.Table}
use Rattle.wait_model.proofs.{HistoryLaws.HoldBooks.lock_held, HistoryLaws.OwedWakes.owes_told}
use Rattle.wait_model.proofs.HistoryLaws.PlainReadings.{owing_told}
use Rattle.wait_rule.specs.{declared.journal.Item.Item, DebtLaws.CleanOwesNothing, DebtLaws.RuleTellsDebts}
use Rattle.wait_rule.specs.{Interleavings.IsInterleaved, Items.steps_of, Known.Known, Rule.IsRuled}
use Rattle.wait_rule.specs.Says.{history_of, told_of, wake_of}
use Rattle.wait_rule.proofs.KnownLaws.Moments.{next_step}

-- a lock that a task gives back it holds, as that is allowed
held_unlocks : (s : Table) → IsInterleaved s → (a : ℕ) → UnlocksHeld (s.history a)
held_unlocks s k a front h spent rest is =
    let n = next_step s k a front (step.Unlock h spent) rest is in
    lock_held front h (ap (λ (v : View). v.hold.head) (sym n.moment.view) ∙ n.allowed.0)

own_held : (s : Table) (items : ℕ → List Item) → IsRuled s items → (t : ℕ) (k : Known) → items t ≡ k.view.items
    → UnlocksHeld (history_of k)
own_held s items ruled t k own = subst UnlocksHeld (ruled.histories t ∙ ap steps_of own)
    (held_unlocks s ruled.whole.interleaved t)

pub rule_tells_debts : RuleTellsDebts
rule_tells_debts s items ruled t k own c σ = record {
  plain = λ o. (owes_told (history_of k) c σ).0 ((owing_told (history_of k) c σ).0 o);
  computed = λ o. (owing_told (history_of k) c σ).1
      ((owes_told (history_of k) c σ).1 (inr (own_held s items ruled t k own)) o);
}

pub clean_owes_none : CleanOwesNothing
clean_owes_none s items ruled t k own clean c σ meet o =
    by ((told_of k).duty.owes c σ) (meets (mask_of mode.Normal) σ)
    ((rule_tells_debts s items ruled t k own c σ).computed o) meet (clean.settled.debts.none (wake_of c σ))
  where
    by : (owes met : Bool) → owes ≡ true → met ≡ true → (owes && not (false || not met)) ≡ false → ⊥
    by true true p q none = absurd (cc)
    by true false p q none = absurd (cc)
    by false met p q none = absurd (cc)

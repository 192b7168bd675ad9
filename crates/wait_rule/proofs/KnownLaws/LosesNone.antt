-- A task that owes no wake of a watch leaves nobody asleep on it.
use Rattle.std.proofs.Common.{◌∙◌, ap, refl, subst, inl, inr}
use Rattle.std.proofs.lemmas.Bool.Decides.{eqb_tells}
use Rattle.std.specs.Prelude.{ℕ, ◌≡◌, ◌≢◌, ◌⊎◌, Bool, true, false, not, ◌&&◌, ◌||◌, eqb, List}
use Rattle.wait_model.specs.{declared.watches.Watch.Watch, declared.watches.Entry.Entry, declared.watches.Mode.Mode}
use Rattle.wait_model.specs.{Coverings.Covering, Tables.Table, Tables.met, Tasks.meets, Owed.Owes as OwesWake}
use Rattle.wait_model.specs.Watches.{same, mask_of, owner}
use Rattle.wait_model.specs.Wakes.{IsCovered, IsTried, UsedUp}
use Rattle.wait_model.specs.declared.watches.Mode.TheVariants as mode
use Rattle.wait_model.proofs.Sameness.{same_trans}
use Rattle.wait_rule.specs.{declared.journal.Item.Item, Items.steps_of, Known.Known, Rule.IsRuled}
use Rattle.wait_rule.specs.LosesNone.{IsCoveredByOther, OwersLeaveNone, OwesBeside, OwesNoneOf, SettledLeaveNone}
use Rattle.wait_rule.specs.Says.{Excuse, history_of, told_of, wake_of}
use Rattle.wait_rule.proofs.{KnownLaws.PlainDebts.rule_tells_debts, KnownLaws.TableLaws.rule_loses_none}

-- who covers an entry on the watch owes its wake, so a task that owes none is another
covers_none : (c : Watch) (m : Mode) (k : Known) → OwesNoneOf c m k → (s : Table) (items : ℕ → List Item)
    → IsRuled s items → items k.view.number ≡ k.view.items → (x : ℕ) (e : Entry) (σ : ℕ)
    → same e.watch c ≡ true → meets (mask_of m) σ ≡ true → Covering (s.history k.view.number) x e σ → ⊥
covers_none c m k none s items ruled own x e σ is met cover =
    let plain : OwesWake (history_of k) e.watch σ = subst (λ es. OwesWake es e.watch σ)
    (ruled.histories k.view.number ∙ ap steps_of own) cover.owes in
    let owes : (told_of k).duty.owes e.watch σ ≡ true =
    (rule_tells_debts s items ruled k.view.number k own e.watch σ).computed plain in
    let not_owed : (told_of k).duty.owes e.watch σ ≡ false = none e.watch σ is met in
    absurd (cc)

pub settled_leave_none : SettledLeaveNone
settled_leave_none c m k none s items ruled own x e on sleeps is set met =
    by (rule_loses_none s items ruled x e on sleeps set)
  where
    other : (d : ℕ) → Covering (s.history d) x e (s.task (owner x)).state
        → ((eqb d k.view.number ≡ true) × (d ≡ k.view.number)) ⊎ ((eqb d k.view.number ≡ false)
        × (d ≢ k.view.number)) → IsCoveredByOther k.view.number s x e
    other d cover (inl own_one) = absurd (covers_none c m k none s items ruled own x e (s.task (owner x)).state
        (same_trans on e.watch c sleeps.watches ∙ is) met
        (subst (λ t. Covering (s.history t) x e (s.task (owner x)).state) own_one.1 cover))
    other d cover (inr another) = (d, another.1, cover)

    by : IsCovered s x e ⊎ (UsedUp s x e on sleeps ⊎ IsTried s on)
        → IsCoveredByOther k.view.number s x e ⊎ (UsedUp s x e on sleeps ⊎ IsTried s on)
    by (inl covered) = inl (other covered.0 covered.1 (eqb_tells covered.0 k.view.number))
    by (inr rest) = inr rest

-- what is not excused is not owed
pub owes_no_wake : (c : Watch) (x : Excuse) (k : Known) → OwesBeside c x k → OwesNoneOf c mode.Normal k
owes_no_wake c x k owes d σ is met =
    by ((told_of k).duty.owes d σ) (x.wakes d σ) (meets (mask_of mode.Normal) σ) (owes.none d σ is) met
    (owes.most.debts.none (wake_of d σ))
  where
    by : (owed excused meet : Bool) → excused ≡ false → meet ≡ true → (owed && not (excused || not meet)) ≡ false
        → owed ≡ false
    by false excused meet p q r = refl
    by true true meet p q r = absurd (cc)
    by true false true p q r = absurd (cc)
    by true false false p q r = absurd (cc)

pub owers_leave_none : OwersLeaveNone
owers_leave_none c x k owes = settled_leave_none c mode.Normal k (owes_no_wake c x k owes)

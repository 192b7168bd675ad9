-- To be believed.
-- What a task that has woken leaves to others: whoever still sleeps on a watch that is set needs no wake of this task.
use Rattle.std.specs.Prelude.{ℕ, ◌≡◌, ◌≢◌, ◌⊎◌, true, false, List}
use Rattle.wait_model.specs.{declared.watches.Watch.Watch, declared.watches.Entry.Entry, declared.watches.Mode.Mode}
use Rattle.wait_model.specs.{Tasks.meets, Tables.Table, Tables.met, Coverings.Covering}
use Rattle.wait_model.specs.Watches.{same, mask_of, owner}
use Rattle.wait_model.specs.Wakes.{IsTried, Sleeps, UsedUp}
use Rattle.wait_model.specs.declared.watches.Mode.TheVariants as mode
use Rattle.wait_rule.specs.{declared.journal.Item.Item, Known.Known, Rule.IsRuled}
use Rattle.wait_rule.specs.Says.{Excuse, OwesBut, told_of}

-- some task other than t owes a wake of the entry's watch for its owner's state, and has not yet passed the entry
abbrev pub IsCoveredByOther : ℕ → Table → ℕ → Entry → Type 0
IsCoveredByOther t s x e = (d : ℕ) × (d ≢ t) × Covering (s.history d) x e (s.task (owner x)).state

-- The task leaves nobody asleep on this watch, of those in the states that wakes of this mode meet. In each table that
-- meets the rule, with the list that the task has: whoever sleeps so on the watch (of a variable, with any old value)
-- while it is set is covered by another task; or, at a plain condition or a completion, wakes have used up their count
-- at its head since; or, at a bit, some task is trying it.
abbrev pub LeavesNoneAsleep : Watch → Mode → Known → Type 0
LeavesNoneAsleep c m k = (s : Table) (items : ℕ → List Item) → IsRuled s items → items k.view.number ≡ k.view.items
    → (x : ℕ) (e : Entry) (on : Watch) (sleeps : Sleeps s x e on) → same on c ≡ true → met s.words on ≡ true
    → meets (mask_of m) (s.task (owner x)).state ≡ true
    → IsCoveredByOther k.view.number s x e ⊎ (UsedUp s x e on sleeps ⊎ IsTried s on)

-- It owes no wake of the watch for those states, by what contracts say of it.
abbrev pub OwesNoneOf : Watch → Mode → Known → Type 0
OwesNoneOf c m k = (d : Watch) (σ : ℕ) → same d c ≡ true → meets (mask_of m) σ ≡ true
    → (told_of k).duty.owes d σ ≡ false

-- It owes at most this, which has no wake of the watch.
abbrev pub HasNoWakeOf : Watch → Excuse → Type 0
HasNoWakeOf c x = (d : Watch) (σ : ℕ) → same d c ≡ true → x.wakes d σ ≡ false

pub record OwesBeside (c : Watch) (x : Excuse) (k : Known) : Type 0 where
  pub most : OwesBut x k
  pub none : HasNoWakeOf c x

-- Such tasks leave nobody; so of a call that wakes the law is what the call says that the task owes after it.
abbrev pub SettledLeaveNone : Type 0
SettledLeaveNone = (c : Watch) (m : Mode) (k : Known) → OwesNoneOf c m k → LeavesNoneAsleep c m k

abbrev pub OwersLeaveNone : Type 0
OwersLeaveNone = (c : Watch) (x : Excuse) (k : Known) → OwesBeside c x k → LeavesNoneAsleep c mode.Normal k

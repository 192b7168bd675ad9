-- Where no fatal signal was raised no task took one.
use Rattle.std.proofs.Common.{ap, arith}
use Rattle.std.specs.Prelude.{ℕ, suc, ◌≡◌, ◌+◌, ◌<◌, ◌≤◌, ◌==◌, ◌&&◌, Bool, true, false, List, [], ◌∷◌, ◌++◌, length}
use Rattle.wait_model.specs.{declared.layout.TheConstants.TASKS, declared.steps.Step.Step, SignalCounts.raises_fatal}
use Rattle.wait_model.specs.{SignalCounts.takes_fatal, Totals.total, Words.flag}
use Rattle.wait_model.specs.declared.steps.Step.TheVariants as step
use Rattle.wait_model.proofs.HistoryLaws.StepTotals.{sum_zero}
use Rattle.wait_rule.specs.{declared.journal.Item.Item, declared.journal.Journal.Journal, Items.steps_of}
use Rattle.wait_rule.specs.{Journals.has_of, Says.IsShown, TableLaws.HasAll}
use Rattle.wait_rule.specs.Aside.{Raised, raised_by, signals_of}
use Rattle.wait_rule.specs.declared.journal.Item.TheVariants as item
use Rattle.wait_rule.proofs.KnownLaws.TableLaws.{all_took_raised}
use Rattle.copy_turns.specs.Raises.{kills_in}

-- what a list raises at a task is among its fatal signals
abbrev fatal_at : ℕ → List Item → ℕ
fatal_at t xs = total (raises_fatal t) (steps_of xs)

abbrev fatal_in : List Item → ℕ
fatal_in xs = length (kills_in (signals_of xs))

signal_more : (t who : ℕ) (fatal : Bool) (n m : ℕ) (rs : List Raised) → n ≤ length (kills_in rs)
    → flag ((t == who) && fatal) + n ≤ length (kills_in ((record { who = who; fatal = fatal }) ∷ rs))
signal_more t who true n m rs low = by (t == who)
  where
    by : (b : Bool) → flag (b && true) + n ≤ suc (length (kills_in rs))
    by true = omega arith
    by false = omega arith
signal_more t who false n m rs low = by (t == who)
  where
    by : (b : Bool) → flag (b && false) + n ≤ length (kills_in rs)
    by true = omega arith
    by false = omega arith

step_more : (t : ℕ) (e : Step) (xs : List Item) → fatal_at t xs ≤ fatal_in xs
    → raises_fatal t e + fatal_at t xs ≤ length (kills_in (raised_by (item.Made e) ++ signals_of xs))
step_more t (step.Signal who fatal w) xs low = signal_more t who fatal (fatal_at t xs) 0 (signals_of xs) low
step_more t e xs low = omega arith

raised_fatal : (t : ℕ) (xs : List Item) → fatal_at t xs ≤ fatal_in xs
raised_fatal t [] = omega arith
raised_fatal t (item.Made e ∷ xs) = step_more t e xs (raised_fatal t xs)
raised_fatal t (x ∷ xs) = raised_fatal t xs

-- a list that raised no fatal signal
abbrev pub RaisedNone : List Item → Type 0
RaisedNone xs = fatal_in xs ≡ 0

pub none_raised : (xs : List Item) → signals_of xs ≡ [] → RaisedNone xs
none_raised xs e = ap (λ (rs : List Raised). length (kills_in rs)) e

pub took_none : (v : Journal) → HasAll v → IsShown v → ((u : ℕ) → RaisedNone (has_of u v)) → (t : ℕ) → t < TASKS
    → total takes_fatal (steps_of (has_of t v)) ≡ 0
took_none v all shown none t few =
    let took = (all_took_raised v shown all t few).fatal in
    let sum = sum_zero TASKS (λ u. fatal_at t (has_of u v)) (λ u small. none_at (has_of u v) (none u)) in
    omega arith
  where
    none_at : (xs : List Item) → RaisedNone xs → fatal_at t xs ≡ 0
    none_at xs e = let low = raised_fatal t xs in omega arith

-- To be believed.
-- Waits for variables that their task leaves.
use Rattle.std.specs.Prelude.{ℕ, ◌≡◌, Result}
use Rattle.wait_model.specs.declared.tasks.SleepState.{SleepState}
use Rattle.wait_model.specs.declared.watches.Watch.TheVariants as watch
use Rattle.wait_rule.specs.Known.{Known}
use Rattle.wait_event.specs.{WaitLeaves.EndsWaitUntil, declared.wait_events.WaitEnd.WaitEnd}
use Rattle.wait_event.specs.declared.wait_leaves.WaitUntil.{WaitUntil}
use Rattle.wait_event.specs.declared.wait_leaves.WaitUntil.TheVariants as until
use Rattle.var_wait.specs.VarWaits.{shared_in, with_loaded}

-- the answer of a wait of the class, with what its last load found
abbrev pub until_loaded : ℕ → WaitUntil (Result (Unit {0}) WaitEnd) → WaitUntil (Result ℕ WaitEnd)
until_loaded value (until.Over x) = until.Over (with_loaded value x)
until_loaded value (until.Left seen selected) = until.Left seen selected

-- The answer of a wait of the class for this variable, asked to leave for this cause or not: where it was Ok, the value is
-- what was loaded last, and it is not the old one.
pub record EndsVarUntil (A : Type 0) (before new : Known) (v old : ℕ) (st : SleepState)
    (result : WaitUntil (Result ℕ WaitEnd)) : Type 0 where
  pub answer : WaitUntil (Result (Unit {0}) WaitEnd)
  pub waited : EndsWaitUntil A before new (watch.Var v old) (shared_in st) answer
  pub loads : result ≡ until_loaded waited.leaves.at.of.seen answer

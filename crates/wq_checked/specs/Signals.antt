-- To be believed.
-- What becomes of a signal that is raised, and of a task that is kicked out of a sleep.
use Rattle.std.specs.Prelude.{ℕ, ◌≡◌, Bool, true, false, Option, Some, None}
use Rattle.wait_model.specs.{Tasks.raise_mask, Watches.mask_of}
use Rattle.wait_model.specs.declared.watches.Mode.TheVariants as mode
use Rattle.wait_model.specs.declared.steps.Step.TheVariants as step
use Rattle.wait_rule.specs.{Known.Known, Says.AddsOf, Tried.HasTried, declared.tries.Met.Met}

-- the signal is pending at the task, and nothing else was done yet
abbrev pub Sends : Known → Known → ℕ → Bool → Type 0
Sends old new who fatal = AddsOf old new (λ found. step.Signal who fatal found) (λ found. Unit {0})

-- The signal was raised, and then a wake was tried with the mask of the states that admit it: its thread is to be
-- roused where that says so.
pub record Woke (old new : Known) (who : ℕ) (fatal rouse : Bool) : Type 0 where
  pub between : Known
  pub sent : Sends old between who fatal
  pub met : Met
  pub tried : HasTried between new who (raise_mask fatal) met
  pub tells : rouse ≡ met.rouse

-- The task, where its thread is to be roused.
abbrev pub who_if : ℕ → Bool → Option ℕ
who_if who true = Some who
who_if who false = None

-- A wake with the states of a sleep was tried: whether it met the task's state, and whose thread is to be roused.
pub record HasKicked (old new : Known) (who : ℕ) (woke : Bool) (rouse : Option ℕ) : Type 0 where
  pub met : Met
  pub tried : HasTried old new who (mask_of mode.Normal) met
  pub meets : woke ≡ met.met
  pub tells : rouse ≡ who_if who met.rouse

-- To be believed.
-- What the try of a wake that was made answers, and what is counted of tries that failed, of wakes and of sleeps.
use Rattle.std.specs.Prelude.{ℕ, ◌+◌, ◌-◌, ◌^◌, ◌≡◌, ◌&&◌, Bool, not, min, Option, Some, None}
use Rattle.wait_model.specs.declared.steps.Step.TheVariants as step
use Rattle.wait_model.specs.{Fold.met_task, Tasks.task_of}
use Rattle.wait_rule.specs.{declared.tries.FailedTries.FailedTries, declared.tries.Met.Met}
use Rattle.wait_rule.specs.{declared.tries.TheConstants.TRIES, Known.Known, Says.AddsOf}

-- whether a wake found the task in a state that its mask meets, and not runnable: its thread is to be woken
abbrev pub rouses : ℕ → ℕ → Bool
rouses mask found = met_task mask found && not (task_of found).runnable

-- one wake more, and what it found
abbrev pub HasTried : Known → Known → ℕ → ℕ → Met → Type 0
HasTried old new who mask tried = AddsOf old new (λ found. step.Wake who mask found)
    (λ found. (tried.met ≡ met_task mask found) × (tried.rouse ≡ rouses mask found))

-- how many failed
abbrev pub failed_count : FailedTries → ℕ
failed_count failed = failed.count

-- one more failed; the count stands at the end of 64 bits
abbrev pub IsOneMore : FailedTries → FailedTries → Type 0
IsOneMore old new = failed_count new ≡ min (failed_count old + 1) (2 ^ 64 - 1)

-- The count of failed tries is as it was where a try was made, whatever it answered, and else one more.
abbrev pub CountsFailedTry : {A : Type 0} → FailedTries → FailedTries → Option A → Type 0
CountsFailedTry old new (Some answer) = new ≡ old
CountsFailedTry old new None = IsOneMore old new

-- so many tries failed, one after another, as no run makes
abbrev pub IsStarved : FailedTries → Type 0
IsStarved failed = failed_count failed ≡ TRIES

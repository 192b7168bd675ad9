-- For proofs alone.
-- Who keeps each bit, in a list by the bit's number: `WORD_BITS` times the word, and the bit. Beside it the page that a
-- walk took for each task, which has not taken note of it yet.
use Rattle.std.specs.Prelude.{◌≡◌, ℕ, ◌+◌, ◌*◌, ◌<◌, ◌==◌, Bool, false, if◌then◌else◌, List, length, slice_index_or}
use Rattle.std.specs.Prelude.{slice_set, Option, Some, None}
use Rattle.wait_model.specs.{declared.calls.Call.Call, declared.calls.Event.Event, Views.View, Runs.own}
use Rattle.wait_model.specs.declared.layout.TheConstants.{TASKS, BIT_WORDS, WORD_BITS, BITS}
use Rattle.wait_model.specs.declared.watches.Watch.TheVariants as watch
use Rattle.wait_model.specs.declared.calls.Call.TheVariants as calls
use Rattle.wait_model.specs.declared.calls.Event.TheVariants as event

-- whether a task is the keeper of a bit
abbrev pub is_keeper : Option ℕ → ℕ → Bool
is_keeper None a = false
is_keeper (Some keeper) a = keeper == a

-- the list tells of each task and bit whether the task keeps the bit
pub record ShowsKeepers (keepers : List (Option ℕ)) (view : ℕ → View) : Type 0 where
  pub count : length keepers ≡ BITS
  pub each : (a w b : ℕ) → a < TASKS → w < BIT_WORDS → b < WORD_BITS
      → (view a).bits.keeps (watch.Bit w b) ≡ is_keeper (slice_index_or keepers (WORD_BITS * w + b) None) a

-- the list tells of each task the page that a walk took for it, which is one that exists
pub record ShowsTaken (pages : List (Option ℕ)) (taken : ℕ → Option ℕ) : Type 0 where
  pub count : length pages ≡ TASKS
  pub each : (a : ℕ) → a < TASKS → taken (own a) ≡ slice_index_or pages a None
  pub small : (a p : ℕ) → a < TASKS → slice_index_or pages a None ≡ Some p → p < BIT_WORDS

-- whether the task keeps the bit that a call would clear
abbrev pub keeps_shown : List (Option ℕ) → ℕ → Call → Bool
keeps_shown keepers me (calls.ClearBit w b) = is_keeper (slice_index_or keepers (WORD_BITS * w + b) None) me
keeps_shown keepers me _ = false

-- a task that takes note of a page keeps it from then on
abbrev pub noted_by : ℕ → Option ℕ → List (Option ℕ) → List (Option ℕ)
noted_by me None keepers = keepers
noted_by me (Some p) keepers = slice_set keepers (WORD_BITS * p + 0) (Some me)

-- an exchange that found the bit clear makes its task the keeper, and a clear makes it nobody; a task that clears its
-- flag takes note of the page that a walk took for it
abbrev pub kept_after : ℕ → Event → List (Option ℕ) → List (Option ℕ) → List (Option ℕ)
kept_after me (event.Tas w b found) pages keepers = if found == 0 then slice_set keepers (WORD_BITS * w + b) (Some me)
    else keepers
kept_after me (event.Clear w b) pages keepers = slice_set keepers (WORD_BITS * w + b) None
kept_after me event.Unflag pages keepers = noted_by me (slice_index_or pages me None) keepers
kept_after me _ pages keepers = keepers

-- an exchange for a task that found the page clear takes it, until the task takes note of it
abbrev pub taken_after : ℕ → Event → List (Option ℕ) → List (Option ℕ)
taken_after me (event.TasFor p who found) pages = if found == 0 then slice_set pages who (Some p) else pages
taken_after me event.Unflag pages = slice_set pages me None
taken_after me _ pages = pages

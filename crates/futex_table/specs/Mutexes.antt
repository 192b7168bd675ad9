-- To be believed.
-- What the calls on mutexes say. A mutex is a futex whose word is 0 while a task holds it.
use Rattle.std.specs.Prelude.{ℕ, zero, suc, ◌≡◌, ◌==◌, not, Bool, true, false, Option, Some, None, Result, Ok, Err}
use Rattle.wait_model.specs.declared.queues.Walked.{Walked}
use Rattle.wait_model.specs.declared.tasks.SleepState.TheVariants as states
use Rattle.wait_model.specs.declared.watches.Mode.TheVariants as mode
use Rattle.wait_rule.specs.Known.{Known}
use Rattle.wq_head.specs.declared.adds.Worn.{Worn}
use Rattle.wait_event.specs.Conds.{HasSet, HasTakenCond}
use Rattle.futex_table.specs.{declared.futexes.FutexEnd.FutexEnd, FutexEnds.EndsFutexWait}
use Rattle.futex_table.specs.declared.futexes.FutexEnd.TheVariants as futex_end

-- The task published 1 in the word, and walked over its queue with NORMAL and a count of one.
pub record HasFreedMutex (old new : Known) (m : ℕ) : Type 0 where
  pub walked : Walked
  pub set : HasSet old new m 1 mode.Normal 1 walked

-- One take, which found a value or 0.
pub record HasTriedMutex (old new : Known) (m : ℕ) (hit : Bool) : Type 0 where
  pub found : ℕ
  pub took : HasTakenCond old new m found
  pub tells : hit ≡ not (found == 0)

-- that no place was left for a wait
abbrev pub worn_in : Result (Unit {0}) FutexEnd → Option Worn
worn_in (Err (futex_end.Worn h place)) = Some (record { head = h; place = place })
worn_in _ = None

-- A round of a lock: a take that found 0, and a wait for 0.
pub record WaitsRound (m : ℕ) (old new : Known) (end : Result (Unit {0}) FutexEnd) : Type 0 where
  pub tried : Known
  pub found : HasTriedMutex old tried m false
  pub waited : EndsFutexWait tried new m 0 states.Uninterruptible end

-- so many rounds, none of which was worn
abbrev pub WaitsRounds : ℕ → ℕ → Known → Known → Type 0
WaitsRounds zero m old new = new ≡ old
WaitsRounds (suc n) m old new = (mid : Known) × (end : Result (Unit {0}) FutexEnd) × WaitsRounds n m old mid
    × WaitsRound m mid new end × (worn_in end ≡ None)

pub record HasWaitedRounds (m : ℕ) (old new : Known) : Type 0 where
  pub count : ℕ
  pub rounds : WaitsRounds count m old new

-- The task made rounds, and then a take that found a value; or the wait of a last round was worn.
abbrev pub LocksMutex : Known → Known → ℕ → Result (Unit {0}) Worn → Type 0
LocksMutex old new m (Ok u) = (mid : Known) × HasWaitedRounds m old mid × HasTriedMutex mid new m true
LocksMutex old new m (Err w) = (mid : Known) × (end : Result (Unit {0}) FutexEnd) × HasWaitedRounds m old mid
    × WaitsRound m mid new end × (worn_in end ≡ Some w)

abbrev pub is_locked : Result (Unit {0}) Worn → Bool
is_locked (Ok u) = true
is_locked (Err w) = false

-- To be believed.
-- What the calls on mutexes and condition variables say whose waits their task leaves.
use Rattle.std.specs.Prelude.{ℕ, zero, suc, ◌≡◌, Bool, true, false, Option, Some, None, Result, Ok, Err}
use Rattle.wait_model.specs.declared.tasks.SleepState.{SleepState}
use Rattle.wait_model.specs.declared.tasks.SleepState.TheVariants as states
use Rattle.wait_rule.specs.Known.{Known}
use Rattle.wq_head.specs.declared.adds.Worn.{Worn}
use Rattle.wait_leave.specs.declared.exits.Until.{Until}
use Rattle.wait_leave.specs.declared.exits.Until.TheVariants as until
use Rattle.futex_table.specs.{declared.cond_vars.CondEnd.CondEnd, declared.futexes.FutexEnd.FutexEnd}
use Rattle.futex_table.specs.FutexLeaves.{EndsFutexUntil}
use Rattle.futex_table.specs.CondVars.{HasLetGo, cond_answer, is_mutex_held, worn_cond}
use Rattle.futex_table.specs.Mutexes.{HasTriedMutex, LocksMutex, is_locked, worn_in}

-- the answer of a lock whose wait ended so, where the lock ends with it: it was left, or no place was left
abbrev pub worn_until : Option Worn → Option (Until (Result (Unit {0}) Worn))
worn_until (Some w) = Some (until.Over (Err w))
worn_until None = None

abbrev pub round_end : Until (Result (Unit {0}) FutexEnd) → Option (Until (Result (Unit {0}) Worn))
round_end (until.Over end) = worn_until (worn_in end)
round_end (until.Left seen) = Some (until.Left seen)

-- A round of a lock: a take that found 0, and a wait for 0, which may be left for this cause.
pub record AsksRound (A : Type 0) (m : ℕ) (old new : Known) (end : Until (Result (Unit {0}) FutexEnd)) : Type 0 where
  pub tried : Known
  pub found : HasTriedMutex old tried m false
  pub waited : EndsFutexUntil A tried new m 0 states.Uninterruptible end

-- so many rounds, behind each of which the task goes on
abbrev pub AsksRounds : Type 0 → ℕ → ℕ → Known → Known → Type 0
AsksRounds A zero m old new = new ≡ old
AsksRounds A (suc n) m old new = (mid : Known) × (end : Until (Result (Unit {0}) FutexEnd)) × AsksRounds A n m old mid
    × AsksRound A m mid new end × (round_end end ≡ None)

pub record HasAskedRounds (A : Type 0) (m : ℕ) (old new : Known) : Type 0 where
  pub count : ℕ
  pub rounds : AsksRounds A count m old new

-- The wait of a last round ended the lock, with this answer.
pub record EndsWithRound (A : Type 0) (m : ℕ) (old new : Known) (result : Until (Result (Unit {0}) Worn)) : Type 0 where
  pub mid : Known
  pub end : Until (Result (Unit {0}) FutexEnd)
  pub rounds : HasAskedRounds A m old mid
  pub last : AsksRound A m mid new end
  pub answers : round_end end ≡ Some result

-- The task made rounds, and then a take that found a value; or the wait of a last round was worn, or was left.
abbrev pub LocksMutexUntil : Type 0 → Known → Known → ℕ → Until (Result (Unit {0}) Worn) → Type 0
LocksMutexUntil A old new m (until.Over (Ok u)) = (mid : Known) × HasAskedRounds A m old mid
    × HasTriedMutex mid new m true
LocksMutexUntil A old new m result = EndsWithRound A m old new result

-- who was left has not taken the mutex
abbrev pub is_locked_until : Until (Result (Unit {0}) Worn) → Bool
is_locked_until (until.Over end) = is_locked end
is_locked_until (until.Left seen) = false

-- The answer of a wait for a condition variable: one that was left, and has taken the mutex again, says so; where the
-- lock found no place it is that of the lock.
abbrev pub cond_until_answer : Until (Result (Unit {0}) FutexEnd) → Result (Unit {0}) Worn
    → Until (Result (Unit {0}) CondEnd)
cond_until_answer (until.Over end) locked = until.Over (cond_answer end locked)
cond_until_answer (until.Left seen) (Ok u) = until.Left seen
cond_until_answer (until.Left seen) (Err w) = until.Over (worn_cond w.head w.place false)

-- whether the mutex is held behind the call: so it is where that was left
abbrev pub is_held_until : Until (Result (Unit {0}) CondEnd) → Bool
is_held_until (until.Over end) = is_mutex_held end
is_held_until (until.Left seen) = true

-- As `WaitsForCond` says, but that the wait may be left, for this cause.
pub record WaitsForCondUntil (A : Type 0) (old new : Known) (c m : ℕ) (st : SleepState)
    (result : Until (Result (Unit {0}) CondEnd)) : Type 0 where
  pub let_go : HasLetGo old c m
  pub waited : Known
  pub end : Until (Result (Unit {0}) FutexEnd)
  pub waits : EndsFutexUntil A let_go.unlocked waited c let_go.seen st end
  pub lock : Result (Unit {0}) Worn
  pub locks : LocksMutex waited new m lock
  pub answers : result ≡ cond_until_answer end lock

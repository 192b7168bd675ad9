-- To be believed.
-- A lock of a mutex that goes on by stretches: where it stands, how it came there, and what a stretch of it did.
use Rattle.std.specs.Prelude.{ℕ, ◌≡◌, ◌||◌, Bool, true, false, Option, Some, None, Result, Ok}
use Rattle.wait_model.specs.declared.tasks.SleepState.TheVariants as states
use Rattle.wait_rule.specs.{Known.Known, Says.IsUp, Stays.Carries}
use Rattle.wait_rule.specs.Queues.{IsIdle, IsTold, index}
use Rattle.wq_head.specs.declared.adds.Worn.{Worn}
use Rattle.wait_class.specs.{Posts.IsOut, Tables.Turned, declared.stages.Run.Run, declared.stages.Turn.Turn}
use Rattle.wait_class.specs.declared.stages.Turn.TheVariants as turn
use Rattle.wait_event.specs.Ends.{wait_change}
use Rattle.wait_leave.specs.{declared.exits.Until.Until, OnTheWay.IsAsked, OnTheWay.OnTheWay}
use Rattle.wait_leave.specs.declared.exits.Until.TheVariants as until
use Rattle.futex_table.specs.{declared.lock_stretches.LockStage.LockStage, declared.waits.FutexOutcome.FutexOutcome}
use Rattle.futex_table.specs.{declared.waits.FutexStage.FutexStage, declared.waits.FutexWait.FutexWait}
use Rattle.futex_table.specs.{FutexLeaves.futex_exits, FutexLeaves.futex_until_in, FutexTables.IsFreshFutexWait}
use Rattle.futex_table.specs.{FutexTables.futex_table, Holding.OthersStayHeld, Holding.holds_mutex}
use Rattle.futex_table.specs.{Mutexes.HasTriedMutex, TallyUses.LeavesTallies}
use Rattle.futex_table.specs.LockLeaves.{HasAskedRounds, LocksMutexUntil, is_locked_until, round_end}
use Rattle.futex_table.specs.declared.lock_stretches.LockStage.TheVariants as lock
use Rattle.futex_table.specs.declared.waits.FutexStage.TheVariants as stage

-- the cause for which a call is left that may be asked to, or that nobody asks
abbrev pub AskedIf : Bool → Type 0
AskedIf true = Unit {0}
AskedIf false = ⊥

-- what a turn of a wait for a futex, and a stretch of a lock, answer
abbrev pub FutexWaitTurn : Type 0
FutexWaitTurn = Turn FutexStage FutexOutcome

abbrev pub MutexTurn : Type 0
MutexTurn = Turn LockStage (Until (Result (Unit {0}) Worn))

-- What a lock leaves of its task, which has taken the mutex or has not: it is idle with no entry queued as it was, and
-- owes what it owed; it holds the other mutexes that it held, and has added to no tally.
pub record LeavesLock (m : ℕ) (old new : Known) (took : Bool) : Type 0 where
  pub up : IsUp new
  pub idle : IsIdle new
  pub out : IsOut new
  pub carries : Carries (wait_change (index old.view.number 0) new.at) old new
  pub held : holds_mutex new m ≡ (holds_mutex old m || took)
  pub others : OthersStayHeld m old new
  pub tallies : LeavesTallies m old new

-- The lock made rounds, a take that found 0, and went on with a wait for 0 to here.
pub record IsInRound (A : Type 0) (m : ℕ) (old new : Known) (q : Run FutexWait) (u : FutexWaitTurn) : Type 0 where
  pub mid : Known
  pub rounds : HasAskedRounds A m old mid
  pub tried : Known
  pub found : HasTriedMutex mid tried m false
  pub left : LeavesLock m old tried false
  pub told : IsTold tried
  pub first : Run FutexWait
  pub fresh : IsFreshFutexWait first.of m 0 states.Uninterruptible
  pub came : OnTheWay A futex_table futex_exits tried first stage.First new q u

-- It is before a take, behind its rounds.
pub record IsBetweenRounds (A : Type 0) (m : ℕ) (old new : Known) : Type 0 where
  pub rounds : HasAskedRounds A m old new
  pub left : LeavesLock m old new false

-- It has ended as the whole call does.
pub record EndsLock (A : Type 0) (m : ℕ) (old new : Known) (result : Until (Result (Unit {0}) Worn)) : Type 0 where
  pub locked : LocksMutexUntil A old new m result
  pub left : LeavesLock m old new (is_locked_until result)

abbrev pub IsLockAt : Type 0 → ℕ → Known → Known → LockStage → Type 0
IsLockAt A m old new lock.Try = IsBetweenRounds A m old new
IsLockAt A m old new (lock.Wait q s) = IsInRound A m old new q (turn.Again s)

abbrev pub IsLockAsleep : Type 0 → ℕ → Known → Known → LockStage → Type 0
IsLockAsleep A m old new lock.Try = ⊥
IsLockAsleep A m old new (lock.Wait q s) = IsInRound A m old new q (turn.Asleep s)

-- The lock that this task began has come to what a stretch answered; it may have been asked to leave, or was not.
abbrev pub IsMutexLocking : Bool → ℕ → Known → Known → MutexTurn → Type 0
IsMutexLocking b m old new (turn.Again s) = IsLockAt (AskedIf b) m old new s
IsMutexLocking b m old new (turn.Locked s) = IsLockAt (AskedIf b) m old new s
IsMutexLocking b m old new (turn.Asleep s) = IsLockAsleep (AskedIf b) m old new s
IsMutexLocking b m old new (turn.Done result) = EndsLock (AskedIf b) m old new result

-- so is a lock of this mutex, whenever it began
abbrev pub IsLockUnderWay : ℕ → Known → MutexTurn → Type 0
IsLockUnderWay m k u = (b : Bool) × (start : Known) × IsMutexLocking b m start k u

-- where a lock goes on behind a turn of its wait, and behind a take
abbrev pub ended_to : Option (Until (Result (Unit {0}) Worn)) → MutexTurn
ended_to (Some result) = turn.Done result
ended_to None = turn.Again lock.Try

abbrev pub waited_to : Run FutexWait → FutexWaitTurn → MutexTurn
waited_to q (turn.Again s) = turn.Again (lock.Wait q s)
waited_to q (turn.Asleep s) = turn.Asleep (lock.Wait q s)
waited_to q (turn.Locked s) = turn.Locked (lock.Wait q s)
waited_to q (turn.Done o) = ended_to (round_end (futex_until_in q.of o))

abbrev pub TriesTo : ℕ → Bool → MutexTurn → Type 0
TriesTo m true u = u ≡ turn.Done (until.Over (Ok tt))
TriesTo m false u = (q : Run FutexWait) × IsFreshFutexWait q.of m 0 states.Uninterruptible
    × (u ≡ turn.Again (lock.Wait q stage.First))

-- What a stretch did: one take, or a stretch of the wait, which has for its answer what that of a `futex_wait` has.
abbrev pub LockTurned : ℕ → Known → Known → LockStage → MutexTurn → Type 0
LockTurned m old new lock.Try u = (hit : Bool) × HasTriedMutex old new m hit × TriesTo m hit u
LockTurned m old new (lock.Wait q s) u = (p : Run FutexWait) × (w : FutexWaitTurn) × Turned futex_table old new q p s w
    × (u ≡ waited_to p w)

-- and one that was asked to leave the wait
abbrev pub LockTurnedOut : ℕ → Known → Known → LockStage → MutexTurn → Type 0
LockTurnedOut m old new lock.Try u = (hit : Bool) × HasTriedMutex old new m hit × TriesTo m hit u
LockTurnedOut m old new (lock.Wait q s) u = (p : Run FutexWait) × (w : FutexWaitTurn)
    × OnTheWay (Unit {0}) futex_table futex_exits old q s new p w × (u ≡ waited_to p w)

abbrev pub asked_to : Run FutexWait → Option FutexWaitTurn → Option MutexTurn
asked_to q (Some w) = Some (waited_to q w)
asked_to q None = None

-- What came of asking a lock at a stage to leave: it is not asked before a take.
abbrev pub LockAsked : Known → Known → LockStage → Option MutexTurn → Type 0
LockAsked old new lock.Try u = (u ≡ None) × (new ≡ old)
LockAsked old new (lock.Wait q s) u = (p : Run FutexWait) × (w : Option FutexWaitTurn)
    × IsAsked futex_table futex_exits old new q p s w × (u ≡ asked_to p w)

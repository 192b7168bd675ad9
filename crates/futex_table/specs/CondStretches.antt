-- To be believed.
-- A wait for a condition variable that goes on by stretches: where it stands, how it came there, and what a stretch of
-- it did.
use Rattle.std.specs.Prelude.{ℕ, ◌≡◌, Bool, true, false, Result, []}
use Rattle.wait_model.specs.{declared.layout.TheConstants.HEADS, Watches.head_of}
use Rattle.wait_model.specs.declared.steps.Step.TheVariants as step
use Rattle.wait_model.specs.declared.watches.Watch.TheVariants as watch
use Rattle.wait_rule.specs.declared.journal.Item.TheVariants as item
use Rattle.wait_rule.specs.{Known.Known, Says.IsUp, Says.added, Stays.Carries, Stays.publish_change}
use Rattle.wait_rule.specs.Queues.{IsIdle, IsTold, index}
use Rattle.wq_head.specs.{declared.wakes.WakeRun.WakeRun, declared.wakes.WakeStage.WakeStage}
use Rattle.wq_head.specs.{declared.wakes.WakeTurn.WakeTurn, declared.rousing.Rousing.Rousing, Roused.IsRousing}
use Rattle.wq_head.specs.{Roused.tasks_in, Turns.HasTurned, Turns.IsAtWake, Walks.HasStarved}
use Rattle.wq_head.specs.declared.wakes.WakeStage.TheVariants as wakes
use Rattle.wq_head.specs.declared.wakes.WakeTurn.TheVariants as wake
use Rattle.wait_class.specs.{Handing.LastGiven, Posts.IsOut, Tables.SleepsNot, Tables.Turned, declared.stages.Run.Run}
use Rattle.wait_class.specs.declared.stages.Turn.{Turn}
use Rattle.wait_class.specs.declared.stages.Turn.TheVariants as turn
use Rattle.wait_leave.specs.{declared.exits.Until.Until, OnTheWay.OnTheWay}
use Rattle.wait_leave.specs.declared.exits.Until.TheVariants as until
use Rattle.futex_table.specs.{declared.cond_stretches.CondStage.CondStage, declared.cond_stretches.CondStop.CondStop}
use Rattle.futex_table.specs.{declared.cond_stretches.CondWait.CondWait, declared.cond_vars.CondEnd.CondEnd}
use Rattle.futex_table.specs.{declared.futexes.FutexEnd.FutexEnd, declared.waits.FutexWait.FutexWait, CondVars.HasLetGo}
use Rattle.futex_table.specs.{CondVars.cond_change, FutexEnds.futex_aim, FutexTables.IsFreshFutexWait}
use Rattle.futex_table.specs.{FutexTables.futex_table, Holding.OthersStayHeld, Holding.holds_mutex}
use Rattle.futex_table.specs.TallyUses.{LeavesTallies}
use Rattle.futex_table.specs.FutexLeaves.{EndsFutexUntil, futex_exits, futex_until_in}
use Rattle.futex_table.specs.LockLeaves.{WaitsForCondUntil, cond_until_answer, is_held_until}
use Rattle.futex_table.specs.LockStretches.{AskedIf, IsMutexLocking, MutexTurn, LockTurned, FutexWaitTurn}
use Rattle.futex_table.specs.declared.cond_stretches.CondStage.TheVariants as cond
use Rattle.futex_table.specs.declared.cond_stretches.CondStop.TheVariants as stop
use Rattle.futex_table.specs.declared.lock_stretches.LockStage.TheVariants as lock
use Rattle.futex_table.specs.declared.waits.FutexStage.TheVariants as stage

abbrev pub CondTurn : Type 0
CondTurn = Turn CondStage CondStop

-- What such a wait leaves of its task, and whether the mutex is held: the task is idle with no entry queued as it was,
-- and owes what it owed; it holds the other mutexes that it held, and has added to no tally.
pub record LeavesCond (m : ℕ) (old new : Known) (has : Bool) : Type 0 where
  pub up : IsUp new
  pub idle : IsIdle new
  pub out : IsOut new
  pub carries : Carries (cond_change m (index old.view.number 0) new.at) old new
  pub held : holds_mutex new m ≡ has
  pub others : OthersStayHeld m old new
  pub tallies : LeavesTallies m old new

-- The task loaded the condition's word, stored 1 in the mutex's, and came in the walk of the wake behind it to here.
pub record IsGivingBack (w : CondWait) (old new : Known) (seen : ℕ) (r : WakeRun) (s : WakeStage) : Type 0 where
  pub loaded : Known
  pub loads : loaded ≡ added old (item.Made (step.Load (watch.Plain w.cond) seen))
  pub left : LeavesCond w.lock old loaded true
  pub told : IsTold loaded
  pub found : ℕ
  pub stored : Known
  pub stores : stored ≡ added loaded (item.Made (step.Publish (watch.Plain w.lock) 1 found))
  pub owes : Carries (publish_change (watch.Plain w.lock)) loaded stored
  pub aim : r.aim ≡ futex_aim w.lock 1
  pub walks : IsAtWake stored new r s

-- It loaded the word, gave the mutex back, and came in the wait for another value than it loaded to here.
pub record IsForCond (A : Type 0) (w : CondWait) (old new : Known) (q : Run FutexWait) (u : FutexWaitTurn) : Type 0 where
  pub let_go : HasLetGo old w.cond w.lock
  pub left : LeavesCond w.lock old let_go.unlocked false
  pub told : IsTold let_go.unlocked
  pub first : Run FutexWait
  pub fresh : IsFreshFutexWait first.of w.cond let_go.seen w.state
  pub came : OnTheWay A futex_table futex_exits let_go.unlocked first stage.First new q u

-- The wait is over, and the lock behind it came to here; that is not left.
pub record IsRelocking (A : Type 0) (w : CondWait) (old new : Known) (end : Until (Result (Unit {0}) FutexEnd))
    (u : MutexTurn) : Type 0 where
  pub let_go : HasLetGo old w.cond w.lock
  pub waited : Known
  pub waits : EndsFutexUntil A let_go.unlocked waited w.cond let_go.seen w.state end
  pub left : LeavesCond w.lock old waited false
  pub locks : IsMutexLocking false w.lock waited new u

-- It has ended as the whole call does.
pub record EndsCond (A : Type 0) (w : CondWait) (old new : Known) (result : Until (Result (Unit {0}) CondEnd)) :
    Type 0 where
  pub waited : WaitsForCondUntil A old new w.cond w.lock w.state result
  pub left : LeavesCond w.lock old new (is_held_until result)

abbrev pub IsCondAt : Type 0 → CondWait → Known → Known → CondStage → Type 0
IsCondAt A w old new cond.First = (new ≡ old) × LeavesCond w.lock old new true
IsCondAt A w old new (cond.Give seen r s) = IsGivingBack w old new seen r s
IsCondAt A w old new (cond.Wait q s) = IsForCond A w old new q (turn.Again s)
IsCondAt A w old new (cond.Lock end s) = IsRelocking A w old new end (turn.Again s)

abbrev pub IsCondAsleep : Type 0 → CondWait → Known → Known → CondStage → Type 0
IsCondAsleep A w old new cond.First = ⊥
IsCondAsleep A w old new (cond.Give seen r s) = ⊥
IsCondAsleep A w old new (cond.Wait q s) = IsForCond A w old new q (turn.Asleep s)
IsCondAsleep A w old new (cond.Lock end s) = IsRelocking A w old new end (turn.Asleep s)

abbrev pub IsCondStopped : Type 0 → CondWait → Known → Known → CondStop → Type 0
IsCondStopped A w old new (stop.Over result) = EndsCond A w old new result
IsCondStopped A w old new (stop.Starved failed) = HasStarved (futex_aim w.lock 1) new failed

-- The wait that this task began has come to what a stretch answered; it may have been asked to leave, or was not.
abbrev pub IsCondWaiting : Bool → CondWait → Known → Known → CondTurn → Type 0
IsCondWaiting b w old new (turn.Again s) = IsCondAt (AskedIf b) w old new s
IsCondWaiting b w old new (turn.Locked s) = IsCondAt (AskedIf b) w old new s
IsCondWaiting b w old new (turn.Asleep s) = IsCondAsleep (AskedIf b) w old new s
IsCondWaiting b w old new (turn.Done o) = IsCondStopped (AskedIf b) w old new o

-- so is a wait of these numbers, whenever it began
abbrev pub IsCondUnderWay : CondWait → Known → CondTurn → Type 0
IsCondUnderWay w k u = (b : Bool) × (start : Known) × IsCondWaiting b w start k u

-- Where it goes on behind a turn of the wake, of the wait, and of the lock. The lock is not left, so it has no such
-- answer.
abbrev pub GivesTo : CondWait → ℕ → WakeRun → WakeTurn → CondTurn → Type 0
GivesTo w seen r (wake.Locked s) u = u ≡ turn.Locked (cond.Give seen r s)
GivesTo w seen r wake.Broken u = u ≡ turn.Again (cond.Give seen r wakes.Next)
GivesTo w seen r (wake.Done walked) u = (q : Run FutexWait) × IsFreshFutexWait q.of w.cond seen w.state
    × (u ≡ turn.Again (cond.Wait q stage.First))
GivesTo w seen r (wake.Starved failed) u = u ≡ turn.Done (stop.Starved failed)

abbrev pub awaited_to : Run FutexWait → FutexWaitTurn → CondTurn
awaited_to q (turn.Again s) = turn.Again (cond.Wait q s)
awaited_to q (turn.Asleep s) = turn.Asleep (cond.Wait q s)
awaited_to q (turn.Locked s) = turn.Locked (cond.Wait q s)
awaited_to q (turn.Done o) = turn.Again (cond.Lock (futex_until_in q.of o) lock.Try)

abbrev pub RelocksTo : Until (Result (Unit {0}) FutexEnd) → MutexTurn → CondTurn → Type 0
RelocksTo end (turn.Again s) u = u ≡ turn.Again (cond.Lock end s)
RelocksTo end (turn.Asleep s) u = u ≡ turn.Asleep (cond.Lock end s)
RelocksTo end (turn.Locked s) u = u ≡ turn.Locked (cond.Lock end s)
RelocksTo end (turn.Done (until.Over locked)) u = u ≡ turn.Done (stop.Over (cond_until_answer end locked))
RelocksTo end (turn.Done (until.Left seen)) u = ⊥

-- What a stretch did: the load and the store; a hold at most of the wake; a stretch of the wait, which has for its
-- answer what that of a `futex_wait` has; or one of the lock.
pub record StoresBack (w : CondWait) (old new : Known) (u : CondTurn) : Type 0 where
  pub seen : ℕ
  pub loaded : Known
  pub loads : loaded ≡ added old (item.Made (step.Load (watch.Plain w.cond) seen))
  pub found : ℕ
  pub stores : new ≡ added loaded (item.Made (step.Publish (watch.Plain w.lock) 1 found))
  pub wake : WakeRun
  pub aim : wake.aim ≡ futex_aim w.lock 1
  pub to : u ≡ turn.Again (cond.Give seen wake wakes.First)

pub record GivesMutexBack (w : CondWait) (old new : Known) (seen : ℕ) (r : WakeRun) (s : WakeStage) (u : CondTurn) : Type 0
  where
    pub wake : WakeRun
    pub did : WakeTurn
    pub turned : (start : Known) → IsAtWake start old r s → HasTurned start new r wake did
    pub to : GivesTo w seen wake did u

abbrev pub CondTurned : CondWait → Known → Known → CondStage → CondTurn → Type 0
CondTurned w old new cond.First u = StoresBack w old new u
CondTurned w old new (cond.Give seen r s) u = GivesMutexBack w old new seen r s u
CondTurned w old new (cond.Wait q s) u = (p : Run FutexWait) × (v : FutexWaitTurn) × Turned futex_table old new q p s v
    × (u ≡ awaited_to p v)
CondTurned w old new (cond.Lock end s) u = (v : MutexTurn) × LockTurned w.lock old new s v × RelocksTo end v u

-- and one that was asked to leave the wait, in which it does not sleep
abbrev pub CondTurnedOut : CondWait → Known → Known → CondStage → CondTurn → Type 0
CondTurnedOut w old new (cond.Wait q s) u = (p : Run FutexWait) × (v : FutexWaitTurn)
    × OnTheWay (Unit {0}) futex_table futex_exits old q s new p v × SleepsNot old new × (u ≡ awaited_to p v)
CondTurnedOut w old new s u = CondTurned w old new s u

-- whom the wake has woken whose thread is to be roused; no other stretch tells of one
abbrev pub CondRouses : Known → Known → CondStage → Rousing → Type 0
CondRouses old new (cond.Give seen r s) rousing = IsRousing old new rousing
CondRouses old new s rousing = tasks_in rousing ≡ []

-- The head whose lock a stretch has given back, for the caller to wake who parks for it: that of the mutex where a hold
-- of the wake has ended, that which the stretch of the wait or of the lock gave back last, and else none.
abbrev pub given_by_wake : CondWait → CondTurn → ℕ
given_by_wake w (turn.Again s) = head_of (watch.Plain w.lock)
given_by_wake w u = HEADS

abbrev pub CondGives : CondWait → Known → Known → CondStage → CondTurn → ℕ → Type 0
CondGives w old new cond.First u h = h ≡ HEADS
CondGives w old new (cond.Give seen r s) u h = h ≡ given_by_wake w u
CondGives w old new (cond.Wait q s) u h = LastGiven old new h
CondGives w old new (cond.Lock end s) u h = LastGiven old new h

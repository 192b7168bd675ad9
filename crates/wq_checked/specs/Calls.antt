-- To be believed.
-- A call that is under way, from its beginning to its answer.
use Rattle.std.specs.Prelude.{ℕ, ◌≡◌, ◌<◌, ◌^◌, Bool, true, false, None, Some, Result, []}
use Rattle.wait_model.specs.{declared.tasks.How.How, declared.watches.Aim.Aim, declared.watches.Watch.Watch}
use Rattle.wait_model.specs.declared.watches.Watch.TheVariants as watch
use Rattle.wait_rule.specs.{HandedPermits.StaysOff, LeftEntries.HasLeftNone, Known.Known, Says.OwesBut, Says.told_of}
use Rattle.wait_rule.specs.Stays.{with_wakes}
use Rattle.wait_event.specs.Waits as events
use Rattle.wait_event.specs.WaitLeaves as event_leaves
use Rattle.wait_event.specs.{declared.wait_events.WaitEnd.WaitEnd, declared.waits.WaitCall.WaitCall}
use Rattle.wait_event.specs.declared.wait_leaves.WaitUntil.{WaitUntil}
use Rattle.wait_event.specs.declared.waits.WaitStage.TheVariants as event_stage
use Rattle.wait_event.specs.declared.wait_leaves.WaitUntil.TheVariants as wait_until
use Rattle.var_wait.specs.VarWaits.{with_loaded}
use Rattle.wait_class.specs.declared.stages.Turn.{Turn}
use Rattle.wait_class.specs.declared.stages.Turn.TheVariants as turn
use Rattle.bit_wait.specs.BitTables as bits
use Rattle.bit_wait.specs.BitLeaves as bit_leaves
use Rattle.bit_wait.specs.LockTables as locks
use Rattle.bit_wait.specs.LockLeaves as lock_leaves
use Rattle.bit_wait.specs.declared.wait_calls.BitEnd.{BitEnd}
use Rattle.page_lock.specs.PageTables as pages
use Rattle.page_lock.specs.PageLeaves as page_leaves
use Rattle.page_lock.specs.declared.waits.PageStage.TheVariants as page_stage
use Rattle.wait_leave.specs.declared.exits.Until.{Until}
use Rattle.wait_leave.specs.declared.exits.Until.TheVariants as until
use Rattle.completion_cell.specs.Awaits as awaits
use Rattle.completion_cell.specs.{Awaits.AwaitTurn, declared.cell_turns.CellRun.CellRun}
use Rattle.completion_cell.specs.declared.cell_turns.CellStage.{CellStage}
use Rattle.completion_cell.specs.AwaitLeaves as await_leaves
use Rattle.completion_cell.specs.CellTurns as cells
use Rattle.completion_cell.specs.declared.awaits.AwaitStage.TheVariants as await_stage
use Rattle.swait_queue.specs.SwakeTurns as swakes
use Rattle.swait_queue.specs.{declared.swake_turns.SwakeRun.SwakeRun, declared.swake_turns.SwakeStage.SwakeStage}
use Rattle.wait_model.specs.declared.watches.Mode.TheVariants as mode
use Rattle.wq_head.specs.{Roused.IsRousing, Roused.tasks_in, declared.rousing.Rousing.Rousing}
use Rattle.wq_head.specs.declared.wakes.WakeRun.{WakeRun}
use Rattle.wq_head.specs.Turns as wakes
use Rattle.wq_head.specs.declared.wakes.WakeStage.TheVariants as wake_stage
use Rattle.wq_checked.specs.{Locks.awaited_in, Locks.refusal_told, declared.calls.Answer.Answer}
use Rattle.wq_checked.specs.{declared.calls.Progress.Progress, declared.calls.Running.Running}
use Rattle.wq_checked.specs.declared.kept_bits.KeptBits.{KeptBits}
use Rattle.wq_checked.specs.Kept.{IsReadyWith, but_kept, keeps_in}
use Rattle.wq_checked.specs.Stages.{AwaitRun, BitRun, HasComeBy, LockRun, PageRun, StandsBy, WaitRun, WaitTurn}
use Rattle.wq_checked.specs.Stages.{bit_first, lock_first}
use Rattle.wq_checked.specs.declared.calls.Answer.TheVariants as answer
use Rattle.wq_checked.specs.declared.calls.Progress.TheVariants as progress
use Rattle.wq_checked.specs.declared.calls.Running.TheVariants as running

-- A wait that has not begun.
abbrev pub IsFreshEvent : WaitCall → Type 0
IsFreshEvent r = (w : Watch) × (how : How) × events.IsFreshWait r w how

-- One for a plain condition or a variable has come to here.
pub record EventCame (may : Bool) (start k : Known) (first run : WaitRun) (last : WaitTurn) : Type 0 where
  pub came : HasComeBy may events.wait_table event_leaves.wait_exits start k first run event_stage.First last
  pub fresh : IsFreshEvent first.of

-- A wait for a completion has come to here, and began with no head held.
pub record AwaitCame (may : Bool) (start k : Known) (first run : AwaitRun) (last : AwaitTurn) : Type 0 where
  pub came : HasComeBy may awaits.await_table await_leaves.await_exits start k first run await_stage.First last
  pub held : (told_of start).hold.head ≡ None

-- the same call about a completion, and the same wake of a simple queue
pub record CellCame (start k : Known) (first run : CellRun) (s : CellStage) : Type 0 where
  pub at : cells.IsAtCell start k run s
  pub call : run.call ≡ first.call
  pub cell : run.cell ≡ first.cell

pub record SwakeCame (start k : Known) (first run : SwakeRun) (s : SwakeStage) : Type 0 where
  pub at : swakes.IsAtSwake start k run s
  pub cond : run.cond ≡ first.cond
  pub all : run.all ≡ first.all

-- A call that began with a task as `start`, and as `first`, has come to here: by turns of its kind from its first stage
-- on, with the same numbers. A wait may have been asked to leave on its way, where that is said.
abbrev pub CameFrom : Bool → Known → Running → Known → Running → Type 0
CameFrom may start (running.Event first from) k (running.Event run last) =
    EventCame may start k first run last
CameFrom may start (running.Bit first from) k (running.Bit run last) =
    HasComeBy may bits.bit_table bit_leaves.bit_exits start k first run bit_first last
CameFrom may start (running.Lock first from) k (running.Lock run last) =
    HasComeBy may locks.lock_table lock_leaves.lock_exits start k first run lock_first last
CameFrom may start (running.Page first from) k (running.Page run last) =
    HasComeBy may pages.page_table page_leaves.page_exits start k first run page_stage.First last
CameFrom may start (running.Await first from) k (running.Await run last) = AwaitCame may start k first run last
CameFrom may start (running.Wake first from) k (running.Wake run last) =
    wakes.IsAtWake start k run last × (run.aim ≡ first.aim)
CameFrom may start (running.Swake first from) k (running.Swake run last) = SwakeCame start k first run last
CameFrom may start (running.Cell first from) k (running.Cell run last) = CellCame start k first run last
CameFrom _ _ _ _ _ = ⊥

-- the answer of a wait for a plain condition, or for a variable, which may have been left
abbrev pub waited : Watch → ℕ → Result (Unit {0}) WaitEnd → Answer
waited (watch.Var v old) seen r = answer.Changed (with_loaded seen r)
waited _ seen r = answer.Waited r

abbrev pub event_answer : Watch → ℕ → WaitUntil (Result (Unit {0}) WaitEnd) → Answer
event_answer w loaded (wait_until.Over r) = waited w loaded r
event_answer w loaded (wait_until.Left seen selected) = answer.Left seen selected

-- of one for a bit, or to take a bit or a page, and of one for a completion
abbrev pub bit_answer : Until (Result (Unit {0}) BitEnd) → Answer
bit_answer (until.Over r) = answer.Bit r
bit_answer (until.Left seen) = answer.Left seen false

abbrev pub await_answer : Until (Result (Unit {0}) WaitEnd) → Answer
await_answer (until.Over r) = answer.Waited r
await_answer (until.Left seen) = answer.Left seen false

-- How each kind of call ended, with its answer, which has its cause. A wait was left only where it may have been asked to
-- leave. That of a bit may have stored RUNNING at last.
pub record EventEnded (may : Bool) (start new : Known) (first : WaitRun) (a : Answer) : Type 0 where
  pub watch : Watch
  pub how : How
  pub fresh : events.IsFreshWait first.of watch how
  pub result : WaitUntil (Result (Unit {0}) WaitEnd)
  pub ended : event_leaves.EndsWaitUntil (may ≡ true) start new watch how result
  pub answers : a ≡ event_answer watch ended.leaves.at.of.seen result

pub record BitEnded (may : Bool) (start new : Known) (first : BitRun) (a : Answer) : Type 0 where
  pub result : Until (Result (Unit {0}) BitEnd)
  pub leaves : bit_leaves.LeavesBitWait (may ≡ true) start new first bit_first result
  pub asked : lock_leaves.IsAskedFor (may ≡ true) result
  pub answers : a ≡ bit_answer result

pub record LockEnded (may : Bool) (start new : Known) (first : LockRun) (a : Answer) : Type 0 where
  pub result : Until (Result (Unit {0}) BitEnd)
  pub leaves : lock_leaves.LeavesBitLock (may ≡ true) start new first lock_first result
  pub asked : lock_leaves.IsAskedFor (may ≡ true) result
  pub answers : a ≡ bit_answer result

pub record PageEnded (may : Bool) (start new : Known) (first : PageRun) (a : Answer) : Type 0 where
  pub result : Until (Result (Unit {0}) BitEnd)
  pub leaves : page_leaves.LeavesPage (may ≡ true) start new first page_stage.First result
  pub asked : page_leaves.IsLeftFor (may ≡ true) result
  pub answers : a ≡ bit_answer result

pub record AwaitEnded (may : Bool) (start new : Known) (first : AwaitRun) (a : Answer) : Type 0 where
  pub result : Until (Result (Unit {0}) WaitEnd)
  pub leaves : await_leaves.LeavesAwait (may ≡ true) start new first await_stage.First result
  pub asked : await_leaves.IsAwaitLeftFor (may ≡ true) result
  pub off : StaysOff start new
  pub answers : a ≡ await_answer result

abbrev pub Ended : Bool → Known → Running → Known → Answer → Type 0
Ended may start (running.Event first from) new a = EventEnded may start new first a
Ended may start (running.Bit first from) new a = BitEnded may start new first a
Ended may start (running.Lock first from) new a = LockEnded may start new first a
Ended may start (running.Page first from) new a = PageEnded may start new first a
Ended may start (running.Await first from) new a = AwaitEnded may start new first a
Ended may start (running.Wake first from) new (answer.Walked w) = wakes.IsWakeOver first.aim start new w
Ended may start (running.Swake first from) new (answer.Selected n) = swakes.IsSwakeOver start new first.cond first.all n
Ended may start (running.Cell first from) new (answer.Cell hit) = cells.IsCellOver first.call first.cell hit start new
Ended _ _ _ _ _ = ⊥

-- what a stretch tells of a call that is not over
abbrev pub turn_told : {S O : Type 0} → Running → Turn S O → Progress
turn_told r (turn.Locked s) = refusal_told r
turn_told r (turn.Asleep s) = progress.Park
turn_told r _ = progress.Again

-- What it tells fits where the call stands: a wake waits for its lock where a ticket is drawn, and goes on at once
-- behind a break; a call of one hold waits for its lock. Where it waits for a lock it tells which.
abbrev pub FitsProgress : Running → Progress → Type 0
FitsProgress (running.Event run last) p = p ≡ turn_told (running.Event run last) last
FitsProgress (running.Bit run last) p = p ≡ turn_told (running.Bit run last) last
FitsProgress (running.Lock run last) p = p ≡ turn_told (running.Lock run last) last
FitsProgress (running.Page run last) p = p ≡ turn_told (running.Page run last) last
FitsProgress (running.Await run last) p = p ≡ turn_told (running.Await run last) last
FitsProgress (running.Wake run last) progress.Again = Unit {0}
FitsProgress (running.Wake run last) (progress.Locked a) = awaited_in (running.Wake run last) ≡ Some a
FitsProgress (running.Swake run last) (progress.Locked a) = awaited_in (running.Swake run last) ≡ Some a
FitsProgress (running.Cell run last) (progress.Locked a) = awaited_in (running.Cell run last) ≡ Some a
FitsProgress _ _ = ⊥

-- An advance of the call: it is over, with this answer, and no call is under way; or a wake was starved; or it has come
-- on, and tells how.
abbrev pub WentOn : Bool → Known → Running → Known → Running → Progress → Type 0
WentOn may start first new now (progress.Done a) = (now ≡ running.Idle) × Ended may start first new a
WentOn may start first new now progress.Starved = now ≡ running.Starved
WentOn may start first new now p = CameFrom may start first new now × FitsProgress now p

-- What held when a call began: the task was ready; but for a wake, which may owe wakes of its watch, as a publish left
-- it.
pub record IsWaking (ks : KeptBits) (start : Known) (first : WakeRun) : Type 0 where
  pub keeps : (c : Watch) → (told_of start).bits.keeps c ≡ keeps_in ks c
  pub told : (told_of start).hold.head ≡ None
  pub owes : OwesBut (with_wakes first.aim.watch first.aim.mode (but_kept ks)) start
  pub off : HasLeftNone start

-- and for a wake of a simple queue, which may owe wakes of its condition
pub record IsSwaking (ks : KeptBits) (start : Known) (cond : ℕ) : Type 0 where
  pub told : (told_of start).hold.head ≡ None
  pub keeps : (c : Watch) → (told_of start).bits.keeps c ≡ keeps_in ks c
  pub owes : OwesBut (with_wakes (watch.Plain cond) mode.Normal (but_kept ks)) start
  pub off : HasLeftNone start

abbrev pub Began : KeptBits → Known → Running → Type 0
Began ks start (running.Event first from) = IsReadyWith ks start × IsFreshEvent first.of
Began ks start (running.Bit first from) = IsReadyWith ks start
Began ks start (running.Lock first from) = IsReadyWith ks start
Began ks start (running.Page first from) = IsReadyWith ks start
Began ks start (running.Await first from) = IsReadyWith ks start
Began ks start (running.Wake first from) = IsWaking ks start first
Began ks start (running.Swake first from) = IsSwaking ks start first.cond
Began ks start (running.Cell first from) = IsReadyWith ks start
Began ks start _ = ⊥

-- where it stands
abbrev pub StandsOn : Known → Running → Type 0
StandsOn k (running.Event run last) = StandsBy events.wait_table k run last
StandsOn k (running.Bit run last) = StandsBy bits.bit_table k run last
StandsOn k (running.Lock run last) = StandsBy locks.lock_table k run last
StandsOn k (running.Page run last) = StandsBy pages.page_table k run last
StandsOn k (running.Await run last) = StandsBy awaits.await_table k run last
StandsOn k (running.Wake run last) = Unit {0}
StandsOn k (running.Swake run last) = Unit {0}
StandsOn k (running.Cell run last) = Unit {0}
StandsOn k _ = ⊥

-- A call is under way that began with the task ready.
pub record IsCallUnderWay (ks : KeptBits) (k : Known) (r : Running) : Type 0 where
  pub start : Known
  pub first : Running
  pub began : Began ks start first
  pub came : CameFrom true start first k r
  pub stands : StandsOn k r

-- What is kept of the task is so: between two calls, and while one is under way.
abbrev pub IsRunningSound : Running → KeptBits → Known → Type 0
IsRunningSound running.Idle ks k = IsReadyWith ks k
IsRunningSound running.Starved ks k = Unit {0}
IsRunningSound r ks k = IsCallUnderWay ks k r

-- a wake with this aim before its first hold
pub record WakesFirst (aim : Aim) (now : Running) : Type 0 where
  pub run : WakeRun
  pub aim_is : run.aim ≡ aim
  pub small : run.aim.count < 2 ^ 32
  pub is : now ≡ running.Wake run wake_stage.First

-- Whom a stretch of a call names to be roused: those whom it has woken, in their order. A stretch of a wait names none.
abbrev pub Rouses : Running → Known → Known → Rousing → Type 0
Rouses (running.Wake run last) old new named = IsRousing old new named
Rouses (running.Swake run last) old new named = IsRousing old new named
Rouses (running.Cell run last) old new named = IsRousing old new named
Rouses _ old new named = tasks_in named ≡ []

-- To be believed.
-- Whoever stretches of a wait have put asleep is a waiter of the law on lost wakes.
use Rattle.wait_rule.specs.Known.{Known}
use Rattle.wait_class.specs.{declared.frame_stages.Framed.Framed, declared.stages.Run.Run, declared.stages.Turn.Turn}
use Rattle.wait_class.specs.Posts.{IsOut}
use Rattle.wait_class.specs.Tables.{Advances, CallTable, IsAt, SleptLast}
use Rattle.wait_class.specs.declared.frame_stages.Stage.TheVariants as stage
use Rattle.wait_class.specs.declared.stages.Turn.TheVariants as turn
use Rattle.wait_event.specs.{declared.waits.WaitCall.WaitCall, WaitPlans.call_for, Waits.wait_table}
use Rattle.wait_event.specs.declared.waits.WaitStage.TheVariants as wait_stage
use Rattle.completion_cell.specs.{declared.awaits.AwaitCall.AwaitCall, Awaits.await_call, Awaits.await_table}
use Rattle.completion_cell.specs.declared.awaits.AwaitStage.TheVariants as await_stage
use Rattle.bit_wait.specs.{BitTables.bit_table, BitTables.wait_bit_call as bit_call}
use Rattle.bit_wait.specs.{LockTables.lock_bit_call as lock_call, LockTables.lock_table}
use Rattle.bit_wait.specs.{declared.lock_runs.LockBit.LockBit, declared.waits.WaitBit.WaitBit}
use Rattle.bit_wait.specs.declared.lock_runs.LockTest.TheVariants as lock_test
use Rattle.bit_wait.specs.declared.waits.BitTest.TheVariants as bit_test
use Rattle.page_lock.specs.{declared.waits.LockPage.LockPage, PageTables.page_call, PageTables.page_table}
use Rattle.page_lock.specs.declared.waits.PageStage.TheVariants as page_stage
use Rattle.waiter_laws.specs.Asleep.{IsKept}

-- The task stood at the first stage of such a call, with its entry off, and went on by stretches to one that put it
-- asleep.
pub record WasPutAsleep {C S O : Type 0} (t : CallTable C S O) (first : S) (old new : Known) (r q : Run C) : Type 0
  where
    pub began : IsAt t old r first
    pub out : IsOut old
    pub place : S
    pub advances : Advances t old new r q first (turn.Asleep place)

-- a wait for a plain condition, also one with a simple queue, or for a variable
abbrev pub WaitersAreKept : Type 0
WaitersAreKept = (old new : Known) (r q : Run WaitCall) → WasPutAsleep wait_table wait_stage.First old new r q
    → IsKept (call_for r.of.watch r.of.how) old new

-- a wait for a completion, and one for a page
abbrev pub AwaitersAreKept : Type 0
AwaitersAreKept = (old new : Known) (r q : Run AwaitCall) → WasPutAsleep await_table await_stage.First old new r q
    → IsKept (await_call r.of) old new

abbrev pub PageWaitersAreKept : Type 0
PageWaitersAreKept = (old new : Known) (r q : Run LockPage) → WasPutAsleep page_table page_stage.First old new r q
    → IsKept (page_call r.of) old new

-- A wait until a bit is clear, and one to take it. Their program comes to the point behind the sleep also by a load
-- that found the bit clear; so of these it is asked too that the last step is the sleep, as the last stretch shows.
abbrev pub BitWaitersAreKept : Type 0
BitWaitersAreKept = (old new : Known) (r q : Run (Framed WaitBit))
    → WasPutAsleep bit_table (stage.Test bit_test.First) old new r q → SleptLast old new
    → IsKept (bit_call r.of.wait) old new

abbrev pub BitLockersAreKept : Type 0
BitLockersAreKept = (old new : Known) (r q : Run (Framed LockBit))
    → WasPutAsleep lock_table (stage.Test lock_test.First) old new r q → SleptLast old new
    → IsKept (lock_call r.of.wait) old new

-- Stretches one after another are one; so is a stretch with a look behind it that showed that the task was woken.
abbrev pub StretchesAreOne : {C S O : Type 0} → CallTable C S O → Type 0
StretchesAreOne {C} {S} {O} t = (old mid new : Known) (r q w : Run C) (s n : S) (u : Turn S O)
    → Advances t old mid r q s (turn.Again n) → Advances t mid new q w n u → Advances t old new r w s u

-- Where the last step of a stretch is a sleep, it is the last of it and those before.
abbrev pub SleepIsLastOfAll : {C S O : Type 0} → CallTable C S O → Type 0
SleepIsLastOfAll {C} {S} {O} t = (old mid new : Known) (r q : Run C) (s n : S)
    → Advances t old mid r q s (turn.Again n) → SleptLast mid new → SleptLast old new

-- To be believed.
-- A wait under way that is asked to leave: it goes out of the stage at which it stands, where that has an exit.
use Rattle.std.specs.Prelude.{◌≡◌, Some}
use Rattle.wait_rule.specs.Known.{Known}
use Rattle.wait_class.specs.{declared.stages.Run.Run, declared.stages.Turn.Turn, Tables.CallTable, Wholes.HasRested}
use Rattle.wait_class.specs.declared.stages.Turn.TheVariants as turn
use Rattle.wait_leave.specs.{declared.exits.Exit.Exit, Leaves.Exits, Leaves.Leaves, OnTheWay.OnTheWay}
use Rattle.wait_event.specs.Waits as events
use Rattle.wait_event.specs.WaitLeaves as event_leaves
use Rattle.bit_wait.specs.BitTables as bits
use Rattle.bit_wait.specs.BitLeaves as bit_leaves
use Rattle.bit_wait.specs.LockTables as locks
use Rattle.bit_wait.specs.LockLeaves as lock_leaves
use Rattle.page_lock.specs.PageTables as pages
use Rattle.page_lock.specs.PageLeaves as page_leaves
use Rattle.completion_cell.specs.Awaits as awaits
use Rattle.completion_cell.specs.AwaitLeaves as await_leaves
use Rattle.wq_checked.specs.{declared.calls.Progress.Progress, declared.calls.Running.Running}
use Rattle.wq_checked.specs.Advancing.{WaitKind, await_kind, bit_kind, event_kind, left_by, lock_kind, page_kind}
use Rattle.wq_checked.specs.Advancing.{shown_of_wait, worn_by}
use Rattle.wq_checked.specs.declared.calls.Running.TheVariants as running

-- It went on from where an exit led, to the end of the stretch; where that was its end, it did nothing more.
abbrev pub OnFrom : {C S O : Type 0} → CallTable C S O → Exits C S O → Known → Known → Run C → Run C → Turn S O
    → Turn S O → Type 0
OnFrom t x mid new r q (turn.Again s) u = OnTheWay (Unit {0}) t x mid r s new q u
OnFrom t x mid new r q to u = (new ≡ mid) × (q ≡ r) × (u ≡ to)

-- It was asked to leave at this stage, before any event, and went on from its exit.
pub record WentOutAt {C S O : Type 0} (t : CallTable C S O) (x : Exits C S O) (old new : Known) (r q : Run C) (s : S)
    (u : Turn S O) : Type 0 where
  pub mid : Known
  pub run : Run C
  pub to : Turn S O
  pub leaves : Leaves t x old mid r run s to
  pub on : OnFrom t x mid new run q to u

-- so it is where the stage has an exit
abbrev pub WentOutOf : {C S O : Type 0} → CallTable C S O → Exits C S O → Known → Known → Run C → Run C → S → Turn S O
    → Type 0
WentOutOf {S = S} {O = O} t x old new r q s u = (e : Exit S O) → x.exit r.of s ≡ Some e → WentOutAt t x old new r q s u

-- by what its last stretch did: one that was put asleep is not asked
abbrev pub WentOutBehind : {C S O : Type 0} → CallTable C S O → Exits C S O → Known → Known → Run C → Run C → Turn S O
    → Turn S O → Type 0
WentOutBehind t x old new r q (turn.Again s) u = WentOutOf t x old new r q s u
WentOutBehind t x old new r q (turn.Locked s) u = WentOutOf t x old new r q s u
WentOutBehind t x old new r q _ u = Unit {0}

-- A stretch of such a wait, with what it leaves under way and tells. One for a bit whose queue is worn stores RUNNING at
-- last.
pub record OutStretch {C S O : Type 0} (t : CallTable C S O) (x : Exits C S O) (n : WaitKind C S O) (old new : Known)
    (r : Run C) (last : Turn S O) (now : Running) (told : Progress) : Type 0 where
  pub ended : Known
  pub run : Run C
  pub to : Turn S O
  pub out : WentOutBehind t x old ended r run last to
  pub rests : HasRested ended new (worn_by n run to)
  pub is : now ≡ left_by n run to
  pub tells : told ≡ shown_of_wait n run to

-- A call under way that is asked to leave by a stretch: where it is a wait at a stage that has an exit, it went out there
-- first.
abbrev pub WentOut : Known → Running → Known → Running → Progress → Type 0
WentOut old (running.Event r last) new now told =
    OutStretch events.wait_table event_leaves.wait_exits event_kind old new r last now told
WentOut old (running.Bit r last) new now told =
    OutStretch bits.bit_table bit_leaves.bit_exits bit_kind old new r last now told
WentOut old (running.Lock r last) new now told =
    OutStretch locks.lock_table lock_leaves.lock_exits lock_kind old new r last now told
WentOut old (running.Page r last) new now told =
    OutStretch pages.page_table page_leaves.page_exits page_kind old new r last now told
WentOut old (running.Await r last) new now told =
    OutStretch awaits.await_table await_leaves.await_exits await_kind old new r last now told
WentOut _ _ _ _ _ = Unit {0}

-- A wait that begins: it is under way at its first stage, and nothing of its task has changed.
use Rattle.std.specs.Prelude.{◌≡◌, Bool, None, true, false}
use Rattle.wait_model.specs.{declared.tasks.How.How, declared.watches.Watch.Watch}
use Rattle.wait_rule.specs.{Known.Known, Says.told_of}
use Rattle.wait_event.specs.Waits as events
use Rattle.wait_event.specs.declared.waits.WaitStage.TheVariants as event_stage
use Rattle.wait_event.specs.WaitLeaves.{wait_exits}
use Rattle.wait_event.proofs.{WaitLaws.wait_lawful, WaitLeaving.wait_may_leave}
use Rattle.wait_class.specs.declared.stages.Turn.TheVariants as turn
use Rattle.wait_class.specs.Tables.{IsAt}
use Rattle.wait_class.proofs.Framing.{framed_lawful}
use Rattle.bit_wait.specs.BitTables as bits
use Rattle.bit_wait.specs.{BitLeaves.bit_exits, LockLeaves.lock_exits}
use Rattle.bit_wait.proofs.{BitLaws.bit_lawful, BitLeaving.bit_may_leave, LockLaws.lock_lawful}
use Rattle.bit_wait.proofs.LockLeaving.{lock_may_leave}
use Rattle.bit_wait.specs.LockTables as locks
use Rattle.completion_cell.specs.Awaits as awaits
use Rattle.completion_cell.specs.declared.awaits.AwaitStage.TheVariants as await_stage
use Rattle.completion_cell.specs.AwaitLeaves.{await_exits}
use Rattle.completion_cell.proofs.{AwaitLaws.await_lawful, AwaitLeaving.await_may_leave}
use Rattle.page_lock.specs.PageTables as pages
use Rattle.page_lock.specs.declared.waits.PageStage.TheVariants as page_stage
use Rattle.page_lock.specs.PageLeaves.{page_exits}
use Rattle.page_lock.proofs.{PageLaws.page_lawful, PageLeaving.page_may_leave}
use Rattle.wq_checked.proofs.WayTurns.{come_none}
use Rattle.wq_checked.specs.{Kept.IsReadyWith, declared.calls.Running.Running, declared.kept_bits.KeptBits.KeptBits}
use Rattle.wq_checked.specs.Stages.{AwaitRun, BitRun, LockRun, PageRun, WaitRun, bit_first, lock_first}
use Rattle.wq_checked.specs.Calls.{Began, CameFrom, IsCallUnderWay, StandsOn}
use Rattle.wq_checked.specs.declared.calls.Running.TheVariants as running

-- a call that has just begun with this task is under way
pub under : (ks : KeptBits) (k : Known) (now : Running) → Began ks k now → StandsOn k now → CameFrom true k now k now
    → IsCallUnderWay ks k now
under ks k now began stands came = record { start = k; first = now; began = began; came = came; stands = stands }

pub event_came : (may : Bool) (k : Known) (r : WaitRun) (w : Watch) (how : How) → events.IsFreshWait r.of w how
    → IsAt events.wait_table k r event_stage.First
    → CameFrom may k (running.Event r (turn.Again event_stage.First)) k (running.Event r (turn.Again event_stage.First))
event_came may k r w how fresh at = record {
  came = come_none events.wait_table wait_exits wait_may_leave wait_lawful may k r event_stage.First fresh.unasked at;
  fresh = (w, how, fresh);
}

pub event_sound : (ks : KeptBits) (k : Known) (r : WaitRun) (w : Watch) (how : How) → IsReadyWith ks k
    → events.IsFreshWait r.of w how → IsAt events.wait_table k r event_stage.First
    → IsCallUnderWay ks k (running.Event r (turn.Again event_stage.First))
event_sound ks k r w how ready fresh at = under ks k (running.Event r (turn.Again event_stage.First))
    (ready, (w, how, fresh)) at (event_came true k r w how fresh at)

pub bit_came : (may : Bool) (k : Known) (r : BitRun) → r.of.wait.asked ≡ false → IsAt bits.bit_table k r bit_first
    → CameFrom may k (running.Bit r (turn.Again bit_first)) k (running.Bit r (turn.Again bit_first))
bit_came may k r none at = come_none bits.bit_table bit_exits bit_may_leave
    (framed_lawful bits.bit_frame bit_lawful) may k r bit_first none at

pub bit_sound : (ks : KeptBits) (k : Known) (r : BitRun) → IsReadyWith ks k → r.of.wait.asked ≡ false
    → IsAt bits.bit_table k r bit_first → IsCallUnderWay ks k (running.Bit r (turn.Again bit_first))
bit_sound ks k r ready none at = under ks k (running.Bit r (turn.Again bit_first)) ready at
    (bit_came true k r none at)

pub lock_came : (may : Bool) (k : Known) (r : LockRun) → r.of.wait.asked ≡ false → IsAt locks.lock_table k r lock_first
    → CameFrom may k (running.Lock r (turn.Again lock_first)) k (running.Lock r (turn.Again lock_first))
lock_came may k r none at = come_none locks.lock_table lock_exits lock_may_leave
    (framed_lawful locks.lock_frame lock_lawful) may k r lock_first none at

pub lock_sound : (ks : KeptBits) (k : Known) (r : LockRun) → IsReadyWith ks k → r.of.wait.asked ≡ false
    → IsAt locks.lock_table k r lock_first → IsCallUnderWay ks k (running.Lock r (turn.Again lock_first))
lock_sound ks k r ready none at = under ks k (running.Lock r (turn.Again lock_first)) ready at
    (lock_came true k r none at)

pub page_came : (may : Bool) (k : Known) (r : PageRun) → r.of.asked ≡ false → IsAt pages.page_table k r page_stage.First
    → CameFrom may k (running.Page r (turn.Again page_stage.First)) k (running.Page r (turn.Again page_stage.First))
page_came may k r none at = come_none pages.page_table page_exits page_may_leave page_lawful may k r page_stage.First none at

pub page_sound : (ks : KeptBits) (k : Known) (r : PageRun) → IsReadyWith ks k → r.of.asked ≡ false
    → IsAt pages.page_table k r page_stage.First → IsCallUnderWay ks k (running.Page r (turn.Again page_stage.First))
page_sound ks k r ready none at = under ks k (running.Page r (turn.Again page_stage.First)) ready at
    (page_came true k r none at)

pub await_came : (may : Bool) (k : Known) (r : AwaitRun) → (told_of k).hold.head ≡ None → r.of.asked ≡ false
    → IsAt awaits.await_table k r await_stage.First → CameFrom may k (running.Await r (turn.Again await_stage.First)) k
    (running.Await r (turn.Again await_stage.First))
await_came may k r held none at = record {
  came = come_none awaits.await_table await_exits await_may_leave await_lawful may k r await_stage.First none at;
  held = held;
}

pub await_sound : (ks : KeptBits) (k : Known) (r : AwaitRun) → IsReadyWith ks k → r.of.asked ≡ false
    → IsAt awaits.await_table k r await_stage.First
    → IsCallUnderWay ks k (running.Await r (turn.Again await_stage.First))
await_sound ks k r ready none at = under ks k (running.Await r (turn.Again await_stage.First)) ready at
    (await_came true k r ready.told none at)

-- A call that tells of a lock has its ticket out.
use Rattle.std.proofs.Common.{◌≡◌, ◌∙◌, refl, subst, sym, ap}
use Rattle.std.specs.Prelude.{Bool, true, if◌then◌else◌, Option, Some, None}
use Rattle.wait_rule.specs.{Known.Known, Tickets.drawn, Tickets.taken}
use Rattle.wait_class.specs.{Posts.ticket_out, declared.stages.Doing.Doing, declared.stages.Run.Run}
use Rattle.wait_class.specs.declared.stages.Turn.{Turn}
use Rattle.wait_class.specs.Laws.{IsLawfulCallTable, LawOf, LockLaw}
use Rattle.wait_class.specs.Tables.{IsAt, CallTable, Lands, head_in, stage_watch}
use Rattle.wait_class.specs.declared.stages.Doing.TheVariants as doing
use Rattle.wait_class.specs.declared.stages.Turn.TheVariants as turn
use Rattle.wait_class.proofs.Framing.{framed_lawful}
use Rattle.wait_event.specs.Waits as events
use Rattle.wait_event.specs.WaitLeaves.{wait_exits}
use Rattle.wait_event.specs.declared.waits.WaitStage.TheVariants as event_stage
use Rattle.wait_event.proofs.{WaitLaws.wait_lawful, WaitLeaving.wait_may_leave}
use Rattle.bit_wait.specs.BitTables as bits
use Rattle.bit_wait.specs.{BitLeaves.bit_exits, LockLeaves.lock_exits}
use Rattle.bit_wait.proofs.{BitLaws.bit_lawful, BitLeaving.bit_may_leave, LockLaws.lock_lawful}
use Rattle.bit_wait.proofs.LockLeaving.{lock_may_leave}
use Rattle.bit_wait.specs.LockTables as takes
use Rattle.page_lock.specs.PageTables as pages
use Rattle.page_lock.specs.PageLeaves.{page_exits}
use Rattle.page_lock.specs.declared.waits.PageStage.TheVariants as page_stage
use Rattle.page_lock.proofs.{PageLaws.page_lawful, PageLeaving.page_may_leave}
use Rattle.completion_cell.specs.Awaits as awaits
use Rattle.completion_cell.specs.{AwaitLeaves.await_exits, declared.cell_turns.CellRun.CellRun}
use Rattle.completion_cell.specs.declared.cell_turns.CellStage.{CellStage}
use Rattle.completion_cell.specs.declared.awaits.AwaitStage.TheVariants as await_stage
use Rattle.completion_cell.proofs.{AwaitLaws.await_lawful, AwaitLeaving.await_may_leave}
use Rattle.wq_checked.specs.{Stages.bit_first, Stages.lock_first, Reasons.stopped_reason}
use Rattle.wq_checked.specs.{declared.kept_bits.KeptBits.KeptBits, declared.calls.Awaited.Awaited}
use Rattle.wq_checked.specs.{declared.calls.Progress.Progress, declared.calls.Running.Running}
use Rattle.wq_checked.specs.Calls.{CameFrom, FitsProgress, IsCallUnderWay, IsRunningSound, WentOn, turn_told}
use Rattle.wq_checked.specs.Locks.{IsDrawn, awaited_in, lock_at, lock_with, refused_with, turn_ticket, wake_ticket}
use Rattle.wq_checked.proofs.WayTurns.{come_lands}
use Rattle.completion_cell.specs.CellTurns as cells
use Rattle.completion_cell.specs.declared.cell_turns.CellStage.TheVariants as cell_stage
use Rattle.swait_queue.specs.SwakeTurns as swakes
use Rattle.swait_queue.specs.{declared.swake_turns.SwakeRun.SwakeRun, declared.swake_turns.SwakeStage.SwakeStage}
use Rattle.swait_queue.specs.declared.swake_turns.SwakeStage.TheVariants as swake_stage
use Rattle.wq_head.specs.{Holds.HasWaited, declared.wakes.WakeRun.WakeRun, declared.wakes.WakeStage.WakeStage}
use Rattle.wq_head.specs.Turns as wakes
use Rattle.wq_head.specs.declared.wakes.WakeStage.TheVariants as wake_stage
use Rattle.wq_checked.specs.declared.calls.Progress.TheVariants as progress
use Rattle.wq_checked.specs.declared.calls.Running.TheVariants as running

-- the ticket of a lock is out
abbrev IsOut : Known → Option Awaited → Type 0
IsOut k (Some a) = k.book.ticket ≡ drawn a.head a.ticket
IsOut k None = Unit {0}

-- what a refused stretch tells is drawn where the lock's ticket is out
refused_drawn : (k : Known) (o : Option Awaited) → IsOut k o → IsDrawn k (refused_with o)
refused_drawn k (Some a) out = out
refused_drawn k None out = tt

awaited_drawn : (k : Known) (o : Option Awaited) (a : Awaited) → o ≡ Some a → IsOut k o → IsDrawn k (progress.Locked a)
awaited_drawn k o a is out = subst (IsOut k) is out

-- so it is where a wait of the ground waits for its lock
module _ {C S O : Type 0} (t : CallTable C S O) (law : IsLawfulCallTable t) (k : Known) (r : Run C) (s : S) (at : IsAt t k r s) where
  drawn_is : LockLaw t r.of s → k.book.ticket ≡ drawn (head_in t r.of s) r.ticket
  drawn_is l = at.stands.ticket ∙ (λ i. if l.free i then taken ((t.plan_of r.of).head (t.point_of s))
      else ticket_out (l.head i) (if l.drawn i then Some r.ticket else None))

  out_by : (d : Doing) → LawOf d t r.of s → IsOut k (lock_with (stage_watch t r.of s) r.served (turn_ticket d r.ticket))
  out_by doing.Lock l = drawn_is l
  out_by doing.Own l = tt
  out_by doing.Load l = tt
  out_by doing.Draw l = tt
  out_by doing.Unlock l = tt
  out_by doing.State l = tt
  out_by doing.Look l = tt
  out_by doing.Sleep l = tt
  out_by doing.Peek l = tt
  out_by doing.Pare l = tt
  out_by doing.Heed l = tt
  out_by doing.Queue l = tt

  ground_out : IsOut k (lock_at t r s)
  ground_out = out_by (t.doing s) (law.at r.of s)

-- who drew a ticket and waits for it has it out
waited_out : (base now : Known) → HasWaited base now → now.book.ticket ≡ base.book.ticket
waited_out base now w = ap (λ (k : Known). k.book.ticket) w.is

wake_out : (start now : Known) (r : WakeRun) (s : WakeStage) → wakes.IsAtWake start now r s
    → IsOut now (lock_with r.aim.watch r.served (wake_ticket s r.ticket))
wake_out start now r wake_stage.First at = tt
wake_out start now r wake_stage.FirstTurn at = waited_out _ now at.stands
wake_out start now r wake_stage.Next at = tt
wake_out start now r wake_stage.NextTurn at = waited_out _ now at.stands.2

swake_out : (start now : Known) (r : SwakeRun) (s : SwakeStage) → swakes.IsAtSwake start now r s
    → IsOut now (awaited_in (running.Swake r s))
swake_out start now r swake_stage.First at = tt
swake_out start now r swake_stage.Turn at = waited_out _ now at.stands.waits

cell_out : (start now : Known) (r : CellRun) (s : CellStage) → cells.IsAtCell start now r s
    → IsOut now (awaited_in (running.Cell r s))
cell_out start now r cell_stage.First at = tt
cell_out start now r cell_stage.Turn at = waited_out _ now at.stands.awaits.waits

-- what is told by an equation
told_by : (k : Known) (p q : Progress) → p ≡ q → IsDrawn k q → IsDrawn k p
told_by k p q is out = subst (IsDrawn k) (sym is) out

-- a wait of the ground that tells the lock at which its last stretch was refused
ground_drawn : {C S O : Type 0} (t : CallTable C S O) → IsLawfulCallTable t → (k : Known) (r : Run C)
    (now : Turn S O → Running) → ((s : S) → awaited_in (now (turn.Locked s)) ≡ lock_at t r s) → (u : Turn S O)
    (p : Progress) → Lands t k r u → p ≡ turn_told (now u) u → IsDrawn k p
ground_drawn t law k r now here (turn.Locked s) p a is = told_by k p _ is
    (refused_drawn k _ (subst (IsOut k) (sym (here s)) (ground_out t law k r s a)))
ground_drawn t law k r now here (turn.Again s) p a is = told_by k p _ is tt
ground_drawn t law k r now here (turn.Asleep s) p a is = told_by k p _ is tt
ground_drawn t law k r now here (turn.Done o) p a is = told_by k p _ is tt

-- a call of one hold at most, which tells its lock alone
hold_drawn : (k : Known) (now : Running) (p : Progress) → ((a : Awaited) → p ≡ progress.Locked a → awaited_in now ≡ Some a)
    → IsOut k (awaited_in now) → IsDrawn k p
hold_drawn k now (progress.Locked a) fits out = awaited_drawn k _ a (fits a refl) out
hold_drawn k now progress.Again fits out = tt
hold_drawn k now progress.Park fits out = tt
hold_drawn k now (progress.Done a) fits out = tt
hold_drawn k now progress.Starved fits out = tt

-- what an advance tells is drawn
came_drawn : (may : Bool) (start : Known) (first : Running) (k : Known) (now : Running) (p : Progress)
    → CameFrom may start first k now → FitsProgress now p → IsDrawn k p
came_drawn may start (running.Event f from) k (running.Event r t) p came fits = ground_drawn events.wait_table wait_lawful k
    r (running.Event r) (λ s. refl) t p
    (come_lands events.wait_table wait_exits wait_may_leave wait_lawful may start k f r event_stage.First t came.came) fits
came_drawn may start (running.Bit f from) k (running.Bit r t) p came fits = ground_drawn bits.bit_table
    (framed_lawful bits.bit_frame bit_lawful) k r (running.Bit r) (λ s. refl) t p
    (come_lands bits.bit_table bit_exits bit_may_leave (framed_lawful bits.bit_frame bit_lawful) may start k f r bit_first t
    came) fits
came_drawn may start (running.Lock f from) k (running.Lock r t) p came fits = ground_drawn takes.lock_table
    (framed_lawful takes.lock_frame lock_lawful) k r (running.Lock r) (λ s. refl) t p
    (come_lands takes.lock_table lock_exits lock_may_leave (framed_lawful takes.lock_frame lock_lawful) may start k f r
    lock_first t came) fits
came_drawn may start (running.Page f from) k (running.Page r t) p came fits = ground_drawn pages.page_table page_lawful k r
    (running.Page r) (λ s. refl) t p
    (come_lands pages.page_table page_exits page_may_leave page_lawful may start k f r page_stage.First t came) fits
came_drawn may start (running.Await f from) k (running.Await r t) p came fits = ground_drawn awaits.await_table await_lawful
    k r (running.Await r) (λ s. refl) t p
    (come_lands awaits.await_table await_exits await_may_leave await_lawful may start k f r await_stage.First t came.came)
    fits
came_drawn may start (running.Wake f from) k (running.Wake r s) p came fits = hold_drawn k (running.Wake r s) p
    (λ a is. subst (FitsProgress (running.Wake r s)) is fits) (wake_out start k r s came.0)
came_drawn may start (running.Swake f from) k (running.Swake r s) p came fits = hold_drawn k (running.Swake r s) p
    (λ a is. subst (FitsProgress (running.Swake r s)) is fits) (swake_out start k r s came.at)
came_drawn may start (running.Cell f from) k (running.Cell r s) p came fits = hold_drawn k (running.Cell r s) p
    (λ a is. subst (FitsProgress (running.Cell r s)) is fits) (cell_out start k r s came.at)
came_drawn may start first k now p came fits = absurd came

went_drawn : (may : Bool) (start : Known) (first : Running) (k : Known) (now : Running) (p : Progress) → WentOn may start first k now p
    → IsDrawn k p
went_drawn may start first k now progress.Again went = tt
went_drawn may start first k now (progress.Locked a) went = came_drawn may start first k now (progress.Locked a) went.0 went.1
went_drawn may start first k now progress.Park went = tt
went_drawn may start first k now (progress.Done a) went = tt
went_drawn may start first k now progress.Starved went = tt

-- of a call that is under way
under_way : (ks : KeptBits) (k : Known) (r : Running) → stopped_reason r ≡ None → IsRunningSound r ks k
    → IsCallUnderWay ks k r
under_way ks k running.Idle under sound = absurd (cc)
under_way ks k running.Starved under sound = absurd (cc)
under_way ks k (running.Event r t) under sound = sound
under_way ks k (running.Bit r t) under sound = sound
under_way ks k (running.Lock r t) under sound = sound
under_way ks k (running.Page r t) under sound = sound
under_way ks k (running.Await r t) under sound = sound
under_way ks k (running.Wake r s) under sound = sound
under_way ks k (running.Swake r s) under sound = sound
under_way ks k (running.Cell r s) under sound = sound

pub goes_drawn : (may : Bool) (ks : KeptBits) (old : Known) (running : Running) (k : Known) (now : Running) (p : Progress)
    → stopped_reason running ≡ None → IsRunningSound running ks old
    → ((start : Known) (first : Running) → CameFrom true start first old running → WentOn may start first k now p) → IsDrawn k p
goes_drawn may ks old running k now p under sound goes =
    let u = under_way ks old running under sound in went_drawn may u.start u.first k now p (goes u.start u.first u.came)

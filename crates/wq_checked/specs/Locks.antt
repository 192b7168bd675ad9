-- To be believed.
-- The lock of a head that a call waits for, and the one that it gave back.
use Rattle.std.specs.Prelude.{ℕ, ◌≡◌, Option, Some, None}
use Rattle.wait_model.specs.{declared.watches.Watch.Watch, Watches.head_of}
use Rattle.wait_model.specs.declared.watches.Watch.TheVariants as watch
use Rattle.wait_rule.specs.{Known.Known, Tickets.drawn}
use Rattle.wait_class.specs.{declared.stages.Doing.Doing, declared.stages.Run.Run, Tables.CallTable, Tables.stage_watch}
use Rattle.wait_class.specs.declared.stages.Doing.TheVariants as doing
use Rattle.wait_class.specs.declared.stages.Turn.TheVariants as turn
use Rattle.wait_event.specs.Waits as events
use Rattle.bit_wait.specs.BitTables as bits
use Rattle.bit_wait.specs.LockTables as takes
use Rattle.page_lock.specs.PageTables as pages
use Rattle.completion_cell.specs.Awaits as awaits
use Rattle.completion_cell.specs.declared.cell_turns.CellStage.TheVariants as cell_stage
use Rattle.swait_queue.specs.declared.swake_turns.SwakeStage.TheVariants as swake_stage
use Rattle.wq_head.specs.declared.wakes.WakeStage.{WakeStage}
use Rattle.wq_head.specs.declared.wakes.WakeStage.TheVariants as wake_stage
use Rattle.wq_checked.specs.{declared.calls.Awaited.Awaited, declared.calls.Progress.Progress}
use Rattle.wq_checked.specs.declared.calls.Running.{Running}
use Rattle.wq_checked.specs.declared.calls.Progress.TheVariants as progress
use Rattle.wq_checked.specs.declared.calls.Running.TheVariants as running

-- the lock of a watch's head, where a ticket of it is drawn
abbrev pub lock_with : Watch → ℕ → Option ℕ → Option Awaited
lock_with w served (Some n) = Some (record { head = head_of w; ticket = n; served = served })
lock_with w served None = None

-- the stages of a wake at which a ticket is drawn
abbrev pub wake_ticket : WakeStage → ℕ → Option ℕ
wake_ticket wake_stage.FirstTurn n = Some n
wake_ticket wake_stage.NextTurn n = Some n
wake_ticket _ n = None

-- the ticket that is out where a wait of the ground waits for a lock, and that lock
abbrev pub turn_ticket : Doing → ℕ → Option ℕ
turn_ticket doing.Lock n = Some n
turn_ticket _ n = None

abbrev pub lock_at : {C S O : Type 0} → CallTable C S O → Run C → S → Option Awaited
lock_at t r s = lock_with (stage_watch t r.of s) r.served (turn_ticket (t.doing s) r.ticket)

-- The lock that the call under way waits for, whose last stretch found another ticket served: the head of its watch,
-- its ticket, and the number that was found.
abbrev pub awaited_in : Running → Option Awaited
awaited_in (running.Event r (turn.Locked s)) = lock_at events.wait_table r s
awaited_in (running.Bit r (turn.Locked s)) = lock_at bits.bit_table r s
awaited_in (running.Lock r (turn.Locked s)) = lock_at takes.lock_table r s
awaited_in (running.Page r (turn.Locked s)) = lock_at pages.page_table r s
awaited_in (running.Await r (turn.Locked s)) = lock_at awaits.await_table r s
awaited_in (running.Wake r s) = lock_with r.aim.watch r.served (wake_ticket s r.ticket)
awaited_in (running.Swake r swake_stage.Turn) = lock_with (watch.Plain r.cond) r.served (Some r.ticket)
awaited_in (running.Cell r cell_stage.Turn) = lock_with (watch.Done r.cell) r.served (Some r.ticket)
awaited_in _ = None

-- what a stretch tells that was refused its lock
abbrev pub refused_with : Option Awaited → Progress
refused_with (Some a) = progress.Locked a
refused_with None = progress.Again

abbrev pub refusal_told : Running → Progress
refusal_told r = refused_with (awaited_in r)

-- The task has drawn the ticket of the head that is told, and waits until it is served.
abbrev pub IsDrawn : Known → Progress → Type 0
IsDrawn k (progress.Locked a) = k.book.ticket ≡ drawn a.head a.ticket
IsDrawn k _ = Unit {0}

-- The lock that a stretch gave back which began with a ticket drawn: that of its head, but where it was refused again,
-- or came to no end.
abbrev pub given_back : Option Awaited → Progress → Option ℕ
given_back o (progress.Locked a) = None
given_back o progress.Starved = None
given_back (Some a) p = Some a.head
given_back None p = None

abbrev pub or_then : Option ℕ → Option ℕ → Option ℕ
or_then (Some h) o = Some h
or_then None o = o

-- A head is told.
abbrev pub Has : Option ℕ → Option ℕ → Type 0
Has (Some h) now = now ≡ Some h
Has None now = Unit {0}

-- The head whose lock was given back in the stretches of a call is told from the first of them on.
abbrev pub Passes : Option Awaited → Progress → Option ℕ → Option ℕ → Type 0
Passes out told before now = Has (or_then before (given_back out told)) now

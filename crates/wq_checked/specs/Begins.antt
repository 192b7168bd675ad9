-- To be believed.
-- The calls that a task begins: why each is refused, and what it begins.
use Rattle.std.specs.Prelude.{ℕ, ◌≡◌, ◌&&◌, Bool, true, false, not, nat_lt, Option, Some, None, if◌then◌else◌}
use Rattle.wait_model.specs.{Admission.is_in_range, Watches.head_of, declared.calls.Call.Call as Modelled}
use Rattle.wait_model.specs.{declared.layout.TheConstants.CLAIMS, declared.watches.Watch.Watch}
use Rattle.wait_model.specs.Tasks.{is_killable, taken_of, task_of}
use Rattle.wait_model.specs.declared.calls.Call.TheVariants as model
use Rattle.wait_model.specs.declared.steps.Step.TheVariants as step
use Rattle.wait_model.specs.declared.watches.Mode.TheVariants as mode
use Rattle.wait_model.specs.declared.watches.Watch.TheVariants as watch
use Rattle.wait_rule.specs.Known.{Known}
use Rattle.wait_rule.specs.Says.{AddsOf, FindsTally, added}
use Rattle.wait_rule.specs.declared.journal.Item.TheVariants as item
use Rattle.wait_class.specs.declared.frame_stages.Stage.TheVariants as frame_stage
use Rattle.wait_class.specs.declared.stages.Turn.TheVariants as turn
use Rattle.wait_event.specs.Conds.{HasTakenCond}
use Rattle.wait_event.specs.Waits as events
use Rattle.wait_event.specs.declared.waits.WaitStage.TheVariants as event_stage
use Rattle.var_wait.specs.VarWaits.{shared_in}
use Rattle.bit_wait.specs.BitTables as bits
use Rattle.bit_wait.specs.declared.waits.BitTest.TheVariants as bit_test
use Rattle.bit_wait.specs.LockTables as locks
use Rattle.bit_wait.specs.Tries.{HasTriedBit}
use Rattle.bit_wait.specs.declared.lock_runs.LockTest.TheVariants as lock_test
use Rattle.page_lock.specs.PageTables as pages
use Rattle.page_lock.specs.declared.waits.PageStage.TheVariants as page_stage
use Rattle.completion_cell.specs.Awaits as awaits
use Rattle.completion_cell.specs.CellTurns as cells
use Rattle.completion_cell.specs.declared.awaits.AwaitStage.TheVariants as await_stage
use Rattle.completion_cell.specs.declared.cell_turns.CellCall.TheVariants as cell_call
use Rattle.completion_cell.specs.declared.cell_turns.CellStage.TheVariants as cell_stage
use Rattle.swait_queue.specs.SimpleWaits.{tail_in}
use Rattle.swait_queue.specs.SwakeTurns as swakes
use Rattle.swait_queue.specs.declared.swake_turns.SwakeStage.TheVariants as swake_stage
use Rattle.wq_head.specs.Scanned.{HasScanned, unmade}
use Rattle.wq_head.specs.declared.wakes.WakeStage.TheVariants as wake_stage
use Rattle.wq_checked.specs.{Calls.CameFrom, Checked.Checked, Kept.keeps_in, Reasons.busy_reason}
use Rattle.wq_checked.specs.{declared.calls.Answer.Answer, declared.calls.Call.Call, declared.calls.Progress.Progress}
use Rattle.wq_checked.specs.{declared.calls.Running.Running, declared.kept_bits.KeptBits.KeptBits}
use Rattle.wq_checked.specs.declared.reasons.Refused.{Refused}
use Rattle.wq_checked.specs.Signals.{HasKicked, Sends, Woke}
use Rattle.wq_checked.specs.declared.calls.Answer.TheVariants as answer
use Rattle.wq_checked.specs.declared.calls.Call.TheVariants as call
use Rattle.wq_checked.specs.declared.calls.Progress.TheVariants as progress
use Rattle.wq_checked.specs.declared.calls.Running.TheVariants as running
use Rattle.wq_checked.specs.declared.reasons.Refused.TheVariants as reason

-- The call of the model whose ranges its numbers keep. A wake's count may be any, and a page's tally is its who may give
-- the page back.
abbrev pub modelled : Call → Modelled
modelled (call.Wait c how) = model.Wait c how
modelled (call.SimpleWait c st) = model.SimpleWait c st
modelled (call.WaitVar v old st) = model.WaitVar v old st
modelled (call.WaitBit w b st) = model.WaitBit w b st
modelled (call.LockBit w b st) = model.LockBit w b st
modelled (call.LockPage p st) = model.LockPage p st
modelled (call.WaitFor d st) = model.WaitFor d st
modelled (call.Cell cell_call.Complete d) = model.Complete d
modelled (call.Cell cell_call.CompleteAll d) = model.CompleteAll d
modelled (call.Cell cell_call.Reinit d) = model.Reinit d
modelled (call.Cell cell_call.TryWait d) = model.TryWait d
modelled (call.Cell cell_call.IsDone d) = model.IsDone d
modelled (call.Wake c md n) = model.Wake c md 0
modelled (call.SetAndWake c x n) = model.Wake c mode.Normal 0
modelled (call.SimpleWake c all) = model.SimpleWake c all
modelled (call.SetAndSimpleWake c x all) = model.SimpleWake c all
modelled (call.SetVar v x) = model.SetVar v x
modelled (call.ClearBit w b) = model.ClearBit w b
modelled (call.TryBit w b) = model.TryBit w b
modelled (call.AddTally p n) = model.ClearBit p 0
modelled (call.Take c) = model.Take c
modelled (call.Signal who fatal) = model.Signal who fatal
modelled (call.Kick who) = model.Kick who
modelled call.Accept = model.Accept

-- a variable is published from `CLAIMS` on: those below belong to pipes
abbrev pub publishes_unclaimed : Call → Bool
publishes_unclaimed (call.SetVar v x) = not (nat_lt v CLAIMS)
publishes_unclaimed _ = true

-- the numbers are in their ranges
abbrev pub numbers_fit : Call → Bool
numbers_fit c = publishes_unclaimed c && is_in_range 0 (modelled c)

-- a wait in a simple queue would sleep killable
abbrev pub is_unlisted : Call → Bool
is_unlisted (call.SimpleWait c st) = is_killable st
is_unlisted _ = false

-- by the bit or page that the call is about: it would wait for one that the task keeps, or give back one that it does
-- not keep
abbrev pub if_kept : Refused → Bool → Option Refused
if_kept e true = Some e
if_kept e false = None

abbrev pub keeping_reason : Call → KeptBits → Option Refused
keeping_reason (call.WaitBit w b st) ks = if_kept reason.Held (keeps_in ks (watch.Bit w b))
keeping_reason (call.LockBit w b st) ks = if_kept reason.Held (keeps_in ks (watch.Bit w b))
keeping_reason (call.LockPage p st) ks = if_kept reason.Held (keeps_in ks (watch.Bit p 0))
keeping_reason (call.ClearBit w b) ks = if_kept reason.NotHeld (not (keeps_in ks (watch.Bit w b)))
keeping_reason (call.AddTally p n) ks = if_kept reason.NotHeld (not (keeps_in ks (watch.Bit p 0)))
keeping_reason _ ks = None

abbrev pub or_else : Option Refused → Option Refused → Option Refused
or_else (Some e) o = Some e
or_else None o = o

-- Why a call may not begin, by the first reason that holds; none where it may.
abbrev pub refusal_by : Call → Running → KeptBits → Option Refused
refusal_by c r ks = if not (numbers_fit c) then Some reason.OutOfRange else (if is_unlisted c then Some reason.NotListed
    else or_else (busy_reason r) (keeping_reason c ks))

abbrev pub refusal_to : Call → Checked → Option Refused
refusal_to c t = refusal_by c t.running t.kept

-- The call under way is this one before its first stretch, with its numbers.
abbrev pub BeginsAs : Call → Running → Type 0
BeginsAs (call.Wait c how) (running.Event r (turn.Again event_stage.First)) =
    events.IsFreshWait r.of (watch.Plain c) how
BeginsAs (call.SimpleWait c st) (running.Event r (turn.Again event_stage.First)) =
    events.IsFreshWait r.of (watch.Plain c) (tail_in st)
BeginsAs (call.WaitVar v old st) (running.Event r (turn.Again event_stage.First)) =
    events.IsFreshWait r.of (watch.Var v old) (shared_in st)
BeginsAs (call.WaitBit w b st) (running.Bit r (turn.Again (frame_stage.Test bit_test.First))) =
    bits.IsFreshBitWait r.of.wait w b st
BeginsAs (call.LockBit w b st) (running.Lock r (turn.Again (frame_stage.Test lock_test.First))) =
    locks.IsFreshLock r.of.wait w b st
BeginsAs (call.LockPage p st) (running.Page r (turn.Again page_stage.First)) = pages.IsFreshPageWait r.of p st
BeginsAs (call.WaitFor d st) (running.Await r (turn.Again await_stage.First)) = awaits.IsFreshAwait r.of d st
BeginsAs (call.Cell q d) (running.Cell r cell_stage.First) = cells.IsFreshCell r q d
BeginsAs (call.SimpleWake c all) (running.Swake r swake_stage.First) = swakes.IsFreshSwake r c all
BeginsAs (call.SetAndSimpleWake c x all) (running.Swake r swake_stage.First) = swakes.IsFreshSwake r c all
BeginsAs (call.Wake c md n) (running.Wake r wake_stage.First) =
    r.aim ≡ record { watch = watch.Plain c; mode = md; count = n }
BeginsAs (call.SetAndWake c x n) (running.Wake r wake_stage.First) =
    r.aim ≡ record { watch = watch.Plain c; mode = mode.Normal; count = n }
BeginsAs (call.SetVar v x) (running.Wake r wake_stage.First) =
    r.aim ≡ record { watch = watch.Var v 0; mode = mode.Normal; count = 1 }
BeginsAs (call.ClearBit w b) (running.Wake r wake_stage.First) =
    r.aim ≡ record { watch = watch.Bit w b; mode = mode.Normal; count = 1 }
BeginsAs _ _ = ⊥

-- A call is under way that has just begun with this task.
pub record HasJustBegun (c : Call) (k : Known) (now : Running) : Type 0 where
  pub first : BeginsAs c now
  pub came : CameFrom false k now k now

-- A watch was published with this value.
pub record WasPublished (w : Watch) (value : ℕ) (old new : Known) : Type 0 where
  pub found : ℕ
  pub is : new ≡ added old (item.Made (step.Publish w value found))

-- Behind a publish the task looked for members of the watch's head without the lock. Where it found some the wake has
-- begun, and else the call is over.
abbrev pub GoesWhere : Bool → Call → Known → Progress → Running → Type 0
GoesWhere true c new told now = (told ≡ progress.Again) × HasJustBegun c new now
GoesWhere false c new told now = (told ≡ progress.Done (answer.Walked unmade)) × (now ≡ running.Idle)

pub record LooksBehind (c : Call) (w : Watch) (old new : Known) (told : Progress) (now : Running) : Type 0 where
  pub hit : Bool
  pub looked : HasScanned old new (head_of w) hit
  pub goes : GoesWhere hit c new told now

pub record PublishesFirst (c : Call) (w : Watch) (value : ℕ) (old new : Known) (told : Progress) (now : Running) : Type 0
  where
    pub between : Known
    pub published : WasPublished w value old between
    pub looks : LooksBehind c w between new told now

-- What a call did that is over at once, and answers this. A bit that was taken is kept.
abbrev pub Does : Call → Known → Known → KeptBits → Answer → Type 0
Does (call.TryBit w b) old new ks (answer.Tried clear) =
    HasTriedBit old new w b clear × (clear ≡ true → keeps_in ks (watch.Bit w b) ≡ true)
Does (call.AddTally p n) old new ks (answer.Value v) = (new ≡ added old (item.Tally p n v)) × FindsTally old.view p v
Does (call.Take c) old new ks (answer.Value v) = HasTakenCond old new c v
Does (call.Signal who fatal) old new ks (answer.Raised None) = Woke old new who fatal false
Does (call.Signal who fatal) old new ks (answer.Raised (Some w)) = (w ≡ who) × Woke old new who fatal true
Does (call.Kick who) old new ks (answer.Kicked woke rouse) = HasKicked old new who woke rouse
Does call.Accept old new ks (answer.Accepted t) =
    AddsOf old new (λ found. step.Accept found) (λ found. t ≡ taken_of (task_of found))
Does _ old new ks a = ⊥

-- It is over; or its wake was starved, behind the signal that was raised, where it is one.
abbrev pub IsDone : Call → Known → Known → KeptBits → Progress → Running → Type 0
IsDone c old new ks (progress.Done a) now = Does c old new ks a × (now ≡ running.Idle)
IsDone (call.Signal who fatal) old new ks progress.Starved now = Sends old new who fatal × (now ≡ running.Starved)
IsDone (call.Kick who) old new ks progress.Starved now = (new ≡ old) × (now ≡ running.Starved)
IsDone _ old new ks told now = ⊥

-- What a call begins: it publishes first, or is over at once, or the task is as it was, and the call is under way.
abbrev pub BeginsCall : Call → Known → Known → KeptBits → Progress → Running → Type 0
BeginsCall (call.SetAndWake c x n) old new ks told now =
    (told ≡ progress.Again) × WasPublished (watch.Plain c) x old new × HasJustBegun (call.SetAndWake c x n) new now
BeginsCall (call.SetAndSimpleWake c x all) old new ks told now =
    (told ≡ progress.Again) × WasPublished (watch.Plain c) x old new × HasJustBegun (call.SetAndSimpleWake c x all) new now
BeginsCall (call.SetVar v x) old new ks told now = PublishesFirst (call.SetVar v x) (watch.Var v 0) x old new told now
BeginsCall (call.ClearBit w b) old new ks told now = PublishesFirst (call.ClearBit w b) (watch.Bit w b) 0 old new told now
BeginsCall (call.TryBit w b) old new ks told now = IsDone (call.TryBit w b) old new ks told now
BeginsCall (call.AddTally p n) old new ks told now = IsDone (call.AddTally p n) old new ks told now
BeginsCall (call.Take c) old new ks told now = IsDone (call.Take c) old new ks told now
BeginsCall (call.Signal who fatal) old new ks told now = IsDone (call.Signal who fatal) old new ks told now
BeginsCall (call.Kick who) old new ks told now = IsDone (call.Kick who) old new ks told now
BeginsCall call.Accept old new ks told now = IsDone call.Accept old new ks told now
BeginsCall c old new ks told now = (told ≡ progress.Again) × (new ≡ old) × HasJustBegun c new now

-- the calls that publish, and those that are over at once
abbrev pub publishes_first : Call → Bool
publishes_first (call.SetAndWake c x n) = true
publishes_first (call.SetAndSimpleWake c x all) = true
publishes_first (call.SetVar v x) = true
publishes_first (call.ClearBit w b) = true
publishes_first _ = false

abbrev pub is_short : Call → Bool
is_short (call.TryBit w b) = true
is_short (call.AddTally p n) = true
is_short (call.Take c) = true
is_short (call.Signal who fatal) = true
is_short (call.Kick who) = true
is_short call.Accept = true
is_short _ = false

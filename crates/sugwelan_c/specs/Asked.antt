-- To be believed.
-- What a call asks for, by its kind and its numbers.
use Rattle.std.specs.Prelude.{◌==◌, ℕ, Bool, true, false, nat_lt, Option, Some, None, if◌then◌else◌}
use Prim.Native.Nat.{zero, suc}
use Rattle.completion_cell.specs.declared.cell_turns.CellCall.TheVariants as cell_call
use Rattle.wait_model.specs.{declared.tasks.SleepState.SleepState, declared.watches.Mode.Mode}
use Rattle.wait_model.specs.declared.tasks.SleepState.TheVariants as sleep
use Rattle.wait_model.specs.declared.watches.Mode.TheVariants as mode
use Rattle.wq_checked.specs.declared.calls.Call.{Call as TaskCall}
use Rattle.wq_checked.specs.declared.calls.Call.TheVariants as call
use Rattle.sugwelan_c.specs.{declared.calls.Call.Call, declared.calls.Wanted.Wanted}
use Rattle.sugwelan_c.specs.declared.kinds.TheConstants.{ADVANCE, WAIT_EVENT, SWAIT_EVENT, WAIT_VAR_EVENT, WAIT_ON_BIT}
use Rattle.sugwelan_c.specs.declared.kinds.TheConstants.{WAIT_ON_BIT_LOCK, LOCK_PAGE, WAIT_FOR_COMPLETION, WAKE_UP}
use Rattle.sugwelan_c.specs.declared.kinds.TheConstants.{SET_AND_WAKE, PUBLISH_VAR_AND_WAKE, CLEAR_AND_WAKE_UP_BIT}
use Rattle.sugwelan_c.specs.declared.kinds.TheConstants.{UNLOCK_PAGE, SWAKE_UP_ONE, SWAKE_UP_ALL, SET_AND_SWAKE}
use Rattle.sugwelan_c.specs.declared.kinds.TheConstants.{COMPLETE, COMPLETE_ALL, REINIT_COMPLETION}
use Rattle.sugwelan_c.specs.declared.kinds.TheConstants.{TRY_WAIT_FOR_COMPLETION, COMPLETION_DONE, TRYLOCK_BIT}
use Rattle.sugwelan_c.specs.declared.kinds.TheConstants.{TRYLOCK_PAGE, ADD_TALLY, TAKE_CONDITION, NUMBER, RAISE_SIGNAL}
use Rattle.sugwelan_c.specs.declared.kinds.TheConstants.{LEAVE, TAKE_SIGNAL, WAKE_UP_PROCESS}
use Rattle.sugwelan_c.specs.declared.calls.Wanted.TheVariants as wanted

-- numbers that stand for something else
abbrev pub byte_in : ℕ → Option ℕ
byte_in n = if nat_lt n 256 then Some n else None

abbrev pub flag_in : ℕ → Option Bool
flag_in zero = Some false
flag_in (suc zero) = Some true
flag_in _ = None

abbrev pub state_by_number : ℕ → Option SleepState
state_by_number zero = Some sleep.Uninterruptible
state_by_number (suc zero) = Some sleep.Interruptible
state_by_number (suc (suc zero)) = Some sleep.Killable
state_by_number _ = None

abbrev pub mode_in : ℕ → Option Mode
mode_in zero = Some mode.Normal
mode_in (suc zero) = Some mode.Interruptible
mode_in _ = None

abbrev pub and_then : {A B : Type 0} → Option A → (A → Option B) → Option B
and_then None f = None
and_then (Some x) f = f x

-- the first of two that there is
abbrev pub either : Option TaskCall → Option TaskCall → Option TaskCall
either (Some c) o = Some c
either None o = o

-- The calls about a condition, with its number first. Here and below there is none where the kind is another, or a number
-- is none that it may be.
abbrev pub asks_cond : ℕ → Call → Option TaskCall
asks_cond n c =
    if c.kind == WAIT_EVENT then and_then (state_by_number c.b) (λ st. and_then (flag_in c.c)
    (λ alone. Some (call.Wait n (record { state = st; exclusive = alone })))) else (
    if c.kind == SWAIT_EVENT then and_then (state_by_number c.b) (λ st. Some (call.SimpleWait n st)) else (
    if c.kind == WAKE_UP then and_then (mode_in c.b) (λ m. Some (call.Wake n m c.c)) else (
    if c.kind == SET_AND_WAKE then Some (call.SetAndWake n c.value c.c) else (
    if c.kind == SWAKE_UP_ONE then Some (call.SimpleWake n false) else (
    if c.kind == SWAKE_UP_ALL then Some (call.SimpleWake n true) else (
    if c.kind == SET_AND_SWAKE then and_then (flag_in c.b) (λ all. Some (call.SetAndSimpleWake n c.value all)) else (
    if c.kind == TAKE_CONDITION then Some (call.Take n) else None)))))))

-- about a variable
abbrev pub asks_var : ℕ → Call → Option TaskCall
asks_var n c =
    if c.kind == WAIT_VAR_EVENT then and_then (state_by_number c.b) (λ st. Some (call.WaitVar n c.value st)) else (
    if c.kind == PUBLISH_VAR_AND_WAKE then Some (call.SetVar n c.value) else None)

-- about a bit of a word
abbrev pub asks_bit : ℕ → Call → Option TaskCall
asks_bit n c = and_then (byte_in c.b) (λ b.
    if c.kind == WAIT_ON_BIT then and_then (state_by_number c.c) (λ st. Some (call.WaitBit n b st)) else (
    if c.kind == WAIT_ON_BIT_LOCK then and_then (state_by_number c.c) (λ st. Some (call.LockBit n b st)) else (
    if c.kind == CLEAR_AND_WAKE_UP_BIT then Some (call.ClearBit n b) else (
    if c.kind == TRYLOCK_BIT then Some (call.TryBit n b) else None))))

-- about a page, which is bit 0 of its word
abbrev pub asks_page : ℕ → Call → Option TaskCall
asks_page n c =
    if c.kind == LOCK_PAGE then and_then (state_by_number c.b) (λ st. Some (call.LockPage n st)) else (
    if c.kind == UNLOCK_PAGE then Some (call.ClearBit n 0) else (
    if c.kind == TRYLOCK_PAGE then Some (call.TryBit n 0) else (
    if c.kind == ADD_TALLY then Some (call.AddTally n c.value) else None)))

-- about a completion
abbrev pub asks_cell : ℕ → Call → Option TaskCall
asks_cell n c =
    if c.kind == WAIT_FOR_COMPLETION then and_then (state_by_number c.b) (λ st. Some (call.WaitFor n st)) else (
    if c.kind == COMPLETE then Some (call.Cell cell_call.Complete n) else (
    if c.kind == COMPLETE_ALL then Some (call.Cell cell_call.CompleteAll n) else (
    if c.kind == REINIT_COMPLETION then Some (call.Cell cell_call.Reinit n) else (
    if c.kind == TRY_WAIT_FOR_COMPLETION then Some (call.Cell cell_call.TryWait n) else (
    if c.kind == COMPLETION_DONE then Some (call.Cell cell_call.IsDone n) else None)))))

-- about a task: a signal, or a wake of it alone
abbrev pub asks_task : ℕ → Call → Option TaskCall
asks_task n c =
    if c.kind == RAISE_SIGNAL then and_then (flag_in c.b) (λ fatal. Some (call.Signal n fatal)) else (
    if c.kind == WAKE_UP_PROCESS then Some (call.Kick n) else None)

abbrev pub asks_begin : ℕ → Call → Option TaskCall
asks_begin n c = either (either (asks_cond n c) (asks_var n c)) (either (either (asks_bit n c) (asks_page n c))
    (either (asks_cell n c) (asks_task n c)))

-- What a call asks for, or none where it is no call.
abbrev pub asks : Call → Option Wanted
asks c =
    if c.kind == ADVANCE then Some wanted.Advance else (
    if c.kind == LEAVE then Some wanted.Leave else (
    if c.kind == NUMBER then Some wanted.Number else (
    if c.kind == TAKE_SIGNAL then Some (wanted.Begin call.Accept) else
    and_then (byte_in c.a) (λ n. and_then (asks_begin n c) (λ q. Some (wanted.Begin q))))))

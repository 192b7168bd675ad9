-- To be believed.
-- How a worker waits for the page of the copy.
use Rattle.std.specs.Prelude.{ℕ, true, Result, Ok, Err}
use Rattle.wait_model.specs.declared.tasks.SleepState.TheVariants as state
use Rattle.wait_rule.specs.Known.{Known}
use Rattle.bit_wait.specs.declared.wait_calls.BitEnd.{BitEnd}
use Rattle.bit_wait.specs.declared.wait_calls.BitEnd.TheVariants as bit_end
use Rattle.page_lock.specs.PageEnds.{EndsPageLock}
use Rattle.copy_plan.specs.{declared.TheConstants.COUNTED_PAGE, declared.stop.Halt.Halt}
use Rattle.copy_plan.specs.declared.stop.Halt.TheVariants as halt
use Rattle.copy_turns.specs.Transfers.{Heard, Repeats}

-- it waited for the page, interruptibly, with this answer
abbrev pub WaitsForPage : Known → Known → Result (Unit {0}) BitEnd → Type 0
WaitsForPage old new answer = EndsPageLock old new COUNTED_PAGE state.Interruptible answer

-- such a wait that a signal ended
abbrev pub InterruptedWait : Known → Known → Type 0
InterruptedWait old new = (seen : ℕ) × WaitsForPage old new (Err (bit_end.Interrupted seen))

-- how the last of them ended
abbrev pub LastWaits : Result (Unit {0}) Halt → Known → Known → Type 0
LastWaits (Ok u) old new = WaitsForPage old new (Ok tt)
LastWaits (Err halt.Broken) old new = ⊥
LastWaits (Err halt.Killed) old new = Heard InterruptedWait old new true
LastWaits (Err (halt.Worn h p)) old new = WaitsForPage old new (Err (bit_end.Worn h p))

-- It waited for the page until it had it, or a fatal signal ended a wait, or one found no place.
abbrev pub PageWaits : Known → Known → Result (Unit {0}) Halt → Type 0
PageWaits old new r = Repeats InterruptedWait (LastWaits r) old new

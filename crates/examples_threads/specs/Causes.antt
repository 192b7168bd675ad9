-- To be believed.
-- Why the calls of the examples end without what they were to give.
use Rattle.std.specs.Prelude.{ℕ, ◌⊎◌, Bool}
use Rattle.examples_threads.specs.declared.driver.TheConstants.{FOR_ANSWER, FOR_DEVICE, IDLE, STATUS}
use Rattle.wait_event.specs.{Conds.HasSet, Ends.IsEndCause, declared.wait_events.WaitEnd.WaitEnd}
use Rattle.wait_model.specs.{declared.queues.Walked.Walked, declared.tasks.How.How}
use Rattle.wait_model.specs.declared.watches.Mode.TheVariants as mode
use Rattle.wait_model.specs.declared.watches.Watch.TheVariants as watch
use Rattle.wait_rule.specs.Known.{Known}

-- the task's last wait, for this condition, ended so, with its cause
abbrev pub WaitEnded : Known → ℕ → How → WaitEnd → Type 0
WaitEnded k c how e = (queued : Bool) × IsEndCause k (watch.Plain c) how queued e

-- the task set the condition that tells that the device is idle, and woke one who waits for it
abbrev pub HasReleased : Known → Known → Type 0
HasReleased old new = (walked : Walked) × HasSet old new IDLE 1 mode.Normal 1 walked

-- No status came: the wait for the device ended without it; or the wait for its interrupt, and then the device was given
-- back.
abbrev pub IsFailed : Known → WaitEnd → Type 0
IsFailed k e = WaitEnded k IDLE FOR_DEVICE e
    ⊎ ((had : Known) × WaitEnded had STATUS FOR_ANSWER e × HasReleased had k)

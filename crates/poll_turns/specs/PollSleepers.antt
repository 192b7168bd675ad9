-- To be believed.
-- Whom a wait for two conditions has put asleep by stretches is kept as the whole call's sleeper is.
use Rattle.std.specs.Prelude.{Bool}
use Rattle.wait_rule.specs.Known.{Known}
use Rattle.wait_class.specs.declared.stages.Turn.TheVariants as turn
use Rattle.poll_wait.specs.{declared.turns.Poll.Poll, Polls.IsPoll, Waiting.IsKeptByBoth}
use Rattle.poll_turns.specs.{declared.stages.PollStage.PollStage, PollTurns.IsPolling}

abbrev pub StretchedPollersAreKept : Type 0
StretchedPollersAreKept = (p : Poll) → IsPoll p → (b : Bool) (start k : Known) (s : PollStage)
    → IsPolling b p start k (turn.Asleep s) → IsKeptByBoth p k

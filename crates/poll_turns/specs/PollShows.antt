-- To be believed.
-- What a stretch of a wait for two conditions has to show for its answer.
use Rattle.std.specs.Prelude.{ℕ, ◌≡◌, ◌⊎◌}
use Rattle.wait_model.specs.Watches.{head_of}
use Rattle.wait_rule.specs.{Known.Known, Says.history_of, Tried.IsOneMore}
use Rattle.wq_head.specs.LockTurns.{FindsOther}
use Rattle.wait_class.specs.Handing.{LastGiven}
use Rattle.wait_class.specs.Tables.{MadeEvent, SleepsNot, SleptLast}
use Rattle.wait_class.specs.declared.stages.Turn.TheVariants as turn
use Rattle.poll_wait.specs.declared.turns.Poll.{Poll}
use Rattle.poll_turns.specs.{declared.stages.PollStage.PollStage, PollTurns.PollTurn}
use Rattle.poll_turns.specs.declared.stages.PollStage.TheVariants as stage

-- it made no event, and one more of its tries to sleep failed
abbrev pub HasFailedSleep : Known → Known → PollStage → PollStage → Type 0
HasFailedSleep old new (stage.Sleep one) (stage.Sleep two) = IsOneMore one two × (history_of new ≡ history_of old)
HasFailedSleep old new _ _ = ⊥

-- it looked last at the number that its head serves, which is another one than its ticket
abbrev pub LooksLast : Known → ℕ → ℕ → Type 0
LooksLast new head ticket = (before : Known) × (served : ℕ) × FindsOther before new head ticket served

abbrev pub FindsOtherServed : Poll → Known → PollStage → Type 0
FindsOtherServed p new (stage.HoldFirst ticket) = LooksLast new (head_of p.first) ticket
FindsOtherServed p new (stage.HoldSecond ticket) = LooksLast new (head_of p.second) ticket
FindsOtherServed p new (stage.HoldTakeFirst end head ticket) = LooksLast new head ticket
FindsOtherServed p new (stage.HoldTakeSecond end head ticket) = LooksLast new head ticket
FindsOtherServed p new _ = ⊥

-- That it goes on: an event, or a failed try; that it waits for a lock: a look that found another number served; that it
-- was put asleep: a sleep, which came last.
abbrev pub PollShows : Poll → Known → Known → PollStage → PollTurn → Type 0
PollShows p old new s (turn.Again n) = MadeEvent old new ⊎ HasFailedSleep old new s n
PollShows p old new s (turn.Locked n) = FindsOtherServed p new n
PollShows p old new s (turn.Asleep n) = SleptLast old new
PollShows p old new s (turn.Done end) = Unit {0}

-- it sleeps, and tries to, at one stage alone
abbrev pub SleepsAt : PollStage → Known → Known → Type 0
SleepsAt (stage.Sleep failed) old new = Unit {0}
SleepsAt _ old new = SleepsNot old new

-- It has shown that, slept at no other stage, and given this head's lock back, or none (`HEADS`).
pub record DidStretch (p : Poll) (old new : Known) (head : ℕ) (s : PollStage) (u : PollTurn) : Type 0 where
  pub shows : PollShows p old new s u
  pub sleeps : SleepsAt s old new
  pub given : LastGiven old new head

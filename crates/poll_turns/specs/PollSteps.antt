-- For proofs alone.
-- What a stretch of a wait for two conditions comes to, what is done in a hold, and the part that is queued there.
use Rattle.std.specs.Prelude.{ℕ, ◌≡◌, Bool, false, Result}
use Rattle.wait_model.specs.Watches.{head_of, kind_for}
use Rattle.wait_event.specs.PartSteps.{JoinsPart}
use Rattle.wait_rule.specs.{HandedPermits.OwesNoPermit, Known.Known, Queues.IsTold, Says.unlocked_with, Stays.Carries}
use Rattle.wait_rule.specs.Stays.{unlock_change}
use Rattle.wq_head.specs.{declared.adds.Worn.Worn, Holds.HasUnlocked, LockTurns.AwaitsLock, LockTurns.TookLock}
use Rattle.wait_class.specs.Tables.{MadeEvent, SleepsNot}
use Rattle.wait_class.specs.declared.stages.Turn.TheVariants as turn
use Rattle.poll_wait.specs.{declared.turns.Poll.Poll, Polls.front_in}
use Rattle.poll_turns.specs.{declared.stages.PollStage.PollStage, PollTurns.IsPolling, PollTurns.PollTurn}
use Rattle.poll_turns.specs.{PollShows.DidStretch, PollShows.PollShows}
use Rattle.poll_turns.specs.declared.stages.PollStage.TheVariants as stage

-- it came from this stage to what the stretch answers, and has shown what that asks for
pub record GoesFrom (p : Poll) (old new : Known) (head : ℕ) (s : PollStage) (u : PollTurn) : Type 0 where
  pub came : (b : Bool) (start : Known) → IsPolling b p start old (turn.Again s) → IsPolling b p start new u
  pub did : DidStretch p old new head s u

-- the first entry of a poll, as a prepare queues it that looks for no signal
abbrev pub JoinsFirst : Poll → Known → Known → Result Bool Worn → Type 0
JoinsFirst p old new r = JoinsPart (record { kind = kind_for p.first; watch = p.first; how = front_in p.state; asks = false })
    old new r

-- the head that is held is given back
pub record GivesHoldBack (old new : Known) : Type 0 where
  pub is : new ≡ unlocked_with old old.at false
  pub unlocked : HasUnlocked old new false
  pub carries : Carries unlock_change old new

-- whose lock it waits for at this stage, and by which ticket
abbrev pub Awaits : Poll → PollStage → ℕ → ℕ → Type 0
Awaits p (stage.HoldFirst t) head ticket = (head ≡ head_of p.first) × (ticket ≡ t)
Awaits p (stage.HoldSecond t) head ticket = (head ≡ head_of p.second) × (ticket ≡ t)
Awaits p (stage.HoldTakeFirst end h t) head ticket = (head ≡ h) × (ticket ≡ t)
Awaits p (stage.HoldTakeSecond end h t) head ticket = (head ≡ h) × (ticket ≡ t)
Awaits p _ head ticket = ⊥

-- a look has found that ticket served, and taken the lock
pub record TookAwaited (p : Poll) (old now : Known) (s : PollStage) : Type 0 where
  pub head : ℕ
  pub ticket : ℕ
  pub awaits : Awaits p s head ticket
  pub took : (from : Known) → AwaitsLock from old head ticket → TookLock from now head

-- it stood at this stage, and so it took the lock
pub record IsAtHold (p : Poll) (now : Known) (s : PollStage) : Type 0 where
  pub old : Known
  pub asked : Bool
  pub start : Known
  pub stood : IsPolling asked p start old (turn.Again s)
  pub turned : TookAwaited p old now s

-- What is to be done in that hold is done: once the head is given back it has gone on so.
pub record WorksHeld (p : Poll) (old new : Known) (s : PollStage) (u : PollTurn) : Type 0 where
  pub permits : OwesNoPermit new
  pub awake : SleepsNot old new
  pub shows : (before after : Known) → MadeEvent before after → PollShows p before after s u
  pub comes : (b : Bool) (start before after : Known) → IsPolling b p start before (turn.Again s)
      → TookAwaited p before old s → GivesHoldBack new after → IsTold after → IsPolling b p start after u

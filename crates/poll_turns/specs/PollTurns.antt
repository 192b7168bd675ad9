-- To be believed.
-- A wait for two conditions that goes on by stretches: where it stands, how it came there, and how it ends.
use Rattle.std.specs.Prelude.{ℕ, ◌≡◌, ◌⊎◌, Bool, true, false, Option, Some, None, Result, Ok, Err, List}
use Rattle.wait_model.specs.declared.steps.Step.TheVariants as step
use Rattle.wait_model.specs.declared.tasks.Sleep.TheVariants as sleep
use Rattle.wait_model.specs.{declared.watches.Entry.Entry, Watches.head_of, Watches.kind_for}
use Rattle.wait_model.specs.Tasks.{IsLawfulWord, looks_in, sleep_of, task_of}
use Rattle.wait_rule.specs.declared.journal.Item.TheVariants as item
use Rattle.wait_rule.specs.{Known.Known, Queues.IsIdle, Queues.IsTold, Stays.Carries, Stays.state_change}
use Rattle.wait_rule.specs.Transitions.{OnlyLooks}
use Rattle.wait_rule.specs.Says.{HasLooked, IsUp, added}
use Rattle.wq_head.specs.{declared.adds.Worn.Worn, LockTurns.AwaitsLock}
use Rattle.wait_class.specs.Posts.{HasSeenOwn, IsOut, own_of}
use Rattle.wait_class.specs.declared.stages.Turn.{Turn}
use Rattle.wait_class.specs.declared.stages.Turn.TheVariants as turn
use Rattle.wait_event.specs.declared.prepares.Prepared.TheVariants as prepared
use Rattle.wait_event.specs.Prepares.{EndsPrepare, HasFinished, finish_change}
use Rattle.poll_wait.specs.{declared.turns.Loads.Loads, declared.turns.Poll.Poll, declared.turns.PollEnd.PollEnd}
use Rattle.poll_wait.specs.{declared.turns.Ready.Ready, Seconds.IsSecondOut, SecondSteps.HasSeenSecond}
use Rattle.poll_wait.specs.{TurnSteps.PairCarries, TurnSteps.TurnCarries}
use Rattle.poll_wait.specs.Polls.{AsksSignal, EndsPoll, EndsQueueing, HasBoth, LeavesBoth, MayTurn, QueuesBoth}
use Rattle.poll_wait.specs.Polls.{SleepsTurns, StaysBesidePoll, front_in, loaded, poll_change, ready_of}
use Rattle.poll_turns.specs.{declared.stages.PollStage.PollStage, declared.stages.PollUntil.PollUntil}
use Rattle.poll_turns.specs.declared.stages.PollStage.TheVariants as stage
use Rattle.poll_turns.specs.declared.stages.PollUntil.TheVariants as until

abbrev pub PollTurn : Type 0
PollTurn = Turn PollStage PollUntil

-- whether it may have been asked to leave
abbrev pub PollAskedIf : Bool → Type 0
PollAskedIf true = Unit {0}
PollAskedIf false = ⊥

-- who may begin: an idle task that has neither entry queued
pub record CanPoll (k : Known) : Type 0 where
  pub up : IsUp k
  pub idle : IsIdle k
  pub out : IsOut k
  pub out_second : IsSecondOut k
  pub told : IsTold k

-- It began at `start`, loaded both conditions and found neither set, and then slept in turns, one after the other. It is
-- before a turn now, RUNNING, with its two entries off or for these watches.
pub record HasMadeTurns (p : Poll) (start now : Known) : Type 0 where
  pub begins : CanPoll start
  pub loads : Loads
  pub unset : ready_of p loads ≡ None
  pub turns : List Known
  pub sleeps : SleepsTurns p (loaded p loads start) turns now
  pub may : MayTurn p now
  pub carries : PairCarries (λ _. 0) start now

-- Since the turn began it has come to hold no head, and to have its two entries off or for these watches.
pub record IsWithin (p : Poll) (start last now : Known) : Type 0 where
  pub turned : HasMadeTurns p start last
  pub has : HasBoth p now
  pub carries : TurnCarries last now

-- it drew this ticket for the hold in which the first entry is queued
pub record AwaitsFirst (p : Poll) (start now : Known) (ticket : ℕ) : Type 0 where
  pub last : Known
  pub turned : HasMadeTurns p start last
  pub told : IsTold last
  pub waits : AwaitsLock last now (head_of p.first) ticket

-- the first is queued
pub record HasFirst (p : Poll) (start now : Known) : Type 0 where
  pub last : Known
  pub within : IsWithin p start last now
  pub first : EndsPrepare last now p.first (kind_for p.first) (front_in p.state) false (Ok prepared.Queued)

-- and it drew this ticket for the hold in which the second is queued
pub record AwaitsSecond (p : Poll) (start now : Known) (ticket : ℕ) : Type 0 where
  pub queued : Known
  pub has : HasFirst p start queued
  pub told : IsTold queued
  pub waits : AwaitsLock queued now (head_of p.second) ticket

-- both are queued, or no place was left for one of them
pub record HasTriedQueueing (p : Poll) (start now : Known) (outcome : Result (Unit {0}) Worn) : Type 0 where
  pub last : Known
  pub within : IsWithin p start last now
  pub queues : EndsQueueing p last now outcome

-- behind both entries it loaded both conditions, and found neither set; its state admits signals
pub record HasLoadedBoth (p : Poll) (start now : Known) (loads : Loads) : Type 0 where
  pub looks : looks_in p.state ≡ true
  pub last : Known
  pub within : IsWithin p start last now
  pub queued : Known
  pub queues : QueuesBoth p last queued
  pub unset : ready_of p loads ≡ None
  pub is : now ≡ loaded p loads queued

-- and then, where the state admits signals, it looked for one, and found none
pub record IsToSleep (p : Poll) (start now : Known) : Type 0 where
  pub last : Known
  pub within : IsWithin p start last now
  pub queued : Known
  pub queues : QueuesBoth p last queued
  pub loads : Loads
  pub unset : ready_of p loads ≡ None
  pub asks : AsksSignal p.state (loaded p loads queued) now false

-- and then it was put asleep, and has looked since, and not found that it was woken
pub record IsPollAsleep (p : Poll) (start now : Known) : Type 0 where
  pub asked : Known
  pub before : IsToSleep p start asked
  pub found : ℕ
  pub lawful : IsLawfulWord found
  pub asleep : sleep_of (task_of found) ≡ sleep.Asleep
  pub looked : HasLooked (added asked (item.Made (step.Sleep found))) now false
  pub only : OnlyLooks (added asked (item.Made (step.Sleep found))) now

-- What a turn had made where it was left: nothing; the first entry was queued, or both; the loads behind them found
-- neither condition set; and the look for a signal behind those found none.
pub data HasBegunTurn (p : Poll) (last : Known) : Known → Type 0 where
  made_nothing : HasBegunTurn p last last
  queued_first : (now : Known) → EndsPrepare last now p.first (kind_for p.first) (front_in p.state) false (Ok prepared.Queued)
      → HasBegunTurn p last now
  queued_both : (now : Known) → QueuesBoth p last now → HasBegunTurn p last now
  found_unset : (queued : Known) (l : Loads) → QueuesBoth p last queued → ready_of p l ≡ None
      → HasBegunTurn p last (loaded p l queued)
  found_no_signal : (queued : Known) (l : Loads) (now : Known) → QueuesBoth p last queued → ready_of p l ≡ None
      → AsksSignal p.state (loaded p l queued) now false → HasBegunTurn p last now

-- it stands between two holds of a turn, or before the sleep
pub record IsOnTurn (p : Poll) (start now : Known) : Type 0 where
  pub last : Known
  pub within : IsWithin p start last now
  pub part : HasBegunTurn p last now

-- It left where it stood: there it loaded both once more, and took both entries off. The loads found this one set, or
-- neither.
pub record LeavesPart (p : Poll) (old new : Known) (loads : Loads) (found : Option Ready) : Type 0 where
  pub began : Loads
  pub unset : ready_of p began ≡ None
  pub turns : List Known
  pub last : Known
  pub sleeps : SleepsTurns p (loaded p began old) turns last
  pub there : Known
  pub part : HasBegunTurn p last there
  pub finds : ready_of p loads ≡ found
  pub leaves : LeavesBoth (loaded p loads there) new

abbrev pub LeavesReady : Poll → Known → Known → Result Ready PollEnd → Type 0
LeavesReady p old new (Ok r) = (loads : Loads) × LeavesPart p old new loads (Some r)
LeavesReady p old new (Err e) = ⊥

-- How it ended: as the whole call does; or, where it was asked to leave, ready by its last loads, or left.
abbrev pub EndsPollUntil : Type 0 → Poll → Known → Known → PollUntil → Type 0
EndsPollUntil A p old new (until.Over result) = EndsPoll p old new result ⊎ (A × LeavesReady p old new result)
EndsPollUntil A p old new (until.Left first second) =
    A × LeavesPart p old new (record { first = first; second = second }) None

-- its answer is known, and it has ended so once both entries are taken off
pub record IsEnding (A : Type 0) (p : Poll) (start now : Known) (end : PollUntil) : Type 0 where
  pub begins : CanPoll start
  pub has : HasBoth p now
  pub carries : TurnCarries start now
  pub ends : (new : Known) → LeavesBoth now new → EndsPollUntil A p start new end

-- It stored RUNNING, found the first entry queued, and drew this ticket of its head.
pub record AwaitsTakeFirst (A : Type 0) (p : Poll) (start now : Known) (end : PollUntil) (head ticket : ℕ) : Type 0
  where
    pub before : Known
    pub ending : IsEnding A p start before end
    pub told : IsTold before
    pub stored : Known
    pub stores : stored ≡ added before (item.Made (step.State 0))
    pub carries : Carries (state_change 0) before stored
    pub seen : Known
    pub entry : Entry
    pub looks : HasSeenOwn stored seen (Some entry)
    pub is_head : head ≡ head_of entry.watch
    pub waits : AwaitsLock seen now head ticket

-- the first entry is off
pub record HasTakenFirst (A : Type 0) (p : Poll) (start now : Known) (end : PollUntil) : Type 0 where
  pub before : Known
  pub ending : IsEnding A p start before end
  pub finished : HasFinished before now
  pub carries : Carries (finish_change (own_of before) now.at) before now

-- It found the second entry queued, and drew this ticket of its head.
pub record AwaitsTakeSecond (A : Type 0) (p : Poll) (start now : Known) (end : PollUntil) (head ticket : ℕ) : Type 0
  where
    pub between : Known
    pub taken : HasTakenFirst A p start between end
    pub told : IsTold between
    pub seen : Known
    pub entry : Entry
    pub looks : HasSeenSecond between seen (Some entry)
    pub is_head : head ≡ head_of entry.watch
    pub waits : AwaitsLock seen now head ticket

-- it is over: the task is idle with neither entry queued, as it was, and owes what it owed
pub record HasPolled (A : Type 0) (p : Poll) (old new : Known) (end : PollUntil) : Type 0 where
  pub ends : EndsPollUntil A p old new end
  pub up : IsUp new
  pub idle : IsIdle new
  pub out : IsOut new
  pub out_second : IsSecondOut new
  pub carries : Carries (poll_change old.view.number new.at) old new
  pub beside : StaysBesidePoll old new

abbrev pub IsPollAt : Type 0 → Poll → Known → Known → PollStage → Type 0
IsPollAt A p old new stage.First = (new ≡ old) × CanPoll old
IsPollAt A p old new stage.QueueFirst = HasMadeTurns p old new
IsPollAt A p old new (stage.HoldFirst ticket) = AwaitsFirst p old new ticket
IsPollAt A p old new stage.QueueSecond = HasFirst p old new
IsPollAt A p old new (stage.HoldSecond ticket) = AwaitsSecond p old new ticket
IsPollAt A p old new (stage.Load outcome) = HasTriedQueueing p old new outcome
IsPollAt A p old new (stage.Ask loads) = HasLoadedBoth p old new loads
IsPollAt A p old new (stage.Sleep failed) = IsToSleep p old new
IsPollAt A p old new (stage.TakeFirst end) = IsEnding A p old new end
IsPollAt A p old new (stage.HoldTakeFirst end head ticket) = AwaitsTakeFirst A p old new end head ticket
IsPollAt A p old new (stage.TakeSecond end) = HasTakenFirst A p old new end
IsPollAt A p old new (stage.HoldTakeSecond end head ticket) = AwaitsTakeSecond A p old new end head ticket

-- who is put asleep goes on with the next turn
abbrev pub IsPollAsleepAt : Poll → Known → Known → PollStage → Type 0
IsPollAsleepAt p old new stage.QueueFirst = IsPollAsleep p old new
IsPollAsleepAt p old new _ = ⊥

-- The wait that this task began at `old` has come to what a stretch answered; it may have been asked to leave, or was
-- not.
abbrev pub IsPolling : Bool → Poll → Known → Known → PollTurn → Type 0
IsPolling b p old new (turn.Again s) = IsPollAt (PollAskedIf b) p old new s
IsPolling b p old new (turn.Locked s) = IsPollAt (PollAskedIf b) p old new s
IsPolling b p old new (turn.Asleep s) = IsPollAsleepAt p old new s
IsPolling b p old new (turn.Done end) = HasPolled (PollAskedIf b) p old new end

-- so is a wait for these two, whenever it began
abbrev pub IsPollUnderWay : Poll → Known → PollTurn → Type 0
IsPollUnderWay p k u = (b : Bool) × (start : Known) × IsPolling b p start k u

-- where it makes its last loads when it is asked to leave: before a turn, between its two holds, behind both entries, and
-- before the sleep
abbrev pub leaves_at : PollStage → Bool
leaves_at stage.QueueFirst = true
leaves_at stage.QueueSecond = true
leaves_at (stage.Load (Ok u)) = true
leaves_at (stage.Load (Err worn)) = false
leaves_at (stage.Ask loads) = true
leaves_at (stage.Sleep failed) = true
leaves_at _ = false

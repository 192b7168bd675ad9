-- To be believed.
-- A wait for two conditions: what its turns make, one after the other, and what it answers.
use Rattle.std.specs.Prelude.{ℕ, ◌≡◌, ◌⊎◌, ◌||◌, Bool, true, false, if◌then◌else◌, Option, Some, None, Result, Ok, Err}
use Rattle.std.specs.Prelude.{List, [], ◌∷◌}
use Rattle.wait_model.specs.declared.steps.Step.TheVariants as step
use Rattle.wait_model.specs.{declared.tasks.How.How, declared.tasks.Sleep.Sleep, declared.tasks.SleepState.SleepState}
use Rattle.wait_model.specs.{Watches.kind_for, Watches.misses}
use Rattle.wait_model.specs.Tasks.{looks_in, pending, state_mask, task_of}
use Rattle.wait_rule.specs.declared.journal.Item.TheVariants as item
use Rattle.wait_rule.specs.{Aside.GrowsAside, HandedPermits.StaysOff, Known.Known, PipeSays.KeepsEnd, PipeSays.end_at}
use Rattle.wait_rule.specs.Queues.{index}
use Rattle.wait_rule.specs.Says.{Excuse, HasSlept, IsFree, IsUp, added, told_of}
use Rattle.wait_rule.specs.Stays.{Change, only, unchanged, with_entry}
use Rattle.wait_class.specs.Posts.{own_of}
use Rattle.wait_event.specs.declared.prepares.Prepared.TheVariants as prepared
use Rattle.wait_event.specs.Prepares.{EndsPrepare, HasFinished, IsPart}
use Rattle.wq_head.specs.declared.adds.Worn.{Worn}
use Rattle.poll_wait.specs.{declared.turns.Loads.Loads, declared.turns.Poll.Poll, declared.turns.PollEnd.PollEnd}
use Rattle.poll_wait.specs.declared.turns.Ready.{Ready}
use Rattle.poll_wait.specs.Seconds.{EndsJoin, HasLeftSecond, IsPolled, second_of}
use Rattle.poll_wait.specs.declared.turns.PollEnd.TheVariants as poll_end
use Rattle.poll_wait.specs.declared.turns.Ready.TheVariants as ready

-- what the task waits for are two conditions that a poll may have
pub record IsPoll (p : Poll) : Type 0 where
  pub first : IsPolled p.first
  pub second : IsPolled p.second

-- the two loads, the first condition first
abbrev pub loaded : Poll → Loads → Known → Known
loaded p l k = added (added k (item.Made (step.Load p.first l.first))) (item.Made (step.Load p.second l.second))

-- which of the two they found set: the first where it is, else the second where that is
abbrev pub ready_of : Poll → Loads → Option Ready
ready_of p l = if misses p.first l.first
    then (if misses p.second l.second then None else Some (ready.Second l.second))
    else Some (ready.First l.first)

-- Both entries are queued: the first by a prepare, which stores the state, and then the second. Or no place was left for
-- one of them.
abbrev pub front_in : SleepState → How
front_in σ = record { state = σ; exclusive = false }

pub record QueuesBoth (p : Poll) (old new : Known) : Type 0 where
  pub between : Known
  pub first : EndsPrepare old between p.first (kind_for p.first) (front_in p.state) false (Ok prepared.Queued)
  pub second : EndsJoin between new p.second (Ok tt)

pub record FindsNoSecond (p : Poll) (old new : Known) (e : Worn) : Type 0 where
  pub between : Known
  pub first : EndsPrepare old between p.first (kind_for p.first) (front_in p.state) false (Ok prepared.Queued)
  pub second : EndsJoin between new p.second (Err e)

abbrev pub FindsNoPlace : Poll → Known → Known → Worn → Type 0
FindsNoPlace p old new e =
    EndsPrepare old new p.first (kind_for p.first) (front_in p.state) false (Err e) ⊎ FindsNoSecond p old new e

abbrev pub EndsQueueing : Poll → Known → Known → Result (Unit {0}) Worn → Type 0
EndsQueueing p old new (Ok u) = QueuesBoth p old new
EndsQueueing p old new (Err e) = FindsNoPlace p old new e

-- both are taken off where they are queued: the first by a finish, which stores RUNNING, and then the second
pub record LeavesBoth (old new : Known) : Type 0 where
  pub between : Known
  pub first : HasFinished old between
  pub second : HasLeftSecond between new

-- a look for a signal that the state admits, where it admits any, and whether it showed one
abbrev pub AsksIf : Bool → SleepState → Known → Known → Bool → Type 0
AsksIf false σ old new hit = (new ≡ old) × (hit ≡ false)
AsksIf true σ old new hit = (word : ℕ) × (new ≡ added old (item.Made (step.Look word)))
    × (hit ≡ pending (state_mask σ) (task_of word))

abbrev pub AsksSignal : SleepState → Known → Known → Bool → Type 0
AsksSignal σ old new hit = AsksIf (looks_in σ) σ old new hit

-- A turn in which the task slept: it queued both entries, then loaded both conditions and found neither set, then looked
-- for a signal and found none, and then slept.
pub record SleepsTurn (p : Poll) (old new : Known) : Type 0 where
  pub queued : Known
  pub queues : QueuesBoth p old queued
  pub loads : Loads
  pub unset : ready_of p loads ≡ None
  pub asked : Known
  pub asks : AsksSignal p.state (loaded p loads queued) asked false
  pub answer : Sleep
  pub sleeps : HasSlept asked new answer

-- such turns one after the other; the list has what the task knew after each
abbrev pub SleepsTurns : Poll → Known → List Known → Known → Type 0
SleepsTurns p old [] new = new ≡ old
SleepsTurns p old (next ∷ more) new = SleepsTurn p old next × SleepsTurns p next more new

-- The last turn, by the answer. Ready: the loads found one set, behind both entries or where no place was left for one.
pub record EndsReady (p : Poll) (old new : Known) (r : Ready) : Type 0 where
  pub queued : Known
  pub outcome : Result (Unit {0}) Worn
  pub queues : EndsQueueing p old queued outcome
  pub loads : Loads
  pub set : ready_of p loads ≡ Some r
  pub leaves : LeavesBoth (loaded p loads queued) new

-- Signal: the loads behind both entries found neither set, and the look behind them showed a signal.
pub record EndsForSignal (p : Poll) (old new : Known) (loads : Loads) : Type 0 where
  pub queued : Known
  pub queues : QueuesBoth p old queued
  pub unset : ready_of p loads ≡ None
  pub asked : Known
  pub asks : AsksSignal p.state (loaded p loads queued) asked true
  pub leaves : LeavesBoth asked new

-- Worn: no place was left for one, and the loads after that found neither set.
pub record EndsWorn (p : Poll) (old new : Known) (e : Worn) : Type 0 where
  pub queued : Known
  pub queues : FindsNoPlace p old queued e
  pub loads : Loads
  pub unset : ready_of p loads ≡ None
  pub leaves : LeavesBoth (loaded p loads queued) new

abbrev pub EndsLast : Poll → Known → Known → Result Ready PollEnd → Type 0
EndsLast p old new (Ok r) = EndsReady p old new r
EndsLast p old new (Err (poll_end.Signal first second)) =
    EndsForSignal p old new (record { first = first; second = second })
EndsLast p old new (Err (poll_end.Worn head place)) = EndsWorn p old new (record { head = head; place = place })

-- what a turn did: the task slept, and goes on, or it was the last
abbrev pub EndsTurn : Poll → Known → Known → Option (Result Ready PollEnd) → Type 0
EndsTurn p old new None = SleepsTurn p old new
EndsTurn p old new (Some result) = EndsLast p old new result

-- turns in which it slept, and a last one
pub record EndsTurns (p : Poll) (old new : Known) (result : Result Ready PollEnd) : Type 0 where
  pub turns : List Known
  pub last : Known
  pub sleeps : SleepsTurns p old turns last
  pub ends : EndsLast p last new result

-- The whole call: it loads both conditions, and is over where one of them is set; else it goes on in turns.
abbrev pub PollGoesOn : Poll → Option Ready → Known → Known → Result Ready PollEnd → Type 0
PollGoesOn p (Some r) old new result = (new ≡ old) × (result ≡ Ok r)
PollGoesOn p None old new result = EndsTurns p old new result

pub record EndsPoll (p : Poll) (old new : Known) (result : Result Ready PollEnd) : Type 0 where
  pub loads : Loads
  pub goes : PollGoesOn p (ready_of p loads) (loaded p loads old) new result

-- Between its parts the task is awake and holds no lock, and its two entries are off, or for these watches. It is RUNNING
-- where a turn begins.
pub record HasBoth (p : Poll) (k : Known) : Type 0 where
  pub up : IsUp k
  pub free : IsFree k
  pub first : IsPart p.first (kind_for p.first) ((told_of k).bits.stored (own_of k))
  pub second : IsPart p.second (kind_for p.second) ((told_of k).bits.stored (second_of k))

pub record MayTurn (p : Poll) (k : Known) : Type 0 where
  pub has : HasBoth p k
  pub running : k.book.state ≡ 0

-- What the parts change of a task with this number: its two entries, its state, and the head whose lock it took last.
abbrev pub with_both : ℕ → Excuse → Excuse
with_both me x = with_entry (index me 0) (with_entry (index me 1) x)

abbrev pub is_either : ℕ → ℕ → Bool
is_either me y = only (index me 0) y || only (index me 1) y

abbrev pub pair_change : ℕ → (Excuse → Excuse) → (Excuse → Excuse) → (ℕ → ℕ) → ℕ → Change
pair_change me from to state h = record unchanged {
  from = from;
  to = to;
  but = is_either me;
  looks = true;
  state = state;
  at = λ _. h;
}

-- A poll leaves a task as it was but for the head whose lock it took last: RUNNING, with no lock, owing what it owed. It
-- loads words of entries, and its own entries are off at its end.
abbrev pub poll_change : ℕ → ℕ → Change
poll_change me h = pair_change me (λ x. x) (λ x. x) (λ σ. σ) h

-- The journal has more items of its task, which add to no tally, raise no signal and claim no end of a pipe. Of each end
-- the task may have seen more of the other one, and nothing else of it changes; and it leaves no entry at a completion.
pub record StaysBesidePoll (old new : Known) : Type 0 where
  pub grows : GrowsAside old new
  pub ends : (k : ℕ) → KeepsEnd (end_at k old) (end_at k new)
  pub off : StaysOff old new

-- To be believed.
-- A wake that is made hold by hold: where it stands between two of its holds, and what a turn of it did.
use Rattle.std.specs.Prelude.{ℕ, ◌+◌, ◌^◌, ◌≡◌, ◌<◌, true, false, Some, None, List}
use Rattle.wait_model.specs.{declared.layout.TheConstants.HEADS, declared.watches.Aim.Aim}
use Rattle.wait_model.specs.{declared.queues.Walking.Walking, declared.queues.Walked.Walked, declared.points.Next.Next}
use Rattle.wait_model.specs.{Watches.head_of, Queues.mark_place}
use Rattle.wait_model.specs.declared.points.Point.TheVariants as at
use Rattle.wait_model.specs.declared.points.WalkPoint.TheVariants as walking
use Rattle.wait_model.specs.declared.points.Next.TheVariants as next
use Rattle.wait_model.specs.declared.steps.Step.TheVariants as step
use Rattle.wait_rule.specs.declared.journal.Item.TheVariants as item
use Rattle.wait_rule.specs.{Known.Known, Queues.IsIdle, Stays.Carries, Stays.wake_all_change}
use Rattle.wait_rule.specs.Says.{IsUp, added, stored_with, unlocked_with}
use Rattle.wait_rule.specs.Transitions.{Transition, walk_program, Goes}
use Rattle.wq_head.specs.{declared.looks.ShownMember.ShownMember, declared.wakes.WakeRun.WakeRun}
use Rattle.wq_head.specs.{declared.wakes.WakeStage.WakeStage, declared.wakes.WakeTurn.WakeTurn, Holds.HasWaited}
use Rattle.wq_head.specs.{LockTurns.FindsOther, Members.member_of}
use Rattle.wq_head.specs.Walks.{IsFull, MayWake, HasWoken, HasEnded, HasStarved}
use Rattle.wq_head.specs.Walking.{SameNumbers, Counts, IsAhead, IsCountedDown, StaysInWalk, IsStarting, IsCalling}
use Rattle.wq_head.specs.Walking.{IsBreak, Meeting, rest_of, next_in_walk}
use Rattle.wq_head.specs.declared.wakes.WakeStage.TheVariants as stage
use Rattle.wq_head.specs.declared.wakes.WakeTurn.TheVariants as turn

-- where the program of a walk begins
abbrev pub walk_start : Next
walk_start = next.Go (at.Walk walking.Lock)

-- What the walk has done from its beginning, where its real counts are such; up to the beginning of a hold, and up to
-- any place in it.
pub record WalkHasCome (a : Aim) (start now : Known) (IsReal : Walking → Type 0) : Type 0 where
  pub real : Walking
  pub transitions : List Transition
  pub counts : IsReal real
  pub counted : IsCountedDown a.count real
  pub goes : Goes (walk_program a) start walk_start transitions now (next_in_walk real)

abbrev pub HasComeTo : Aim → Known → Known → Walking → Type 0
HasComeTo a start now w = WalkHasCome a start now (λ real. Counts w real)

abbrev pub HasComeOn : Aim → Known → Known → Walking → Type 0
HasComeOn a start now w = WalkHasCome a start now (λ real. IsAhead a now w real)

-- the task has taken the lock of one of the walk's holds, and has called no entry in it
pub record InWalk (a : Aim) (start now : Known) (w : Walking) : Type 0 where
  pub come : HasComeTo a start now w
  pub keeps : StaysInWalk a start now
  pub going : w.spent ≡ false
  pub starting : IsStarting a now w.place (rest_of a w)
  pub calls : w.calls ≡ 0

-- the counts of a walk before its first call
abbrev pub first_counts : Aim → Walking
first_counts a = record { place = 0; woken = 0; selected = 0; left = a.count; spent = false; calls = 0; holds = 1 }

-- the same counts in the walk's next hold, which goes on at a place
abbrev pub next_at : ℕ → Walking → Walking
next_at place w = record {
  place = place;
  woken = w.woken;
  selected = w.selected;
  left = w.left;
  spent = w.spent;
  calls = 0;
  holds = w.holds + 1;
}

-- Such a hold came before a member at which it breaks: the walk is to go on there with these counts. Then the task put
-- its bookmark before the member, and gave the lock back.
pub record IsBroken (a : Aim) (start now : Known) (u : Walking) : Type 0 where
  pub last : Known
  pub passed : Walking
  pub before : ShownMember
  pub come : HasComeOn a start last passed
  pub keeps : StaysInWalk a start last
  pub going : passed.spent ≡ false
  pub calling : IsCalling a last passed.place (rest_of a passed)
  pub meets : Meeting a last passed (Some (member_of before)) true
  pub breaks : IsBreak last passed before
  pub place : u.place ≡ mark_place (Some (member_of before))
  pub left : u.left ≡ passed.left
  pub spent : u.spent ≡ passed.spent
  pub calls : u.calls ≡ 0
  pub counts : (real : Walking) → SameNumbers passed real → Counts u (next_at u.place real)
  pub is : now ≡ unlocked_with (stored_with last (step.Mark (head_of a.watch) u.place)) last.at false

-- the task drew the ticket of the head's lock, and found other ones served since
abbrev pub HasDrawn : Known → Known → WakeRun → Type 0
HasDrawn base now r = HasWaited (added base (item.Drawn (head_of r.aim.watch) r.ticket)) now

-- Where a wake stands that began at `start`: before its first hold, or with a bookmark out before its next one; and
-- whether the ticket of that hold is drawn.
abbrev pub StandsAtWake : Known → Known → WakeRun → WakeStage → Type 0
StandsAtWake start now r stage.First = now ≡ start
StandsAtWake start now r stage.FirstTurn = HasDrawn start now r
StandsAtWake start now r stage.Next = IsBroken r.aim start now r.walk
StandsAtWake start now r stage.NextTurn = (base : Known) × IsBroken r.aim start base r.walk × HasDrawn base now r

-- The wake began with an idle task that was up and may wake for the watch, at a full head, and with a count of 32 bits.
pub record IsAtWake (start now : Known) (r : WakeRun) (s : WakeStage) : Type 0 where
  pub up : IsUp start
  pub idle : IsIdle start
  pub full : IsFull r.aim.watch
  pub tries : MayWake r.aim.watch start
  pub small : r.aim.count < 2 ^ 32
  pub stands : StandsAtWake start now r s

-- What a wake did that is over: it went through the program of the walk to its answer, and ended what the task owed.
pub record IsWakeOver (a : Aim) (start new : Known) (result : Walked) : Type 0 where
  pub woken : HasWoken start new a result
  pub ended : HasEnded start new a
  pub idle : IsIdle new
  pub up : IsUp new
  pub carries : Carries (wake_all_change a.watch a.mode new.at) start new

-- what a turn did
abbrev pub WakeTurnsTo : Known → Known → WakeRun → WakeTurn → Type 0
WakeTurnsTo start new r (turn.Locked s) = IsAtWake start new r s
WakeTurnsTo start new r turn.Broken = IsAtWake start new r stage.Next
WakeTurnsTo start new r (turn.Done result) = IsWakeOver r.aim start new result
WakeTurnsTo start new r (turn.Starved failed) = HasStarved r.aim new failed

-- the task as a turn looks at the head: the ticket of the next hold's lock is drawn then
abbrev pub drawn_by : Known → WakeRun → WakeStage → Known
drawn_by old r stage.First = added old (item.Drawn (head_of r.aim.watch) r.ticket)
drawn_by old r stage.FirstTurn = old
drawn_by old r stage.Next = added old (item.Drawn (head_of r.aim.watch) r.ticket)
drawn_by old r stage.NextTurn = old

-- where a turn was refused the lock, it looked once, and found another number served than its ticket
abbrev pub IsRefused : Known → Known → WakeRun → WakeStage → WakeTurn → Type 0
IsRefused old new r s (turn.Locked at) =
    FindsOther (drawn_by old r s) new (head_of r.aim.watch) r.ticket r.served
IsRefused old new r s _ = Unit {0}

-- no head is held after a turn, but where it starved
abbrev pub IsOutside : Known → WakeTurn → Type 0
IsOutside new (turn.Starved failed) = Unit {0}
IsOutside new _ = new.book.head ≡ None

-- a turn keeps the aim of its wake, and ends outside of holds
pub record HasTurned (start new : Known) (r s : WakeRun) (t : WakeTurn) : Type 0 where
  pub aim : s.aim ≡ r.aim
  pub outside : IsOutside new t
  pub turns : WakeTurnsTo start new s t

-- where a turn leaves the wake, whenever that began; after its end the task is up and idle
abbrev pub WakeRests : Known → WakeRun → WakeTurn → Type 0
WakeRests now r (turn.Locked s) = (start : Known) × IsAtWake start now r s
WakeRests now r turn.Broken = (start : Known) × IsAtWake start now r stage.Next
WakeRests now r (turn.Done result) = IsUp now × IsIdle now
WakeRests now r (turn.Starved failed) = HasStarved r.aim now failed

-- the head whose lock a turn has passed on, for the caller to wake who parks for it: that of the wake where the turn
-- ended a hold, and else none
abbrev pub passed_by_wake : WakeRun → WakeTurn → ℕ
passed_by_wake r (turn.Locked s) = HEADS
passed_by_wake r turn.Broken = head_of r.aim.watch
passed_by_wake r (turn.Done result) = head_of r.aim.watch
passed_by_wake r (turn.Starved failed) = HEADS

-- the stages at which the ticket of the next hold's lock is drawn
abbrev pub IsTurnStage : WakeStage → Type 0
IsTurnStage stage.First = ⊥
IsTurnStage stage.FirstTurn = Unit {0}
IsTurnStage stage.Next = ⊥
IsTurnStage stage.NextTurn = Unit {0}

-- that ticket was drawn, and the last look found it served
pub record IsServed (start now : Known) (r : WakeRun) (s : WakeStage) : Type 0 where
  pub turn : IsTurnStage s
  pub last : Known
  pub at : IsAtWake start last r s
  pub is : now ≡ added last (item.Serving (head_of r.aim.watch) r.ticket)

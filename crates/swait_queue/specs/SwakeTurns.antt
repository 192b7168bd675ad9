-- To be believed.
-- A wake of a simple queue that is made by stretches: where it stands between two of them, and what each did.
use Rattle.std.specs.Prelude.{ℕ, ◌≡◌, Bool, Some}
use Rattle.wait_model.specs.{declared.layout.TheConstants.HEADS, Watches.head_of}
use Rattle.wait_model.specs.declared.watches.Mode.TheVariants as mode
use Rattle.wait_model.specs.declared.watches.Watch.TheVariants as watch
use Rattle.wait_rule.specs.{declared.tries.FailedTries.FailedTries, Known.Known, Queues.IsIdle, Says.IsUp}
use Rattle.wait_rule.specs.{Stays.Carries, Stays.wake_all_change, Tried.IsStarved}
use Rattle.wq_head.specs.LockTurns.{AwaitsLock, FindsOther, TookLock}
use Rattle.swait_queue.specs.{declared.swake_turns.SwakeRun.SwakeRun, declared.swake_turns.SwakeStage.SwakeStage}
use Rattle.swait_queue.specs.{declared.swake_turns.SwakeTurn.SwakeTurn, SimpleWaits.IsSimpleCond}
use Rattle.swait_queue.specs.{SimpleWakes.EndsSimpleWake, SimpleWakes.OwesAtMost}
use Rattle.swait_queue.specs.declared.swake_turns.SwakeStage.TheVariants as stage
use Rattle.swait_queue.specs.declared.swake_turns.SwakeTurn.TheVariants as turn

-- a wake of this condition, of one or of all
pub record IsFreshSwake (r : SwakeRun) (c : ℕ) (all : Bool) : Type 0 where
  pub cond : r.cond ≡ c
  pub all_is : r.all ≡ all

abbrev pub swake_head : SwakeRun → ℕ
swake_head r = head_of (watch.Plain r.cond)

-- whether the ticket of its lock is drawn
abbrev pub StandsAtSwake : Known → Known → SwakeRun → SwakeStage → Type 0
StandsAtSwake start now r stage.First = now ≡ start
StandsAtSwake start now r stage.Turn = AwaitsLock start now (swake_head r) r.ticket

-- The wake began at `start` with an idle task that was up, for a condition with a simple queue.
pub record IsAtSwake (start now : Known) (r : SwakeRun) (s : SwakeStage) : Type 0 where
  pub up : IsUp start
  pub idle : IsIdle start
  pub simple : IsSimpleCond r.cond
  pub stands : StandsAtSwake start now r s

-- the task has taken the lock of its hold
pub record HoldsForSwake (start now : Known) (r : SwakeRun) : Type 0 where
  pub idle : IsIdle start
  pub simple : IsSimpleCond r.cond
  pub took : TookLock start now (swake_head r)

-- What a wake did that is over: all that the whole calls say.
pub record IsSwakeOver (start new : Known) (c : ℕ) (all : Bool) (n : ℕ) : Type 0 where
  pub woken : EndsSimpleWake start new c all n
  pub up : IsUp new
  pub idle : IsIdle new
  pub carries : Carries (wake_all_change (watch.Plain c) mode.Normal new.at) start new
  pub owing : OwesAtMost start new

-- It stopped in its hold: so many tries of one wake failed as no run makes.
pub record HasSwakeStarved (c : ℕ) (new : Known) (failed : FailedTries) : Type 0 where
  pub tries : IsStarved failed
  pub held : new.book.head ≡ Some (head_of (watch.Plain c))

-- what a stretch did
abbrev pub SwakeTurnsTo : Known → Known → SwakeRun → SwakeTurn → Type 0
SwakeTurnsTo start new r turn.Locked = IsAtSwake start new r stage.Turn
SwakeTurnsTo start new r (turn.Done n) = IsSwakeOver start new r.cond r.all n
SwakeTurnsTo start new r (turn.Starved failed) = HasSwakeStarved r.cond new failed

-- where another ticket was served, the last item is the look that found its number
abbrev pub FoundOther : Known → SwakeRun → SwakeTurn → Type 0
FoundOther new r turn.Locked = (base : Known) × FindsOther base new (swake_head r) r.ticket r.served
FoundOther new r _ = Unit {0}

-- the head whose lock a stretch has passed on, for the caller to wake who parks for it: that of the wake where the
-- stretch ended its hold, and else none
abbrev pub passed_by_swake : SwakeRun → SwakeTurn → ℕ
passed_by_swake r turn.Locked = HEADS
passed_by_swake r (turn.Done n) = swake_head r
passed_by_swake r (turn.Starved failed) = HEADS

-- it is the same wake
pub record HasSwakeTurned (start new : Known) (r s : SwakeRun) (t : SwakeTurn) : Type 0 where
  pub fresh : IsFreshSwake s r.cond r.all
  pub turns : SwakeTurnsTo start new s t

-- where a stretch leaves the wake, whenever that began; after its end the task is up and idle
abbrev pub SwakeRests : Known → SwakeRun → SwakeTurn → Type 0
SwakeRests now r turn.Locked = (start : Known) × IsAtSwake start now r stage.Turn
SwakeRests now r (turn.Done n) = IsUp now × IsIdle now
SwakeRests now r (turn.Starved failed) = HasSwakeStarved r.cond now failed

-- To be believed.
-- A wait on a futex that its task leaves: its exits, and what it says.
use Rattle.std.specs.Prelude.{ℕ, ◌≡◌, Bool, true, false, Option, Some, None, Result}
use Rattle.wait_model.specs.declared.points.FinishPoint.TheVariants as finishing
use Rattle.wait_model.specs.{declared.points.Point.Point, declared.tasks.SleepState.SleepState}
use Rattle.wait_model.specs.declared.points.Point.TheVariants as at
use Rattle.wait_rule.specs.Known.{Known}
use Rattle.wait_class.specs.{Tables.SleepsNot, declared.stages.Run.Run, declared.stages.Turn.Turn}
use Rattle.wait_class.specs.declared.stages.Turn.TheVariants as turn
use Rattle.wait_leave.specs.{declared.exits.Exit.Exit, declared.exits.Until.Until, Leaves.Exits}
use Rattle.wait_leave.specs.OnTheWay.{OnTheWay, left_at, straight}
use Rattle.wait_leave.specs.declared.exits.Until.TheVariants as until
use Rattle.futex_table.specs.{declared.futexes.FutexEnd.FutexEnd, declared.waits.FutexOutcome.FutexOutcome}
use Rattle.futex_table.specs.{declared.waits.FutexStage.FutexStage, declared.waits.FutexWait.FutexWait}
use Rattle.futex_table.specs.{FutexEnds.IsFutexCause, FutexEnds.futex_end_in}
use Rattle.futex_table.specs.FutexTables.{HasLeftFutex, IsFreshFutexWait, futex_table}
use Rattle.futex_table.specs.declared.waits.FutexOutcome.TheVariants as outcome
use Rattle.futex_table.specs.declared.waits.FutexStage.TheVariants as stage

-- It goes out in a hold: in that of its load, where that found the expected value and it has queued nothing; and in the
-- hold that takes its entry off, where no signal was found. Before its sleep it stores RUNNING, and goes on to that hold.
-- One that has not begun, that has drawn a ticket, or that ends anyhow, goes on.
abbrev pub futex_exit : FutexStage → Option (Exit FutexStage FutexOutcome)
futex_exit stage.Queue = Some (record { to = turn.Again (stage.Leave true); rests = false })
futex_exit stage.Sleep = Some (record { to = turn.Again stage.OffLock; rests = true })
futex_exit (stage.Off false) = Some (record { to = turn.Again (stage.Leave false); rests = false })
futex_exit _ = None

-- from where it goes out of such a hold on it does not sleep
abbrev pub futex_awake : Point → Bool
futex_awake (at.Finish finishing.Queue true) = true
futex_awake (at.Finish finishing.Unlock true) = true
futex_awake _ = false

abbrev pub futex_exits : Exits FutexWait FutexStage FutexOutcome
futex_exits = record {
  asks = λ r. record r { asked = true };
  exit = λ r s. futex_exit s;
  awake = futex_awake;
}

-- the answer of a wait that has ended
abbrev pub futex_until_in : FutexWait → FutexOutcome → Until (Result (Unit {0}) FutexEnd)
futex_until_in r (outcome.Left off) = until.Left r.expected
futex_until_in r o = until.Over (futex_end_in r o)

-- Its cause. Left: it went out by itself, and its load had found `seen`, which is the expected value; so no wake had
-- taken its entry off. The others are those of a wait that nobody leaves.
pub record LeftFutex (k : Known) (f v seen : ℕ) : Type 0 where
  pub same : seen ≡ v
  pub left : HasLeftFutex k f v

abbrev pub IsFutexUntil : Known → ℕ → ℕ → SleepState → Until (Result (Unit {0}) FutexEnd) → Type 0
IsFutexUntil k f v st (until.Over end) = IsFutexCause k f v st end
IsFutexUntil k f v st (until.Left seen) = LeftFutex k f v seen

-- Left for nobody who was not asked
abbrev pub IsFutexLeftFor : {X : Type 0} → Type 0 → Until X → Type 0
IsFutexLeftFor A (until.Over x) = Unit {0}
IsFutexLeftFor A (until.Left seen) = A

-- where it went out in such a hold, it has not slept since, nor tried to
abbrev pub IsFutexAwake : {A : Type 0} {old : Known} {r : Run FutexWait} {s : FutexStage} (new : Known)
    (q : Run FutexWait) (u : Turn FutexStage FutexOutcome) → OnTheWay A futex_table futex_exits old r s new q u → Type 0
IsFutexAwake _ _ _ (straight new q u a) = Unit {0}
IsFutexAwake _ _ _ (left_at mid m n new q u cause w l) = (fresh : Bool)
    → l.exit.to ≡ turn.Again (stage.Leave fresh) → SleepsNot mid new

-- The task went on from a stage, was asked there or later to leave, for this cause; or the wait had ended before.
pub record LeavesFutex (A : Type 0) (old new : Known) (r : Run FutexWait) (s : FutexStage)
    (result : Until (Result (Unit {0}) FutexEnd)) : Type 0 where
  pub at : Run FutexWait
  pub outcome : FutexOutcome
  pub came : OnTheWay A futex_table futex_exits old r s new at (turn.Done outcome)
  pub awake : IsFutexAwake new at (turn.Done outcome) came
  pub answer : result ≡ futex_until_in at.of outcome
  pub cause : IsFutexUntil new r.of.futex r.of.expected r.of.state result

-- a whole call, which begins unasked
pub record EndsFutexUntil (A : Type 0) (old new : Known) (f v : ℕ) (st : SleepState)
    (result : Until (Result (Unit {0}) FutexEnd)) : Type 0 where
  pub first : Run FutexWait
  pub fresh : IsFreshFutexWait first.of f v st
  pub leaves : LeavesFutex A old new first stage.First result
  pub asked : IsFutexLeftFor A result

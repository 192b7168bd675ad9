-- To be believed.
-- A wait for a plain condition or a variable that its task leaves: its exits, and what it says.
use Rattle.std.specs.Prelude.{ℕ, ◌≡◌, ◌||◌, ◌&&◌, not, Bool, true, false, is_some, Option, Some, None, Result, Ok, Err, [], ◌∷◌, ◌++◌}
use Rattle.wait_model.specs.{declared.points.Point.Point, declared.tasks.How.How, declared.watches.Watch.Watch}
use Rattle.wait_model.specs.{Watches.head_of, Watches.misses, Words.entry_of}
use Rattle.wait_model.specs.declared.points.Point.TheVariants as at
use Rattle.wait_model.specs.declared.steps.Step.TheVariants as step
use Rattle.wait_rule.specs.Known.{Known}
use Rattle.wait_class.specs.{Posts.EndsWith, Posts.own_of, declared.stages.Run.Run, declared.stages.Turn.Turn}
use Rattle.wait_class.specs.Tables.{SleepsNot}
use Rattle.wait_class.specs.declared.stages.Turn.TheVariants as turn
use Rattle.wait_leave.specs.{declared.exits.Exit.Exit, Leaves.Exits, Leaves.GoesOut}
use Rattle.wait_leave.specs.OnTheWay.{OnTheWay, left_at, straight}
use Rattle.wait_event.specs.{Ends.IsEndCause, Ends.wait_end_in, declared.wait_events.WaitEnd.WaitEnd}
use Rattle.wait_event.specs.{declared.wait_leaves.WaitUntil.WaitUntil, declared.waits.WaitCall.WaitCall}
use Rattle.wait_event.specs.{declared.waits.WaitOutcome.WaitOutcome, declared.waits.WaitStage.WaitStage}
use Rattle.wait_event.specs.Waits.{IsFreshWait, IsUnset, SameCall, off_by, has_queued_in, wait_table}
use Rattle.wait_event.specs.declared.wait_leaves.WaitUntil.TheVariants as until
use Rattle.wait_event.specs.declared.waits.WaitOutcome.TheVariants as outcome
use Rattle.wait_event.specs.declared.waits.WaitStage.TheVariants as stage

-- In the hold of its prepare it leaves its queue, as one that found a signal does. Before its load or its sleep, where
-- its entry is queued, it stores RUNNING and goes to that hold. At every other stage it first goes on: to that hold, or
-- to its end.
abbrev pub wait_exit : WaitStage → Option (Exit WaitStage WaitOutcome)
wait_exit stage.PrepareLook = Some (record { to = turn.Again stage.LeaveQueue; rests = false })
wait_exit stage.PrepareQueue = Some (record { to = turn.Again stage.LeaveQueue; rests = false })
wait_exit stage.Test = Some (record { to = turn.Again stage.PrepareLock; rests = true })
wait_exit stage.Sleep = Some (record { to = turn.Again stage.PrepareLock; rests = true })
wait_exit _ = None

-- from where it leaves its queue on it does not sleep
abbrev pub wait_awake : Point → Bool
wait_awake (at.Leave x) = true
wait_awake (at.Finish x false) = true
wait_awake _ = false

abbrev pub wait_exits : Exits WaitCall WaitStage WaitOutcome
wait_exits = record { asks = λ r. record r { asked = true }; exit = λ r s. wait_exit s; awake = wait_awake }

-- the answer: one that left its queue was asked to, or a signal had sent it out
abbrev pub parted_in : Bool → WaitCall → Bool → WaitUntil (Result (Unit {0}) WaitEnd)
parted_in true r found = until.Left r.seen (r.queued && not found)
parted_in false r found = until.Over (wait_end_in r (outcome.Signalled found))

abbrev pub wait_until_in : WaitCall → WaitOutcome → WaitUntil (Result (Unit {0}) WaitEnd)
wait_until_in r outcome.Over = until.Over (wait_end_in r outcome.Over)
wait_until_in r (outcome.Signalled found) = parted_in r.asked r found
wait_until_in r outcome.Worn = until.Over (wait_end_in r outcome.Worn)

-- The last steps of a wait that was left: in its last hold the own entry was taken off, or was off, and the head given
-- back; then the load of the condition found `seen`, and it was not set. `selected` is that the hold found the entry off
-- that the call had queued.
pub record FoundUnset (k : Known) (w : Watch) (seen : ℕ) (selected queued : Bool) : Type 0 where
  pub entry : ℕ
  pub ends : EndsWith k (off_by (own_of k) (head_of w) entry ++ step.Load w seen ∷ [])
  pub unset : IsUnset w seen
  pub selects : selected ≡ (queued && not (is_some (entry_of entry)))

-- the cause of an answer: of Ok, that what was loaded last sets the watch
abbrev pub IsWaitCause : Known → Watch → How → ℕ → Bool → WaitUntil (Result (Unit {0}) WaitEnd) → Type 0
IsWaitCause k w how last queued (until.Over (Ok u)) = misses w last ≡ false
IsWaitCause k w how last queued (until.Over (Err e)) = IsEndCause k w how queued e
IsWaitCause k w how last queued (until.Left seen selected) = FoundUnset k w seen selected queued

-- Left for nobody who was not asked
abbrev pub IsAskedWait : {A : Type 0} → Type 0 → WaitUntil A → Type 0
IsAskedWait C (until.Over x) = Unit {0}
IsAskedWait C (until.Left seen selected) = C

-- whether the task queued its entry on its way
abbrev pub out_queues : (e u : Turn WaitStage WaitOutcome) (old new : Known) (r q : Run WaitCall)
    → GoesOut wait_table old new r q e u → Bool
out_queues (turn.Again s) u old new r q a = has_queued_in a.went.runs.transitions
out_queues (turn.Asleep s) u old new r q a = false
out_queues (turn.Locked s) u old new r q a = false
out_queues (turn.Done o) u old new r q a = false

abbrev pub way_queues : {A : Type 0} {old : Known} {r : Run WaitCall} {s : WaitStage} (new : Known) (q : Run WaitCall)
    (u : Turn WaitStage WaitOutcome) → OnTheWay A wait_table wait_exits old r s new q u → Bool
way_queues _ _ _ (straight new q u a) = has_queued_in a.went.runs.transitions
way_queues _ _ _ (left_at mid m n new q u cause w l) = way_queues mid m (turn.Again n) w
    || out_queues l.exit.to u l.rested new (record m { of = wait_exits.asks m.of }) q l.on

-- where it went out into leaving its queue at last, it has not slept since, nor tried to
abbrev pub IsAwakeOff : {A : Type 0} {old : Known} {r : Run WaitCall} {s : WaitStage} (new : Known) (q : Run WaitCall)
    (u : Turn WaitStage WaitOutcome) → OnTheWay A wait_table wait_exits old r s new q u → Type 0
IsAwakeOff _ _ _ (straight new q u a) = Unit {0}
IsAwakeOff _ _ _ (left_at mid m n new q u cause w l) = l.exit.to ≡ turn.Again stage.LeaveQueue → SleepsNot mid new

-- The task went on from a stage, and was asked there or later to leave, for this cause, or the wait had ended before. The
-- answer has its cause, and tells by what it had queued.
pub record LeavesWait (A : Type 0) (old new : Known) (r : Run WaitCall) (s : WaitStage)
    (result : WaitUntil (Result (Unit {0}) WaitEnd)) : Type 0 where
  pub at : Run WaitCall
  pub outcome : WaitOutcome
  pub came : OnTheWay A wait_table wait_exits old r s new at (turn.Done outcome)
  pub awake : IsAwakeOff new at (turn.Done outcome) came
  pub answer : result ≡ wait_until_in at.of outcome
  pub same : SameCall r.of at.of
  pub tells : at.of.queued ≡ (r.of.queued || way_queues new at (turn.Done outcome) came)
  pub cause : IsWaitCause new r.of.watch r.of.how at.of.seen at.of.queued result

-- a whole call for this watch, which begins unasked
pub record EndsWaitUntil (A : Type 0) (old new : Known) (w : Watch) (how : How)
    (result : WaitUntil (Result (Unit {0}) WaitEnd)) : Type 0 where
  pub first : Run WaitCall
  pub fresh : IsFreshWait first.of w how
  pub leaves : LeavesWait A old new first stage.First result
  pub asked : IsAskedWait A result

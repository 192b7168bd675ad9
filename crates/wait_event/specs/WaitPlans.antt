-- To be believed.
-- The call of a wait for a watch, and its program point by point, for any watch: that of the call in the model, as
-- `proofs/Plans` shows.
use Rattle.std.specs.Prelude.{ℕ, ◌≡◌, ◌≤◌, Bool, true, false, if◌then◌else◌, is_some, []}
use Rattle.wait_model.specs.{declared.layout.TheConstants.FIRST_SIMPLE, declared.calls.Call.Call}
use Rattle.wait_model.specs.{declared.calls.Event.Event, declared.points.Next.Next, declared.points.Planned.Planned}
use Rattle.wait_model.specs.{declared.points.Point.Point, declared.points.Seen.Seen, declared.tasks.How.How}
use Rattle.wait_model.specs.{declared.watches.Kind.Kind, declared.watches.Watch.Watch, PointFacts.stirs}
use Rattle.wait_model.specs.Points.{given_at}
use Rattle.wait_model.specs.Programs.{ends_with, go, program, signalled, sleep_event, zero_answer}
use Rattle.wait_model.specs.Tasks.{looks_in, pending, state_mask}
use Rattle.wait_model.specs.Watches.{head_of, kind_for, misses, number_of}
use Rattle.wait_model.specs.declared.calls.Answer.TheVariants as answer
use Rattle.wait_model.specs.declared.calls.Call.TheVariants as calls
use Rattle.wait_model.specs.declared.calls.Event.TheVariants as event
use Rattle.wait_model.specs.declared.points.FinishPoint.TheVariants as finishing
use Rattle.wait_model.specs.declared.points.LeavePoint.TheVariants as leaving
use Rattle.wait_model.specs.declared.points.Next.TheVariants as next
use Rattle.wait_model.specs.declared.points.Point.TheVariants as at
use Rattle.wait_model.specs.declared.points.PreparePoint.TheVariants as preparing
use Rattle.wait_model.specs.declared.watches.Kind.TheVariants as kind
use Rattle.wait_model.specs.declared.watches.Watch.TheVariants as watch
use Rattle.wait_class.specs.{Queueing.wait_form, Tables.Plan}

-- the call of a wait for a watch; plain conditions and variables have one
abbrev pub call_for : Watch → How → Call
call_for (watch.Var v old) how = calls.WaitVar v old how.state
call_for (watch.Plain c) how = calls.Wait c how
call_for _ how = calls.Wait 0 how

-- a program whose prepare looks for a signal only where it asks for one
abbrev pub planned_as_asked : Bool → Point → Planned → Planned
planned_as_asked asks (at.Prepare preparing.Lock) e = if asks then e
    else record { event = e.event; next = next.Go (at.Prepare preparing.Queue) }
planned_as_asked asks p e = e

-- The waits that run: for any plain condition and any variable. Where the head of a condition is a simple one it is a
-- simple wait, whose program is that of a wait whose entry goes to the tail. A wait for a variable is not exclusive.
abbrev pub IsWaitFor : Watch → How → Type 0
IsWaitFor (watch.Plain c) how = FIRST_SIMPLE ≤ c → how.exclusive ≡ true
IsWaitFor (watch.Var v old) how = how.exclusive ≡ false
IsWaitFor _ how = ⊥

-- a load of the watch's word
abbrev pub loads_seen : Watch → Seen → Event
loads_seen w seen = event.Load (number_of w) seen.value

abbrev pub goes_to_finish : Watch → Seen → Planned
goes_to_finish w seen = go (loads_seen w seen) (at.Finish finishing.State false)

abbrev pub prepares_at : How → Point
prepares_at how = at.Prepare (if looks_in how.state then preparing.Look else preparing.Queue)

abbrev pub looks_for : Bool → Planned
looks_for hit = go (event.Look hit) (if hit then at.Leave leaving.Queue else at.Prepare preparing.Queue)

abbrev pub gives_lock_back : Watch → Next → Planned
gives_lock_back w n = record { event = event.Unlock (head_of w) false; next = n }

abbrev pub plan : ℕ → Watch → How → Point → Seen → Planned
plan me w how at.First seen = if misses w seen.value then go (loads_seen w seen) (at.Prepare preparing.Lock)
    else ends_with (loads_seen w seen) zero_answer
plan me w how (at.Prepare preparing.Lock) seen = go (event.Lock (head_of w)) (prepares_at how)
plan me w how (at.Prepare preparing.Look) seen = looks_for (pending (state_mask how.state) seen.own)
plan me w how (at.Prepare preparing.Queue) seen =
    if is_some seen.entry
    then go (event.State (state_mask how.state)) (at.Prepare preparing.Unlock)
    else if seen.worn
    then gives_lock_back w (next.Go at.Worn)
    else go (event.Queue (head_of w) (wait_form how)) (at.Prepare preparing.State)
plan me w how (at.Prepare preparing.State) seen = go (event.State (state_mask how.state)) (at.Prepare preparing.Unlock)
plan me w how (at.Prepare preparing.Unlock) seen = gives_lock_back w (next.Go at.Test)
plan me w how at.Test seen = go (loads_seen w seen)
    (if misses w seen.value then at.Sleep else at.Finish finishing.State false)
plan me w how at.Sleep seen = sleep_event seen (at.Prepare preparing.Lock)
plan me w how at.Worn seen = if misses w seen.value then ends_with (loads_seen w seen) answer.Worn else goes_to_finish w seen
plan me w how (at.Leave leaving.Queue) seen =
    if is_some seen.entry
    then go (event.Unqueue me) (at.Leave leaving.Unlock)
    else gives_lock_back w (next.Go (at.Leave leaving.Load))
plan me w how (at.Leave leaving.Unlock) seen = gives_lock_back w (next.Go (at.Leave leaving.Load))
plan me w how (at.Leave leaving.Load) seen = if misses w seen.value then ends_with (loads_seen w seen) signalled
    else goes_to_finish w seen
plan me w how (at.Finish finishing.State false) seen = go (event.State 0) (at.Finish finishing.Look false)
plan me w how (at.Finish finishing.Look false) seen =
    if is_some seen.entry
    then go (event.Queued true) (at.Finish finishing.Lock false)
    else ends_with (event.Queued false) zero_answer
plan me w how (at.Finish finishing.Lock false) seen = go (event.Lock (head_of w)) (at.Finish finishing.Queue false)
plan me w how (at.Finish finishing.Queue false) seen =
    if is_some seen.entry
    then go (event.Unqueue me) (at.Finish finishing.Unlock false)
    else gives_lock_back w (next.Ends zero_answer)
plan me w how (at.Finish finishing.Unlock false) seen = gives_lock_back w (next.Ends zero_answer)
plan me w how p seen = program me (call_for w how) p seen

-- the kind of an entry that is queued there
abbrev pub kind_for_point : Kind → Point → Kind
kind_for_point k (at.Add p) = kind.Autoremove
kind_for_point k (at.Page p) = kind.Page
kind_for_point k p = k

-- the plan of a wait whose entry is of this kind, and of a wait, whose kind is that of its watch
abbrev pub part_plan : Bool → Watch → Kind → How → Plan
part_plan asks w k how = record {
  makes = λ me p seen. planned_as_asked asks p (plan me w how p seen);
  given = λ p. record (given_at (call_for w how) p) { watch = w; kind = kind_for_point k p };
  watch = w;
  state = how.state;
  form = wait_form how;
  numbers = [];
  asked = false;
  watches = λ p. w;
  head = λ p. head_of w;
  stirs = stirs (calls.Wait 0 how);
}

abbrev pub wait_plan : Watch → How → Plan
wait_plan w how = part_plan true w (kind_for w) how

-- A prepare is a program of its own: where a wait goes on from it, it ends, with what it found.
abbrev pub behind_prepare : Next → Next
behind_prepare (next.Go at.Test) = next.Ends zero_answer
behind_prepare (next.Go at.Worn) = next.Ends answer.Worn
behind_prepare (next.Go (at.Leave leaving.Load)) = next.Ends signalled
behind_prepare n = n

abbrev pub prepares_alone : Planned → Planned
prepares_alone e = record { event = e.event; next = behind_prepare e.next }

abbrev pub prepare_plan : Bool → Watch → Kind → How → Plan
prepare_plan asks w k how = record (part_plan asks w k how) {
  makes = λ me p seen. prepares_alone (planned_as_asked asks p (plan me w how p seen));
}

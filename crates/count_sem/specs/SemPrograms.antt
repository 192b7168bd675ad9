-- To be believed.
-- The programs of counting semaphores (kernel/locking/semaphore.c), event by event. A semaphore is a completion's cell,
-- and its count the done count; a count at its end stands for permits without end.
use Rattle.std.specs.Prelude.{ℕ, zero, suc, ◌+◌, ◌-◌, ◌==◌, ◌||◌, nat_le, Bool, true, false, pos, if◌then◌else◌}
use Rattle.std.specs.Prelude.{is_some, Option, Some, None}
use Rattle.wait_model.specs.{declared.calls.Answer.Answer, declared.calls.Event.Event, declared.points.Next.Next}
use Rattle.wait_model.specs.{declared.points.Planned.Planned, declared.points.Point.Point, declared.points.Seen.Seen}
use Rattle.wait_model.specs.{declared.points.SelectPoint.SelectPoint, declared.queues.CalledEntry.CalledEntry}
use Rattle.wait_model.specs.declared.tasks.SleepState.{SleepState}
use Rattle.wait_model.specs.Programs.{ends_with, go, is_at_end, signalled, zero_answer}
use Rattle.wait_model.specs.Tasks.{looks_in, meets, pending, sleep_of, state_mask}
use Rattle.wait_model.specs.Watches.{head_of, mask_of, number_of}
use Rattle.wait_model.specs.declared.calls.Answer.TheVariants as answer
use Rattle.wait_model.specs.declared.calls.Call.TheVariants as calls
use Rattle.wait_model.specs.declared.calls.Event.TheVariants as event
use Rattle.wait_model.specs.declared.points.AwaitPoint.TheVariants as awaiting
use Rattle.wait_model.specs.declared.points.CountPoint.TheVariants as counting
use Rattle.wait_model.specs.declared.points.FinishPoint.TheVariants as finishing
use Rattle.wait_model.specs.declared.points.LeavePoint.TheVariants as leaving
use Rattle.wait_model.specs.declared.points.Next.TheVariants as next
use Rattle.wait_model.specs.declared.points.Point.TheVariants as at
use Rattle.wait_model.specs.declared.points.PreparePoint.TheVariants as preparing
use Rattle.wait_model.specs.declared.points.SelectPoint.TheVariants as selecting
use Rattle.wait_model.specs.declared.queues.Form.TheVariants as forms
use Rattle.wait_model.specs.declared.watches.Mode.TheVariants as mode
use Rattle.wait_model.specs.declared.watches.Watch.TheVariants as watch
use Rattle.wait_class.specs.Tables.{Plan, call_plan, plan_program}
use Rattle.wait_rule.specs.Transitions.{Program}
use Rattle.count_sem.specs.declared.ups.TheConstants.{FULL}

-- the head of a semaphore, and the events on it and on its count
abbrev pub sem_head : ℕ → ℕ
sem_head d = head_of (watch.Done d)

abbrev pub sem_lock : ℕ → Event
sem_lock d = event.Lock (sem_head d)

abbrev pub sem_unlock : ℕ → Bool → Event
sem_unlock d spent = event.Unlock (sem_head d) spent

abbrev pub sem_load : ℕ → Seen → Event
sem_load d seen = event.Load (number_of (watch.Done d)) seen.value

abbrev pub sem_set : ℕ → ℕ → Event
sem_set d value = event.Set (number_of (watch.Done d)) value

-- the first who waits is woken, and then taken off, whatever the wake found
abbrev pub gives_to : CalledEntry → Seen → Planned
gives_to c seen = go (event.Wake c.who (meets (mask_of mode.Normal) seen.other.state))
    (at.Select (selecting.Off 1 c.who))

-- `up`: with a queued entry the first is given the permit; else the count is raised, unless it is full
abbrev pub is_full : ℕ → Bool
is_full n = nat_le FULL n

abbrev pub full_answer : Answer
full_answer = answer.Number (pos 1)

abbrev pub up_next : ℕ → Option CalledEntry → Seen → Planned
up_next d None seen = go (sem_load d seen)
    (at.Count (if is_full seen.value then counting.Unlock false else counting.Store))
up_next d (Some c) seen = gives_to c seen

abbrev pub up_event : ℕ → Point → Seen → Planned
up_event d (at.Select selecting.Lock) seen = go (sem_lock d) (at.Select (selecting.Next 0))
up_event d (at.Select (selecting.Next n)) seen = up_next d seen.called seen
up_event d (at.Select (selecting.Off n who)) seen = go (event.Unqueue who) (at.Select selecting.Store)
up_event d (at.Select selecting.Store) seen = ends_with (sem_unlock d true) zero_answer
up_event d (at.Count counting.Store) seen = go (sem_set d (seen.value + 1)) (at.Count (counting.Unlock true))
up_event d (at.Count (counting.Unlock true)) seen = ends_with (sem_unlock d false) zero_answer
up_event d p seen = ends_with (sem_unlock d false) full_answer

abbrev pub up_plan : ℕ → Plan
up_plan d = record (call_plan (calls.Complete d)) { makes = λ me p seen. up_event d p seen }

-- `try_down`: a try to take one of a completion, from its lock on
abbrev pub try_down_plan : ℕ → Plan
try_down_plan d = call_plan (calls.TryWait d)

-- `down`. Where the count is 0 it looks for a signal, where its state admits one, and waits; where it is not it takes
-- one, unless the count is at its end.
abbrev pub down_waits : SleepState → Point
down_waits st = at.Prepare (if looks_in st then preparing.Look else preparing.Queue)

abbrev pub down_takes : ℕ → Point
down_takes v = at.Await (if is_at_end v then awaiting.Unlock else awaiting.Last false)

-- where it goes that has loaded the count, in its first hold, with its entry queued still, and with its entry taken
-- off: then it was given a permit, and hands on what else is there
abbrev pub first_point : SleepState → ℕ → Point
first_point st v = if v == 0 then down_waits st else down_takes v

abbrev pub queued_point : SleepState → ℕ → Point
queued_point st v = if v == 0 then down_waits st else at.Await (awaiting.Off false)

-- this stands for what follows in the hold of a `down` that hands on
abbrev pub passes_on : Next
passes_on = next.Ends (answer.Value 0)

abbrev pub given_next : ℕ → Next
given_next v = if (v == 0) || is_at_end v then next.Go (at.Await awaiting.Unlock) else passes_on

abbrev pub again_next : SleepState → Bool → ℕ → Next
again_next st true v = next.Go (queued_point st v)
again_next st false v = given_next v

-- the add of its entry, which waits at the tail; where no place is left there is none
abbrev pub down_queue : ℕ → SleepState → Seen → Planned
down_queue d st seen =
    if is_some seen.entry
    then go (event.State (state_mask st)) (at.Prepare preparing.Unlock)
    else if seen.worn
    then ends_with (sem_unlock d false) answer.Worn
    else go (event.Queue (sem_head d) forms.Tail) (at.Prepare preparing.State)

-- its own entry is taken off in a hold that found a signal, and in one that takes a permit
abbrev pub leave_queue : ℕ → ℕ → Bool → Planned
leave_queue me d queued = if queued then go (event.Unqueue me) (at.Finish finishing.Unlock true)
    else ends_with (sem_unlock d false) signalled

-- With a permit that was given to it, and more that are counted: where an entry is queued, one is taken of the count,
-- and then given to the first.
abbrev pub pass_next : ℕ → Option CalledEntry → Seen → Planned
pass_next d None seen = ends_with (sem_unlock d false) zero_answer
pass_next d (Some c) seen = go (sem_set d (seen.value - 1)) (at.Select (selecting.Next 1))

abbrev pub pass_gives : ℕ → Option CalledEntry → Seen → Planned
pass_gives d None seen = ends_with (sem_unlock d false) zero_answer
pass_gives d (Some c) seen = gives_to c seen

abbrev pub pass_event : ℕ → SelectPoint → Seen → Planned
pass_event d (selecting.Next zero) seen = pass_next d seen.called seen
pass_event d (selecting.Next (suc n)) seen = pass_gives d seen.called seen
pass_event d (selecting.Off n who) seen = go (event.Unqueue who) (at.Select selecting.Store)
pass_event d p seen = ends_with (sem_unlock d true) zero_answer

abbrev pub down_part : ℕ → ℕ → SleepState → Point → Seen → Planned
down_part me d st (at.Await (awaiting.Lock false)) seen = go (sem_lock d) (at.Await (awaiting.Load false))
down_part me d st (at.Await (awaiting.Load waited)) seen = go (sem_load d seen) (first_point st seen.value)
down_part me d st (at.Prepare preparing.Look) seen = go (event.Look (pending (state_mask st) seen.own))
    (if pending (state_mask st) seen.own then at.Finish finishing.Queue true else at.Prepare preparing.Queue)
down_part me d st (at.Prepare preparing.Queue) seen = down_queue d st seen
down_part me d st (at.Prepare preparing.State) seen = go (event.State (state_mask st)) (at.Prepare preparing.Unlock)
down_part me d st (at.Prepare preparing.Unlock) seen = go (sem_unlock d false) at.Sleep
down_part me d st at.Sleep seen = go (event.Sleep (sleep_of seen.own)) (at.Await (awaiting.Lock true))
down_part me d st (at.Await (awaiting.Lock true)) seen = go (sem_lock d) (at.Leave leaving.Queue)
down_part me d st (at.Leave leaving.Queue) seen =
    record { event = sem_load d seen; next = again_next st (is_some seen.entry) seen.value }
down_part me d st (at.Finish finishing.Queue failed) seen = leave_queue me d (is_some seen.entry)
down_part me d st (at.Finish finishing.Unlock failed) seen = ends_with (sem_unlock d false) signalled
down_part me d st (at.Await (awaiting.Off stopped)) seen = go (event.Unqueue me) (down_takes seen.value)
down_part me d st (at.Await (awaiting.Last stopped)) seen = go (sem_set d (seen.value - 1)) (at.Await awaiting.Unlock)
down_part me d st (at.Select p) seen = pass_event d p seen
down_part me d st p seen = ends_with (sem_unlock d false) zero_answer

-- A `down` up to where it hands on a permit in the hold that goes on; and all of it.
abbrev pub down_plan : ℕ → SleepState → Plan
down_plan d st = record (call_plan (calls.WaitFor d st)) { makes = λ me p seen. down_part me d st p seen }

abbrev pub pass_point : Point
pass_point = at.Select (selecting.Next 0)

abbrev pub joined : Next → Next
joined (next.Ends (answer.Value v)) = next.Go pass_point
joined n = n

abbrev pub joins : Program → Program
joins f = record f {
  plan = λ p seen. record { event = (f.plan p seen).event; next = joined (f.plan p seen).next };
}

abbrev pub down_program : ℕ → ℕ → SleepState → Program
down_program me d st = joins (plan_program me 0 (down_plan d st))

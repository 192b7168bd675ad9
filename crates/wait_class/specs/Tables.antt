-- To be believed.
-- Calls that wait, as tables of small stages: what a table has, how a task stands at a stage, and what a turn did.
use Rattle.std.specs.Prelude.{ℕ, ◌≡◌, ◌⊎◌, ◌||◌, not, nat_lt, Bool, true, false, if◌then◌else◌, Option, Some, None}
use Rattle.std.specs.Prelude.{List, [], ◌∷◌, ◌++◌}
use Rattle.wait_model.specs.{declared.calls.Call.Call, declared.calls.Answer.Answer, declared.points.Point.Point}
use Rattle.wait_model.specs.{declared.points.Next.Next, declared.steps.Step.Step, declared.watches.Watch.Watch}
use Rattle.wait_model.specs.{declared.points.Given.Given, declared.points.Planned.Planned, declared.points.Seen.Seen}
use Rattle.wait_model.specs.{declared.queues.Form.Form, declared.tasks.SleepState.SleepState, Programs.program}
use Rattle.wait_model.specs.{Tasks.state_mask, Tasks.task_of, Watches.head_of, PointFacts.holds, PointFacts.stirs}
use Rattle.wait_model.specs.Points.{call_watch, form_of, given_at, head_at, state_in}
use Rattle.wait_model.specs.declared.points.Next.TheVariants as next
use Rattle.wait_model.specs.declared.steps.Step.TheVariants as step
use Rattle.wait_rule.specs.{Known.Known, Queues.index, Tickets.taken, Tried.IsOneMore, Transitions.Program}
use Rattle.wait_rule.specs.Transitions.{Transition}
use Rattle.wait_rule.specs.Says.{IsUp, IsDown, added, history_of}
use Rattle.wait_rule.specs.declared.journal.Item.TheVariants as item
use Rattle.wq_head.specs.LockTurns.{FindsOther}
use Rattle.wait_class.specs.{declared.stages.Added.Added, declared.stages.Doing.Doing, declared.stages.Run.Run}
use Rattle.wait_class.specs.declared.stages.Turn.{Turn}
use Rattle.wait_class.specs.Posts.{Post, Stands, Runs, ticket_out, zone_at}
use Rattle.wait_class.specs.declared.stages.Turn.TheVariants as turn

-- A call as a program: the event at each point by the number of its task and what was found there, and what its step is
-- given; what it waits for, in which state it sleeps, where it queues its entry, and its other numbers; whether its own
-- task was asked to leave it; for what a point loads, queues or locks, which head it locks, and whether the state may be
-- another than RUNNING there.
pub record Plan : Type 0 where
  pub makes : ℕ → Point → Seen → Planned
  pub given : Point → Given
  pub watch : Watch
  pub state : SleepState
  pub form : Form
  pub numbers : List ℕ
  pub asked : Bool
  pub watches : Point → Watch
  pub head : Point → ℕ
  pub stirs : Point → Bool

-- a call of scripts
abbrev pub call_plan : Call → Plan
call_plan call = record {
  makes = λ me. program me call;
  given = given_at call;
  watch = call_watch call;
  state = state_in call;
  form = form_of call;
  numbers = [];
  asked = false;
  watches = λ p. call_watch call;
  head = head_at call;
  stirs = stirs call;
}

abbrev pub plan_program : ℕ → ℕ → Plan → Program
plan_program me slot plan = record {
  plan = plan.makes me;
  given = plan.given;
  own = Some (index me slot);
  form = Some plan.form;
}

abbrev pub plan_post : Option ℕ → Plan → Point → Post
plan_post out plan p = record {
  head = if holds p then Some (plan.head p) else None;
  ticket = if holds p then taken (plan.head p) else ticket_out (plan.head p) out;
  stirs = plan.stirs p;
  state = state_mask plan.state;
  zone = zone_at p;
  watch = plan.watches p;
}

-- The table of a class of calls, with its stages and outcomes: the call that a run makes, whether its numbers are in
-- their ranges, and the run that has noted a place, and that it has queued its entry; of each stage the point of its
-- program, what is done at it, whether the ticket of its lock is drawn, whether the call has taken what it waits for,
-- and how many events are left at most until no head is held; the stage behind a draw; where a turn goes on by what it
-- found, after a sleep (and whether that is such a place), and by what came of an add; which state a stage stores; how
-- the task stands at the end; what the run tells of the transitions that it made; what a stage and an outcome say of its
-- last steps; and what stays of it over a part of a call.
pub record CallTable (C S O : Type 0) : Type 1 where
  pub plan_of : C → Plan
  pub Fits : C → Type 0
  pub worn_at : C → ℕ → C
  pub joined_at : C → S → C
  pub point_of : S → Point
  pub doing : S → Doing
  pub drawn : S → Bool
  pub took : S → Bool
  pub depth : S → ℕ
  pub drawn_to : S → S
  pub next_of : C → S → Turn S O
  pub noted : C → S → ℕ → C
  pub loaded_to : C → S → ℕ → Turn S O
  pub found_to : C → S → Bool → Turn S O
  pub heeded_to : C → S → Bool → Turn S O
  pub slept_to : C → S → S
  pub asleep_at : S → Bool
  pub added_to : C → S → Added → Turn S O
  pub state_at : C → S → ℕ
  pub answer_of : O → Answer
  pub has_taken : O → Bool
  pub end_post : C → O → Post
  pub Tells : C → C → List Transition → Type 0
  pub Trail : Known → C → S → Type 0
  pub TrailEnd : Known → C → O → Type 0
  pub Keeps : ℕ → Watch → Bool → Bool → Known → Known → Type 0

abbrev pub watch_in : {C S O : Type 0} → CallTable C S O → C → Watch
watch_in t r = (t.plan_of r).watch

-- what a stage is about: the condition that it loads, and whose head it locks
abbrev pub stage_watch : {C S O : Type 0} → CallTable C S O → C → S → Watch
stage_watch t r s = (t.plan_of r).watches (t.point_of s)

abbrev pub head_in : {C S O : Type 0} → CallTable C S O → C → S → ℕ
head_in t r s = head_of (stage_watch t r s)

abbrev pub ticket_at : {C S O : Type 0} → CallTable C S O → S → ℕ → Option ℕ
ticket_at t s n = if t.drawn s then Some n else None

abbrev pub post_of : {C S O : Type 0} → CallTable C S O → C → S → Post
post_of t r s = plan_post None (t.plan_of r) (t.point_of s)

abbrev pub run_post : {C S O : Type 0} → CallTable C S O → Run C → S → Post
run_post t r s = plan_post (ticket_at t s r.ticket) (t.plan_of r.of) (t.point_of s)

pub record IsAt {C S O : Type 0} (t : CallTable C S O) (k : Known) (r : Run C) (s : S) : Type 0 where
  pub fits : t.Fits r.of
  pub up : IsUp k
  pub stands : Stands k (run_post t r s)
  pub trail : t.Trail k r.of s

pub record IsAsleepAt {C S O : Type 0} (t : CallTable C S O) (k : Known) (r : Run C) (s : S) : Type 0 where
  pub fits : t.Fits r.of
  pub down : IsDown k
  pub place : t.asleep_at s ≡ true
  pub stands : Stands k (record (run_post t r s) { stirs = true })
  pub trail : t.Trail k r.of s

-- The wait has ended.
pub record IsEnded {C S O : Type 0} (t : CallTable C S O) (k : Known) (r : Run C) (o : O) : Type 0 where
  pub up : IsUp k
  pub stands : Stands k (t.end_post r.of o)
  pub trail : t.TrailEnd k r.of o

abbrev pub next_in : {C S O : Type 0} → CallTable C S O → Turn S O → Next
next_in t (turn.Again s) = next.Go (t.point_of s)
next_in t (turn.Asleep s) = next.Go (t.point_of s)
next_in t (turn.Locked s) = next.Go (t.point_of s)
next_in t (turn.Done o) = next.Ends (t.answer_of o)

abbrev pub took_in : {C S O : Type 0} → CallTable C S O → Turn S O → Bool
took_in t (turn.Again s) = t.took s
took_in t (turn.Asleep s) = t.took s
took_in t (turn.Locked s) = t.took s
took_in t (turn.Done o) = t.has_taken o

-- the wait went on from one place to another
pub record Went {C S O : Type 0} (t : CallTable C S O) (old new : Known) (r q : C) (from to : Turn S O) : Type 0 where
  pub runs : Runs (plan_program old.view.number 0 (t.plan_of r)) old new (next_in t from) (next_in t to)
  pub tells : t.Tells r q runs.transitions
  pub keeps : t.Keeps (index old.view.number 0) (watch_in t r) (took_in t from) (took_in t to) old new

-- and where it stands then
abbrev pub Lands : {C S O : Type 0} → CallTable C S O → Known → Run C → Turn S O → Type 0
Lands t new r (turn.Again s) = IsAt t new r s
Lands t new r (turn.Asleep s) = IsAsleepAt t new r s
Lands t new r (turn.Locked s) = IsAt t new r s
Lands t new r (turn.Done o) = IsEnded t new r o

-- what a turn did; it is the same call
pub record Advances {C S O : Type 0} (t : CallTable C S O) (old new : Known) (r q : Run C) (s : S) (u : Turn S O) :
    Type 0 where
  pub same : t.plan_of q.of ≡ t.plan_of r.of
  pub went : Went t old new r.of q.of (turn.Again s) u
  pub lands : Lands t new q u

-- the task made an event
pub record MadeEvent (old new : Known) : Type 0 where
  pub before : List Step
  pub event : Step
  pub behind : List Step
  pub is : history_of new ≡ history_of old ++ (before ++ event ∷ behind)

-- it made none, and one more of its tries failed, where no head is held
pub record HasFailed {C S O : Type 0} (t : CallTable C S O) (old new : Known) (r q : Run C) (s : S) : Type 0 where
  pub count : IsOneMore r.failed q.failed
  pub still : history_of new ≡ history_of old
  pub free : holds (t.point_of s) ≡ false

-- it looked last at the number that its head serves, which is another one than its ticket
pub record HasFoundOther {C S O : Type 0} (t : CallTable C S O) (new : Known) (q : Run C) (s : S) : Type 0 where
  pub before : Known
  pub finds : FindsOther before new (head_in t q.of s) q.ticket q.served

-- the last step of the task is a sleep
pub record SleptLast (old new : Known) : Type 0 where
  pub before : List Step
  pub found : ℕ
  pub is : history_of new ≡ (history_of old ++ before) ++ step.Sleep found ∷ []

-- What a turn has to show for its answer: that it goes on, an event or a failed try; that it waits for the lock, a look
-- that found another number served; that it was put asleep, a sleep, which came last.
abbrev pub ShowsTurn : {C S O : Type 0} → CallTable C S O → Known → Known → Run C → Run C → Turn S O → Type 0
ShowsTurn t old new r q (turn.Again s) = MadeEvent old new ⊎ HasFailed t old new r q s
ShowsTurn t old new r q (turn.Locked s) = HasFoundOther t new q s
ShowsTurn t old new r q (turn.Asleep s) = SleptLast old new
ShowsTurn t old new r q (turn.Done o) = Unit {0}

pub record Turned {C S O : Type 0} (t : CallTable C S O) (old new : Known) (r q : Run C) (s : S) (u : Turn S O) :
    Type 0 where
  pub advances : Advances t old new r q s u
  pub shows : ShowsTurn t old new r q u

-- a task that was put asleep looked at its own word, and answers whether it showed that it was woken
abbrev pub LooksAwake : Known → Known → Bool → Type 0
LooksAwake old new awake = (found : ℕ) × (new ≡ added old (item.Awake found)) × (awake ≡ (task_of found).runnable)

-- a turn goes on where no head is held, or with fewer events left
abbrev pub falls : {C S O : Type 0} → CallTable C S O → S → Turn S O → Bool
falls t s (turn.Again n) = not (holds (t.point_of n)) || nat_lt (t.depth n) (t.depth s)
falls t s (turn.Asleep n) = not (holds (t.point_of n))
falls t s (turn.Locked n) = not (holds (t.point_of n))
falls t s (turn.Done o) = true

-- it stopped where no head is held
abbrev pub IsStop : {C S O : Type 0} → CallTable C S O → Turn S O → Type 0
IsStop t (turn.Again s) = holds (t.point_of s) ≡ false
IsStop t (turn.Asleep s) = holds (t.point_of s) ≡ false
IsStop t (turn.Locked s) = holds (t.point_of s) ≡ false
IsStop t (turn.Done o) = Unit {0}

-- whether the task slept in these steps, or tried to
abbrev pub is_sleep : Step → Bool
is_sleep (step.Sleep w) = true
is_sleep _ = false

abbrev pub has_sleep : List Step → Bool
has_sleep [] = false
has_sleep (e ∷ es) = is_sleep e || has_sleep es

-- the task made these steps, and did not sleep, nor try to
pub record SleepsNot (old new : Known) : Type 0 where
  pub steps : List Step
  pub history : history_of new ≡ history_of old ++ steps
  pub awake : has_sleep steps ≡ false

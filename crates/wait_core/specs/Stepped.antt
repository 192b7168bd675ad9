-- To be believed.
-- What a step answers, and what it adds to the run.
use Rattle.std.specs.Prelude.{ℕ, ◌<◌, ◌-◌, ◌^◌, Bool, true, false, ◌≡◌, ◌==◌, if◌then◌else◌, List, [], ◌∷◌, ◌++◌}
use Rattle.std.specs.Prelude.{IfSome}
use Rattle.wait_model.specs.{declared.layout.TheConstants.EVENTS, declared.layout.TheConstants.PLACES}
use Rattle.wait_model.specs.{declared.calls.Call.Call, declared.points.Planned.Planned}
use Rattle.wait_model.specs.{declared.points.Progress.Progress, declared.calls.Ran.Ran, declared.points.Point.Point}
use Rattle.wait_model.specs.{Followed.LeavesNobody, Points.call_watch, Points.call_head, Programs.IsFitting}
use Rattle.wait_model.specs.Programs.{IsFittingEntry}
use Rattle.wait_model.specs.Runs.{State, own, planned, found_by, is_open, busy_head, state_of, made_in, seen_by}
use Rattle.wait_model.specs.Runs.{arrives_at}
use Rattle.wait_model.specs.Admission.{is_in_range, lacks_bit, is_queued_twice, lacks_entry}
use Rattle.std.specs.declared.option.Option.{Option}
use Rattle.std.specs.declared.option.Option.TheVariants.{Some, None}
use Rattle.std.specs.declared.result.Result.{Result}
use Rattle.std.specs.declared.result.Result.TheVariants.{Ok, Err}
use Rattle.wait_model.specs.declared.points.Progress.TheVariants as now
use Rattle.wait_model.specs.declared.calls.Ran.TheVariants as ran
use Rattle.wait_core.specs.{Arrivals.arrived, declared.reads.Found.Found, Ended.answer_of}
use Rattle.wait_core.specs.{declared.engine.Stepped.Stepped, declared.engine.StartFault.StartFault}
use Rattle.wait_core.specs.declared.engine.Stepped.TheVariants as answers
use Rattle.wait_core.specs.declared.engine.StartFault.TheVariants as faults

-- an event is made unless its lock is held or the run is full
abbrev pub event_or_refusal : ℕ → Planned → Option ℕ → Stepped
event_or_refusal made p (Some head) = answers.Busy head
event_or_refusal made p None = if made == EVENTS then answers.Full else answers.Made p.event (answer_of p.next)

-- the answer of a step of a task that stands at this progress, when so many events were made
abbrev pub stepped : State → ℕ → ℕ → Progress → Stepped
stepped s made me now.Fresh = answers.NoCall
stepped s made me now.Idle = answers.NoCall
stepped s made me (now.Open call p) =
    if (s.table.task me).runnable
    then event_or_refusal made (planned s me call p) (busy_head s (planned s me call p).event) else answers.Asleep

-- what a step adds to the run
abbrev pub items_of : State → ℕ → Stepped → List Ran
items_of s me (answers.Made e ended) = ran.Made me e (found_by s me e) ∷ []
items_of s me _ = []

-- a task that is awake and has a call open at a point
pub record MayStep (run : List Ran) (me : ℕ) (call : Call) (p : Point) : Type 0 where
  pub stands : (state_of run).progress me ≡ now.Open call p
  pub awake : ((state_of run).table.task me).runnable ≡ true

-- what such a task finds: the numbers of its call leave room for what the program adds to them
pub record IsFound (run : List Ran) (me : ℕ) (call : Call) (p : Point) (found : Found) : Type 0 where
  pub seen : found.seen ≡ seen_by (state_of run) me call p
  pub walk : found.walk ≡ arrived (arrives_at (state_of run).table.entry call p ((state_of run).queue (call_head call)))
  pub point : IsFitting p
  pub entry : IsFittingEntry found.seen.called
  pub calls : found.seen.calls < 2 ^ 32 - 1
  pub member : IfSome found.walk.member (λ m. m.place < PLACES)

-- a step of a task, from a run to a run that leaves nobody asleep whom a setter has published for and woken
pub record IsStep (before : List Ran) (me : ℕ) (result : Stepped) (after : List Ran) : Type 0 where
  pub answer : result ≡ stepped (state_of before) (made_in before) me ((state_of before).progress me)
  pub run : after ≡ before ++ items_of (state_of before) me result
  pub setters : LeavesNobody after

-- the first refusal that stands
abbrev pub first_refusal : Bool → Bool → Bool → Bool → Result (Unit {0}) StartFault
first_refusal fits loose twice lacks =
    if fits
    then (if loose then Err faults.NotHeld
    else if twice then Err faults.EntryQueued else if lacks then Err faults.NoEntry else Ok tt)
    else Err faults.NoSuchCond

abbrev pub started : State → ℕ → Call → Result (Unit {0}) StartFault
started s me call =
    if is_open (s.progress me) then Err faults.CallOpen
    else first_refusal (is_in_range me call) (lacks_bit call ((s.table.view me).bits.keeps (call_watch call)))
    (is_queued_twice call (s.table.entry (own me))) (lacks_entry call (s.table.entry (own me)))

abbrev pub opened_by : ℕ → Call → Result (Unit {0}) StartFault → List Ran
opened_by me call (Ok x) = ran.Opened me call ∷ []
opened_by me call (Err e) = []

-- whether a call is open, where there ever was one
abbrev pub call_shown : Progress → Option Bool
call_shown now.Fresh = None
call_shown now.Idle = Some false
call_shown (now.Open call p) = Some true

-- To be believed.
-- Whole calls as lists of events: what each makes follows its sentence, and a wait that answers for a signal has found
-- one in its last turn.
use Rattle.std.specs.Prelude.{ℕ, ◌≡◌, ◌<◌, Bool, true, false, if◌then◌else◌, Result, Err, List, []}
use Rattle.wait_model.specs.{declared.layout.TheConstants.PLAIN_CONDITIONS, declared.calls.Call.Call}
use Rattle.wait_model.specs.{declared.calls.Event.Event, declared.calls.Answer.Answer, declared.queues.Form.Form}
use Rattle.wait_model.specs.{declared.queues.Walked.Walked, declared.tasks.How.How}
use Rattle.wait_model.specs.{declared.tasks.SleepState.SleepState, declared.watches.Kind.Kind}
use Rattle.wait_model.specs.{declared.watches.Mode.Mode, declared.watches.Watch.Watch, Sentences.Follows}
use Rattle.wait_model.specs.Programs.{program_start, signalled, zero_answer}
use Rattle.wait_model.specs.SentenceSteps.{Prepared, finishes, is_ready, is_signalled, is_worn, number, prepares}
use Rattle.wait_model.specs.SentenceSteps.{prepares_event}
use Rattle.wait_model.specs.declared.calls.Call.TheVariants as calls
use Rattle.wait_model.specs.declared.calls.Answer.TheVariants as answer
use Rattle.wait_model.specs.declared.points.FinishPoint.TheVariants as finishing
use Rattle.wait_model.specs.declared.points.PreparePoint.TheVariants as preparing
use Rattle.wait_model.specs.declared.points.Point.TheVariants as at
use Rattle.wait_model.specs.declared.points.WalkPoint.TheVariants as walking
use Rattle.wait_model.specs.declared.points.Next.TheVariants as next
use Rattle.wait_model.specs.Phrases.{Phrase, ◌>>=◌, ◌>>◌, ends, gives}
use Rattle.wait_class.specs.{Queueing.wait_form, Posts.IsOut}
use Rattle.wait_rule.specs.{Known.Known, Says.MeetsLaw, SaidEvents.plain_aim, SaidEvents.said, Heeding.EndsSignalled}
use Rattle.wait_rule.specs.Heeding.{trail_of}
use Rattle.wait_rule.specs.Selecting.{IsTallied, selects_in, yes_in}
use Rattle.wait_rule.specs.Transitions.{Transition, call_program, walk_program}
use Rattle.wait_event.specs.{Conds.HasSet, Conds.HasTakenCond, Ends.EndsWait, Ends.answer_of_end, WokenWaits.EndsWoken}
use Rattle.wait_event.specs.declared.wait_events.WaitEnd.{WaitEnd}
use Rattle.wait_event.specs.Entries.{EndsAdd, HasRemovedOwn, add_answer}
use Rattle.wait_event.specs.Prepares.{HasFinished, Prepares, finish_program, prepare_program}
use Rattle.wq_head.specs.declared.adds.Worn.{Worn}

-- the events of a call, and those of a walk
abbrev pub call_says : ℕ → Call → List Transition → List Event
call_says me call ts = said (call_program me 0 call) (next.Go (program_start call)) ts

abbrev pub walk_says : ℕ → Mode → ℕ → List Transition → List Event
walk_says c m n ts = said (walk_program (plain_aim c m n)) (next.Go (at.Walk walking.Lock)) ts

-- A wait, whatever it answers; a load of the base word after it (`Task::witness`) shows the table that is asked for.
abbrev pub WaitsFollow : Type 0
WaitsFollow = (old new : Known) (c : ℕ) (how : How) (result : Result (Unit {0}) WaitEnd) → MeetsLaw new.view → IsOut old
    → (e : EndsWait old new c how result) → Follows old.view.number (calls.Wait c how)
    (call_says old.view.number (calls.Wait c how) e.waited.runs.transitions) (answer_of_end result)

-- Some events follow the sentence of the wait, which gives this answer: so it is where such a load came right after.
pub record SaysWait (old : Known) (c : ℕ) (how : How) (result : Result (Unit {0}) WaitEnd) : Type 0 where
  pub events : List Event
  pub follows : Follows old.view.number (calls.Wait c how) events (answer_of_end result)

abbrev pub WaitsSay : Type 0
WaitsSay = (old mid new : Known) (c : ℕ) (how : How) (result : Result (Unit {0}) WaitEnd) → new ≡ mid
    → MeetsLaw new.view → IsOut old → EndsWait old mid c how result → SaysWait old c how result

-- a wait that answers for a signal ends as the law on signals says
abbrev pub WaitsHeed : Type 0
WaitsHeed = (old new : Known) (c : ℕ) (how : How) (e : WaitEnd) (ends : EndsWait old new c how (Err e))
    → answer_of_end (Err e) ≡ signalled → EndsSignalled old.view.number (calls.Wait c how)
    (trail_of [] (call_says old.view.number (calls.Wait c how) ends.waited.runs.transitions))

-- a wait for a flag
abbrev pub WokensFollow : Type 0
WokensFollow = (old new : Known) (st : SleepState) → MeetsLaw new.view → (e : EndsWoken old new st)
    → Follows old.view.number (calls.Woken st)
    (call_says old.view.number (calls.Woken st) e.runs.transitions) zero_answer

-- an entry that is added, or found no place
abbrev pub AddsFollow : Type 0
AddsFollow = (old new : Known) (c : ℕ) (k : Kind) (f : Form) (result : Result (Unit {0}) Worn) → MeetsLaw new.view
    → (e : EndsAdd old new c k f result) → Follows old.view.number (calls.Add c k f)
    (call_says old.view.number (calls.Add c k f) e.runs.transitions) (add_answer result)

-- an entry that is taken off
abbrev pub RemovesFollow : Type 0
RemovesFollow = (old new : Known) → MeetsLaw new.view → (h : HasRemovedOwn old new) → Follows old.view.number calls.Remove
    (call_says old.view.number calls.Remove h.runs.transitions) zero_answer

-- A prepare, with a look for a signal where it asks for one: then it is what each turn of a wait begins with. `queued` is
-- whether the own entry may be queued already.
abbrev pub prepares_by : Bool → ℕ → Watch → How → Bool → Phrase Prepared
prepares_by true me w how queued = prepares_event me w how.state (wait_form how) queued
prepares_by false me w how queued = do
  entered ← prepares w how.state (wait_form how) queued
  gives (if entered then is_ready else is_worn)

-- what it answers: the entry stands and the state is stored, a signal was found, or no place was left
abbrev pub prepared_as : Prepared → Answer
prepared_as is_ready = zero_answer
prepared_as is_signalled = signalled
prepared_as is_worn = answer.Worn

abbrev pub prepare_says : Bool → ℕ → Watch → Kind → How → List Transition → List Event
prepare_says asks me w k how ts = said (prepare_program asks me w k how) (next.Go (at.Prepare preparing.Lock)) ts

-- What a prepare makes is one prepare of the sentences and nothing more, for each watch and with an entry of each kind,
-- and answers as that does. It looks for a signal where `asks` says so (`Prepares`, which the clause `ends` of each
-- prepare has). A load of the base word after it shows the table that is asked for.
abbrev pub PreparesFollow : Type 0
PreparesFollow = (old new : Known) (w : Watch) (k : Kind) (how : How) (asks : Bool) (a : Answer) (queued : Bool)
    → MeetsLaw new.view → (queued ≡ false → IsOut old) → (p : Prepares old new w k how asks a)
    → (prepares_by asks old.view.number w how queued >>= λ done. gives (prepared_as done)) ends
    (prepare_says asks old.view.number w k how p.runs.transitions) a

-- What a finish makes is a finish of the sentence of a wait for its watch, to its end, with the answer of a wait whose
-- condition is met.
abbrev pub FinishesFollow : Type 0
FinishesFollow = (old new : Known) (h : HasFinished old new)
    → (finishes old.view.number h.watch true >> gives (number 0)) ends
    (said (finish_program old.view.number h.watch) (next.Go (at.Finish finishing.State false)) h.runs.transitions)
    zero_answer

-- a take
abbrev pub TakesFollow : Type 0
TakesFollow = (old new : Known) (c v : ℕ) → MeetsLaw new.view → (h : HasTakenCond old new c v)
    → Follows old.view.number (calls.Take c) (call_says old.view.number (calls.Take c) h.transitions) (answer.Value v)

-- A store with a wake: the set, and then the walk, whose answer tells whom it woke and selected.
pub record SetFollows (old new : Known) (c value : ℕ) (m : Mode) (count : ℕ) (walked : Walked)
    (h : HasSet old new c value m count walked) : Type 0 where
  pub sets : Follows old.view.number (calls.Set c value)
      (call_says old.view.number (calls.Set c value) h.set.transitions) zero_answer
  pub wakes : Follows h.between.view.number (calls.Wake c m count) (walk_says c m count h.woken.transitions)
      (answer.Walk h.woken.walked)
  pub selects : IsTallied count (yes_in (walk_says c m count h.woken.transitions)) h.woken.walked
  pub tells : h.woken.walked.selected
      ≡ selects_in (plain_aim c m count) (next.Go (at.Walk walking.Lock)) h.woken.transitions

abbrev pub SetsFollow : Type 0
SetsFollow = (old new : Known) (c value : ℕ) (m : Mode) (count : ℕ) (walked : Walked) → MeetsLaw new.view
    → c < PLAIN_CONDITIONS → (h : HasSet old new c value m count walked)
    → SetFollows old new c value m count walked h

-- To be believed.
-- Waits for plain conditions, also in simple queues, and for variables, that are left: the ways out.
use Rattle.std.specs.Prelude.{ℕ, ◌≡◌, ◌⊎◌, Bool, true, false, Result, List, ◌∷◌}
use Rattle.wait_model.specs.{declared.calls.Answer.Answer, declared.calls.Call.Call, declared.calls.Event.Event}
use Rattle.wait_model.specs.{declared.queues.Form.Form, declared.tasks.How.How, declared.tasks.SleepState.SleepState}
use Rattle.wait_model.specs.{declared.watches.Watch.Watch, SentenceWaits.turn, Tasks.state_mask}
use Rattle.wait_model.specs.Points.{call_watch, form_of, state_in}
use Rattle.wait_model.specs.SentenceSteps.{finishes, is_met, minus_512, number, takes_off, unlocks}
use Rattle.wait_model.specs.Watches.{head_of, misses, number_of}
use Rattle.wait_model.specs.declared.calls.Call.TheVariants as calls
use Rattle.wait_model.specs.declared.calls.Event.TheVariants as event
use Rattle.wait_model.specs.declared.watches.Watch.TheVariants as watch
use Rattle.wait_model.specs.Phrases.{Phrase, ◌>>=◌, ◌>>◌, gives, makes, repeat, when◌then◌otherwise◌}
use Rattle.wait_rule.specs.{Known.Known, Says.MeetsLaw}
use Rattle.wait_class.specs.declared.stages.Turn.TheVariants as turns
use Rattle.wait_class.specs.Posts.{IsOut}
use Rattle.wait_event.specs.{WaitLeaves.EndsWaitUntil, WaitLeaves.wait_exits, Waits.answer_to_wait, Waits.wait_table}
use Rattle.wait_event.specs.{declared.wait_events.WaitEnd.WaitEnd, declared.wait_leaves.WaitUntil.WaitUntil}
use Rattle.wait_event.specs.declared.wait_leaves.WaitUntil.TheVariants as until
use Rattle.wait_event.specs.declared.waits.WaitStage.TheVariants as stage
use Rattle.swait_queue.specs.SimpleWaits.{tail_in}
use Rattle.var_wait.specs.{VarLeaves.EndsVarUntil, VarWaits.shared_in}
use Rattle.left_sentences.specs.LeftWords.{IsLeftWord, IsWordTo, WaysOut}
use Rattle.left_sentences.specs.WaySays.{way_says}

-- In the hold of its prepare, before it has queued its entry or stored its state, it leaves the queue as one does that
-- found a signal: its entry is taken off where it stands, the head given back, and the condition loaded once more.
abbrev pub parts_in_hold : ℕ → Watch → Phrase Answer
parts_in_hold me c = do
  takes_off me true
  unlocks c
  met ← is_met c
  when met then (do finishes me c true; gives (number 0)) otherwise gives minus_512

-- Behind a prepare, before its load or its sleep, it stores RUNNING, and begins a turn, with its entry queued.
abbrev pub turns_once_more : ℕ → Watch → SleepState → Form → Phrase Answer
turns_once_more me c st form = do
  makes (event.State 0)
  repeat (turn me c st form) true

pub data CondWay : Type 0 where
  in_hold : CondWay
  behind_prepare : CondWay

-- the latest events in such a hold
abbrev pub IsInPrepare : Watch → List Event → Type 0
IsInPrepare c trail = (more : List Event)
    × ((trail ≡ event.Lock (head_of c) ∷ more) ⊎ (trail ≡ event.Look false ∷ event.Lock (head_of c) ∷ more))

-- behind a prepare, and behind a load after it that found the condition not set
abbrev pub HasPrepared : Watch → SleepState → List Event → Type 0
HasPrepared c st trail = (more : List Event)
    × (trail ≡ event.Unlock (head_of c) false ∷ event.State (state_mask st) ∷ more)

pub record HasMissed (c : Watch) (st : SleepState) (trail : List Event) : Type 0 where
  pub value : ℕ
  pub earlier : List Event
  pub load : trail ≡ event.Load (number_of c) value ∷ earlier
  pub unset : misses c value ≡ true
  pub prepared : HasPrepared c st earlier

abbrev pub cond_phrase : ℕ → Call → CondWay → Phrase Answer
cond_phrase me call in_hold = parts_in_hold me (call_watch call)
cond_phrase me call behind_prepare = turns_once_more me (call_watch call) (state_in call) (form_of call)

abbrev pub CondFrom : Call → CondWay → List Event → Type 0
CondFrom call in_hold trail = IsInPrepare (call_watch call) trail
CondFrom call behind_prepare trail = HasPrepared (call_watch call) (state_in call) trail
    ⊎ HasMissed (call_watch call) (state_in call) trail

abbrev pub cond_ways : ℕ → Call → WaysOut CondWay
cond_ways me call = record { phrase = cond_phrase me call; From = CondFrom call }

-- what such a wait made
abbrev pub cond_says : {A : Type 0} (old new : Known) (w : Watch) (how : How)
    (result : WaitUntil (Result (Unit {0}) WaitEnd)) → EndsWaitUntil A old new w how result → List Event
cond_says old new w how result e = way_says wait_table wait_exits old e.first stage.First new e.leaves.at
    (turns.Done e.leaves.outcome) e.leaves.came

-- A wait for a plain condition that was left, for this cause, made such a word, and behind its last hold found the
-- condition not set; a load of the base word after it (`Task::witness`) shows the table that is asked for.
abbrev pub LeftWaitsFollow : Type 0 → Type 0
LeftWaitsFollow A = (old new : Known) (c : ℕ) (how : How) (seen : ℕ) (selected : Bool) → MeetsLaw new.view → IsOut old
    → (e : EndsWaitUntil A old new (watch.Plain c) how (until.Left seen selected))
    → IsLeftWord old.view.number (calls.Wait c how) (cond_ways old.view.number (calls.Wait c how))
    (cond_says old new (watch.Plain c) how (until.Left seen selected) e) minus_512

-- One in a simple queue has the sentence of a simple wait.
abbrev pub LeftSimplesFollow : Type 0 → Type 0
LeftSimplesFollow A = (old new : Known) (c : ℕ) (st : SleepState) (seen : ℕ) (selected : Bool) → MeetsLaw new.view
    → IsOut old → (e : EndsWaitUntil A old new (watch.Plain c) (tail_in st) (until.Left seen selected))
    → IsLeftWord old.view.number (calls.SimpleWait c st) (cond_ways old.view.number (calls.SimpleWait c st))
    (cond_says old new (watch.Plain c) (tail_in st) (until.Left seen selected) e) minus_512

-- what a wait for a variable made
abbrev pub var_says : {A : Type 0} (before new : Known) (v old : ℕ) (st : SleepState)
    (result : WaitUntil (Result ℕ WaitEnd)) → EndsVarUntil A before new v old st result → List Event
var_says before new v old st result e = cond_says before new (watch.Var v old) (shared_in st) e.answer e.waited

abbrev pub LeftVarsFollow : Type 0 → Type 0
LeftVarsFollow A = (before new : Known) (v old : ℕ) (st : SleepState) (seen : ℕ) (selected : Bool)
    → MeetsLaw new.view → IsOut before → (e : EndsVarUntil A before new v old st (until.Left seen selected))
    → IsLeftWord before.view.number (calls.WaitVar v old st) (cond_ways before.view.number (calls.WaitVar v old st))
    (var_says before new v old st (until.Left seen selected) e) minus_512

-- Whatever such a wait answers, it made what its sentence says, or a word of one that went out: to the answer that is
-- given so.
abbrev pub AskedWaitsFollow : Type 0 → Type 0
AskedWaitsFollow A = (old new : Known) (c : ℕ) (how : How) (result : WaitUntil (Result (Unit {0}) WaitEnd))
    → MeetsLaw new.view → IsOut old → (e : EndsWaitUntil A old new (watch.Plain c) how result)
    → IsWordTo old.view.number (calls.Wait c how) (cond_ways old.view.number (calls.Wait c how))
    (cond_says old new (watch.Plain c) how result e) (answer_to_wait e.leaves.outcome)

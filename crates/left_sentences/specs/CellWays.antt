-- To be believed.
-- Waits for completions that are left: the ways out.
use Rattle.std.specs.Prelude.{ℕ, ◌≡◌, ◌⊎◌, ◌==◌, true, false, Result, List, ◌∷◌}
use Rattle.wait_model.specs.{declared.calls.Answer.Answer, declared.calls.Event.Event}
use Rattle.wait_model.specs.{declared.tasks.SleepState.SleepState, declared.watches.Watch.Watch, SentenceSteps.locks}
use Rattle.wait_model.specs.{SentenceSteps.minus_512, Watches.head_of, Watches.number_of}
use Rattle.wait_model.specs.SentenceCounts.{await_end, await_turn, by_count, by_signal, counts}
use Rattle.wait_model.specs.declared.calls.Call.TheVariants as calls
use Rattle.wait_model.specs.declared.calls.Event.TheVariants as event
use Rattle.wait_model.specs.declared.watches.Watch.TheVariants as watch
use Rattle.wait_model.specs.Phrases.{Phrase, ◌>>=◌, ◌>>◌, gives, makes, repeat, when◌then◌otherwise◌}
use Rattle.wait_rule.specs.{Known.Known, Says.MeetsLaw}
use Rattle.wait_class.specs.declared.stages.Turn.TheVariants as turn
use Rattle.wait_class.specs.Posts.{IsOut}
use Rattle.wait_event.specs.declared.wait_events.WaitEnd.{WaitEnd}
use Rattle.wait_leave.specs.declared.exits.Until.{Until}
use Rattle.wait_leave.specs.declared.exits.Until.TheVariants as until
use Rattle.completion_cell.specs.{AwaitLeaves.EndsAwaitUntil, AwaitLeaves.await_exits, Awaits.await_table}
use Rattle.completion_cell.specs.declared.awaits.AwaitStage.TheVariants as stage
use Rattle.left_sentences.specs.{CondWays.HasPrepared, LeftWords.IsLeftWord, LeftWords.WaysOut, WaySays.way_says}

-- Before its sleep it stores RUNNING, and goes on to its next hold, which takes one of the count or begins a turn, with
-- its entry queued.
abbrev pub counts_once_more : ℕ → Watch → SleepState → Phrase Answer
counts_once_more me c st = do
  makes (event.State 0)
  locks c
  count ← counts c
  left ← when count == 0 then repeat (await_turn c st) true otherwise gives (by_count count)
  await_end me c left

-- In a hold that has loaded 0 it ends as one that a signal stops.
pub data CellWay : Type 0 where
  in_hold : CellWay
  before_sleep : CellWay

abbrev pub cell_phrase : ℕ → ℕ → SleepState → CellWay → Phrase Answer
cell_phrase me d st in_hold = await_end me (watch.Done d) (by_signal true)
cell_phrase me d st before_sleep = counts_once_more me (watch.Done d) st

-- the latest events in such a hold, which has not queued its entry or stored its state
abbrev pub HasLoadedZero : Watch → List Event → Type 0
HasLoadedZero c trail = (more : List Event) × (trail ≡ event.Load (number_of c) 0 ∷ event.Lock (head_of c) ∷ more)

abbrev pub HasHeardNone : Watch → List Event → Type 0
HasHeardNone c trail = (earlier : List Event) × (trail ≡ event.Look false ∷ earlier) × HasLoadedZero c earlier

abbrev pub CellFrom : ℕ → SleepState → CellWay → List Event → Type 0
CellFrom d st in_hold trail = HasLoadedZero (watch.Done d) trail ⊎ HasHeardNone (watch.Done d) trail
CellFrom d st before_sleep trail = HasPrepared (watch.Done d) st trail

abbrev pub cell_ways : ℕ → ℕ → SleepState → WaysOut CellWay
cell_ways me d st = record { phrase = cell_phrase me d st; From = CellFrom d st }

-- what such a wait made
abbrev pub await_says : {A : Type 0} (old new : Known) (d : ℕ) (st : SleepState)
    (result : Until (Result (Unit {0}) WaitEnd)) → EndsAwaitUntil A old new d st result → List Event
await_says old new d st result e = way_says await_table await_exits old e.first stage.First new e.leaves.at
    (turn.Done e.leaves.outcome) e.leaves.came

-- A wait for a completion that was left, for this cause, made such a word; a load of the base word after it
-- (`Task::witness`) shows the table that is asked for.
abbrev pub LeftAwaitsFollow : Type 0 → Type 0
LeftAwaitsFollow A = (old new : Known) (d : ℕ) (st : SleepState) (seen : ℕ) → MeetsLaw new.view → IsOut old
    → (e : EndsAwaitUntil A old new d st (until.Left seen))
    → IsLeftWord old.view.number (calls.WaitFor d st) (cell_ways old.view.number d st)
    (await_says old new d st (until.Left seen) e) minus_512

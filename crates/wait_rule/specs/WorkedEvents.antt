-- A check of the definitions.
-- What the definitions of events and of interleaved steps say of small lists.
use Rattle.std.specs.Prelude.{◌≡◌, true, false, List, [], ◌∷◌}
use Rattle.wait_model.specs.declared.calls.Call.TheVariants as calls
use Rattle.wait_model.specs.{declared.calls.Event.Event, declared.tasks.How.How, Tables.met}
use Rattle.wait_model.specs.declared.calls.Event.TheVariants as event
use Rattle.wait_model.specs.declared.steps.Step.TheVariants as step
use Rattle.wait_model.specs.declared.watches.Watch.TheVariants as watch
use Rattle.wait_model.specs.declared.tasks.SleepState.TheVariants as states
use Rattle.wait_rule.specs.{Heeding.EndsSignalled, Heeding.trail_of, Interleavings.TaskStep, Interleavings.table_of}
use Rattle.wait_rule.specs.Selecting.{yes_in}

-- a walk of head 256 that meets task 3, and then task 4 running
abbrev pub met_one : List Event
met_one = event.Lock 256 ∷ event.Wake 3 true ∷ event.Unqueue 3 ∷ event.Wake 4 false ∷ event.Unlock 256 false ∷ []

-- the last turn of task 1, which waits for condition 0 and found a signal with its entry off
abbrev pub last_turn : List Event
last_turn = event.Load 0 0 ∷ event.Lock 256 ∷ event.Look true ∷ event.Unlock 256 false ∷ event.Load 0 0 ∷ []

abbrev pub interruptible : How
interruptible = record { state = states.Interruptible; exclusive = false }

-- task 1 loads condition 0, and then task 2 sets it
abbrev pub load_and_set : List TaskStep
load_and_set = record { task = 2; made = step.Publish (watch.Plain 0) 1 0 }
    ∷ record { task = 1; made = step.Load (watch.Plain 0) 0 } ∷ []

pub record WorkedEvents : Type 0 where
  pub wakes : yes_in met_one ≡ 1
  pub heeds : EndsSignalled 1 (calls.Wait 0 interruptible) (trail_of [] last_turn)
  pub first : (table_of load_and_set).history 1 ≡ step.Load (watch.Plain 0) 0 ∷ []
  pub second : (table_of load_and_set).history 2 ≡ step.Publish (watch.Plain 0) 1 0 ∷ []
  pub is_set : met (table_of load_and_set).words (watch.Plain 0) ≡ true

-- To be believed.
-- What the calls on futexes say: a whole wait with the cause of its answer, a wake, and a store.
use Rattle.std.specs.Prelude.{ℕ, ◌≡◌, ◌==◌, false, Result, Ok, Err, [], ◌∷◌}
use Rattle.wait_model.specs.{declared.calls.Answer.Answer, declared.queues.Walked.Walked}
use Rattle.wait_model.specs.{declared.tasks.SleepState.SleepState, declared.watches.Aim.Aim, Programs.signalled}
use Rattle.wait_model.specs.Programs.{zero_answer}
use Rattle.wait_model.specs.declared.calls.Answer.TheVariants as answer
use Rattle.wait_model.specs.declared.calls.Call.TheVariants as calls
use Rattle.wait_model.specs.declared.points.AddPoint.TheVariants as adding
use Rattle.wait_model.specs.declared.points.Next.TheVariants as next
use Rattle.wait_model.specs.declared.points.Point.TheVariants as at
use Rattle.wait_model.specs.declared.steps.Step.TheVariants as step
use Rattle.wait_model.specs.declared.watches.Mode.TheVariants as mode
use Rattle.wait_rule.specs.{Known.Known, Transitions.call_program}
use Rattle.wq_head.specs.Walks.{HasEnded, HasWoken}
use Rattle.wait_class.specs.{Posts.FoundWorn, Posts.Runs, Tables.plan_program}
use Rattle.futex_table.specs.{declared.futexes.FutexEnd.FutexEnd, declared.waits.FutexOutcome.FutexOutcome}
use Rattle.futex_table.specs.declared.waits.FutexWait.{FutexWait}
use Rattle.futex_table.specs.FutexTables.{FoundOff, HasLoadedWord, LeftForSignal, futex_head, futex_plan, other_value}
use Rattle.futex_table.specs.FutexTables.{futex_word}
use Rattle.futex_table.specs.declared.futexes.FutexEnd.TheVariants as futex_end
use Rattle.futex_table.specs.declared.waits.FutexOutcome.TheVariants as outcome

-- the answer of a wait that has ended and that nobody has left, and that of its program
abbrev pub futex_end_in : FutexWait → FutexOutcome → Result (Unit {0}) FutexEnd
futex_end_in r outcome.Over = Ok tt
futex_end_in r outcome.Again = Err (futex_end.Again r.seen)
futex_end_in r outcome.Interrupted = Err futex_end.Interrupted
futex_end_in r outcome.Worn = Err (futex_end.Worn (futex_head r.futex) r.place)
futex_end_in r (outcome.Left off) = Err futex_end.Interrupted

abbrev pub futex_answer_of : Result (Unit {0}) FutexEnd → Answer
futex_answer_of (Ok u) = zero_answer
futex_answer_of (Err (futex_end.Again seen)) = other_value
futex_answer_of (Err futex_end.Interrupted) = signalled
futex_answer_of (Err (futex_end.Worn h place)) = answer.Worn

-- Its last hold loaded this value, which is not the expected one, and was given back.
pub record FoundOtherValue (k : Known) (f v seen : ℕ) : Type 0 where
  pub loaded : HasLoadedWord k f seen (step.Unlock (futex_head f) false ∷ [])
  pub other : (seen == v) ≡ false

-- No place was left for its entry at its head: its hold noted it, and was given back.
pub record FoundNoFutexPlace (k : Known) (f h place : ℕ) : Type 0 where
  pub head : h ≡ futex_head f
  pub worn : FoundWorn k (futex_head f) place []

-- the numbers of a wait, where nothing was noted yet
abbrev pub the_futex_wait : ℕ → ℕ → SleepState → FutexWait
the_futex_wait f v st = record { futex = f; expected = v; state = st; place = 0; seen = 0; asked = false }

-- The cause of each answer, by the last steps of the call: it was woken, and its entry off; its last hold loaded another
-- value; one hold showed an admissible signal and found its entry queued; no place was left.
abbrev pub IsFutexCause : Known → ℕ → ℕ → SleepState → Result (Unit {0}) FutexEnd → Type 0
IsFutexCause k f v st (Ok u) = FoundOff k f
IsFutexCause k f v st (Err (futex_end.Again seen)) = FoundOtherValue k f v seen
IsFutexCause k f v st (Err futex_end.Interrupted) = LeftForSignal k (the_futex_wait f v st)
    (step.Unlock (futex_head f) false ∷ [])
IsFutexCause k f v st (Err (futex_end.Worn h place)) = FoundNoFutexPlace k f h place

-- The task went through the whole wait, and the answer is that of its program, with its cause.
pub record EndsFutexWait (old new : Known) (f v : ℕ) (st : SleepState) (result : Result (Unit {0}) FutexEnd) : Type 0
  where
    pub runs : Runs (plan_program old.view.number 0 (futex_plan f v st)) old new (next.Go (at.Add adding.Lock))
        (next.Ends (futex_answer_of result))
    pub cause : IsFutexCause new f v st result

-- the walk of a wake of a futex
abbrev pub futex_aim : ℕ → ℕ → Aim
futex_aim f count = record { watch = futex_word f; mode = mode.Normal; count = count }

-- The task went through a walk of the futex with NORMAL and this count, and the answer is how many it selected; it owes
-- no wake of the futex then.
pub record HasWokenFutex (old new : Known) (f count n : ℕ) : Type 0 where
  pub walked : Walked
  pub woken : HasWoken old new (futex_aim f count) walked
  pub selects : n ≡ walked.selected
  pub ended : HasEnded old new (futex_aim f count)

-- The task stored the value.
abbrev pub HasStored : Known → Known → ℕ → ℕ → Type 0
HasStored old new f value = Runs (call_program old.view.number 0 (calls.Set f value)) old new (next.Go at.Store)
    (next.Ends zero_answer)

-- To be believed.
-- What whole waits for a bit say.
use Rattle.std.specs.Prelude.{ℕ, ◌≡◌, Bool, true, false, Result, Ok, Err, List, [], ◌∷◌, ◌++◌}
use Rattle.wait_model.specs.{declared.calls.Answer.Answer, declared.tasks.SleepState.SleepState}
use Rattle.wait_model.specs.{declared.steps.Step.Step, Programs.interrupted, Programs.zero_answer, Watches.head_of}
use Rattle.wait_model.specs.Words.{bit_at}
use Rattle.wait_model.specs.Tasks.{pending, state_mask, task_of}
use Rattle.wait_model.specs.declared.calls.Answer.TheVariants as answer
use Rattle.wait_model.specs.declared.calls.Call.TheVariants as calls
use Rattle.wait_model.specs.declared.points.BitPoint.TheVariants as biting
use Rattle.wait_model.specs.declared.points.Next.TheVariants as next
use Rattle.wait_model.specs.declared.points.Point.TheVariants as at
use Rattle.wait_model.specs.declared.steps.Step.TheVariants as step
use Rattle.wait_model.specs.declared.watches.Watch.TheVariants as watch
use Rattle.wait_rule.specs.{Ends.WasWorn, Known.Known, Says.history_of, Transitions.call_program}
use Rattle.wait_class.specs.{Posts.Runs, Posts.EndsWith, Tables.has_sleep, Wholes.HasRested}
use Rattle.bit_wait.specs.{declared.wait_calls.BitEnd.BitEnd, declared.waits.BitOutcome.BitOutcome}
use Rattle.bit_wait.specs.declared.waits.WaitBit.{WaitBit}
use Rattle.bit_wait.specs.declared.wait_calls.BitEnd.TheVariants as bit_end
use Rattle.bit_wait.specs.declared.waits.BitOutcome.TheVariants as outcome

-- the answer of a wait that has ended
abbrev pub bit_end_in : WaitBit → BitOutcome → Result (Unit {0}) BitEnd
bit_end_in r outcome.Over = Ok tt
bit_end_in r outcome.Interrupted = Err (bit_end.Interrupted r.seen)
bit_end_in r outcome.Worn = Err (bit_end.Worn (head_of (watch.Bit r.word r.bit)) r.place)

-- the answer of the call
abbrev pub answer_of_bit_end : Result (Unit {0}) BitEnd → Answer
answer_of_bit_end (Ok u) = zero_answer
answer_of_bit_end (Err (bit_end.Interrupted seen)) = interrupted
answer_of_bit_end (Err (bit_end.Worn h place)) = answer.Worn

-- The last turn of a wait that a signal ended: after the hold of its prepare the load found `seen`, with the bit set;
-- then the task slept, and then its own word showed a signal that the state admits. It has not slept since.
pub record WasBitInterrupted (k : Known) (w b : ℕ) (st : SleepState) (seen : ℕ) : Type 0 where
  pub before : List Step
  pub sleep : ℕ
  pub look : ℕ
  pub more : List Step
  pub ends : history_of k ≡ before ++ (step.Unlock (head_of (watch.Bit w b)) false ∷ step.Load (watch.Bit w b) seen
      ∷ step.Sleep sleep ∷ step.Look look ∷ more)
  pub set : bit_at seen b ≡ true
  pub pends : pending (state_mask st) (task_of look) ≡ true
  pub awake : has_sleep more ≡ false

-- The last turn of a wait that was asked to leave: it loaded the bit's word, and found `last`. It has not slept since.
pub record HasLoadedBit (k : Known) (w b last : ℕ) : Type 0 where
  pub before : List Step
  pub more : List Step
  pub ends : history_of k ≡ before ++ (step.Load (watch.Bit w b) last ∷ more)
  pub awake : has_sleep more ≡ false

-- The last steps of a wait that found no place: its hold noted it, and gave the head back; then the load found the bit
-- set.
pub record FoundNoPlaceForBit (k : Known) (w b h place : ℕ) : Type 0 where
  pub head : h ≡ head_of (watch.Bit w b)
  pub noted : WasWorn k.view.number k.view.items h place
  pub found : ℕ
  pub ends : EndsWith k (step.Unlock h false ∷ step.Load (watch.Bit w b) found ∷ [])
  pub set : bit_at found b ≡ true

abbrev pub IsBitCause : Known → ℕ → ℕ → SleepState → Result (Unit {0}) BitEnd → Type 0
IsBitCause k w b st (Ok u) = Unit {0}
IsBitCause k w b st (Err (bit_end.Interrupted seen)) = WasBitInterrupted k w b st seen
IsBitCause k w b st (Err (bit_end.Worn h place)) = FoundNoPlaceForBit k w b h place

-- whether a wait answers that it found no place
abbrev pub finds_no_place : Result (Unit {0}) BitEnd → Bool
finds_no_place (Ok u) = false
finds_no_place (Err (bit_end.Interrupted seen)) = false
finds_no_place (Err (bit_end.Worn h place)) = true

-- The task went through the whole call, and the answer is that of its program, with its cause. Where it found no place,
-- and only there, it then stored RUNNING, since it may still have been in the state in which it would have slept.
pub record EndsBitWait (old new : Known) (w b : ℕ) (st : SleepState) (result : Result (Unit {0}) BitEnd) :
    Type 0 where
  pub ended : Known
  pub runs : Runs (call_program old.view.number 0 (calls.WaitBit w b st)) old ended (next.Go (at.Bit biting.First))
      (next.Ends (answer_of_bit_end result))
  pub cause : IsBitCause ended w b st result
  pub rests : HasRested ended new (finds_no_place result)

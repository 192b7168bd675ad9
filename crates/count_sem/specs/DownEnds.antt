-- To be believed.
-- What whole calls of `down` say.
use Rattle.std.specs.Prelude.{ℕ, ◌≡◌, ◌∷◌, Bool, true, false, Some, Result, Ok, Err}
use Rattle.wait_model.specs.{declared.calls.Answer.Answer, declared.tasks.SleepState.SleepState, Programs.signalled}
use Rattle.wait_model.specs.Programs.{zero_answer}
use Rattle.wait_model.specs.Tasks.{pending, state_mask, task_of}
use Rattle.wait_model.specs.declared.calls.Answer.TheVariants as answer
use Rattle.wait_model.specs.declared.points.AwaitPoint.TheVariants as awaiting
use Rattle.wait_model.specs.declared.points.Next.TheVariants as next
use Rattle.wait_model.specs.declared.points.Point.TheVariants as at
use Rattle.wait_model.specs.declared.steps.Step.TheVariants as step
use Rattle.wait_rule.specs.{Ends.WasWorn, HeldValues.count_in, Known.Known, Says.history_of}
use Rattle.wait_class.specs.Posts.{EndsWith, Runs, own_of}
use Rattle.wait_event.specs.Waits.{has_queued_in}
use Rattle.count_sem.specs.{SemPrograms.down_program, SemPrograms.sem_head, declared.down_calls.SemEnd.SemEnd}
use Rattle.count_sem.specs.{declared.downs.DownCall.DownCall, declared.downs.DownOutcome.DownOutcome}
use Rattle.count_sem.specs.Downs.{StoodThere, down_head, found_zero, left_queue}
use Rattle.count_sem.specs.declared.down_calls.SemEnd.TheVariants as sem_end
use Rattle.count_sem.specs.declared.downs.DownOutcome.TheVariants as outcome

-- the answer of one that has ended
abbrev pub down_end_in : DownCall → DownOutcome → Result (Unit {0}) SemEnd
down_end_in r outcome.Over = Ok tt
down_end_in r outcome.Passing = Ok tt
down_end_in r outcome.Interrupted = Err sem_end.Interrupted
down_end_in r outcome.Worn = Err (sem_end.Worn (down_head r) r.place)

abbrev pub end_answer : Result (Unit {0}) SemEnd → Answer
end_answer (Ok u) = zero_answer
end_answer (Err sem_end.Interrupted) = signalled
end_answer (Err (sem_end.Worn h place)) = answer.Worn

-- One that was interrupted: its last hold loaded the count as 0; where the call had queued its entry before, the hold
-- had found it queued before that load; a look at the own word showed a signal that the state admits, and the entry was
-- taken off where it was queued. So who was given a permit is never interrupted.
pub record IsDownInterrupted (k : Known) (d : ℕ) (st : SleepState) (queued : Bool) : Type 0 where
  pub again : Bool
  pub word : ℕ
  pub stood : StoodThere again queued word
  pub look : ℕ
  pub pends : pending (state_mask st) (task_of look) ≡ true
  pub entry : ℕ
  pub ends : EndsWith k (found_zero again d (own_of k) word (step.Look look ∷ left_queue (own_of k) d entry))

-- One that found no place: its last hold noted it, and had loaded the count as 0.
pub record IsWornDown (k : Known) (d h place : ℕ) : Type 0 where
  pub head : h ≡ sem_head d
  pub noted : WasWorn k.view.number k.view.items h place
  pub zero : count_in d (history_of k) ≡ Some 0

abbrev pub IsDownCause : Known → ℕ → SleepState → Bool → Result (Unit {0}) SemEnd → Type 0
IsDownCause k d st queued (Ok u) = Unit {0}
IsDownCause k d st queued (Err sem_end.Interrupted) = IsDownInterrupted k d st queued
IsDownCause k d st queued (Err (sem_end.Worn h place)) = IsWornDown k d h place

-- The task went through the whole call, and the answer is that of its program, with its cause; `queued` is whether the
-- call has queued its entry.
pub record EndsDown (old new : Known) (d : ℕ) (st : SleepState) (result : Result (Unit {0}) SemEnd) : Type 0 where
  pub runs : Runs (down_program old.view.number d st) old new (next.Go (at.Await (awaiting.Lock false)))
      (next.Ends (end_answer result))
  pub cause : IsDownCause new d st (has_queued_in runs.transitions) result

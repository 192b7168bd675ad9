-- To be believed.
-- What whole waits say.
use Rattle.std.specs.Prelude.{ℕ, ◌≡◌, ◌&&◌, not, Bool, true, false, is_some, Result, Ok, Err, [], ◌∷◌, ◌++◌}
use Rattle.wait_model.specs.{declared.calls.Answer.Answer, Programs.zero_answer, Programs.signalled}
use Rattle.wait_model.specs.{declared.tasks.How.How, declared.points.Next.Next, declared.watches.Watch.Watch}
use Rattle.wait_model.specs.{Watches.head_of, Words.entry_of}
use Rattle.wait_model.specs.Tasks.{pending, state_mask, task_of}
use Rattle.wait_model.specs.declared.calls.Answer.TheVariants as answer
use Rattle.wait_model.specs.declared.points.Point.TheVariants as at
use Rattle.wait_model.specs.declared.points.Next.TheVariants as next
use Rattle.wait_event.specs.{declared.wait_events.WaitEnd.WaitEnd, WaitPlans.call_for, declared.waits.WaitCall.WaitCall}
use Rattle.wait_event.specs.declared.waits.WaitOutcome.{WaitOutcome}
use Rattle.wait_event.specs.Waits.{IsUnset, head_of_wait, wait_left_by, has_queued_in}
use Rattle.wait_event.specs.declared.wait_events.WaitEnd.TheVariants as wait_end
use Rattle.wait_model.specs.declared.steps.Step.TheVariants as step
use Rattle.wait_model.specs.declared.watches.Watch.TheVariants as watch
use Rattle.wait_rule.specs.{Ends.WasWorn, Known.Known, Transitions.call_program}
use Rattle.wait_rule.specs.Stays.{Change, only, unchanged}
use Rattle.wait_class.specs.Posts.{Runs, EndsWith, own_of}
use Rattle.wait_event.specs.declared.waits.WaitOutcome.TheVariants as outcome

-- A wait leaves a task as it was but for the head whose lock it took last: RUNNING, with no lock, owing what it owed.
-- It loads words of entries, and its own entry is off at its end.
abbrev pub wait_change : ℕ → ℕ → Change
wait_change i h = record unchanged { but = only i; looks = true; at = λ _. h }

-- the task went through the call of a wait for this watch, and whether it queued its entry
pub record HasWaitedFor (old new : Known) (w : Watch) (how : How) (from to : Next) (queued : Bool) : Type 0 where
  pub runs : Runs (call_program old.view.number 0 (call_for w how)) old new from to
  pub tells : queued ≡ has_queued_in runs.transitions

-- The last steps of a wait that was signalled: in its last hold the look at the own word showed a signal that the state
-- admits, and the own entry was taken off, or was off, and the head given back; then the load of the condition found
-- `seen`, and it was not set. `selected` is that the hold found the entry off that the call had queued.
pub record WasSignalled (k : Known) (w : Watch) (how : How) (seen : ℕ) (selected queued : Bool) : Type 0 where
  pub look : ℕ
  pub entry : ℕ
  pub showed : pending (state_mask how.state) (task_of look) ≡ true
  pub ends : EndsWith k (wait_left_by (own_of k) (head_of w) look entry ++ step.Load w seen ∷ [])
  pub unset : IsUnset w seen
  pub selects : selected ≡ (queued && not (is_some (entry_of entry)))

-- The last steps of a wait that found no place: its hold noted it, and gave the head back; then the load of the
-- condition found that it was not set.
pub record FoundNoPlace (k : Known) (w : Watch) (h place : ℕ) : Type 0 where
  pub head : h ≡ head_of w
  pub noted : WasWorn k.view.number k.view.items h place
  pub seen : ℕ
  pub ends : EndsWith k (step.Unlock h false ∷ step.Load w seen ∷ [])
  pub unset : IsUnset w seen

-- the answer of a wait that has ended
abbrev pub wait_end_in : WaitCall → WaitOutcome → Result (Unit {0}) WaitEnd
wait_end_in r outcome.Over = Ok tt
wait_end_in r (outcome.Signalled found) = Err (wait_end.Signal r.seen (r.queued && not found))
wait_end_in r outcome.Worn = Err (wait_end.Worn (head_of_wait r) r.place)

-- the answer of the call, and the cause of one that the watch was not set
abbrev pub answer_of_end : Result (Unit {0}) WaitEnd → Answer
answer_of_end (Ok u) = zero_answer
answer_of_end (Err (wait_end.Signal seen selected)) = signalled
answer_of_end (Err (wait_end.Worn h place)) = answer.Worn

abbrev pub IsEndCause : Known → Watch → How → Bool → WaitEnd → Type 0
IsEndCause k w how queued (wait_end.Signal seen selected) = WasSignalled k w how seen selected queued
IsEndCause k w how queued (wait_end.Worn h place) = FoundNoPlace k w h place

abbrev pub IsCondWaitCause : Known → ℕ → How → Bool → Result (Unit {0}) WaitEnd → Type 0
IsCondWaitCause k c how queued (Ok u) = Unit {0}
IsCondWaitCause k c how queued (Err e) = IsEndCause k (watch.Plain c) how queued e

-- The task went through the whole call, and the answer is that of its program, with its cause.
pub record EndsWait (old new : Known) (c : ℕ) (how : How) (result : Result (Unit {0}) WaitEnd) : Type 0 where
  pub queued : Bool
  pub waited : HasWaitedFor old new (watch.Plain c) how (next.Go at.First) (next.Ends (answer_of_end result)) queued
  pub cause : IsCondWaitCause new c how queued result

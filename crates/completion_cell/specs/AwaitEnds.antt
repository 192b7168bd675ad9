-- To be believed.
-- What whole waits for completions say.
use Rattle.std.specs.Prelude.{ℕ, ◌≡◌, ◌&&◌, not, Bool, true, false, is_some, Some, Result, Ok, Err}
use Rattle.wait_model.specs.{declared.calls.Answer.Answer, declared.tasks.SleepState.SleepState, Programs.zero_answer}
use Rattle.wait_model.specs.{Programs.signalled, Watches.head_of, Words.entry_of}
use Rattle.wait_model.specs.Tasks.{pending, state_mask, task_of}
use Rattle.wait_model.specs.declared.calls.Answer.TheVariants as answer
use Rattle.wait_model.specs.declared.calls.Call.TheVariants as calls
use Rattle.wait_model.specs.declared.points.AwaitPoint.TheVariants as awaiting
use Rattle.wait_model.specs.declared.points.Next.TheVariants as next
use Rattle.wait_model.specs.declared.points.Point.TheVariants as at
use Rattle.wait_model.specs.declared.watches.Watch.TheVariants as watch
use Rattle.wait_rule.specs.{Ends.WasWorn, HeldValues.count_in, Known.Known, Says.history_of, Transitions.call_program}
use Rattle.wait_event.specs.{declared.wait_events.WaitEnd.WaitEnd, Waits.has_queued_in}
use Rattle.wait_event.specs.declared.wait_events.WaitEnd.TheVariants as wait_end
use Rattle.wait_class.specs.Posts.{Runs, EndsWith, own_of}
use Rattle.completion_cell.specs.{Awaits.await_head, Awaits.await_left_by, declared.awaits.AwaitOutcome.AwaitOutcome}
use Rattle.completion_cell.specs.{declared.awaits.AwaitCall.AwaitCall, LoadedCounts.AreInRange}
use Rattle.completion_cell.specs.declared.awaits.AwaitOutcome.TheVariants as outcome

-- the task went through the whole call, whether it queued its entry, and that the counts that it loaded have 32 bits
pub record HasAwaited (old new : Known) (d : ℕ) (st : SleepState) (a : Answer) (queued : Bool) : Type 0 where
  pub runs : Runs (call_program old.view.number 0 (calls.WaitFor d st)) old new
      (next.Go (at.Await (awaiting.Lock false))) (next.Ends a)
  pub tells : queued ≡ has_queued_in runs.transitions
  pub ranged : AreInRange runs.transitions

-- A wait that was signalled: its last hold loaded the count as 0, which is `seen`, and the look at the own word showed
-- a signal that the state admits. `selected` is that the hold found the entry off that the call had queued.
pub record IsSignalled (k : Known) (d : ℕ) (st : SleepState) (seen : ℕ) (selected queued : Bool) : Type 0 where
  pub look : ℕ
  pub entry : ℕ
  pub showed : pending (state_mask st) (task_of look) ≡ true
  pub ends : EndsWith k (await_left_by d (own_of k) look entry)
  pub unset : seen ≡ 0
  pub selects : selected ≡ (queued && not (is_some (entry_of entry)))

-- A wait that found no place: its last hold noted it, and had loaded the count as 0.
pub record IsWorn (k : Known) (d h place : ℕ) : Type 0 where
  pub head : h ≡ head_of (watch.Done d)
  pub noted : WasWorn k.view.number k.view.items h place
  pub zero : count_in d (history_of k) ≡ Some 0

-- the answer of a wait that has ended
abbrev pub await_end_in : AwaitCall → AwaitOutcome → Result (Unit {0}) WaitEnd
await_end_in r outcome.Over = Ok tt
await_end_in r (outcome.Signalled found) = Err (wait_end.Signal 0 (r.queued && not found))
await_end_in r outcome.Worn = Err (wait_end.Worn (await_head r) r.place)

-- the answer of the call, and its cause
abbrev pub answer_of_await : Result (Unit {0}) WaitEnd → Answer
answer_of_await (Ok u) = zero_answer
answer_of_await (Err (wait_end.Signal seen selected)) = signalled
answer_of_await (Err (wait_end.Worn h place)) = answer.Worn

abbrev pub IsAwaitCause : Known → ℕ → SleepState → Bool → Result (Unit {0}) WaitEnd → Type 0
IsAwaitCause k d st queued (Ok u) = Unit {0}
IsAwaitCause k d st queued (Err (wait_end.Signal seen selected)) = IsSignalled k d st seen selected queued
IsAwaitCause k d st queued (Err (wait_end.Worn h place)) = IsWorn k d h place

-- The task went through the whole call, and the answer is that of its program, with its cause.
pub record EndsAwait (old new : Known) (d : ℕ) (st : SleepState) (result : Result (Unit {0}) WaitEnd) : Type 0 where
  pub queued : Bool
  pub awaited : HasAwaited old new d st (answer_of_await result) queued
  pub cause : IsAwaitCause new d st queued result

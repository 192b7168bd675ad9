-- To be believed.
-- What whole waits to take a bit say.
use Rattle.std.specs.Prelude.{ℕ, ◌≡◌, Bool, true, false, Result, Ok, Err, List, [], ◌∷◌, ◌++◌}
use Rattle.wait_model.specs.declared.calls.Call.TheVariants as calls
use Rattle.wait_model.specs.{declared.tasks.SleepState.SleepState, declared.steps.Step.Step, Watches.head_of}
use Rattle.wait_model.specs.Words.{bit_at}
use Rattle.wait_model.specs.Tasks.{pending, state_mask, task_of}
use Rattle.wait_model.specs.declared.points.BitPoint.TheVariants as biting
use Rattle.wait_model.specs.declared.points.Next.TheVariants as next
use Rattle.wait_model.specs.declared.points.Point.TheVariants as at
use Rattle.wait_model.specs.declared.steps.Step.TheVariants as step
use Rattle.wait_model.specs.declared.watches.Watch.TheVariants as watch
use Rattle.wait_rule.specs.{Ends.WasWorn, Known.Known, Says.history_of, Transitions.call_program}
use Rattle.wait_class.specs.{Posts.Runs, Posts.EndsWith, Tables.has_sleep}
use Rattle.bit_wait.specs.{BitEnds.answer_of_bit_end, declared.wait_calls.BitEnd.BitEnd}
use Rattle.bit_wait.specs.{declared.lock_runs.LockOutcome.LockOutcome, declared.lock_runs.LockBit.LockBit}
pub use Rattle.wait_class.specs.Wholes.{HasRested}
use Rattle.bit_wait.specs.declared.wait_calls.BitEnd.TheVariants as bit_end
use Rattle.bit_wait.specs.declared.lock_runs.LockOutcome.TheVariants as outcome

-- the answer of a wait that has ended
abbrev pub lock_end_in : LockBit → LockOutcome → Result (Unit {0}) BitEnd
lock_end_in r outcome.Over = Ok tt
lock_end_in r outcome.Interrupted = Err (bit_end.Interrupted r.seen)
lock_end_in r outcome.Worn = Err (bit_end.Worn (head_of (watch.Bit r.word r.bit)) r.place)

-- The last turn of a wait that a signal ended: the task slept, and then its own word showed a signal that the state
-- admits. It has not slept since; and last of all the test-and-set found `seen`, with the bit set.
pub record WasLockInterrupted (k : Known) (w b : ℕ) (st : SleepState) (seen : ℕ) : Type 0 where
  pub before : List Step
  pub sleep : ℕ
  pub look : ℕ
  pub more : List Step
  pub ends : history_of k ≡ before ++ (step.Sleep sleep ∷ step.Look look ∷ more)
  pub pends : pending (state_mask st) (task_of look) ≡ true
  pub awake : has_sleep more ≡ false
  pub last : EndsWith k (step.Consume (watch.Bit w b) 1 seen ∷ [])
  pub set : bit_at seen b ≡ true

-- The last step of a wait that was asked to leave: the test-and-set found `seen`, with the bit set.
pub record WasLeft (k : Known) (w b : ℕ) (seen : ℕ) : Type 0 where
  pub last : EndsWith k (step.Consume (watch.Bit w b) 1 seen ∷ [])
  pub set : bit_at seen b ≡ true

-- The last steps of a wait that found no place: its hold noted it, and gave the head back; then the test-and-set found
-- the bit set.
pub record FoundNoPlaceForLock (k : Known) (w b h place : ℕ) : Type 0 where
  pub head : h ≡ head_of (watch.Bit w b)
  pub noted : WasWorn k.view.number k.view.items h place
  pub found : ℕ
  pub ends : EndsWith k (step.Unlock h false ∷ step.Consume (watch.Bit w b) 1 found ∷ [])
  pub set : bit_at found b ≡ true

abbrev pub IsLockCause : Known → ℕ → ℕ → SleepState → Result (Unit {0}) BitEnd → Type 0
IsLockCause k w b st (Ok u) = Unit {0}
IsLockCause k w b st (Err (bit_end.Interrupted seen)) = WasLockInterrupted k w b st seen
IsLockCause k w b st (Err (bit_end.Worn h place)) = FoundNoPlaceForLock k w b h place

-- The last hold of a wait found no place, noted it and gave the head back; then the test-and-set found the bit clear.
pub record TookBehindWorn (k : Known) (w b : ℕ) : Type 0 where
  pub place : ℕ
  pub noted : WasWorn k.view.number k.view.items (head_of (watch.Bit w b)) place
  pub found : ℕ
  pub ends : EndsWith k (step.Unlock (head_of (watch.Bit w b)) false ∷ step.Consume (watch.Bit w b) 1 found ∷ [])
  pub clear : bit_at found b ≡ false

-- Which answers come behind a hold that found no place: Worn, and Ok where the last test-and-set took the bit even so.
abbrev pub ComesBehindWorn : Known → ℕ → ℕ → Result (Unit {0}) BitEnd → Bool → Type 0
ComesBehindWorn k w b (Ok u) true = TookBehindWorn k w b
ComesBehindWorn k w b (Ok u) false = Unit {0}
ComesBehindWorn k w b (Err (bit_end.Interrupted seen)) worn = worn ≡ false
ComesBehindWorn k w b (Err (bit_end.Worn h place)) worn = worn ≡ true

-- whether the call took the bit
abbrev pub has_taken_lock : Result (Unit {0}) BitEnd → Bool
has_taken_lock (Ok u) = true
has_taken_lock (Err e) = false

-- The task went through the whole call, and the answer is that of its program, with its cause. Where its last hold
-- found no place, and only there, it then stored RUNNING, since it may still have been in the state in which it would
-- have slept.
pub record EndsBitLock (old new : Known) (w b : ℕ) (st : SleepState) (result : Result (Unit {0}) BitEnd) :
    Type 0 where
  pub ended : Known
  pub runs : Runs (call_program old.view.number 0 (calls.LockBit w b st)) old ended (next.Go (at.Bit biting.First))
      (next.Ends (answer_of_bit_end result))
  pub cause : IsLockCause ended w b st result
  pub worn : Bool
  pub behind : ComesBehindWorn ended w b result worn
  pub rests : HasRested ended new worn

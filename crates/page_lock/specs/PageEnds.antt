-- To be believed.
-- What whole waits for a page say.
use Rattle.std.specs.Prelude.{ℕ, ◌≡◌, ◌⊎◌, ◌&&◌, Bool, true, false, None, Result, Ok, Err, List, [], ◌∷◌, ◌++◌}
use Rattle.wait_model.specs.declared.calls.Call.TheVariants as calls
use Rattle.wait_model.specs.{declared.tasks.SleepState.SleepState, declared.steps.Step.Step}
use Rattle.wait_model.specs.{declared.watches.Entry.Entry, Watches.head_of, Watches.page, Words.bit_at, Words.flag_of}
use Rattle.wait_model.specs.Tasks.{pending, state_mask, task_of}
use Rattle.wait_model.specs.declared.points.PagePoint.TheVariants as paging
use Rattle.wait_model.specs.declared.points.Next.TheVariants as next
use Rattle.wait_model.specs.declared.points.Point.TheVariants as at
use Rattle.wait_model.specs.declared.steps.Step.TheVariants as step
use Rattle.wait_rule.specs.{Ends.WasWorn, Known.Known, Says.history_of, Transitions.call_program}
use Rattle.wait_class.specs.Posts.{EndsWith, Runs, own_of as own_in}
use Rattle.wait_class.specs.Tables.{has_sleep}
use Rattle.bit_wait.specs.{BitEnds.answer_of_bit_end, declared.wait_calls.BitEnd.BitEnd}
use Rattle.bit_wait.specs.declared.wait_calls.BitEnd.TheVariants as bit_end
use Rattle.page_lock.specs.{declared.waits.PageOutcome.PageOutcome, declared.waits.LockPage.LockPage}
use Rattle.page_lock.specs.declared.waits.PageOutcome.TheVariants as outcome

-- the answer of a wait that has ended
abbrev pub page_end_in : LockPage → PageOutcome → Result (Unit {0}) BitEnd
page_end_in r outcome.Over = Ok tt
page_end_in r outcome.Interrupted = Err (bit_end.Interrupted r.seen)
page_end_in r outcome.Worn = Err (bit_end.Worn (head_of (page r.page)) r.place)

-- steps that try no bit, queue no entry and clear no flag
abbrev pub is_calm : Step → Bool
is_calm (step.Queue x e) = false
is_calm (step.Consume c n r) = false
is_calm (step.Unflag x o) = false
is_calm _ = true

abbrev pub are_calm : List Step → Bool
are_calm [] = true
are_calm (e ∷ es) = is_calm e && are_calm es

-- The steps of a wait that a signal ended. As soon as its entry was queued, in the same hold, the test-and-set found
-- `seen`, with the page set, and the task made no further one. After that its own word showed a signal that the state
-- admits, and it has not slept since. Last of all its flag read no.
pub record WasPageInterrupted (k : Known) (p : ℕ) (st : SleepState) (seen : ℕ) : Type 0 where
  pub before : List Step
  pub entry : Entry
  pub more : List Step
  pub tried : history_of k ≡ before ++ (step.Queue (own_in k) entry ∷ step.Consume (page p) 1 seen ∷ more)
  pub set : bit_at seen 0 ≡ true
  pub calm : are_calm more ≡ true
  pub front : List Step
  pub look : ℕ
  pub later : List Step
  pub looked : more ≡ front ++ (step.Look look ∷ later)
  pub pends : pending (state_mask st) (task_of look) ≡ true
  pub awake : has_sleep later ≡ false
  pub flag : ℕ
  pub last : EndsWith k (step.Flag (own_in k) flag ∷ [])
  pub unset : flag_of flag ≡ false

-- The last steps of a wait that was asked to leave before its entry was queued: the test-and-set found `seen`, with the
-- page set, and behind it the task did no more than clear its flag.
pub record LeftUnqueued (k : Known) (p seen : ℕ) : Type 0 where
  pub more : List Step
  pub tried : EndsWith k (step.Consume (page p) 1 seen ∷ more)
  pub clears : (more ≡ []) ⊎ (more ≡ step.Unflag (own_in k) None ∷ [])
  pub set : bit_at seen 0 ≡ true

-- And of one that was asked behind that. As soon as its entry was queued, in the same hold, the test-and-set found
-- `seen`, with the page set, and the task made no further one. Last of all its flag read no.
pub record LeftQueued (k : Known) (p seen : ℕ) : Type 0 where
  pub before : List Step
  pub entry : Entry
  pub more : List Step
  pub tried : history_of k ≡ before ++ (step.Queue (own_in k) entry ∷ step.Consume (page p) 1 seen ∷ more)
  pub set : bit_at seen 0 ≡ true
  pub calm : are_calm more ≡ true
  pub flag : ℕ
  pub last : EndsWith k (step.Flag (own_in k) flag ∷ [])
  pub unset : flag_of flag ≡ false

abbrev pub WasPageLeft : Known → ℕ → ℕ → Type 0
WasPageLeft k p seen = LeftUnqueued k p seen ⊎ LeftQueued k p seen

-- The last steps of a wait that found no place: its hold noted it, and gave the head back; then the test-and-set found
-- the page set.
pub record FoundNoPlaceForPage (k : Known) (p h place : ℕ) : Type 0 where
  pub head : h ≡ head_of (page p)
  pub noted : WasWorn k.view.number k.view.items h place
  pub found : ℕ
  pub ends : EndsWith k (step.Unlock h false ∷ step.Consume (page p) 1 found ∷ [])
  pub set : bit_at found 0 ≡ true

abbrev pub IsPageCause : Known → ℕ → SleepState → Result (Unit {0}) BitEnd → Type 0
IsPageCause k p st (Ok u) = Unit {0}
IsPageCause k p st (Err (bit_end.Interrupted seen)) = WasPageInterrupted k p st seen
IsPageCause k p st (Err (bit_end.Worn h place)) = FoundNoPlaceForPage k p h place

-- whether the call took the page
abbrev pub has_taken_page : Result (Unit {0}) BitEnd → Bool
has_taken_page (Ok u) = true
has_taken_page (Err e) = false

-- The task went through the whole call, and the answer is that of its program, with its cause.
pub record EndsPageLock (old new : Known) (p : ℕ) (st : SleepState) (result : Result (Unit {0}) BitEnd) :
    Type 0 where
  pub runs : Runs (call_program old.view.number 0 (calls.LockPage p st)) old new (next.Go (at.Page paging.First))
      (next.Ends (answer_of_bit_end result))
  pub cause : IsPageCause new p st result

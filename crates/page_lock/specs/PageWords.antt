-- To be believed.
-- Whole calls on pages as lists of events: what each makes follows its sentence, and a wait that answers for a signal
-- has found one in its last turn.
use Rattle.std.specs.Prelude.{ℕ, ◌≡◌, false, Result, Err, List, [], ◌∷◌}
use Rattle.wait_model.specs.declared.calls.Call.TheVariants as calls
use Rattle.wait_model.specs.{declared.calls.Event.Event, declared.tasks.SleepState.SleepState, Selections.IsPageBroken}
use Rattle.wait_model.specs.{Sentences.Follows, Watches.head_of, Watches.page}
use Rattle.wait_model.specs.declared.calls.Event.TheVariants as event
use Rattle.wait_rule.specs.{Heeding.trail_of, Known.Known, Says.MeetsLaw}
use Rattle.wait_class.specs.Posts.{IsOut}
use Rattle.wait_event.specs.Words.{call_says}
use Rattle.bit_wait.specs.{BitEnds.answer_of_bit_end, declared.wait_calls.BitEnd.BitEnd}
use Rattle.bit_wait.specs.declared.wait_calls.BitEnd.TheVariants as bit_end
use Rattle.page_lock.specs.PageEnds.{EndsPageLock}

-- A wait for a page, whatever it answers; a load of the base word after it (`Task::witness`) shows the table that is
-- asked for.
abbrev pub PageLocksFollow : Type 0
PageLocksFollow = (old new : Known) (p : ℕ) (st : SleepState) (result : Result (Unit {0}) BitEnd) → MeetsLaw new.view
    → IsOut old → (e : EndsPageLock old new p st result) → Follows old.view.number (calls.LockPage p st)
    (call_says old.view.number (calls.LockPage p st) e.runs.transitions) (answer_of_bit_end result)

-- The latest event is a load of the flag, which found it not set. Before it are the events of a finish, and before these
-- those of a wait for the page that a signal ended: in its last turn it found its flag not set, and an admissible signal
-- (`IsPageBroken`, by which the same is said of each core).
pub record EndsPageGivenUp (p : ℕ) (trail : List Event) : Type 0 where
  pub earlier : List Event
  pub last : trail ≡ event.Flag false ∷ earlier
  pub turn : IsPageBroken (head_of (page p)) p earlier

-- a wait that answers for a signal ends so
abbrev pub PageLocksHeed : Type 0
PageLocksHeed = (old new : Known) (p : ℕ) (st : SleepState) (seen : ℕ)
    (e : EndsPageLock old new p st (Err (bit_end.Interrupted seen)))
    → EndsPageGivenUp p (trail_of [] (call_says old.view.number (calls.LockPage p st) e.runs.transitions))

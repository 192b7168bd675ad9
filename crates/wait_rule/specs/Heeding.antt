-- To be believed.
-- What a wait that answers for a signal has found: the law on signals, by its events.
use Rattle.std.specs.Prelude.{ℕ, ◌≡◌, Bool, true, false, List, [], ◌∷◌}
use Rattle.wait_model.specs.{declared.calls.Call.Call, declared.calls.Event.Event, Watches.misses, Programs.signalled}
use Rattle.wait_model.specs.{Selections.IsSignalledTurn, Sentences.Follows}
use Rattle.wait_model.specs.Points.{call_watch, call_number, call_head}
use Rattle.wait_model.specs.declared.calls.Call.TheVariants as calls
use Rattle.wait_model.specs.declared.calls.Event.TheVariants as event
use Rattle.wait_rule.specs.{Known.Known, SaidEvents.HasMade, SaidEvents.call_said}

-- The trail of a list of events: the latest first, before those of an older trail.
abbrev pub trail_of : List Event → List Event → List Event
trail_of older [] = older
trail_of older (e ∷ w) = trail_of (e ∷ older) w

-- The latest event is a load of the call's condition, which found it not set. Before it the latest events are those of
-- a turn that a signal ended: it took the head's lock, found an admissible signal, left its entry off, and gave the
-- lock back (`IsSignalledTurn`, by which the same is said of each core).
pub record EndsSignalled (me : ℕ) (call : Call) (trail : List Event) : Type 0 where
  pub value : ℕ
  pub earlier : List Event
  pub load : trail ≡ event.Load (call_number call) value ∷ earlier
  pub turn : IsSignalledTurn me (call_head call) earlier
  pub unset : misses (call_watch call) value ≡ true

-- the waits in turns, for plain conditions and variables
abbrev pub is_turning : Call → Bool
is_turning (calls.Wait c how) = true
is_turning (calls.SimpleWait c st) = true
is_turning (calls.WaitVar v old st) = true
is_turning _ = false

-- whatever follows the sentence of such a wait and answers for a signal ends so
abbrev pub WordsHeed : Type 0
WordsHeed = (me : ℕ) (call : Call) (w : List Event) → is_turning call ≡ true → Follows me call w signalled
    → EndsSignalled me call (trail_of [] w)

-- and so does whatever a task of a Domain makes of it
abbrev pub RunsHeed : Type 0
RunsHeed = (call : Call) (slot : ℕ) (old new : Known) → is_turning call ≡ true
    → (m : HasMade call slot old new signalled)
    → EndsSignalled old.view.number call (trail_of [] (call_said call slot old new signalled m))

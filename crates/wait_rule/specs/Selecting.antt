-- To be believed.
-- What the answer of a walk tells of whom it woke and selected: the law on selections, by its events.
use Rattle.std.specs.Prelude.{ℕ, ◌≡◌, ◌+◌, ◌<◌, ◌≤◌, Bool, true, false, if◌then◌else◌, Option, Some, None, List, []}
use Rattle.std.specs.Prelude.{◌∷◌}
use Rattle.wait_model.specs.declared.calls.Call.TheVariants as calls
use Rattle.wait_model.specs.{declared.calls.Event.Event, declared.points.Point.Point}
use Rattle.wait_model.specs.{declared.points.WalkPoint.WalkPoint, declared.points.Next.Next, declared.points.Seen.Seen}
use Rattle.wait_model.specs.{declared.queues.CalledEntry.CalledEntry, declared.queues.Walked.Walked}
use Rattle.wait_model.specs.{declared.watches.Aim.Aim, declared.watches.Mode.Mode, Programs.walk_event}
use Rattle.wait_model.specs.Sentences.{Follows}
use Rattle.wait_model.specs.declared.calls.Event.TheVariants as event
use Rattle.wait_model.specs.declared.calls.Answer.TheVariants as answer
use Rattle.wait_model.specs.declared.points.Point.TheVariants as at
use Rattle.wait_model.specs.declared.points.WalkPoint.TheVariants as walking
use Rattle.wait_model.specs.declared.points.PageStage.TheVariants as staging
use Rattle.wait_model.specs.declared.points.Next.TheVariants as next
use Rattle.wait_model.specs.declared.queues.End.TheVariants as end_as
use Rattle.wait_rule.specs.{Known.Known, SaidEvents.HasWalked, SaidEvents.said, Transitions.Transition}
use Rattle.wait_rule.specs.Transitions.{walk_program}

-- How many functions of entries answered yes, by the events of a walk: those whose wakes met their tasks, and those of
-- pages that told their tasks, whatever the wake after that answered. `told` is that the last event told a task.
abbrev pub yes_by : Bool → Event → ℕ
yes_by told (event.Handed who) = 1
yes_by true (event.Wake who hit) = 0
yes_by false (event.Wake who true) = 1
yes_by _ _ = 0

abbrev pub tells_page : Event → Bool
tells_page (event.Handed who) = true
tells_page _ = false

abbrev pub yes_from : Bool → List Event → ℕ
yes_from told [] = 0
yes_from told (e ∷ w) = yes_by told e + yes_from (tells_page e) w

abbrev pub yes_in : List Event → ℕ
yes_in w = yes_from false w

-- A walk of which so many functions answered yes answers that number. Those that it selected are among them, and of a
-- count above 0 not more than the count; it ended as spent exactly where they were as many as such a count.
pub record IsTallied (count yes : ℕ) (k : Walked) : Type 0 where
  pub tells : k.woken ≡ yes
  pub among : k.selected ≤ k.woken
  pub at_most : 0 < count → k.selected ≤ count
  pub spent : k.end ≡ end_as.Spent → (0 < count) × (k.selected ≡ count)
  pub used : 0 < count → k.selected ≡ count → k.end ≡ end_as.Spent

-- so does whatever follows the sentence of a wake
abbrev pub WordsSelect : Type 0
WordsSelect = (me c n : ℕ) (mode : Mode) (w : List Event) (k : Walked)
    → Follows me (calls.Wake c mode n) w (answer.Walk k) → IsTallied n (yes_in w) k

-- and whatever a task of a Domain makes of a walk, of any watch
abbrev pub RunsSelect : Type 0
RunsSelect = (aim : Aim) (old new : Known) (k : Walked) (m : HasWalked aim old new (answer.Walk k))
    → IsTallied aim.count (yes_in (said (walk_program aim) (next.Go (at.Walk walking.Lock)) m.transitions)) k

-- whether a walk calls an exclusive entry at this point, by what it finds there
abbrev pub is_exclusive_called : Option CalledEntry → Bool
is_exclusive_called None = false
is_exclusive_called (Some c) = c.exclusive

abbrev pub calls_exclusive : WalkPoint → Seen → Bool
calls_exclusive (walking.Call w) seen = is_exclusive_called seen.called
calls_exclusive (walking.Wake w c) seen = c.exclusive
calls_exclusive (walking.Bit w c) seen = c.exclusive
calls_exclusive (walking.Page staging.Off w c) seen = c.exclusive
calls_exclusive _ seen = false

-- One where the transition's event is a wake that met its task, and the entry called there is exclusive. An entry for a
-- page is selected as it is taken off, whatever its wake answered.
abbrev pub chosen_by : WalkPoint → Event → ℕ
chosen_by (walking.Page st w c) e = 1
chosen_by p e = yes_by false e

abbrev pub selects_at : Aim → Point → Seen → ℕ
selects_at aim (at.Walk p) seen = if calls_exclusive p seen then chosen_by p (walk_event aim p seen).event else 0
selects_at aim p seen = 0

abbrev pub selects_in : Aim → Next → List Transition → ℕ
selects_in aim (next.Go p) (t ∷ ts) = selects_at aim p t.seen
    + selects_in aim ((walk_program aim).plan p t.seen).next ts
selects_in aim n ts = 0

-- A walk's answer tells how many exclusive entries it called whose wakes met their tasks, and how many for pages it
-- took off. What it called there is the entry that the queue of its hold has where the walk goes on (`FindsNext`).
abbrev pub RunsTell : Type 0
RunsTell = (aim : Aim) (old new : Known) (k : Walked) (m : HasWalked aim old new (answer.Walk k))
    → k.selected ≡ selects_in aim (next.Go (at.Walk walking.Lock)) m.transitions

-- To be believed.
-- In every run, what a task has made since it opened the call that it ends follows the sentence of the call, and the
-- answer is the one that the sentence gives. What it has made of an open call begins the sentence.
use Rattle.std.specs.Prelude.{ℕ, ◌≡◌, ◌≤◌, ◌==◌, if◌then◌else◌, List, [], ◌∷◌, ◌++◌}
use Rattle.wait_model.specs.{declared.layout.TheConstants.EVENTS, declared.calls.Call.Call, declared.calls.Event.Event}
use Rattle.wait_model.specs.{declared.calls.Answer.Answer, declared.calls.Ran.Ran, declared.points.Point.Point}
use Rattle.wait_model.specs.{Sentences.Follows, Sentences.Begins}
use Rattle.wait_model.specs.Runs.{planned, state_of, IsItem, IsRun, made_in}
use Rattle.wait_model.specs.declared.calls.Ran.TheVariants as ran
use Rattle.wait_model.specs.declared.points.Progress.TheVariants as now
use Rattle.wait_model.specs.declared.points.Next.TheVariants as next

-- the events that a task has made since it last opened a call, oldest first
abbrev pub said_by : ℕ → List Event → Ran → List Event
said_by t said (ran.Opened me call) = if t == me then [] else said
said_by t said (ran.Made me e found) = if t == me then said ++ e ∷ [] else said

abbrev pub said_after : ℕ → List Event → List Ran → List Event
said_after t said [] = said
said_after t said (item ∷ items) = said_after t (said_by t said item) items

abbrev pub said_in : List Ran → ℕ → List Event
said_in run t = said_after t [] run

-- the item, which the run allows next, ends the call with this answer
pub record IsLastEvent (run : List Ran) (me : ℕ) (call : Call) (e : Event) (found : ℕ) (a : Answer) : Type 0 where
  pub item : IsItem (state_of run) (ran.Made me e found)
  pub point : Point
  pub open_at : (state_of run).progress me ≡ now.Open call point
  pub over : (planned (state_of run) me call point).next ≡ next.Ends a

abbrev pub CallsFollowSentences : Type 0
CallsFollowSentences = (run : List Ran) (me : ℕ) (call : Call) (e : Event) (found : ℕ) (a : Answer) → IsRun run
    → made_in run ≤ EVENTS → IsLastEvent run me call e found a
    → Follows me call (said_in (run ++ ran.Made me e found ∷ []) me) a

-- what a task has made of its open call follows the sentence as far as it goes
abbrev pub BeginsOpen : List Ran → ℕ → Type 0
BeginsOpen run me = (call : Call) (p : Point) → (state_of run).progress me ≡ now.Open call p
    → Begins me call (said_in run me)

abbrev pub OpenCallsBegin : Type 0
OpenCallsBegin = (run : List Ran) (me : ℕ) → IsRun run → made_in run ≤ EVENTS → BeginsOpen run me

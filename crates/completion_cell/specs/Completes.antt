-- To be believed.
-- What the calls say that make a completion done.
use Rattle.std.specs.Prelude.{ℕ, ◌≡◌, ◌==◌, not, Bool}
use Rattle.wait_model.specs.{declared.layout.TheConstants.ALL_DONE, Programs.zero_answer}
use Rattle.wait_model.specs.declared.calls.Call.TheVariants as calls
use Rattle.wait_model.specs.declared.points.Point.TheVariants as at
use Rattle.wait_model.specs.declared.points.SelectPoint.TheVariants as selecting
use Rattle.wait_rule.specs.Known.{Known}
use Rattle.completion_cell.specs.Asks.{HasMadeCall}

-- the task went through the whole call
abbrev pub HasCompleted : Known → Known → ℕ → Type 0
HasCompleted old new d = HasMadeCall old new (calls.Complete d) (at.Select selecting.Lock) zero_answer

abbrev pub HasCompletedAll : Known → Known → ℕ → Type 0
HasCompletedAll old new d = HasMadeCall old new (calls.CompleteAll d) (at.Select selecting.Lock) zero_answer

-- a count that is not at its end is raised by one
abbrev pub RaisesOne : ℕ → Bool → Type 0
RaisesOne n raised = raised ≡ not (n == ALL_DONE)

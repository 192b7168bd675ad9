-- To be believed.
-- What a task has made of its open call, and of the call that a step ends.
use Rattle.std.specs.Prelude.{ℕ, ◌≡◌, List, [], ◌∷◌, ◌++◌}
use Rattle.std.specs.declared.option.Option.TheVariants.{Some}
use Rattle.wait_model.specs.{declared.calls.Call.Call, declared.calls.Event.Event, declared.calls.Answer.Answer}
use Rattle.wait_model.specs.{declared.calls.Ran.Ran, declared.points.Point.Point, Runs.state_of, Runs.found_by}
use Rattle.wait_model.specs.{Sentences.Follows, Spoken.said_in}
use Rattle.wait_model.specs.declared.calls.Ran.TheVariants as ran
use Rattle.wait_model.specs.declared.points.Progress.TheVariants as now
use Rattle.wait_core.specs.declared.engine.Stepped.{Stepped}
use Rattle.wait_core.specs.declared.engine.Stepped.TheVariants as answers

-- a step that ends a call: what its task has made since the opening follows the sentence, with the answer
abbrev pub EndsSentence : List Ran → ℕ → Stepped → Type 0
EndsSentence run me result = (call : Call) (p : Point) (e : Event) (a : Answer)
    → (state_of run).progress me ≡ now.Open call p → result ≡ answers.Made e (Some a)
    → Follows me call (said_in (run ++ ran.Made me e (found_by (state_of run) me e) ∷ []) me) a

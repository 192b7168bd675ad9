-- To be believed.
-- No run meets a head at which no place is left.
use Rattle.std.specs.Prelude.{ℕ, ◌≡◌, ◌≢◌, ◌≤◌, List}
use Rattle.wait_model.specs.{declared.layout.TheConstants.EVENTS, declared.calls.Call.Call, declared.calls.Ran.Ran}
use Rattle.wait_model.specs.declared.points.Point.{Point}
use Rattle.wait_model.specs.Runs.{planned, IsRun, state_of, made_in}
use Rattle.wait_model.specs.declared.calls.Answer.TheVariants as answer
use Rattle.wait_model.specs.declared.points.Point.TheVariants as at
use Rattle.wait_model.specs.declared.points.Next.TheVariants as next
use Rattle.wait_model.specs.declared.points.Progress.TheVariants as now

-- no call stands after a prepare for which no place was left, and none answers `Worn`
abbrev pub NoRunWears : Type 0
NoRunWears = (run : List Ran) → IsRun run → made_in run ≤ EVENTS → (me : ℕ) (call : Call) (p : Point)
    → (state_of run).progress me ≡ now.Open call p
    → (p ≢ at.Worn) × ((planned (state_of run) me call p).next ≢ next.Ends answer.Worn)

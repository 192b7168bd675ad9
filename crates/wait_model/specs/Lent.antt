-- To be believed.
-- A page that a walk took for a task is one that the task's open call locks: none is left with a task that does not
-- wait for it.
use Rattle.std.specs.Prelude.{ℕ, ◌≡◌, ◌≤◌, List, Some}
use Rattle.wait_model.specs.{declared.layout.TheConstants.EVENTS, declared.calls.Ran.Ran}
use Rattle.wait_model.specs.declared.points.Progress.{Progress}
use Rattle.wait_model.specs.Runs.{State, own, IsRun, state_of, made_in}
use Rattle.wait_model.specs.declared.calls.Call.TheVariants as calls
use Rattle.wait_model.specs.declared.points.Progress.TheVariants as now

-- the task has a call open that locks this page
abbrev pub IsLocking : Progress → ℕ → Type 0
IsLocking (now.Open (calls.LockPage p st) at) w = p ≡ w
IsLocking _ w = ⊥

-- a page that was taken for a task, which has not taken note of it yet
abbrev pub NoPageIsLeft : State → Type 0
NoPageIsLeft s = (t w : ℕ) → s.table.taken (own t) ≡ Some w → IsLocking (s.progress t) w

-- in every state that a run reaches, for a million events and less
abbrev pub NoRunLeavesPage : Type 0
NoRunLeavesPage = (run : List Ran) → IsRun run → made_in run ≤ EVENTS → NoPageIsLeft (state_of run)

-- The run of a core leaves nobody asleep whom a setter has published for and woken.
use Rattle.std.proofs.Common.{subst}
use Rattle.std.specs.Prelude.{ℕ, ◌≡◌, ◌≤◌, List}
use Rattle.wait_model.specs.{declared.layout.TheConstants.EVENTS, declared.calls.Ran.Ran}
use Rattle.wait_model.specs.{declared.points.Progress.Progress, Followed.LeavesNobody}
use Rattle.wait_core.specs.Core.{IsCore}
use Rattle.wait_model.proofs.FollowedLaws.FollowedSetters.{setters_leave_nobody}

pub left_by : {words : List ℕ} {points : List Progress} {count capacity : ℕ} (run : List Ran)
    → IsCore words points run count capacity → LeavesNobody run
left_by run core = setters_leave_nobody run core.run (subst (λ (n : ℕ). n ≤ EVENTS) core.made core.few)

pub left_now : {words : List ℕ} {points : List Progress} {count capacity : ℕ} (run now : List Ran)
    → IsCore words points run count capacity → run ≡ now → LeavesNobody now
left_now run now core same = subst LeavesNobody same (left_by run core)

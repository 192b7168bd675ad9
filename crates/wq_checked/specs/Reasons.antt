-- To be believed.
-- When a call is refused, by the call that is under way, the bits that the task keeps, and the numbers of the call.
use Rattle.std.specs.Prelude.{ℕ, ◌≡◌, ◌<◌, ◌≤◌, ◌+◌, Option, Some, None}
use Rattle.wq_checked.specs.{Checked.Checked, declared.calls.Running.Running, declared.reasons.Refused.Refused}
use Rattle.wq_checked.specs.declared.tasks.NoFork.{NoFork}
use Rattle.wq_checked.specs.declared.calls.Running.TheVariants as running
use Rattle.wq_checked.specs.declared.reasons.Refused.TheVariants as reason
use Rattle.wq_checked.specs.declared.tasks.NoFork.TheVariants as no_fork

-- why no call may begin: none where none is under way
abbrev pub busy_reason : Running → Option Refused
busy_reason running.Idle = None
busy_reason running.Starved = Some reason.Starved
busy_reason _ = Some reason.Busy

-- An advance: no call is under way, or a wake was starved.
abbrev pub stopped_reason : Running → Option Refused
stopped_reason running.Idle = Some reason.Nothing
stopped_reason running.Starved = Some reason.Starved
stopped_reason _ = None

-- No further task: no call may begin, or the new task is to have more numbers than are spare; or neither, and no
-- further owner of the Domain is counted, which a value tells that nothing else makes.
abbrev pub IsNoFork : Checked → ℕ → NoFork → Type 0
IsNoFork t share no_fork.Busy = (e : Refused) × (busy_reason t.running ≡ Some e)
IsNoFork t share no_fork.Numbers = (busy_reason t.running ≡ None) × (t.task.view.spare < 1 + share)
IsNoFork t share (no_fork.Owners full) = (busy_reason t.running ≡ None) × (1 + share ≤ t.task.view.spare)

-- What holds of the numbers of every version.
use Rattle.std.proofs.Common.{◌<◌, ◌≤◌, arith}
use Rattle.wait_model.specs.declared.layout.TheConstants.{TASKS}
use Rattle.wait_script.specs.{declared.version.Version.Version, declared.version.Version.TheVariants.One}
use Rattle.wait_script.specs.{declared.version.Version.TheVariants.Two, Fields.last_priority_task, Versions.last_task}
use Rattle.wait_script.specs.Versions.{most_selected}

pub few_tasks : (v : Version) → last_task v < TASKS
few_tasks One = omega arith
few_tasks Two = omega arith

pub few_selected : (v : Version) → most_selected v < TASKS
few_selected One = omega arith
few_selected Two = omega arith

-- each version has the tasks that add with priority
pub first_tasks : (v : Version) → last_priority_task ≤ last_task v
first_tasks One = omega arith
first_tasks Two = omega arith

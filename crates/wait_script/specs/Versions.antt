-- To be believed.
-- The versions of the grammar of scripts: their first lines, and the ranges in which they differ.
use Rattle.std.specs.Prelude.{ℕ, ◌-◌, List, codes}
use Rattle.wait_model.specs.declared.layout.TheConstants.{SCRIPT_SELECTED, SCRIPT_TASKS, TASKS}
use Rattle.wait_script.specs.declared.version.Version.{Version}
use Rattle.wait_script.specs.declared.version.Version.TheVariants.{One, Two}

-- the first line of a script
abbrev pub header_of : Version → List ℕ
header_of One = codes "waitq 1"
header_of Two = codes "waitq 2"

-- the last task of a script
abbrev pub last_task : Version → ℕ
last_task One = SCRIPT_TASKS - 1
last_task Two = TASKS - 1

-- how many exclusive entries a wake may be told to select, at most
abbrev pub most_selected : Version → ℕ
most_selected One = SCRIPT_SELECTED
most_selected Two = TASKS - 1

-- To be believed.
-- What the parts of a core have in common: the words show the state of the stored run.
use Rattle.std.specs.Prelude.{◌≡◌, ℕ, ◌+◌, ◌*◌, ◌<◌, ◌≤◌, List, slice_get, length, sum_by, if◌then◌else◌}
use Rattle.wait_model.specs.{declared.points.Progress.Progress, declared.calls.Ran.Ran, Locations.Shows}
use Rattle.wait_model.specs.declared.layout.TheConstants.{TASKS, MEMBERS, EVENTS, RUN_ITEMS}
use Rattle.wait_model.specs.Runs.{IsRun, state_of, made_in, is_open}
use Rattle.std.specs.declared.option.Option.{Option}
use Rattle.std.specs.declared.option.Option.TheVariants.{Some}
use Rattle.wait_core.specs.{declared.index.RankedMember.RankedMember, Scan.shown_stand, Index.IsIndex}
use Rattle.wait_core.specs.{Keepers.ShowsKeepers, Keepers.ShowsTaken}

-- how many calls are open
abbrev pub one_if_open : Progress → ℕ
one_if_open p = if is_open p then 1 else 0

abbrev pub open_calls : List Progress → ℕ
open_calls points = sum_by one_if_open points

-- every call that ended made an event, so the run has room for each opening
pub record IsCore (words : List ℕ) (points : List Progress) (items : List Ran) (count capacity : ℕ) : Type 0
  where
    pub run : IsRun items
    pub shown : Shows words (state_of items).table
    pub tasks : length points ≡ TASKS
    pub progress : (t : ℕ) → t < TASKS → slice_get points t ≡ Some ((state_of items).progress t)
    pub made : count ≡ made_in items
    pub few : count ≤ EVENTS
    pub room : length items ≤ 2 * count + open_calls points
    pub reserved : RUN_ITEMS ≤ capacity

-- the parts of a core, who keeps each bit, the page that was taken for each task, and the list of the members that
-- stand, with room for them all
pub record IsIndexedCore (words : List ℕ) (points : List Progress) (items : List Ran) (count capacity : ℕ)
    (keepers pages : List (Option ℕ)) (index : List RankedMember) (room : ℕ) : Type 0 where
  pub core : IsCore words points items count capacity
  pub kept : ShowsKeepers keepers (state_of items).table.view
  pub taken : ShowsTaken pages (state_of items).table.taken
  pub indexed : IsIndex (shown_stand words) index
  pub spacious : MEMBERS ≤ room

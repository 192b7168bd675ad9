-- No file before the place has the name.
use Rattle.std.proofs.Common.{◌≡◌, ◌+◌, ◌-◌, ◌≤◌, length, drop}
use Rattle.mem_io.specs.MemFolders.{place_of}
use Rattle.mem_io.proofs.mem_folder.place.Given as goal

abbrev pub invariant-looks : goal.invariant-looks
invariant-looks l = record {
  in_range : l.at ≤ length l.files;
  rest : place_of l.files l.name ≡ l.at + place_of (drop l.at l.files) l.name;
}

abbrev pub decreases-looks : goal.decreases-looks
decreases-looks l = length l.files - l.at

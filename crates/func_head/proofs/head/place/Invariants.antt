-- No entry before the place has the number.
use Rattle.std.proofs.Common.{◌≡◌, ◌+◌, ◌-◌, ◌≤◌, ◌==◌, length, drop}
use Rattle.std.specs.List.{position_or_len}
use Rattle.func_head.proofs.head.place.Given as goal

abbrev pub invariant-looks : goal.invariant-looks
invariant-looks g l = record {
  in_range : l.at ≤ length l.entries;
  rest : position_or_len (λ e. e.id == l.id) l.entries
      ≡ l.at + position_or_len (λ e. e.id == l.id) (drop l.at l.entries);
}

abbrev pub decreases-looks : goal.decreases-looks
decreases-looks g l = length l.entries - l.at

-- Every entry before the place has priority.
use Rattle.std.proofs.Common.{◌≡◌, ◌+◌, ◌-◌, ◌≤◌, length, drop}
use Rattle.std.specs.List.{prefix_len}
use Rattle.func_head.proofs.head.leaders.Given as goal

abbrev pub invariant-looks : goal.invariant-looks
invariant-looks g l = record {
  in_range : l.at ≤ length l.entries;
  rest : prefix_len (λ e. e.priority) l.entries ≡ l.at + prefix_len (λ e. e.priority) (drop l.at l.entries);
}

abbrev pub decreases-looks : goal.decreases-looks
decreases-looks g l = length l.entries - l.at

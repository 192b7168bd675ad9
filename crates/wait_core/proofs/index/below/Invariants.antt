use Rattle.std.specs.Prelude.{ℕ, ◌-◌, ◌<◌, ◌≤◌, length, slice_index_or}
use Rattle.wait_core.specs.{declared.index.RankedMember.RankedMember, Index.key, Index.key_at}
use Rattle.wait_core.proofs.index.below.Given as goal

abbrev pub invariant-loop-low : goal.invariant-loop-low
invariant-loop-low l = record {
  order : l.low ≤ l.high;
  within : l.high ≤ length l.index;
  before : (i : ℕ) (d : RankedMember) → i < l.low → key (slice_index_or l.index i d) < key_at l.head l.rank;
  behind : (i : ℕ) (d : RankedMember) → l.high ≤ i → i < length l.index
      → key_at l.head l.rank ≤ key (slice_index_or l.index i d);
}

abbrev pub decreases-loop-low : goal.decreases-loop-low
decreases-loop-low l = l.high - l.low

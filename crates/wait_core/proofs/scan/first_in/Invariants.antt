use Rattle.std.specs.Prelude.{ℕ, ◌-◌, ◌<◌, ◌≤◌, length, min, slice_index_or}
use Rattle.wait_core.specs.{declared.index.TheConstants.RANKS, declared.index.RankedMember.RankedMember, Index.key}
use Rattle.wait_core.specs.Index.{key_at}
use Rattle.wait_core.proofs.IndexSearch.{IsTakenOut}
use Rattle.wait_core.proofs.scan.first_in.Given as goal

abbrev pub invariant-loop-at : goal.invariant-loop-at
invariant-loop-at l = record {
  within : l.at ≤ length l.index;
  passed : (i : ℕ) (d : RankedMember) → i < l.at → IsTakenOut l.span l.count (slice_index_or l.index i d) → ⊥;
  behind : (i : ℕ) (d : RankedMember) → l.at ≤ i → i < length l.index
      → key_at l.span.head (min l.span.low RANKS) ≤ key (slice_index_or l.index i d);
}

abbrev pub decreases-loop-at : goal.decreases-loop-at
decreases-loop-at l = length l.index - l.at

use Rattle.std.specs.Prelude.{ℕ, ◌<◌, ◌≤◌, length, min, slice_index_or}
use Rattle.wait_core.specs.{declared.index.TheConstants.RANKS, declared.index.RankedMember.RankedMember, Index.key}
use Rattle.wait_core.specs.Index.{key_at}
use Rattle.wait_core.proofs.IndexSearch.{IsTakenOut}
use Rattle.wait_core.proofs.scan.last_in.Given as goal

abbrev pub invariant-loop-end : goal.invariant-loop-end
invariant-loop-end l = record {
  within : l.end ≤ length l.index;
  passed : (i : ℕ) (d : RankedMember) → l.end ≤ i → i < length l.index
      → IsTakenOut l.span l.count (slice_index_or l.index i d) → ⊥;
  before : (i : ℕ) (d : RankedMember) → i < l.end
      → key (slice_index_or l.index i d) < key_at l.span.head (min l.span.high RANKS);
}

abbrev pub decreases-loop-end : goal.decreases-loop-end
decreases-loop-end l = l.end

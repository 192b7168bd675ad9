-- The worked histories of permits, computed.
use Rattle.std.proofs.Common.{refl}
use Rattle.wait_model.specs.{Totals.sum_below, Watches.head_of, WorkedPermits.WorkedPermits, Words.entry_of}

pub worked_permits : WorkedPermits
unfolding sum_below head_of entry_of
worked_permits = record {
  none_handed = refl;
  one = refl;
  to_first = refl;
  raised = refl;
  none_left = refl;
  taken = refl;
  raiser_owes = refl;
  raiser_handed = refl;
  own_is_none = refl;
  first_owes = refl;
  first_took = refl;
  granted = refl;
}

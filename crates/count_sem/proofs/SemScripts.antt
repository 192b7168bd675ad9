-- The worked histories of semaphores, computed.
use Rattle.std.proofs.Common.{refl, arith}
use Rattle.std.specs.Prelude.{◌≡◌, true, false}
use Rattle.wait_model.specs.{Runs.own, Totals.sum_below, Watches.head_of, Words.entry_of}
use Rattle.count_sem.specs.WorkedSemaphores.{WorkedSemaphores}

pub worked_semaphores : WorkedSemaphores
unfolding sum_below head_of entry_of
worked_semaphores = record {
  tried = (refl, refl);
  none_left = refl;
  not_yet = (refl, refl);
  given = (refl, refl);
  to_come = refl;
  uncounted = refl;
  came = (refl, refl);
  all_came = refl;
  left = (refl, refl);
  none_given = refl;
  no_raise = λ may. absurd (let z : true ≡ false = ((may refl).nobody (own 1) (omega arith)).1 in cc);
}

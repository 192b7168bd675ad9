use Rattle.std.specs.Prelude.{false}
use Rattle.futex_tests.proofs.cond_turns.leave_after.Goals as goal

pub leave_at-end-requires-clause-waiting : goal.leave_at-end-requires-clause-waiting
leave_at-end-requires-clause-waiting g c = let w = c.reach-at.ensures.waiting in (false, w.start, w.waits)

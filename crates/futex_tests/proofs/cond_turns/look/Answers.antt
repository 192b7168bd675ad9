use Rattle.std.specs.Prelude.{false}
use Rattle.futex_tests.proofs.cond_turns.look.Goals as goal

pub returns-then-woke_cond_wait-clause-waiting : goal.returns-then-woke_cond_wait-clause-waiting
returns-then-woke_cond_wait-clause-waiting c x = record {
  start = x.start;
  clean = x.clean;
  waits = c.if-woke_cond_wait.ensures.came false x.start x.waits;
}

pub returns-clause-waiting : goal.returns-clause-waiting
returns-clause-waiting c x = record {
  start = x.start;
  clean = x.clean;
  waits = c.if-woke_cond_wait.ensures.came false x.start x.waits;
}

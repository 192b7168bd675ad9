use Rattle.std.specs.Prelude.{false}
use Rattle.futex_tests.proofs.cond_turns.begin.Goals as goal

pub returns : goal.returns
returns c = record {
  waiting = record {
    start = c.args.task.now;
    clean = c.requires.clean;
    waits = c.begin_cond_wait.ensures.came false;
  };
}

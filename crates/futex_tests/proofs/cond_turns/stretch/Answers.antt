use Rattle.std.specs.Prelude.{false}
use Rattle.futex_tests.proofs.cond_turns.stretch.Goals as goal

pub stretch_cond_wait-next-requires-clause-at : goal.stretch_cond_wait-next-requires-clause-at
stretch_cond_wait-next-requires-clause-at c = let w = c.requires.waiting in (false, w.start, w.waits)

pub returns-clause-waiting : goal.returns-clause-waiting
returns-clause-waiting c =
    let w = c.requires.waiting in record {
      start = w.start;
      clean = w.clean;
      waits = c.stretch_cond_wait-next.ensures.came false w.start w.waits;
    }

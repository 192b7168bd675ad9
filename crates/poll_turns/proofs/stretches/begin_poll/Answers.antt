use Rattle.std.proofs.Common.{refl}
use Rattle.std.specs.Prelude.{false}
use Rattle.poll_turns.proofs.stretches.begin_poll.Goals as goal

pub returns-clause-came : goal.returns-clause-came
returns-clause-came c b = (
  refl,
  record {
    up = c.requires.up;
    idle = c.requires.idle;
    out = c.requires.out;
    out_second = c.requires.out_second;
    told = c.told.ensures;
  },
)

pub returns-clause-stands : goal.returns-clause-stands
returns-clause-stands c = (false, c.args.task.now, returns-clause-came c false)

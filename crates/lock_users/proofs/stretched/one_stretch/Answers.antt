use Rattle.std.specs.Prelude.{false}
use Rattle.lock_users.proofs.stretched.one_stretch.Goals as goal

pub returns-clause-came : goal.returns-clause-came
returns-clause-came c start x = c.stretch_mutex_lock-turn.ensures.came false start x

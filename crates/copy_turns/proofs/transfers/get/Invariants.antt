use Rattle.std.proofs.Common.{◌≡◌, [], length}
use Rattle.wait_rule.specs.Pipes.{read_end}
use Rattle.copy_turns.specs.Turns.{HasGotBytes}
use Rattle.copy_turns.proofs.Trails.{GetsNone}
use Rattle.copy_turns.proofs.transfers.get.Given as goal

abbrev pub invariant-loop : goal.invariant-loop
invariant-loop g l = record {
  same : length l.buf ≡ length l.fn.buf;
  got : HasGotBytes (read_end l.pipe) l.fn.task l.task [];
  gets : GetsNone (read_end l.pipe) l.fn.task l.task;
}

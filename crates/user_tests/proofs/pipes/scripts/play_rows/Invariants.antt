use Rattle.user_tests.specs.PipeTasks.{MayRead, MayWrite}
use Rattle.wait_rule.specs.Says.{RestsIn}
use Rattle.user_tests.proofs.pipes.scripts.play_rows.Given as goal

-- between two rows each has its end where that is open, and owes nothing else
abbrev pub invariant-loop-deed : goal.invariant-loop-deed
invariant-loop-deed g l = record {
  writes : MayWrite l.fn.domain l.fn.pipe l.players.writer l.players.writes;
  reads : MayRead l.fn.domain l.fn.pipe l.players.reader l.players.reads;
  sender : RestsIn l.fn.domain l.players.sender;
}

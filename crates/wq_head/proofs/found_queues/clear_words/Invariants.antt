use Rattle.std.specs.Prelude.{false}
use Rattle.wq_head.proofs.FoundMembers.{HasFound}
use Rattle.wq_head.proofs.found_queues.clear_words.Given as goal

abbrev pub invariant-loop-i : goal.invariant-loop-i
invariant-loop-i l = HasFound l.fn.task l.task l.i false

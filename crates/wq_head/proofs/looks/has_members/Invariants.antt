use Rattle.wq_head.proofs.FoundMembers.{HasFound}
use Rattle.wq_head.proofs.looks.has_members.Given as goal

abbrev pub invariant-loop-i : goal.invariant-loop-i
invariant-loop-i l = HasFound l.fn.task l.task l.i l.found

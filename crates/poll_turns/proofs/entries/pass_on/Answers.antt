use Rattle.std.proofs.Common.{false}
use Rattle.wq_head.proofs.LockWaits.{unlocked}
use Rattle.poll_turns.proofs.entries.pass_on.Goals as goal

pub returns-clause-gives : goal.returns-clause-gives
returns-clause-gives c = record {
  is = c.give_back.ensures.given;
  unlocked = unlocked c.args.task.now c.give_back.new.task false c.give_back.ensures.given;
  carries = c.give_back.ensures.carries;
}

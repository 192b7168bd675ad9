use Rattle.std.proofs.Common.{None, rules}
use Rattle.wait_model.specs.declared.layout.TheConstants.{FIRST_PLAIN_HEAD}
use Rattle.wait_rule.specs.Queues.{walk_of_hold}
use Rattle.head_tests.proofs.LeavingTask.{entry_locked, left_clean}
use Rattle.head_tests.proofs.heads.leaving.leave.Goals as goal

pub take_off-requires-clause-entry : goal.take_off-requires-clause-entry
take_off-requires-clause-entry g c =
    let l = c.lock.ensures in
    entry_locked c.args.task.now c.lock.new.task c.args.kind FIRST_PLAIN_HEAD
    (walk_of_hold FIRST_PLAIN_HEAD None) l.locked l.stays l.settled
    c.requires.back.queued.entry

pub returns : goal.returns
returns g c = record {
  rests = record {
    of = search rules;
    clean = left_clean c.args.task.now c.lock.new.task c.take_off.new.task c.unlock.new.task c.args.kind c.requires.back
        c.lock.ensures.stays c.take_off.ensures c.unlock.ensures.unlocked;
  };
}

use Rattle.std.proofs.Common.{refl}
use Rattle.wait_tests.proofs.Hearers.{entered, worn_clean}
use Rattle.wait_tests.proofs.events.flags.enter.Goals as goal

pub returns-in-Ok-clause-entered : goal.returns-in-Ok-clause-entered
returns-in-Ok-clause-entered g c = entered c.args.task.now c.add_entry.new.task c.requires.rests.clean
    c.in-Ok.ensures.stands (c.in-Ok.ensures.woken refl) c.in-Ok.ensures.carries

pub returns-in-Err-clause-entered : goal.returns-in-Err-clause-entered
returns-in-Err-clause-entered g c = worn_clean c.args.task.now c.add_entry.new.task c.requires.rests.clean
    c.add_entry.ensures.up c.add_entry.ensures.free c.in-Err.ensures.same

use Rattle.wait_event.proofs.Hearing.Waking.{rose}
use Rattle.wait_event.proofs.woken_waits.rise.Goals as goal

pub returns : goal.returns
returns g c = rose c.args.task.now c.wait_up.new.task c.args.state c.requires.asleep c.told.ensures c.told-2.ensures
    c.wait_up.ensures

use Rattle.wait_event.proofs.Hearing.Waking.{looked_once}
use Rattle.wait_event.proofs.woken_waits.woke_woken.Goals as goal

pub returns : goal.returns
returns c = let s = c.awake.ensures.step in
    looked_once c.args.task.now c.awake.new.task c.args.state c.requires.asleep s.0 s.2 c.awake.result s.3

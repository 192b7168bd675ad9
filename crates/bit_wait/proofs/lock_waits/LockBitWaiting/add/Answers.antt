use Rattle.bit_wait.proofs.LockLaws.{lock_adds}
use Rattle.bit_wait.proofs.lock_waits.LockBitWaiting.add.Goals as goal

pub returns : goal.returns
returns c =
    let a = c.add_for_bit.ensures in
    lock_adds c.args.call.wait c.watch.result c.watch.ensures c.args.task.now c.add_for_bit.new.task
    c.add_for_bit.result c.requires.may.out a.queued a.worn a.noted a.held a.at

use Rattle.bit_wait.proofs.BitLaws.{bit_adds}
use Rattle.bit_wait.proofs.waits.WaitBitWaiting.add.Goals as goal

pub returns : goal.returns
returns c =
    let a = c.add_front.ensures in
    bit_adds c.args.call.wait c.watch.result c.watch.ensures c.args.task.now c.add_front.new.task c.add_front.result
    a.queued a.worn a.noted a.held a.at

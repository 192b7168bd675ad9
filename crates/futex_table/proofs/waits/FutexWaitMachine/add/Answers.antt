use Rattle.std.proofs.Common.{refl}
use Rattle.futex_table.proofs.{FutexAdds.adds_own, FutexHeads.futex_low}
use Rattle.futex_table.proofs.waits.FutexWaitMachine.add.Goals as goal

pub add_by-requires-clause-low : goal.add_by-requires-clause-low
add_by-requires-clause-low c = futex_low c.args.self.futex c.requires.may.fits

pub returns : goal.returns
returns c here =
    let a = c.add_by.ensures in
    adds_own c.args.self c.args.task.now c.add_by.new.task c.args.stage here _ refl c.kind.result c.kind.ensures
    c.add_by.result a.queued a.worn a.noted a.held a.at

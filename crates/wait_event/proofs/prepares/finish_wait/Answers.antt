use Rattle.wait_event.proofs.Preparing.{left_carried}
use Rattle.wait_event.proofs.prepares.finish_wait.Goals as goal

pub returns-clause-carries : goal.returns-clause-carries
returns-clause-carries g c =
    let e = c.take_off.ensures in
    left_carried c.args.task.now c.take_off.new.task c.requires.may.up c.requires.may.free c.told.ensures
    c.told-2.ensures e.keeps e.up e.free (λ s. 0) e.running e.out

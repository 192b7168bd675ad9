use Rattle.wait_event.proofs.Setting.{takes}
use Rattle.wait_event.proofs.conds.take_cond.Goals as goal

pub returns-clause-took : goal.returns-clause-took
returns-clause-took c = takes c.args.task.now c.consume.new.task c.args.cond c.consume.result c.consume.ensures.step

use Rattle.std.proofs.Common.{subst, sym}
use Rattle.wait_class.specs.Laws.{AddsOwn, MayAdd}
use Rattle.count_sem.specs.{Downs.down_table, declared.downs.DownStage.DownStage}
use Rattle.count_sem.specs.declared.downs.DownStage.TheVariants as stage
use Rattle.completion_cell.proofs.AwaitAdds.{add_permits, adds_cell}
use Rattle.count_sem.proofs.DownLaws.{down_queues}
use Rattle.count_sem.proofs.downs.DownCallMachine.add.Goals as goal

pub add_tail-requires-clause-permits : goal.add_tail-requires-clause-permits
add_tail-requires-clause-permits c =
    let m = subst (λ (s : DownStage). MayAdd down_table c.args.self s c.args.task.now) c.in-Queue.is c.requires.may in
    add_permits down_table c.args.self stage.Queue c.args.self.cell (down_queues c.args.self) c.args.task.now m m.trail.2.0.counts.0

pub returns-in-Queue : goal.returns-in-Queue
returns-in-Queue c here =
    let a = c.add_tail.ensures in
    subst (λ (s : DownStage). AddsOwn down_table c.args.self s c.args.task.now c.add_tail.new.task c.add_tail.result)
    (sym c.in-Queue.is)
    (adds_cell down_table c.args.self stage.Queue c.args.self.cell (down_queues c.args.self) c.args.task.now c.add_tail.new.task
    c.add_tail.result a.queued a.worn a.noted a.held a.at)

use Rattle.std.proofs.Common.{subst, sym}
use Rattle.wait_class.specs.Laws.{AddsOwn, MayAdd}
use Rattle.completion_cell.specs.{Awaits.await_table, declared.awaits.AwaitStage.AwaitStage}
use Rattle.completion_cell.specs.declared.awaits.AwaitStage.TheVariants as stage
use Rattle.completion_cell.proofs.AwaitAdds.{add_permits, adds_cell, wait_queues}
use Rattle.completion_cell.proofs.awaits.AwaitCallMachine.add.Goals as goal

pub add_tail-requires-clause-permits : goal.add_tail-requires-clause-permits
add_tail-requires-clause-permits c =
    let m = subst (λ (s : AwaitStage). MayAdd await_table c.args.self s c.args.task.now) c.in-Queue.is c.requires.may in
    add_permits await_table c.args.self stage.Queue c.args.self.cell (wait_queues c.args.self) c.args.task.now m m.trail.2.counts.0

pub returns-in-Queue : goal.returns-in-Queue
returns-in-Queue c here =
    let a = c.add_tail.ensures in
    subst (λ (s : AwaitStage). AddsOwn await_table c.args.self s c.args.task.now c.add_tail.new.task c.add_tail.result)
    (sym c.in-Queue.is)
    (adds_cell await_table c.args.self stage.Queue c.args.self.cell (wait_queues c.args.self) c.args.task.now c.add_tail.new.task
    c.add_tail.result a.queued a.worn a.noted a.held a.at)

use Rattle.std.proofs.Common.{ap, refl}
use Rattle.wait_class.proofs.{Turns.advances_none, UnderWay.begun_here}
use Rattle.completion_cell.specs.{Awaits.await_table, declared.awaits.AwaitCall.AwaitCall}
use Rattle.completion_cell.specs.declared.awaits.AwaitStage.TheVariants as stage
use Rattle.completion_cell.proofs.{AwaitLaws.await_lawful, Endings.begins_at}
use Rattle.completion_cell.proofs.await_calls.begin_await.Goals as goal

pub returns-clause-fresh : goal.returns-clause-fresh
returns-clause-fresh c = record {
  cell = ap (λ (r : AwaitCall). r.cell) c.new.ensures;
  state_is = ap (λ (r : AwaitCall). r.state) c.new.ensures;
  queued = ap (λ (r : AwaitCall). r.queued) c.new.ensures;
  unasked = ap (λ (r : AwaitCall). r.asked) c.new.ensures;
}

pub returns-clause-at : goal.returns-clause-at
returns-clause-at c = begins_at c.args.task.now c.new.result c.args.cell c.args.state (returns-clause-fresh c)
    c.requires.cell c.requires.left c.told.ensures c.requires.up c.requires.idle c.requires.out

pub returns-clause-under : goal.returns-clause-under
returns-clause-under c clean = begun_here await_table await_lawful (await_table.plan_of c.new.result.of) c.args.task.now
    c.new.result stage.First clean c.told.ensures refl refl (returns-clause-at c)

pub returns-clause-came : goal.returns-clause-came
returns-clause-came c = advances_none await_table await_lawful c.args.task.now c.new.result stage.First
    (returns-clause-at c)

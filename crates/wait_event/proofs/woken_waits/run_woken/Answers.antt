use Rattle.wait_event.specs.declared.woken_waits.WokenStage.TheVariants as stage
use Rattle.wait_event.specs.declared.woken_waits.WokenTurn.TheVariants as turn
use Rattle.wait_event.proofs.Hearing.Endings.{hears_on}
use Rattle.wait_event.proofs.woken_waits.run_woken.Goals as goal

pub loop-preserved-in-Again : goal.loop-preserved-in-Again
loop-preserved-in-Again g c = hears_on c.args.task.now c.loop.task c.stretch_woken.new.task c.args.state c.args.stage
    c.loop.at (turn.Again c.in-Again.next) c.loop.invariant.went c.in-Again.ensures

pub loop-preserved : goal.loop-preserved
loop-preserved g c =
    let a = hears_on c.args.task.now c.loop.task c.stretch_woken.new.task c.args.state c.args.stage c.loop.at
    turn.Asleep c.loop.invariant.went c.in-Asleep.ensures in
    hears_on c.args.task.now c.stretch_woken.new.task c.rise.new.task c.args.state c.args.stage stage.Run
    (turn.Again stage.Run) a.went c.rise.ensures

pub returns-in-Done : goal.returns-in-Done
returns-in-Done g c = hears_on c.args.task.now c.loop.task c.stretch_woken.new.task c.args.state c.args.stage
    c.loop.at turn.Done c.loop.invariant.went c.in-Done.ensures

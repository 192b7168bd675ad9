use Rattle.wait_event.specs.WokenWaits.{Hears}
use Rattle.wait_event.specs.declared.woken_waits.WokenTurn.TheVariants as turn
use Rattle.wait_event.proofs.woken_waits.run_woken.Given as goal

abbrev pub invariant-loop : goal.invariant-loop
invariant-loop g l = Hears l.fn.task l.task l.fn.state l.fn.stage (turn.Again l.at)

use Rattle.std.specs.Prelude.{◌≡◌, true}
use Rattle.wait_leave.specs.OnTheWay.{straight}
use Rattle.wait_leave.proofs.Ways.{way_for}
use Rattle.wq_checked.proofs.stretches.stretch_on.Goals as goal

pub returns-then-asks-clause-goes : goal.returns-then-asks-clause-goes
returns-then-asks-clause-goes g c = way_for (c.args.asks ≡ true) c.if-asks.true _ _ _ _ _ _ _ _ c.stretch_asked.ensures.goes

pub returns-else-asks-clause-goes : goal.returns-else-asks-clause-goes
returns-else-asks-clause-goes g c = straight _ _ _ c.stretch.ensures.turned.advances

use Rattle.wait_rule.proofs.WorkedTests.WorkedEvents.{worked_events}
use Rattle.wait_rule.proofs.laws.worked_events.Goals as goal

pub returns : goal.returns
returns c = worked_events

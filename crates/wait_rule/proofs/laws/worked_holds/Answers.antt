use Rattle.wait_rule.proofs.WorkedTests.WorkedHolds.{simple_holds, calls_rightly, pauses_rightly}
use Rattle.wait_rule.proofs.laws.worked_holds.Goals as goal

pub returns-clause-simple : goal.returns-clause-simple
returns-clause-simple c = simple_holds

pub returns-clause-calls : goal.returns-clause-calls
returns-clause-calls c = calls_rightly

pub returns-clause-pauses : goal.returns-clause-pauses
returns-clause-pauses c = pauses_rightly

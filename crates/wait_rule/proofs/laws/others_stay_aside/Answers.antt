use Rattle.wait_rule.proofs.KnownLaws.AsideCalls.{calls_grow_aside, items_stay_off, walks_grow_aside}
use Rattle.wait_rule.proofs.KnownLaws.CarriedEnds.{programs_leave_ends}
use Rattle.wait_rule.proofs.laws.others_stay_aside.Goals as goal

pub returns-clause-calls : goal.returns-clause-calls
returns-clause-calls c = calls_grow_aside

pub returns-clause-walks : goal.returns-clause-walks
returns-clause-walks c = walks_grow_aside

pub returns-clause-ends : goal.returns-clause-ends
returns-clause-ends c = programs_leave_ends

pub returns-clause-items : goal.returns-clause-items
returns-clause-items c = items_stay_off

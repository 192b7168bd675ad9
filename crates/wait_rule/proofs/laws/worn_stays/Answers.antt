use Rattle.wait_rule.proofs.WornHeads.WornNotes.{join_keeps_notes, own_late, joined_late}
use Rattle.wait_rule.proofs.laws.worn_stays.Goals as goal

pub returns-clause-own : goal.returns-clause-own
returns-clause-own c = own_late

pub returns-clause-joined : goal.returns-clause-joined
returns-clause-joined c = joined_late

pub returns-clause-joins : goal.returns-clause-joins
returns-clause-joins c = join_keeps_notes

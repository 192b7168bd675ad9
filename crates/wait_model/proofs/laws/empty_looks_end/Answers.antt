use Rattle.wait_model.proofs.HistoryLaws.HeadScans.{empty_looks_end, found_bits_end_nothing, worked_scans}
use Rattle.wait_model.proofs.laws.empty_looks_end.Goals as goal

pub returns-clause-ended : goal.returns-clause-ended
returns-clause-ended c = empty_looks_end

pub returns-clause-found : goal.returns-clause-found
returns-clause-found c = found_bits_end_nothing

pub returns-clause-worked : goal.returns-clause-worked
returns-clause-worked c = worked_scans

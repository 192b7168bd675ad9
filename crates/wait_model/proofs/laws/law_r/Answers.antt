use Rattle.wait_model.proofs.FollowedLaws.FollowedSetters.{setters_leave_nobody}
use Rattle.wait_model.proofs.laws.law_r.Goals as goal

pub returns : goal.returns
returns c = setters_leave_nobody

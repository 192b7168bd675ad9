use Rattle.wait_model.proofs.{PermitLaws.PermitScripts.worked_permits, PermitLaws.PermitSteps.accounted_step}
use Rattle.wait_model.proofs.{PermitLaws.PermitSteps.accounted_handed, PermitLaws.PermitRuns.every_run_hands_on}
use Rattle.wait_model.proofs.laws.permits_are_handed_on.Goals as goal

pub returns-clause-step : goal.returns-clause-step
returns-clause-step c = accounted_step

pub returns-clause-handed : goal.returns-clause-handed
returns-clause-handed c = accounted_handed

pub returns-clause-run : goal.returns-clause-run
returns-clause-run c = every_run_hands_on

pub returns-clause-worked : goal.returns-clause-worked
returns-clause-worked c = worked_permits

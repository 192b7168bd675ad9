use Rattle.wait_model.proofs.RunLaws.NeverWorn.{no_run_wears}
use Rattle.wait_model.proofs.laws.no_run_wears.Goals as goal

pub returns : goal.returns
returns c = no_run_wears

use Rattle.wait_model.proofs.AccountLaws.LentPages.{no_run_leaves_page}
use Rattle.wait_model.proofs.laws.no_page_left.Goals as goal

pub returns : goal.returns
returns c = no_run_leaves_page

use Rattle.wait_rule.proofs.SaidEvents.SelectedEntries.{runs_tell}
use Rattle.wait_rule.proofs.SaidEvents.SelectingWalks.{runs_select, words_select}
use Rattle.wait_rule.proofs.laws.walks_select_at_most.Goals as goal

pub returns-clause-words : goal.returns-clause-words
returns-clause-words c = words_select

pub returns-clause-runs : goal.returns-clause-runs
returns-clause-runs c = runs_select

pub returns-clause-tells : goal.returns-clause-tells
returns-clause-tells c = runs_tell

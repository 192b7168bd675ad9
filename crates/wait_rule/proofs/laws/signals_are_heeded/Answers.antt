use Rattle.wait_rule.proofs.SaidEvents.SignalledRuns.{runs_heed, words_heed}
use Rattle.wait_rule.proofs.laws.signals_are_heeded.Goals as goal

pub returns-clause-words : goal.returns-clause-words
returns-clause-words c = words_heed

pub returns-clause-runs : goal.returns-clause-runs
returns-clause-runs c = runs_heed

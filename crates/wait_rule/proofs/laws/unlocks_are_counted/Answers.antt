use Rattle.wait_rule.proofs.KnownLaws.ServedUnlocks.{all_unlocks_count}
use Rattle.wait_rule.proofs.laws.unlocks_are_counted.Goals as goal

pub returns : goal.returns
returns c = all_unlocks_count

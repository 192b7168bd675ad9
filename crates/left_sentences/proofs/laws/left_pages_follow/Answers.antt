use Rattle.left_sentences.proofs.PageWays as pages
use Rattle.left_sentences.proofs.laws.left_pages_follow.Goals as goal

pub returns : goal.returns
returns g c = pages.left_pages_follow _

use Rattle.wait_core.specs.Scan.{shown_stand}
use Rattle.wait_core.proofs.scan.member_in.Goals as goal

pub returns-then-span-clause-picked : goal.returns-then-span-clause-picked
returns-then-span-clause-picked c = c.last_in.ensures.picked (shown_stand c.args.words.now) c.requires.index

pub returns-else-span-clause-picked : goal.returns-else-span-clause-picked
returns-else-span-clause-picked c = c.first_in.ensures.picked (shown_stand c.args.words.now) c.requires.index

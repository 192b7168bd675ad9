use Rattle.waitq_alone.specs.Parsed.{entry_of}
use Rattle.waitq_alone.proofs.ReadWords.{paired}
use Rattle.waitq_alone.proofs.command.entry.Goals as goal

pub returns : goal.returns
unfolding entry_of
returns c = paired _ _ _ _ c.subcommand.result _ c.subcommand.ensures.name c.subcommand.ensures.rows

use Rattle.std.proofs.Common.{◌∙◌}
use Rattle.clap.specs.Words.{found_of}
use Rattle.clap.proofs.WalkLemmas.{first_value-rows}
use Rattle.waitq_alone.specs.Parsed.{found_text}
use Rattle.waitq_alone.proofs.command.text_of.Goals as goal

pub returns : goal.returns
unfolding found_text
returns c = c.get_str.ensures ∙ first_value-rows (found_of c.args.given.now) c.args.id.now

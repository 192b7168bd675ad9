use Rattle.std.proofs.Common.{ap, sym, ◌∙◌, map, string_bytes}
use Rattle.clap.specs.Words.{App, fault_of, is_simple, is_simple_and_free, subcommand_of}
use Rattle.waitq_alone.specs.Parsed.{entry_of}
use Rattle.waitq_alone.proofs.command.parse.Goals as goal

pub returns-in-Ok-clause-found : goal.returns-in-Ok-clause-found
unfolding entry_of
returns-in-Ok-clause-found c =
    (c.in-Ok.ensures.matches (ap is_simple c.in_ok-all.ensures)).1
    ∙ ap (λ (a : App). subcommand_of a (map string_bytes c.args.words.now)) c.in_ok-all.ensures

pub returns-in-Ok-clause-passes : goal.returns-in-Ok-clause-passes
returns-in-Ok-clause-passes c =
    sym (ap (λ (a : App). fault_of a (map string_bytes c.args.words.now)) c.in_ok-all.ensures)
    ∙ c.in-Ok.ensures.kinds (ap is_simple_and_free c.in_ok-all.ensures)

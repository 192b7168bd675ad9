use Rattle.std.proofs.Common.{ap₂, ◌∙◌}
use Rattle.std.proofs.lemmas.Result.{IfOk-weaker}
use Rattle.clap.specs.Words.{with_rule}
use Rattle.waitq_alone.proofs.command.copy_words.Goals as goal

pub returns-clause-app : goal.returns-clause-app
returns-clause-app c =
    let named = c.in_ok-named.ensures.app _ (c.with_word-from.ensures.app _ c.new.ensures.app) in
    IfOk-weaker c.arg.result _ _
    (λ new adds. adds.shape c.event_words.ensures.local ∙ ap₂ with_rule named c.event_words.ensures.rule) c.arg.ensures

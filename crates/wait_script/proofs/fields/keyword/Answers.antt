use Rattle.std.proofs.Common.{ap, ◌∙◌}
use Rattle.std.specs.Option.{ok_or}
use Rattle.wait_script.specs.declared.reason.Reason.TheVariants.{BadForm}
use Rattle.wait_script.proofs.Tables.{keyword_in}
use Rattle.wait_script.proofs.fields.keyword.Goals as goal

pub returns : goal.returns
returns g c =
    c.ok_or.ensures.value ∙ ap (λ found. ok_or found BadForm) c.value_in.ensures ∙ keyword_in _ c.args.word.now

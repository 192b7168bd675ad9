use Rattle.wait_model.specs.declared.calls.Call.TheVariants as call
use Rattle.wait_script.specs.Fields.{cond_field, last_cond, value_at}
use Rattle.wait_script.proofs.WordCounts.{few2}
use Rattle.wait_script.proofs.forms.set.Goals as goal

pub returns-in_default : goal.returns-in_default
returns-in_default c = few2 (cond_field 0 last_cond) value_at (λ cond value. call.Set cond value) c.args.words.now c.in_default.len_below

use Rattle.wait_model.specs.declared.calls.Call.TheVariants as call
use Rattle.wait_script.specs.Fields.{value_at, var_at}
use Rattle.wait_script.proofs.WordCounts.{few2}
use Rattle.wait_script.proofs.cells.set_var.Goals as goal

pub returns-in_default : goal.returns-in_default
returns-in_default c = few2 var_at value_at (λ var value. call.SetVar var value) c.args.words.now c.in_default.len_below

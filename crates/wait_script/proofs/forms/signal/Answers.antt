use Rattle.wait_model.specs.declared.calls.Call.TheVariants as call
use Rattle.wait_script.specs.{Fields.fatal_at, Fields.number_at, Versions.last_task}
use Rattle.wait_script.proofs.WordCounts.{few2}
use Rattle.wait_script.proofs.forms.signal.Goals as goal

pub returns-in_default : goal.returns-in_default
returns-in_default c = few2 (number_at 0 (last_task c.args.version)) fatal_at (λ who fatal. call.Signal who fatal) c.args.words.now c.in_default.len_below

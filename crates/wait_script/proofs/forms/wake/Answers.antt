use Rattle.wait_model.specs.declared.calls.Call.TheVariants as call
use Rattle.wait_script.specs.Fields.{cond_field, last_full, mode_at, number_at}
use Rattle.wait_script.specs.Versions.{most_selected}
use Rattle.wait_script.proofs.WordCounts.{few3, err3}
use Rattle.wait_script.proofs.forms.wake.Goals as goal

pub returns-in_default : goal.returns-in_default
returns-in_default c = few3 (cond_field 0 last_full) mode_at (number_at 0 (most_selected c.args.version)) (λ cond mode count. call.Wake cond mode count) c.args.words.now c.in_default.len_below

pub returns-in_err-cond : goal.returns-in_err-cond
returns-in_err-cond c =
    err3 (cond_field 0 last_full) mode_at (number_at 0 (most_selected c.args.version)) (λ cond mode count. call.Wake cond mode count) c.args.words.now _ c.in-len3.len_at_least c.in-len3.len_below
    c.in_err-cond.ensures c.both.ensures c.condition.ensures c.mode.ensures (rw c.most_selected.ensures at c.count.ensures) c.from_residual.ensures.1

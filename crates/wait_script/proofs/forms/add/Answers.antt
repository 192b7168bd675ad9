use Rattle.wait_model.specs.declared.calls.Call.TheVariants as call
use Rattle.wait_script.specs.Fields.{cond_field, form_at, kind_field, last_full}
use Rattle.wait_script.proofs.WordCounts.{ok3, err3}
use Rattle.wait_script.proofs.forms.add.Goals as goal

pub returns-in_err-cond : goal.returns-in_err-cond
returns-in_err-cond c =
    err3 (cond_field 0 last_full) kind_field form_at (λ cond kind form. call.Add cond kind form) c.args.words.now _ c.in-len3.len_at_least c.in-len3.len_below
    c.in_err-cond.ensures c.both.ensures c.condition.ensures c.kind.ensures c.form.ensures c.from_residual.ensures.1

pub returns : goal.returns
returns c =
    ok3 (cond_field 0 last_full) kind_field form_at (λ cond kind form. call.Add cond kind form) c.args.words.now _ c.in-len3.len_at_least c.in-len3.len_below
    c.in_ok-cond.ensures c.both.ensures c.condition.ensures c.kind.ensures c.form.ensures

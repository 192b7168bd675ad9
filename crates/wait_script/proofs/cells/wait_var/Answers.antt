use Rattle.wait_model.specs.declared.calls.Call.TheVariants as call
use Rattle.wait_script.specs.Fields.{state_at, value_at, var_at}
use Rattle.wait_script.proofs.WordCounts.{few3, ok3, err3}
use Rattle.wait_script.proofs.cells.wait_var.Goals as goal

pub returns-in_default : goal.returns-in_default
returns-in_default c = few3 var_at value_at state_at (λ var old state. call.WaitVar var old state) c.args.words.now c.in_default.len_below

pub returns-in_err-var : goal.returns-in_err-var
returns-in_err-var c =
    err3 var_at value_at state_at (λ var old state. call.WaitVar var old state) c.args.words.now _ c.in-len3.len_at_least c.in-len3.len_below
    c.in_err-var.ensures c.both.ensures c.variable.ensures c.value.ensures c.state.ensures c.from_residual.ensures.1

pub returns : goal.returns
returns c =
    ok3 var_at value_at state_at (λ var old state. call.WaitVar var old state) c.args.words.now _ c.in-len3.len_at_least c.in-len3.len_below
    c.in_ok-var.ensures c.both.ensures c.variable.ensures c.value.ensures c.state.ensures

use Rattle.wait_model.specs.declared.calls.Call.TheVariants as call
use Rattle.wait_script.specs.Fields.{bit_at, state_at}
use Rattle.wait_script.proofs.WordCounts.{few2, many2, err2}
use Rattle.wait_script.proofs.cells.lock_bit.Goals as goal

pub returns-in_default : goal.returns-in_default
returns-in_default c = few2 bit_at state_at (λ b state. call.LockBit b.0 b.1 state) c.args.words.now c.in_default.len_below

pub returns-in_default-2 : goal.returns-in_default-2
returns-in_default-2 c = many2 bit_at state_at (λ b state. call.LockBit b.0 b.1 state) c.args.words.now c.in_default.len_at_least

pub returns-in_err-word : goal.returns-in_err-word
returns-in_err-word c =
    err2 bit_at state_at (λ b state. call.LockBit b.0 b.1 state) c.args.words.now _ c.in-len2.len_at_least c.in-len2.len_below
    c.in_err-word.ensures c.bit.ensures c.state.ensures c.from_residual.ensures.1

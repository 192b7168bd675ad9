use Rattle.wait_model.specs.declared.calls.Call.TheVariants as call
use Rattle.wait_script.specs.Fields.{bit_at}
use Rattle.wait_script.proofs.WordCounts.{many1}
use Rattle.wait_script.proofs.cells.clear_bit.Goals as goal

pub returns-in_default-2 : goal.returns-in_default-2
returns-in_default-2 c = many1 bit_at (λ b. call.ClearBit b.0 b.1) c.args.words.now c.in_default.len_at_least

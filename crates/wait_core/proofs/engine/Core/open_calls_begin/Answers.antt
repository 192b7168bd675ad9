use Rattle.std.specs.Prelude.{ℕ}
use Rattle.wait_model.specs.Spoken.{BeginsOpen}
use Rattle.wait_model.proofs.SentenceLaws.SpokenCalls.{open_calls_begin}
use Rattle.wait_core.proofs.KeptCore.{by_law}
use Rattle.wait_core.proofs.engine.Core.open_calls_begin.Goals as goal

pub returns : goal.returns
returns c = by_law _ _ _ _ _ c.self.invariant.core {P = λ run. (t : ℕ) → BeginsOpen run t}
    (λ run r few t. open_calls_begin run t r few) _ c.self.view_is

use Rattle.std.proofs.Common.{◌≡◌, arith}
use Rattle.wait_model.specs.declared.layout.TheConstants.{ENTRY_AT}
use Rattle.wait_model.proofs.WordLaws.ShownSteps.{start_shown}
use Rattle.wait_core.proofs.engine.first_words.Goals as goal

pub returns : goal.returns
returns c =
    let all : c.loop-at.at ≡ ENTRY_AT = omega arith in
    let stands = c.loop-at.invariant in
    start_shown c.loop-at.words.items stands.count (λ k low high. stands.filled k low (omega arith))
    stands.base (λ k low. stands.zero k (omega arith))

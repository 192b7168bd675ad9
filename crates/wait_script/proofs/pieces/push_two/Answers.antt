use Rattle.wait_script.proofs.DecimalDigits.{joined, two_digits}
use Rattle.wait_script.proofs.pieces.push_two.Goals as goal

pub returns-clause-text : goal.returns-clause-text
returns-clause-text c =
    joined _ _ _ _ _ _ c.push_digit.ensures.text c.push_digit-2.ensures.text
    (two_digits c.args.number c.requires.from c.requires.below)

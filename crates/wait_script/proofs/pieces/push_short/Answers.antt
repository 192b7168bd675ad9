use Rattle.std.proofs.Common.{ap, length, arith, length-append}
use Rattle.wait_script.proofs.DecimalDigits.{short_length}
use Rattle.wait_script.proofs.pieces.push_short.Goals as goal

pub push_decimal-requires : goal.push_decimal-requires
push_decimal-requires c = omega (arith, short_length c.into.result (omega (arith, c.into.ensures)))

pub returns-clause-len : goal.returns-clause-len
returns-clause-len c =
    omega (
      arith,
      short_length c.into.result (omega (arith, c.into.ensures)),
      simp length-append at (ap length c.push_decimal.ensures.text),
    )

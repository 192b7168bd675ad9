use Rattle.std.proofs.Common.{ap, length, arith, length-append}
use Rattle.wait_script.proofs.DecimalDigits.{long_length}
use Rattle.wait_script.proofs.pieces.push_number.Goals as goal

pub push_decimal-requires : goal.push_decimal-requires
push_decimal-requires c = omega (arith, long_length c.args.number (omega arith))

pub returns-clause-len : goal.returns-clause-len
returns-clause-len c =
    omega (
      arith,
      long_length c.args.number (omega arith),
      simp length-append at (ap length c.push_decimal.ensures.text),
    )

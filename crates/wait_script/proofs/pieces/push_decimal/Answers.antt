use Rattle.std.proofs.Common.{arith}
use Rattle.std.proofs.lemmas.Fmt.{decimal_digit}
use Rattle.wait_script.proofs.DecimalDigits.{joined, three_digits, length_one, length_two, length_three}
use Rattle.wait_script.proofs.pieces.push_decimal.Goals as goal

pub push_digit-requires-clause-room : goal.push_digit-requires-clause-room
push_digit-requires-clause-room c = omega (arith, length_one c.args.number (omega arith))

pub push_two-requires-clause-room : goal.push_two-requires-clause-room
push_two-requires-clause-room c = omega (arith, length_two c.args.number (omega arith) (omega arith))

pub push_two-requires-in-100-to-999-clause-room : goal.push_two-requires-in-100-to-999-clause-room
push_two-requires-in-100-to-999-clause-room c =
    omega (arith, length_three c.args.number (omega arith) (omega arith))

pub push_digit-requires-in-100-to-999-clause-room : goal.push_digit-requires-in-100-to-999-clause-room
push_digit-requires-in-100-to-999-clause-room c =
    omega (arith, length_three c.args.number (omega arith) (omega arith))

pub returns-in-0-to-9 : goal.returns-in-0-to-9
returns-in-0-to-9 c = record {
  text = rw (decimal_digit c.args.number (omega arith)) c.push_digit.ensures.text;
}

pub returns-in-100-to-999 : goal.returns-in-100-to-999
returns-in-100-to-999 c = record {
  text = joined _ _ _ _ _ _ c.push_two-in-100-to-999.ensures.text c.push_digit-in-100-to-999.ensures.text
      (three_digits c.args.number (omega arith) (omega arith));
}

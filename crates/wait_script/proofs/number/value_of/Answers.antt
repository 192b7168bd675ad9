use Rattle.std.proofs.Common.{sym, ◌∙◌}
use Rattle.wait_script.proofs.ReadDigits.{overflows}
use Rattle.wait_script.proofs.number.value_of.Goals as goal

pub returns-in_err-value : goal.returns-in_err-value
returns-in_err-value c = rw c.from_residual.ensures
    (overflows c.args.word.now c.loop-b.b-index c.loop-b.value c.loop-b-test.true c.loop-b.invariant.same
    (sym c.if-not-is_ascii_digit.ensures.value) (sym c.with_digit.ensures ∙ c.in_err-value.was))

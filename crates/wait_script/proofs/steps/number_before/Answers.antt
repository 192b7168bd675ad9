use Rattle.std.proofs.Common.{sym, ap, ◌∙◌, ◌+◌, ◌∷◌, ◌++◌, decimal}
use Rattle.wait_script.proofs.{LineCuts.rest_from, OnePass.one_digit, OnePass.number_ends}
use Rattle.wait_script.proofs.steps.number_before.Goals as goal

pub loop-at-preserved : goal.loop-at-preserved
loop-at-preserved c =
    rw c.from.ensures (one_digit c.args.bytes.now c.loop-at.at c.loop-at.value c.loop-at-test.true c.loop-at.invariant
    (sym c.if-not-is_ascii_digit.ensures.value) c.if-value-gt999999.false)

pub returns-then-not-is_ascii_digit : goal.returns-then-not-is_ascii_digit
returns-then-not-is_ascii_digit c =
    number_ends c.args.bytes.now c.loop-at.at c.loop-at.value c.loop-at-test.true c.loop-at.invariant c.args.end
    c.if-b-end.false (sym c.if-not-is_whole.ensures)
    ∙ ap (λ r. decimal c.loop-at.value ++ c.args.end ∷ r) (sym (rest_from c.args.bytes.now (c.loop-at.at + 1)))

use Rattle.std.proofs.Common.{sym, ◌∙◌}
use Rattle.wait_script.proofs.LineParts.{parts-at, parts-none}
use Rattle.wait_script.proofs.reader.first_line.Goals as goal

pub returns-clause-some : goal.returns-clause-some
returns-clause-some c = parts-at c.args.bytes.now c.in_ok-end.end (sym c.line_end.ensures ∙ c.in_ok-end.was)

pub returns-in_err-end-clause-none : goal.returns-in_err-end-clause-none
returns-in_err-end-clause-none c = rw c.from_residual.ensures
    (parts-none c.args.bytes.now (sym c.line_end.ensures ∙ c.in_err-end.was))

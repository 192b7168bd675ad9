use Rattle.wait_script.proofs.{CarriedLines.read_first, SpelledLines.spelled_first}
use Rattle.wait_script.proofs.reader.next_line.Goals as goal

pub returns-in-Some-clause-some : goal.returns-in-Some-clause-some
returns-in-Some-clause-some c =
    spelled_first c.args.version c.args.bytes.now c.in-Some.line c.in-Some.more.now
    c.in-Some.ensures.fits c.in-Some.ensures.spelled

pub returns-clause-some : goal.returns-clause-some
returns-clause-some c =
    read_first c.args.version c.args.bytes.now c.in-Some-first_line.line.now c.in-Some-first_line.more.now
    c.in_ok-line.line c.in-Some-first_line.ensures.some c.in_ok-line.ensures

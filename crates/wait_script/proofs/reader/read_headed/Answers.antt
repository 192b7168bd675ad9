use Rattle.std.proofs.Common.{sym, ap, ◌∙◌}
use Rattle.wait_script.specs.Script.{versioned}
use Rattle.wait_script.proofs.LineParts.{odd_header, good_header}
use Rattle.wait_script.proofs.reader.read_headed.Goals as goal

pub returns-in-Err : goal.returns-in-Err
returns-in-Err c =
    odd_header c.args.bytes.now c.in-Some.header.now c.in-Some.rest.now c.in-Err.why c.in-Some.ensures.some
    (sym c.read_header.ensures ∙ c.in-Err.is)

pub returns : goal.returns
returns c =
    good_header c.args.bytes.now c.in-Some.header.now c.in-Some.rest.now c.in-Ok.version
    c.in-Some.ensures.some (sym c.read_header.ensures ∙ c.in-Ok.is)
    ∙ ap (versioned c.in-Ok.version) c.in_ok-lines.ensures

use Rattle.std.proofs.Common.{sym, ◌∙◌, map}
use Rattle.wait_script.proofs.Tables.{some_said}
use Rattle.wait_script.proofs.forms.shared.Goals as goal

pub returns-in-Some : goal.returns-in-Some
returns-in-Some c =
    c.by_name.ensures ∙ sym (some_said c.args.version c.args.word.now (map (λ w. w.now) c.args.rest.now) _
    (sym (c.in-Some.ensures)))

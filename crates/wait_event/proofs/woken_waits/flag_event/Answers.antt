use Rattle.std.proofs.Common.{◌∙◌, sym}
use Rattle.wait_event.proofs.Hearing.Steps.{flag_hears}
use Rattle.wait_event.proofs.woken_waits.flag_event.Goals as goal

pub returns-then-woken_load : goal.returns-then-woken_load
returns-then-woken_load c =
    let s = c.woken_load.ensures.step in
    (flag_hears c.args.task.now c.woken_load.new.task c.args.state s.0 c.requires.at s.1 c.woken_load.ensures.carries).0
    (sym c.if-woken_load.true ∙ s.2)

pub returns-else-woken_load : goal.returns-else-woken_load
returns-else-woken_load c =
    let s = c.woken_load.ensures.step in
    (flag_hears c.args.task.now c.woken_load.new.task c.args.state s.0 c.requires.at s.1 c.woken_load.ensures.carries).1
    (sym c.if-woken_load.false ∙ s.2)

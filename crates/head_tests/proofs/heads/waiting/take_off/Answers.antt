use Rattle.std.proofs.Common.{◌∙◌, sym}
use Rattle.wq_head.proofs.ReadyTasks.{look_holds, may_take_off}
use Rattle.head_tests.proofs.heads.waiting.take_off.Goals as goal

pub remove-requires-clause-held : goal.remove-requires-clause-held
remove-requires-clause-held c =
    let s = c.entry_load-word.ensures in
    look_holds c.args.task.now c.entry_load-word.new.task c.number-who.result c.entry_load-word.result.0 c.requires.held
    s.step s.knew

pub remove-requires-clause-may : goal.remove-requires-clause-may
remove-requires-clause-may c =
    let s = c.entry_load-word.ensures in
    may_take_off c.args.task.now c.entry_load-word.new.task c.number-who.result c.entry_load-word.result.0
    c.requires.held s.step s.knew c.in-Some.entry c.number-who.ensures.number (sym c.entry_of.ensures ∙ c.in-Some.is)
    (sym c.head_of.ensures ∙ (c.if-head_of-eq-FIRST_PLAIN_HEAD.true ∙ sym c.requires.at))

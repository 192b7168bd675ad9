use Rattle.std.proofs.Common.{◌∙◌, sym}
use Rattle.wait_event.proofs.PartSteps.{pares_may}
use Rattle.wait_event.proofs.prepares.pare.Goals as goal

pub remove-requires-clause-may : goal.remove-requires-clause-may
remove-requires-clause-may c = pares_may c.args.task.now c.own_entry.new.task c.own_entry.result c.own_entry.ensures
    c.requires.held c.requires.home (sym c.is_some.ensures ∙ c.if-is_some.true) c.number-me.result
    (c.number-me.ensures.number ∙ c.own_entry.ensures.carries.number)

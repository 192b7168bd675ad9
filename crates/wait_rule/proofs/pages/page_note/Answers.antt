use Rattle.wait_rule.specs.Queues.{index}
use Rattle.wait_rule.proofs.{KnownLaws.CarriedPages.note_keeps, KnownLaws.CarriedSteps.page_is_noted}
use Rattle.wait_rule.proofs.pages.page_note.Goals as goal

pub returns-clause-keeps : goal.returns-clause-keeps
returns-clause-keeps c = note_keeps c.args.task.now c.note_as.new.task (index c.args.task.now.view.number c.args.slot)
    c.args.word c.note_as.ensures

pub returns-clause-notes : goal.returns-clause-notes
returns-clause-notes c = page_is_noted c.args.task.now c.note_as.new.task
    (index c.args.task.now.view.number c.args.slot) c.args.word c.note_as.ensures c.requires.given

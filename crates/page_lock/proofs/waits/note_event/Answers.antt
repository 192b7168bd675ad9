use Rattle.std.proofs.Common.{refl}
use Rattle.page_lock.proofs.PageFlags.{note_advances}
use Rattle.std.specs.Prelude.{Some}
use Rattle.wait_model.specs.declared.steps.Step.TheVariants as step
use Rattle.wait_rule.specs.Queues.{index}
use Rattle.wait_class.proofs.{Handed.given_step, AwakeSteps.awake_step}
use Rattle.page_lock.proofs.waits.note_event.Goals as goal

pub returns-clause-turned : goal.returns-clause-turned
returns-clause-turned c = note_advances c.args.task.now c.page_note.new.task c.args.run.now c.page_note.ensures.step
    c.page_note.ensures.keeps c.requires.at

pub returns-clause-given : goal.returns-clause-given
returns-clause-given c = given_step c.args.task.now c.page_note.new.task
    (step.Unflag (index c.args.task.now.view.number 0) (Some c.args.run.now.of.page)) c.page_note.ensures.step

pub returns-clause-awake : goal.returns-clause-awake
returns-clause-awake c = awake_step c.args.task.now c.page_note.new.task
    (step.Unflag (index c.args.task.now.view.number 0) (Some c.args.run.now.of.page)) c.page_note.ensures.step refl

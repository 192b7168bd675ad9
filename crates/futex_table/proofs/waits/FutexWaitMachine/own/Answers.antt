use Rattle.std.proofs.Common.{refl}
use Rattle.wait_model.specs.declared.layout.TheConstants.{HEADS}
use Rattle.wait_model.specs.declared.steps.Step.TheVariants as step
use Rattle.wait_class.proofs.{Handed.given_as, Handed.given_step, AwakeSteps.awake_step}
use Rattle.futex_table.proofs.WordLoads.{word_advances}
use Rattle.futex_table.proofs.waits.FutexWaitMachine.own.Goals as goal

pub returns-clause-turned : goal.returns-clause-turned
returns-clause-turned c = word_advances c.args.task.now c.cond_load-value.new.task c.args.run.now c.args.stage
    c.requires.here c.requires.at c.watch.result c.watch.ensures c.cond_load-value.result
    c.cond_load-value.ensures.step c.cond_load-value.ensures.carries c.loaded_to-next.result c.loaded_to-next.ensures
    c.note.new.self c.note.ensures

pub returns-clause-given : goal.returns-clause-given
returns-clause-given c = given_as c.args.task.now c.cond_load-value.new.task HEADS c.args.passing.now.head
    c.requires.passes (given_step c.args.task.now c.cond_load-value.new.task
    (step.Load c.watch.result c.cond_load-value.result) c.cond_load-value.ensures.step)

pub returns-clause-awake : goal.returns-clause-awake
returns-clause-awake c = awake_step c.args.task.now c.cond_load-value.new.task
    (step.Load c.watch.result c.cond_load-value.result) c.cond_load-value.ensures.step refl

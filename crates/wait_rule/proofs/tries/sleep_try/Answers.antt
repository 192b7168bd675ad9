use Rattle.std.proofs.Common.{refl}
use Rattle.wait_model.specs.declared.steps.Step.TheVariants as step
use Rattle.wait_rule.proofs.{KnownLaws.SettledTasks.settled_after, KnownLaws.SettledTasks.owes_after}
use Rattle.wait_rule.proofs.{KnownLaws.CarriedSteps.slept_carried, KnownLaws.StepCalls.added_from}
use Rattle.wait_rule.proofs.tries.sleep_try.Goals as goal

pub returns-then-try_sleep-clause-settled : goal.returns-then-try_sleep-clause-settled
returns-then-try_sleep-clause-settled c =
    settled_after c.args.task.now _ (step.Sleep c.load_word-found.result) refl
    (added_from _ c.if-try_sleep.ensures c.load_word-found.ensures.same)

pub returns-then-try_sleep-clause-owing : goal.returns-then-try_sleep-clause-owing
returns-then-try_sleep-clause-owing c =
    owes_after c.args.task.now _ (step.Sleep c.load_word-found.result) refl
    (added_from _ c.if-try_sleep.ensures c.load_word-found.ensures.same)

pub returns-then-try_sleep-clause-carries : goal.returns-then-try_sleep-clause-carries
returns-then-try_sleep-clause-carries c =
    slept_carried c.args.task.now _ c.load_word-found.result
    (added_from _ c.if-try_sleep.ensures c.load_word-found.ensures.same) c.slept-sleep.result.1 c.slept-sleep.ensures.sleep

use Rattle.std.proofs.Common.{refl}
use Rattle.wait_model.specs.declared.steps.Step.TheVariants as step
use Rattle.wait_rule.proofs.KnownLaws.SettledTasks.{settled_after, owes_after}
use Rattle.wait_rule.proofs.KnownLaws.StepCalls.{added_from, stays_but}
use Rattle.wait_rule.proofs.tries.wake_try.Goals as goal

pub returns-then-try_wake-clause-settled : goal.returns-then-try_wake-clause-settled
returns-then-try_wake-clause-settled c =
    settled_after c.args.task.now _ (step.Wake c.args.who c.args.mask c.load_word-found.result) refl
    (added_from _ c.if-try_wake.ensures c.load_word-found.ensures.same)

pub returns-then-try_wake-clause-owing : goal.returns-then-try_wake-clause-owing
returns-then-try_wake-clause-owing c =
    owes_after c.args.task.now _ (step.Wake c.args.who c.args.mask c.load_word-found.result) refl
    (added_from _ c.if-try_wake.ensures c.load_word-found.ensures.same)

pub returns-then-try_wake-clause-carries : goal.returns-then-try_wake-clause-carries
returns-then-try_wake-clause-carries c =
    (stays_but (λ σ. σ) c.args.task.now _ (step.Wake c.args.who c.args.mask c.load_word-found.result)
    (added_from _ c.if-try_wake.ensures c.load_word-found.ensures.same) refl refl refl refl refl refl refl refl refl
    (λ _. refl)).carries

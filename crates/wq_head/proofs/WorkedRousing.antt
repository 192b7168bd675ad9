-- Whom wakes rouse, on a small history.
use Rattle.std.proofs.Common.{refl}
use Rattle.std.specs.Prelude.{◌≡◌, ◌∷◌, []}
use Rattle.wait_model.specs.declared.steps.Step.TheVariants as step
use Rattle.wait_model.specs.Tasks.{meets, task_of}
use Rattle.wq_head.specs.Roused.{roused}

-- Task 3 slept uninterruptibly, task 4 was about to and is runnable, task 5 is in a state that the mask does not meet,
-- and task 6 slept, was interruptible and had a signal pending.
sleepers_alone : roused (step.Wake 3 3 0x2 ∷ step.Wake 4 3 0x1_0002 ∷ step.Wake 5 1 0x2 ∷ step.Wake 6 1 0x2_0001 ∷ [])
    ≡ 3 ∷ 6 ∷ []
unfolding meets task_of
sleepers_alone = refl

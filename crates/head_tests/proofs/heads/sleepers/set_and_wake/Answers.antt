use Rattle.wq_head.proofs.ReadyTasks.{published_idle}
use Rattle.head_tests.proofs.heads.sleepers.set_and_wake.Goals as goal

pub wake-requires-clause-idle : goal.wake-requires-clause-idle
wake-requires-clause-idle g c = published_idle c.look_for_three.new.task c.publish.new.task _ 1 c.publish.ensures.step.0
    c.look_for_three.ensures.rests c.publish.ensures.step.1

use Rattle.std.proofs.Common.{◌∙◌}
use Rattle.wait_model.specs.declared.watches.Watch.TheVariants as watch
use Rattle.wait_event.proofs.Setting.{has_set, set_carries}
use Rattle.wait_event.proofs.conds.set_and_wake.Goals as goal

pub returns-clause-set : goal.returns-clause-set
returns-clause-set g c =
    let s = c.publish.ensures.step in
    has_set c.args.task.now c.publish.new.task c.wake.new.task c.args.cond c.args.value s.0 c.args.mode c.args.count
    c.wake.result s.1 c.wake.ensures.woken c.wake.ensures.ended

pub returns-clause-carries : goal.returns-clause-carries
returns-clause-carries g c = set_carries (watch.Plain c.args.cond) c.args.mode c.args.task.now c.publish.new.task
    c.wake.new.task c.requires.idle c.wake.ensures.idle (c.told.ensures.head ∙ c.requires.idle.free.head)
    c.publish.ensures.carries c.wake.ensures.carries

use Rattle.std.proofs.Common.{refl, subst}
use Rattle.std.specs.Prelude.{ℕ}
use Rattle.wait_rule.specs.Tried.{HasTried}
use Rattle.wq_checked.proofs.Once.{raised_as, raised_ready}
use Rattle.wq_checked.proofs.at_once.raise.Goals as goal

pub returns-in-Ok-clause-sound : goal.returns-in-Ok-clause-sound
returns-in-Ok-clause-sound c =
    let sent = c.signal_or.ensures in
    let woke = c.in-Ok.ensures in
    raised_ready c.args.kept.now c.args.task.now c.signal_or.new.task c.wake_tries.new.task c.args.who
    c.raise_mask.result sent.step.0 woke.step.0 c.args.fatal sent.step.2 sent.carries woke.step.2 woke.carries
    c.requires.ready

pub returns-in-Ok-clause-does : goal.returns-in-Ok-clause-does
returns-in-Ok-clause-does c = (
  raised_as c.args.task.now c.wake_tries.new.task c.args.who c.args.fatal c.args.kept.now c.in-Ok.woke.rouse
      c.who_if-rouse.result c.who_if-rouse.ensures
      (record {
        between = c.signal_or.new.task;
        sent = c.signal_or.ensures.step;
        met = c.in-Ok.woke;
        tried = subst (λ (m : ℕ). HasTried c.signal_or.new.task c.wake_tries.new.task c.args.who m c.in-Ok.woke)
            c.raise_mask.ensures c.in-Ok.ensures.step;
        tells = refl;
      }),
  refl,
)

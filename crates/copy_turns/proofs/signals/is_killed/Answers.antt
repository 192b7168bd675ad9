use Rattle.std.proofs.Common.{◌∙◌, sym}
use Rattle.std.specs.Prelude.{◌≡◌}
use Rattle.wait_model.specs.Tasks.{task_of, taken_of}
use Rattle.copy_turns.proofs.Frames.{accepted_apart, accepted_kill, accepted_own_kill, accepted_own_none}
use Rattle.copy_turns.proofs.Frames.{accepted_spared}
use Rattle.copy_turns.proofs.signals.is_killed.Goals as goal

pub returns-in-Fatal : goal.returns-in-Fatal
returns-in-Fatal c = record {
  apart = accepted_apart c.args.task.now c.take_signal.new.task
      (λ found. c.take_signal.result ≡ taken_of (task_of found)) c.take_signal.ensures.step
      c.take_signal.ensures.carries c.requires.work;
  own = accepted_own_kill c.args.task.now c.take_signal.new.task c.take_signal.result c.take_signal.ensures.step
      c.in-Fatal.is;
  killed = accepted_kill c.args.task.now c.take_signal.new.task c.take_signal.result c.take_signal.ensures.step
      c.in-Fatal.is;
}

pub returns-in-Plain : goal.returns-in-Plain
returns-in-Plain c = record {
  apart = accepted_apart c.args.task.now c.take_signal.new.task
      (λ found. c.take_signal.result ≡ taken_of (task_of found)) c.take_signal.ensures.step
      c.take_signal.ensures.carries c.requires.work;
  own = accepted_own_none c.args.task.now c.take_signal.new.task c.take_signal.result c.take_signal.ensures.step
      (λ e. let f = sym c.in-Plain.is ∙ e in absurd (cc));
  killed = accepted_spared c.args.task.now c.take_signal.new.task c.take_signal.result c.take_signal.ensures.step
      (λ e. let f = sym c.in-Plain.is ∙ e in absurd (cc));
}

pub returns-in-Nothing : goal.returns-in-Nothing
returns-in-Nothing c = record {
  apart = accepted_apart c.args.task.now c.take_signal.new.task
      (λ found. c.take_signal.result ≡ taken_of (task_of found)) c.take_signal.ensures.step
      c.take_signal.ensures.carries c.requires.work;
  own = accepted_own_none c.args.task.now c.take_signal.new.task c.take_signal.result c.take_signal.ensures.step
      (λ e. let f = sym c.in-Nothing.is ∙ e in absurd (cc));
  killed = accepted_spared c.args.task.now c.take_signal.new.task c.take_signal.result c.take_signal.ensures.step
      (λ e. let f = sym c.in-Nothing.is ∙ e in absurd (cc));
}

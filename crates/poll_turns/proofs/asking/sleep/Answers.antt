use Rattle.std.proofs.Common.{inl, inr, subst, sym}
use Rattle.wait_rule.specs.Stays.{Carries, sleep_change}
use Rattle.poll_turns.specs.PollTurns.{IsToSleep}
use Rattle.poll_turns.proofs.Sleeping.{falls_asleep, slept_awake, turned_more}
use Rattle.poll_turns.proofs.Showing.{sleep_failed, slept_again, slept_last}
use Rattle.poll_turns.proofs.asking.sleep.Goals as goal

pub returns-in-None-clause-goes : goal.returns-in-None-clause-goes
returns-in-None-clause-goes c = record {
  came = λ b start x. subst (IsToSleep c.args.poll start) (sym c.in-None.ensures.same) x;
  did = sleep_failed c.args.poll c.args.task.now c.sleep_try.new.task c.args.failed c.sleep_try.new.failed
      c.in-None.ensures.same c.in-None.ensures.counts;
}

pub returns-in-Some-Asleep-clause-goes : goal.returns-in-Some-Asleep-clause-goes
returns-in-Some-Asleep-clause-goes c =
    let s = c.in-Some-Asleep.ensures.step in record {
      came = λ b start x. falls_asleep c.args.poll start c.args.task.now c.sleep_try.new.task s.0 c.in-Some-Asleep.field-0 x
          s.1 s.2 s.3 c.in-Some-Asleep.field-0-is;
      did = slept_last c.args.poll c.args.task.now c.sleep_try.new.task c.args.failed s.0 s.2;
    }

pub returns-in-Some-Stay-clause-goes : goal.returns-in-Some-Stay-clause-goes
returns-in-Some-Stay-clause-goes c =
    let s = c.in-Some-Stay.ensures.step in record {
      came = λ b start x. turned_more c.args.poll c.requires.poll start c.args.task.now c.sleep_try.new.task x
          c.in-Some-Stay.field-0
          (slept_awake c.args.task.now c.sleep_try.new.task s.0 c.in-Some-Stay.field-0 x.within.has.up s.1 s.2 s.3
          (inl c.in-Some-Stay.field-0-is))
          (subst (λ (y : _). Carries (sleep_change y) c.args.task.now c.sleep_try.new.task) c.in-Some-Stay.field-0-is
          c.in-Some-Stay.ensures.carries);
      did = slept_again c.args.poll c.args.task.now c.sleep_try.new.task c.args.failed s.0 s.2;
    }

pub returns-in-Some-Signal-clause-goes : goal.returns-in-Some-Signal-clause-goes
returns-in-Some-Signal-clause-goes c =
    let s = c.in-Some-Signal.ensures.step in record {
      came = λ b start x. turned_more c.args.poll c.requires.poll start c.args.task.now c.sleep_try.new.task x
          c.in-Some-Signal.field-0
          (slept_awake c.args.task.now c.sleep_try.new.task s.0 c.in-Some-Signal.field-0 x.within.has.up s.1 s.2 s.3
          (inr c.in-Some-Signal.field-0-is))
          (subst (λ (y : _). Carries (sleep_change y) c.args.task.now c.sleep_try.new.task) c.in-Some-Signal.field-0-is
          c.in-Some-Signal.ensures.carries);
      did = slept_again c.args.poll c.args.task.now c.sleep_try.new.task c.args.failed s.0 s.2;
    }

use Rattle.std.proofs.Common.{inl, inr}
use Rattle.wait_event.proofs.Hearing.Steps.{down_hears, up_hears}
use Rattle.wait_event.proofs.woken_waits.sleep_event.Goals as goal

pub returns-in-Some-Asleep : goal.returns-in-Some-Asleep
returns-in-Some-Asleep c =
    let s = c.in-Some-Asleep.ensures.step in
    down_hears c.args.task.now c.sleep_try.new.task c.args.state c.requires.at s.0 s.2 c.in-Some-Asleep.field-0 s.3
    c.in-Some-Asleep.field-0-is

pub returns-in-Some-Stay : goal.returns-in-Some-Stay
returns-in-Some-Stay c =
    let s = c.in-Some-Stay.ensures.step in
    up_hears c.args.task.now c.sleep_try.new.task c.args.state c.requires.at s.0 s.2 c.in-Some-Stay.field-0 s.3
    (inl c.in-Some-Stay.field-0-is)

pub returns-in-Some-Signal : goal.returns-in-Some-Signal
returns-in-Some-Signal c =
    let s = c.in-Some-Signal.ensures.step in
    up_hears c.args.task.now c.sleep_try.new.task c.args.state c.requires.at s.0 s.2 c.in-Some-Signal.field-0 s.3
    (inr c.in-Some-Signal.field-0-is)

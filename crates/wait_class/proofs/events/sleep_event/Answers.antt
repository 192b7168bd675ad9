use Rattle.std.proofs.Common.{inl, inr}
use Rattle.wait_class.proofs.Sleeps.{again_falls, down_falls, sleep_again, sleep_down, sleep_free, sleep_up, up_falls}
use Rattle.wait_model.specs.declared.steps.Step.TheVariants as step
use Rattle.wait_class.proofs.Handed.{given_step}
use Rattle.wait_class.proofs.events.sleep_event.Goals as goal

pub sleep_try-requires-clause-free : goal.sleep_try-requires-clause-free
sleep_try-requires-clause-free g c = sleep_free g.C.Machine.table c.lawful.ensures c.args.task.now c.args.run.now
    c.args.stage c.requires.here c.requires.at

pub returns-in-None-clause-falls : goal.returns-in-None-clause-falls
returns-in-None-clause-falls g c = again_falls g.C.Machine.table c.lawful.ensures c.args.run.now.of c.args.stage
    c.requires.here

pub returns-in-Some-Asleep-clause-turned : goal.returns-in-Some-Asleep-clause-turned
returns-in-Some-Asleep-clause-turned g c =
    let s = c.in-Some-Asleep.ensures.step in
    sleep_down g.C.Machine.table c.lawful.ensures c.args.task.now c.sleep_try.new.task c.args.run.now c.args.stage
    c.requires.here c.requires.at s.0 s.2 c.in-Some-Asleep.field-0 s.3 c.in-Some-Asleep.field-0-is c.slept_to-next.result
    c.slept_to-next.ensures c.sleep_try.new.failed c.in-Some-Asleep.ensures.counts

pub returns-in-Some-Asleep-clause-falls : goal.returns-in-Some-Asleep-clause-falls
returns-in-Some-Asleep-clause-falls g c = down_falls g.C.Machine.table c.lawful.ensures c.args.run.now.of c.args.stage
    c.requires.here c.slept_to-next.result c.slept_to-next.ensures

pub returns-in-Some-Stay-clause-turned : goal.returns-in-Some-Stay-clause-turned
returns-in-Some-Stay-clause-turned g c =
    let s = c.in-Some-Stay.ensures.step in
    sleep_up g.C.Machine.table c.lawful.ensures c.args.task.now c.sleep_try.new.task c.args.run.now c.args.stage
    c.requires.here c.requires.at s.0 s.2 c.in-Some-Stay.field-0 s.3 (inl c.in-Some-Stay.field-0-is) c.slept_to-next.result
    c.slept_to-next.ensures c.sleep_try.new.failed c.in-Some-Stay.ensures.counts

pub returns-in-Some-Stay-clause-falls : goal.returns-in-Some-Stay-clause-falls
returns-in-Some-Stay-clause-falls g c = up_falls g.C.Machine.table c.lawful.ensures c.args.run.now.of c.args.stage
    c.requires.here c.slept_to-next.result c.slept_to-next.ensures

pub returns-in-Some-Signal-clause-turned : goal.returns-in-Some-Signal-clause-turned
returns-in-Some-Signal-clause-turned g c =
    let s = c.in-Some-Signal.ensures.step in
    sleep_up g.C.Machine.table c.lawful.ensures c.args.task.now c.sleep_try.new.task c.args.run.now c.args.stage
    c.requires.here c.requires.at s.0 s.2 c.in-Some-Signal.field-0 s.3 (inr c.in-Some-Signal.field-0-is) c.slept_to-next.result
    c.slept_to-next.ensures c.sleep_try.new.failed c.in-Some-Signal.ensures.counts

pub returns-in-Some-Signal-clause-falls : goal.returns-in-Some-Signal-clause-falls
returns-in-Some-Signal-clause-falls g c = up_falls g.C.Machine.table c.lawful.ensures c.args.run.now.of c.args.stage
    c.requires.here c.slept_to-next.result c.slept_to-next.ensures

pub returns-in-None-clause-turned : goal.returns-in-None-clause-turned
returns-in-None-clause-turned g c = sleep_again g.C.Machine.table c.lawful.ensures c.args.task.now
    c.sleep_try.new.task c.args.run.now c.args.stage c.requires.here c.requires.at c.in-None.ensures.same
    c.sleep_try.new.failed c.in-None.ensures.counts

pub returns-in-Some-Asleep-clause-given : goal.returns-in-Some-Asleep-clause-given
returns-in-Some-Asleep-clause-given g c = given_step c.args.task.now c.sleep_try.new.task
    (step.Sleep c.in-Some-Asleep.ensures.step.0) c.in-Some-Asleep.ensures.step.2

pub returns-in-Some-Stay-clause-given : goal.returns-in-Some-Stay-clause-given
returns-in-Some-Stay-clause-given g c = given_step c.args.task.now c.sleep_try.new.task
    (step.Sleep c.in-Some-Stay.ensures.step.0) c.in-Some-Stay.ensures.step.2

pub returns-in-Some-Signal-clause-given : goal.returns-in-Some-Signal-clause-given
returns-in-Some-Signal-clause-given g c = given_step c.args.task.now c.sleep_try.new.task
    (step.Sleep c.in-Some-Signal.ensures.step.0) c.in-Some-Signal.ensures.step.2

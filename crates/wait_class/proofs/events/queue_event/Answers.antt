use Rattle.std.proofs.Common.{◌∙◌, ap, inr, refl}
use Rattle.wait_model.specs.{Tasks.state_mask, declared.layout.TheConstants.HEADS}
use Rattle.wait_class.proofs.Queues.{join_advances, join_falls, mid_holds, queue_at, queue_out, queue_seen}
use Rattle.wait_class.proofs.Queues.{stay_advances, stay_falls, worn_advances, worn_falls, worn_owes, worn_stops}
use Rattle.wait_model.specs.declared.steps.Step.TheVariants as step
use Rattle.wait_class.proofs.Handed.{given_as, given_back, given_joined, given_on, given_seen, given_member_looks, given_step}
use Rattle.wait_class.proofs.AwakeSteps.{awake_back, awake_joined, awake_looked, awake_seen, awake_step, sleeps_not_on}
use Rattle.wait_class.proofs.events.queue_event.Goals as goal

pub returns-then-is_some-clause-turned : goal.returns-then-is_some-clause-turned
returns-then-is_some-clause-turned g c = stay_advances g.C.Machine.table c.lawful.ensures c.args.task.now c.own_entry-entry.new.task
    c.set_state.new.task c.args.run.now c.args.stage c.requires.here c.requires.at c.own_entry-entry.result c.own_entry-entry.ensures
    c.is_some.result c.is_some.ensures c.if-is_some.true c.mask.result (c.mask.ensures ∙ ap state_mask c.state.ensures)
    c.set_state.ensures.step c.set_state.ensures.carries c.added_to.result c.added_to.ensures

pub returns-then-is_some-clause-falls : goal.returns-then-is_some-clause-falls
returns-then-is_some-clause-falls g c = stay_falls g.C.Machine.table c.lawful.ensures c.args.run.now.of c.args.stage
    c.requires.here c.own_entry-entry.result c.is_some.result c.is_some.ensures c.if-is_some.true c.added_to.result c.added_to.ensures

pub add-requires-clause-may : goal.add-requires-clause-may
add-requires-clause-may g c = record {
  fits = c.requires.at.fits;
  held = mid_holds g.C.Machine.table c.lawful.ensures c.args.task.now c.own_entry-entry.new.task
      c.args.run.now c.args.stage c.requires.here c.requires.at c.own_entry-entry.result c.own_entry-entry.ensures;
  head = queue_at g.C.Machine.table c.lawful.ensures c.args.task.now c.own_entry-entry.new.task
      c.args.run.now c.args.stage c.requires.here c.requires.at c.own_entry-entry.result c.own_entry-entry.ensures;
  out = queue_out g.C.Machine.table c.lawful.ensures c.args.task.now c.own_entry-entry.new.task
      c.own_entry-entry.result c.own_entry-entry.ensures c.is_some.result c.is_some.ensures c.if-is_some.false;
  trail = (
    c.args.task.now,
    queue_seen g.C.Machine.table c.lawful.ensures c.args.task.now c.own_entry-entry.new.task c.own_entry-entry.result
        c.own_entry-entry.ensures c.is_some.result c.is_some.ensures c.if-is_some.false,
    c.requires.at.trail,
  );
}

pub returns-in-Ok-clause-turned : goal.returns-in-Ok-clause-turned
returns-in-Ok-clause-turned g c = join_advances g.C.Machine.table c.lawful.ensures c.args.task.now c.own_entry-entry.new.task
    c.add.new.task c.args.run.now c.args.stage c.requires.here c.requires.at c.own_entry-entry.result c.own_entry-entry.ensures
    c.is_some.result c.is_some.ensures c.if-is_some.false (c.add.ensures c.requires.here).held (c.in-Ok.ensures c.requires.here).by
    c.added_to-next.result c.added_to-next.ensures c.note_joined.new.self c.note_joined.ensures

pub returns-in-Ok-clause-falls : goal.returns-in-Ok-clause-falls
returns-in-Ok-clause-falls g c = join_falls g.C.Machine.table c.lawful.ensures c.args.run.now.of c.args.stage
    c.requires.here c.added_to-next.result c.added_to-next.ensures

pub give_back-requires-clause-permits : goal.give_back-requires-clause-permits
give_back-requires-clause-permits g c = worn_owes g.C.Machine.table c.lawful.ensures c.args.task.now
    c.own_entry-entry.new.task c.add.new.task c.own_entry.new.task c.args.run.now c.args.stage c.requires.here
    c.requires.at c.own_entry-entry.result c.own_entry-entry.ensures (c.in-Err.ensures c.requires.here).by.looks (c.add.ensures c.requires.here).at
    c.own_entry.result c.own_entry.ensures

pub returns-in-Err-clause-turned : goal.returns-in-Err-clause-turned
returns-in-Err-clause-turned g c = worn_advances g.C.Machine.table c.lawful.ensures c.args.task.now c.own_entry-entry.new.task
    c.add.new.task c.own_entry.new.task c.give_back.new.task c.args.run.now c.args.stage c.requires.here c.requires.at
    c.own_entry-entry.result c.own_entry-entry.ensures c.is_some.result c.is_some.ensures c.if-is_some.false c.in-Err.worn (c.in-Err.ensures c.requires.here).by (c.add.ensures c.requires.here).held
    c.own_entry.result c.own_entry.ensures c.give_back.ensures.given (c.in-Err.ensures c.requires.here).by.noted c.note_worn.new.self
    c.note_worn.ensures c.added_to-next-in-Err.result c.added_to-next-in-Err.ensures

pub returns-in-Err-clause-falls : goal.returns-in-Err-clause-falls
returns-in-Err-clause-falls g c = worn_falls g.C.Machine.table c.lawful.ensures c.args.run.now.of c.args.stage
    c.requires.here c.added_to-next-in-Err.result c.added_to-next-in-Err.ensures

pub returns-in-Err-clause-passes : goal.returns-in-Err-clause-passes
returns-in-Err-clause-passes g c = inr (worn_stops g.C.Machine.table c.lawful.ensures c.args.run.now.of c.args.stage
    c.requires.here c.added_to-next-in-Err.result c.added_to-next-in-Err.ensures)

pub returns-then-is_some-clause-given : goal.returns-then-is_some-clause-given
returns-then-is_some-clause-given g c = given_as c.args.task.now c.set_state.new.task HEADS c.args.passing.now.head
    c.requires.passes (given_on c.args.task.now c.own_entry-entry.new.task c.set_state.new.task HEADS
    (given_seen c.args.task.now c.own_entry-entry.new.task c.own_entry-entry.result c.own_entry-entry.ensures)
    (given_step c.own_entry-entry.new.task c.set_state.new.task (step.State c.mask.result) c.set_state.ensures.step))

pub returns-in-Ok-clause-given : goal.returns-in-Ok-clause-given
returns-in-Ok-clause-given g c = given_as c.args.task.now c.add.new.task HEADS c.args.passing.now.head
    c.requires.passes (given_on c.args.task.now c.own_entry-entry.new.task c.add.new.task HEADS
    (given_seen c.args.task.now c.own_entry-entry.new.task c.own_entry-entry.result c.own_entry-entry.ensures)
    (given_joined g.C.Machine.table c.own_entry-entry.new.task c.add.new.task c.args.run.now.of c.args.stage
    (c.in-Ok.ensures c.requires.here).by))

pub returns-in-Err-clause-given : goal.returns-in-Err-clause-given
returns-in-Err-clause-given g c =
    let h = c.put.new.self.head in
    given_on c.args.task.now c.own_entry-entry.new.task c.give_back.new.task h
    (given_seen c.args.task.now c.own_entry-entry.new.task c.own_entry-entry.result c.own_entry-entry.ensures)
    (given_on c.own_entry-entry.new.task c.add.new.task c.give_back.new.task h
    (given_member_looks c.own_entry-entry.new.task c.add.new.task (c.in-Err.ensures c.requires.here).by.looks)
    (given_back c.add.new.task c.own_entry.new.task c.give_back.new.task c.own_entry.result c.own_entry.ensures h
    (c.put.ensures ∙ c.give_back.ensures.head) c.give_back.ensures.given))

pub returns-then-is_some-clause-awake : goal.returns-then-is_some-clause-awake
returns-then-is_some-clause-awake g c = sleeps_not_on c.args.task.now c.own_entry-entry.new.task c.set_state.new.task
    (awake_seen c.args.task.now c.own_entry-entry.new.task c.own_entry-entry.result c.own_entry-entry.ensures)
    (awake_step c.own_entry-entry.new.task c.set_state.new.task (step.State c.mask.result) c.set_state.ensures.step refl)

pub returns-in-Ok-clause-awake : goal.returns-in-Ok-clause-awake
returns-in-Ok-clause-awake g c = sleeps_not_on c.args.task.now c.own_entry-entry.new.task c.add.new.task
    (awake_seen c.args.task.now c.own_entry-entry.new.task c.own_entry-entry.result c.own_entry-entry.ensures)
    (awake_joined g.C.Machine.table c.own_entry-entry.new.task c.add.new.task c.args.run.now.of c.args.stage (c.in-Ok.ensures c.requires.here).by)

pub returns-in-Err-clause-awake : goal.returns-in-Err-clause-awake
returns-in-Err-clause-awake g c = sleeps_not_on c.args.task.now c.own_entry-entry.new.task c.give_back.new.task
    (awake_seen c.args.task.now c.own_entry-entry.new.task c.own_entry-entry.result c.own_entry-entry.ensures)
    (sleeps_not_on c.own_entry-entry.new.task c.add.new.task c.give_back.new.task
    (awake_looked c.own_entry-entry.new.task c.add.new.task (c.in-Err.ensures c.requires.here).by.looks)
    (awake_back c.add.new.task c.own_entry.new.task c.give_back.new.task c.own_entry.result c.own_entry.ensures
    c.give_back.ensures.given))

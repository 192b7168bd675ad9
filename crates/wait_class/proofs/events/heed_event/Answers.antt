use Rattle.std.proofs.Common.{◌∙◌, ℕ, ap, inr, refl}
use Rattle.wait_model.specs.Tasks.{pending, state_mask, task_of}
use Rattle.wait_model.specs.declared.layout.TheConstants.{HEADS}
use Rattle.wait_class.proofs.Entries.{heed_holds, heed_owes, heed_stops, heeds_advances, heeds_falls, heed_law, not_there, off_falls}
use Rattle.wait_model.specs.declared.steps.Step.TheVariants as step
use Rattle.wait_class.proofs.Handed.{given_as, given_on, given_back, given_seen, given_step}
use Rattle.wait_class.proofs.AwakeSteps.{awake_back, awake_seen, awake_step, sleeps_not_on}
use Rattle.wait_class.proofs.events.heed_event.Goals as goal

pub returns-then-is_some-clause-turned : goal.returns-then-is_some-clause-turned
returns-then-is_some-clause-turned g c = heeds_advances g.C.Machine.table c.lawful.ensures c.args.task.now c.own_entry-entry.new.task
    c.load_own-own.new.task c.args.run.now c.args.stage c.requires.here c.requires.at c.own_entry-entry.result c.own_entry-entry.ensures
    c.is_some.result c.is_some.ensures c.if-is_some.true c.load_own-own.result.0 c.load_own-own.ensures.step c.load_own-own.ensures.carries
    c.pending_state-hit.result (c.pending_state-hit.ensures ∙ ap (λ (m : ℕ). pending m (task_of c.load_own-own.result.0))
    (c.mask.ensures ∙ ap state_mask c.state.ensures))
    c.heeded_to.result c.heeded_to.ensures

pub returns-then-is_some-clause-falls : goal.returns-then-is_some-clause-falls
returns-then-is_some-clause-falls g c = heeds_falls g.C.Machine.table c.lawful.ensures c.args.run.now.of c.args.stage
    c.requires.here c.own_entry-entry.result c.is_some.result c.is_some.ensures c.if-is_some.true c.load_own-own.result.0
    c.pending_state-hit.result (c.pending_state-hit.ensures ∙ ap (λ (m : ℕ). pending m (task_of c.load_own-own.result.0))
    (c.mask.ensures ∙ ap state_mask c.state.ensures))
    c.heeded_to.result c.heeded_to.ensures

pub give_back-requires-clause-held : goal.give_back-requires-clause-held
give_back-requires-clause-held g c = (heed_holds g.C.Machine.table c.lawful.ensures c.args.task.now c.own_entry-entry.new.task
    c.args.run.now c.args.stage c.requires.here c.requires.at c.own_entry-entry.result c.own_entry-entry.ensures).locked

pub give_back-requires-clause-agreed : goal.give_back-requires-clause-agreed
give_back-requires-clause-agreed g c = (heed_holds g.C.Machine.table c.lawful.ensures c.args.task.now c.own_entry-entry.new.task
    c.args.run.now c.args.stage c.requires.here c.requires.at c.own_entry-entry.result c.own_entry-entry.ensures).agreed

pub give_back-requires-clause-permits : goal.give_back-requires-clause-permits
give_back-requires-clause-permits g c = heed_owes g.C.Machine.table c.lawful.ensures c.args.task.now c.own_entry-entry.new.task
    c.args.run.now c.args.stage c.requires.here c.requires.at c.own_entry-entry.result c.own_entry-entry.ensures

pub returns-clause-turned : goal.returns-clause-turned
returns-clause-turned g c =
    let l = heed_law g.C.Machine.table c.lawful.ensures c.args.run.now.of c.args.stage c.requires.here in
    not_there g.C.Machine.table c.lawful.ensures c.args.task.now c.own_entry-entry.new.task c.give_back.new.task
    c.args.run.now c.args.stage l.held l.opens l.gives c.requires.at c.own_entry-entry.result c.own_entry-entry.ensures
    c.is_some.result c.is_some.ensures c.if-is_some.false c.give_back.ensures.given c.found_to.result
    c.found_to.ensures

pub returns-clause-falls : goal.returns-clause-falls
returns-clause-falls g c = off_falls g.C.Machine.table c.lawful.ensures c.args.run.now.of c.args.stage
    c.requires.here c.found_to.result c.found_to.ensures

pub returns-clause-passes : goal.returns-clause-passes
returns-clause-passes g c = inr (heed_stops g.C.Machine.table c.lawful.ensures c.args.run.now.of c.args.stage
    c.requires.here c.found_to.result c.found_to.ensures)

pub returns-then-is_some-clause-given : goal.returns-then-is_some-clause-given
returns-then-is_some-clause-given g c = given_as c.args.task.now c.load_own-own.new.task HEADS c.args.passing.now.head
    c.requires.passes (given_on c.args.task.now c.own_entry-entry.new.task c.load_own-own.new.task HEADS
    (given_seen c.args.task.now c.own_entry-entry.new.task c.own_entry-entry.result c.own_entry-entry.ensures)
    (given_step c.own_entry-entry.new.task c.load_own-own.new.task (step.Look c.load_own-own.result.0)
    c.load_own-own.ensures.step))

pub returns-clause-given : goal.returns-clause-given
returns-clause-given g c = given_back c.args.task.now c.own_entry-entry.new.task c.give_back.new.task
    c.own_entry-entry.result c.own_entry-entry.ensures c.put.new.self.head (c.put.ensures ∙ c.give_back.ensures.head)
    c.give_back.ensures.given

pub returns-then-is_some-clause-awake : goal.returns-then-is_some-clause-awake
returns-then-is_some-clause-awake g c = sleeps_not_on c.args.task.now c.own_entry-entry.new.task c.load_own-own.new.task
    (awake_seen c.args.task.now c.own_entry-entry.new.task c.own_entry-entry.result c.own_entry-entry.ensures)
    (awake_step c.own_entry-entry.new.task c.load_own-own.new.task (step.Look c.load_own-own.result.0) c.load_own-own.ensures.step refl)

pub returns-clause-awake : goal.returns-clause-awake
returns-clause-awake g c = awake_back c.args.task.now c.own_entry-entry.new.task c.give_back.new.task c.own_entry-entry.result
    c.own_entry-entry.ensures c.give_back.ensures.given

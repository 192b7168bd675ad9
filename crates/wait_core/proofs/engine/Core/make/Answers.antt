use Rattle.std.specs.Prelude.{◌<◌}
use Rattle.wait_model.specs.{declared.layout.TheConstants.TASKS, Runs.state_of}
use Rattle.std.proofs.Common.{arith, sym, append-nil}
use Rattle.wait_core.proofs.{KeptCore.sound, KeptBits.page_small, FollowedRuns.left_by, FollowedRuns.left_now}
use Rattle.wait_core.proofs.StepAnswers.{planned_here, opened_again, shown_in, busy, full, made, stepped_core}
use Rattle.wait_core.proofs.StepAnswers.{stepped_keepers, stepped_taken, grown_run, room_left, plan_allowed, plan_joins}
use Rattle.wait_core.proofs.StepAnswers.{plan_located, plan_marked, in_range_here}
use Rattle.wait_core.proofs.engine.Core.make.Goals as goal

pub held_head-requires-clause-head : goal.held_head-requires-clause-head
held_head-requires-clause-head c =
    in_range_here c.self.invariant.core (omega arith) c.self.view_is c.requires.may c.requires.found c.requires.planned

pub returns-in-Some : goal.returns-in-Some
returns-in-Some c =
    let core = c.self.invariant.core in
    let mine : c.args.task < TASKS = omega arith in
    let due = planned_here core mine c.self.view_is c.requires.may c.requires.found c.requires.planned in
    record {
      answer = busy _ _ _ _ _ core c.args.task mine c.args.self.now c.self.view_is due c.in-Some.head
          (c.in-Some.ensures (state_of c.self.inside.run.items)
          (shown_in _ _ (state_of c.self.inside.run.items) c.deref.ensures.value core.shown));
      run = sym (append-nil c.args.self.now);
      setters = left_now c.self.inside.run.items c.args.self.now core c.self.view_is;
    }

pub returns-then-self-eq-EVENTS : goal.returns-then-self-eq-EVENTS
returns-then-self-eq-EVENTS c =
    let core = c.self.invariant.core in
    let mine : c.args.task < TASKS = omega arith in
    let due = planned_here core mine c.self.view_is c.requires.may c.requires.found c.requires.planned in
    record {
      answer = full _ _ _ _ _ core c.args.task mine c.args.self.now c.self.view_is due
          (c.in_default.ensures (state_of c.self.inside.run.items)
          (shown_in _ _ (state_of c.self.inside.run.items) c.deref.ensures.value core.shown))
          c.if-self-eq-EVENTS.true;
      run = sym (append-nil c.args.self.now);
      setters = left_now c.self.inside.run.items c.args.self.now core c.self.view_is;
    }

pub change_by-change-requires-clause-event : goal.change_by-change-requires-clause-event
change_by-change-requires-clause-event c =
    in_range_here c.self.invariant.core (omega arith) c.self.view_is c.requires.may c.requires.found c.requires.planned

pub class_at-class-requires : goal.class_at-class-requires
class_at-class-requires c = record {
  event =
      in_range_here c.self.invariant.core (omega arith) c.self.view_is c.requires.may c.requires.found c.requires.planned;
}

pub keep-requires-clause-event : goal.keep-requires-clause-event
keep-requires-clause-event c =
    in_range_here c.self.invariant.core (omega arith) c.self.view_is c.requires.may c.requires.found c.requires.planned

pub keep-requires-clause-page : goal.keep-requires-clause-page
keep-requires-clause-page c =
    let mine : c.args.task < TASKS = omega arith in
    page_small c.self.inside.taken.items _ c.self.invariant.taken c.args.task mine

pub log-requires : goal.log-requires
log-requires c = room_left _ _ _ _ _ c.self.invariant.core c.if-self-eq-EVENTS.false

pub invariant_of-self : goal.invariant_of-self
invariant_of-self c =
    let core = c.self.invariant.core in
    let mine : c.args.task < TASKS = omega arith in
    let due = planned_here core mine c.self.view_is c.requires.may c.requires.found c.requires.planned in
    let free = c.in_default.ensures (state_of c.self.inside.run.items)
    (shown_in _ _ (state_of c.self.inside.run.items) c.deref.ensures.value core.shown) in
    let may = plan_allowed core mine due in
    let shows = shown_in _ _ (state_of c.self.inside.run.items) c.deref-2.ensures.value core.shown in
    let was = c.change_by-change.ensures.found (state_of c.self.inside.run.items) shows may in
    let left = rw c.deref-2.ensures.value at
    (c.change_by-change.ensures.shown (state_of c.self.inside.run.items) c.self.inside.made
    shows (sound _ _ _ _ _ core) may (plan_joins core mine due)
    (plan_marked core mine due c.args.found.walk (rw c.self.view_is c.requires.found.walk))) in
    let there = opened_again _ c.args.task c.from.result c.index_mut-2.result.now c.args.call c.args.point
    core.tasks mine c.from.ensures c.index_mut-2.ensures.value due.stands in
    record {
      core = stepped_core core mine due c.change_by-change.result.found was free c.if-self-eq-EVENTS.false
          _ left _ (c.advance.ensures c.args.call c.args.point there) _ c.from.ensures _ c.log.ensures.items
          _ c.log.ensures.capacity;
      kept = stepped_keepers core mine due c.self.inside.taken.items c.self.invariant.taken _ _
          c.log.ensures.items c.self.inside.keepers.items c.self.invariant.kept free _ c.keep.ensures.kept;
      taken = stepped_taken core mine due c.self.inside.taken.items c.self.invariant.taken _ _
          c.log.ensures.items _ c.keep.ensures.taken;
      indexed = rw (← c.deref-4.ensures.value, c.change_by-change.ensures.at.1) (c.reindex.ensures.index _
          (plan_located core mine due) (sym c.class_at-class.ensures.class));
      spacious = c.reindex.ensures.room;
    }

pub returns : goal.returns
returns c =
    let core = c.self.invariant.core in
    let mine : c.args.task < TASKS = omega arith in
    let due = planned_here core mine c.self.view_is c.requires.may c.requires.found c.requires.planned in
    let free = c.in_default.ensures (state_of c.self.inside.run.items)
    (shown_in _ _ (state_of c.self.inside.run.items) c.deref.ensures.value core.shown) in
    let was = c.change_by-change.ensures.found (state_of c.self.inside.run.items)
    (shown_in _ _ (state_of c.self.inside.run.items) c.deref-2.ensures.value core.shown) (plan_allowed core mine due) in
    record {
      answer = rw c.ended.ensures (made _ _ _ _ _ core c.args.task mine c.args.self.now c.self.view_is due free
          c.if-self-eq-EVENTS.false);
      run = grown_run c.self.inside.run.items c.args.self.now c.log.new.run.items c.args.task
          c.args.planned.event c.change_by-change.result.found c.self.view_is was c.log.ensures.items;
      setters = left_by c.log.new.run.items (invariant_of-self c).core;
    }

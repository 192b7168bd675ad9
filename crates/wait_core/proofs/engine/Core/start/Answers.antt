use Rattle.std.proofs.Common.{◌<◌, arith}
use Rattle.wait_model.specs.declared.layout.TheConstants.{TASKS}
use Rattle.wait_core.proofs.StepAnswers.{read_here, closed_here, room_to_open, queued_refused, lacking_refused}
use Rattle.wait_core.proofs.StepAnswers.{may_open, started_core, started_keepers, started_taken, started_ok}
use Rattle.wait_core.proofs.engine.Core.start.Goals as goal

pub log-requires : goal.log-requires
log-requires c =
    let core = c.self.invariant.core in
    let mine : c.args.task < TASKS = omega arith in
    let closed = closed_here core mine c.from-slot.ensures c.index.ensures c.is_open_at.ensures c.if-is_open_at.false in
    room_to_open core mine closed c.args.call (may_open core mine closed c.args.call c.self.view_is c.is_in_range.ensures
    c.if-not-is_in_range.false c.self.invariant.kept c.deref.ensures.value c.keeps_of.ensures c.lacks_bit.ensures
    c.if-lacks_bit.false (read_here core c.deref-2.ensures.value c.read_entry-entry.ensures) c.is_queued_twice.ensures
    c.if-is_queued_twice.false c.lacks_entry.ensures c.if-lacks_entry.false c.requires)

pub invariant_of-self : goal.invariant_of-self
invariant_of-self c =
    let core = c.self.invariant.core in
    let mine : c.args.task < TASKS = omega arith in
    let closed = closed_here core mine c.from-slot.ensures c.index.ensures c.is_open_at.ensures c.if-is_open_at.false in
    let may = may_open core mine closed c.args.call c.self.view_is c.is_in_range.ensures c.if-not-is_in_range.false
    c.self.invariant.kept c.deref.ensures.value c.keeps_of.ensures c.lacks_bit.ensures c.if-lacks_bit.false
    (read_here core c.deref-2.ensures.value c.read_entry-entry.ensures) c.is_queued_twice.ensures
    c.if-is_queued_twice.false c.lacks_entry.ensures c.if-lacks_entry.false c.requires in
    record {
      core = started_core core mine closed c.args.call may _ c.log.ensures.items c.from-slot.ensures c.start_of.ensures
          c.log.ensures.capacity;
      kept = started_keepers core mine closed c.args.call may _ c.log.ensures.items c.self.invariant.kept;
      taken = started_taken core mine closed c.args.call may _ c.log.ensures.items c.self.invariant.taken;
      indexed = c.self.invariant.indexed;
      spacious = c.self.invariant.spacious;
    }

pub returns-clause-answer : goal.returns-clause-answer
returns-clause-answer c =
    let core = c.self.invariant.core in
    let mine : c.args.task < TASKS = omega arith in
    let closed = closed_here core mine c.from-slot.ensures c.index.ensures c.is_open_at.ensures c.if-is_open_at.false in
    started_ok core mine closed c.args.call (may_open core mine closed c.args.call c.self.view_is c.is_in_range.ensures
    c.if-not-is_in_range.false c.self.invariant.kept c.deref.ensures.value c.keeps_of.ensures c.lacks_bit.ensures
    c.if-lacks_bit.false (read_here core c.deref-2.ensures.value c.read_entry-entry.ensures) c.is_queued_twice.ensures
    c.if-is_queued_twice.false c.lacks_entry.ensures c.if-lacks_entry.false c.requires) _ c.self.view_is

pub returns-then-is_queued_twice-clause-answer : goal.returns-then-is_queued_twice-clause-answer
returns-then-is_queued_twice-clause-answer c =
    let core = c.self.invariant.core in
    let mine : c.args.task < TASKS = omega arith in
    let closed = closed_here core mine c.from-slot.ensures c.index.ensures c.is_open_at.ensures c.if-is_open_at.false in
    queued_refused core mine closed c.args.call c.self.view_is c.is_in_range.ensures c.if-not-is_in_range.false
    c.self.invariant.kept c.deref.ensures.value c.keeps_of.ensures c.lacks_bit.ensures c.if-lacks_bit.false
    (read_here core c.deref-2.ensures.value c.read_entry-entry.ensures) c.is_queued_twice.ensures
    c.if-is_queued_twice.true

pub returns-then-lacks_entry-clause-answer : goal.returns-then-lacks_entry-clause-answer
returns-then-lacks_entry-clause-answer c =
    let core = c.self.invariant.core in
    let mine : c.args.task < TASKS = omega arith in
    let closed = closed_here core mine c.from-slot.ensures c.index.ensures c.is_open_at.ensures c.if-is_open_at.false in
    lacking_refused core mine closed c.args.call c.self.view_is c.is_in_range.ensures c.if-not-is_in_range.false
    c.self.invariant.kept c.deref.ensures.value c.keeps_of.ensures c.lacks_bit.ensures c.if-lacks_bit.false
    (read_here core c.deref-2.ensures.value c.read_entry-entry.ensures) c.is_queued_twice.ensures
    c.if-is_queued_twice.false c.lacks_entry.ensures c.if-lacks_entry.true

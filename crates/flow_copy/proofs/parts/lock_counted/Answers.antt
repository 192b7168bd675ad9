use Rattle.flow_copy.proofs.Counting.{locked, locks_after, unlocked}
use Rattle.copy_turns.proofs.PartLaws.{apart_same, apart_then, took_before}
use Rattle.copy_turns.specs.Transfers.{no_part, one_more}
use Rattle.flow_copy.proofs.parts.lock_counted.Goals as goal

pub loop-init : goal.loop-init
loop-init g c = record {
  apart = apart_same c.args.task.now c.requires.work;
  waited = no_part;
}

pub returns-in-Ok-clause-locks : goal.returns-in-Ok-clause-locks
returns-in-Ok-clause-locks g c =
    let e = c.in-Ok.ensures in
    locks_after c.args.task.now c.loop.task c.lock_page.new.task c.loop.invariant.apart
    (locked c.loop.task c.lock_page.new.task _ _ c.told.ensures c.loop.invariant.apart.works.work e.waited e.up e.idle e.out
    e.takes)

pub returns-in-Err-Worn-clause-locks : goal.returns-in-Err-Worn-clause-locks
returns-in-Err-Worn-clause-locks g c =
    let e = c.in-Err-Worn.ensures in
    apart_then c.args.task.now c.loop.task c.lock_page.new.task c.loop.invariant.apart
    (unlocked c.loop.task c.lock_page.new.task _ _ c.told.ensures c.loop.invariant.apart.works.work e.waited e.up e.idle
    e.out e.takes)

pub is_killed-requires-clause-work : goal.is_killed-requires-clause-work
is_killed-requires-clause-work g c =
    let e = c.in-Err-Interrupted.ensures in
    (unlocked c.loop.task c.lock_page.new.task _ _ c.told.ensures c.loop.invariant.apart.works.work e.waited e.up e.idle
    e.out e.takes).works.work

pub returns-then-is_killed-clause-locks : goal.returns-then-is_killed-clause-locks
returns-then-is_killed-clause-locks g c =
    let e = c.in-Err-Interrupted.ensures in
    apart_then c.args.task.now c.loop.task c.is_killed.new.task c.loop.invariant.apart
    (apart_then c.loop.task c.lock_page.new.task c.is_killed.new.task
    (unlocked c.loop.task c.lock_page.new.task _ _ c.told.ensures c.loop.invariant.apart.works.work e.waited e.up e.idle
    e.out e.takes) c.is_killed.ensures.apart)

pub returns-then-is_killed-clause-cause : goal.returns-then-is_killed-clause-cause
returns-then-is_killed-clause-cause g c =
    let e = c.in-Err-Interrupted.ensures in
    took_before c.args.task.now c.lock_page.new.task c.is_killed.new.task
    (apart_then c.args.task.now c.loop.task c.lock_page.new.task c.loop.invariant.apart
    (unlocked c.loop.task c.lock_page.new.task _ _ c.told.ensures c.loop.invariant.apart.works.work e.waited e.up e.idle
    e.out e.takes)).works.grows c.if-is_killed.ensures.killed

pub loop-preserved : goal.loop-preserved
loop-preserved g c =
    let e = c.in-Err-Interrupted.ensures in
    record {
      apart = apart_then c.args.task.now c.loop.task c.is_killed.new.task c.loop.invariant.apart
          (apart_then c.loop.task c.lock_page.new.task c.is_killed.new.task
          (unlocked c.loop.task c.lock_page.new.task _ _ c.told.ensures c.loop.invariant.apart.works.work e.waited e.up
          e.idle e.out e.takes) c.is_killed.ensures.apart);
      waited = one_more c.loop.task c.is_killed.new.task c.loop.invariant.waited (record {
        mid = c.lock_page.new.task;
        ended = (_, rw c.in-Err-Interrupted.field-0-is at e.waited);
        own = c.if-is_killed.ensures.own;
      });
    }

use Rattle.std.proofs.Common.{◌∙◌, ◌<◌, ℕ, sym, subst, arith, rules}
use Rattle.wait_model.specs.{declared.layout.TheConstants.HEADS, Watches.head_of}
use Rattle.wait_rule.proofs.KnownLaws.AskedPages.{asks_no_page, no_page_asked}
use Rattle.wq_head.proofs.{AskedHolds.stays_unasked, LockWaits.locked_stays, PermitHeads.owes_low}
use Rattle.wait_event.proofs.PermitHeads.{cond_low}
use Rattle.wait_event.proofs.Entering.{enters, lock_at, lock_carries}
use Rattle.wait_class.proofs.WatchHeads.{head_fits}
use Rattle.wait_model.specs.declared.watches.Watch.TheVariants as watch
use Rattle.wait_event.proofs.entries.add_entry.Goals as goal

pub lock-requires-clause-head : goal.lock-requires-clause-head
lock-requires-clause-head g c = subst (λ (n : ℕ). n < HEADS) (sym c.head_of.ensures)
    (head_fits c.args.cond (omega (arith, c.requires.full)))

pub add_by-added-requires-clause-asks : goal.add_by-added-requires-clause-asks
add_by-added-requires-clause-asks g c woken = no_page_asked c.lock.new.task (stays_unasked c.args.task.now
    c.lock.new.task (locked_stays c.args.task.now c.lock.new.task c.head_of.result _ c.lock.ensures.locked).debts
    (asks_no_page c.args.task.now (c.requires.asks woken)))

pub returns : goal.returns
returns g c =
    let e = enters _ _ _ _ c.args.cond c.args.kind c.args.form c.requires.own
    (lock_at _ _ c.args.cond _ c.head_of.ensures c.lock.ensures.locked) c.unlock.ensures.unlocked c.requires.free
    c.told.ensures (lock_carries _ _ c.args.cond _ c.head_of.ensures c.lock.ensures.carries) c.unlock.ensures.carries
    c.requires.up c.requires.full c.add_by-added.result c.add_by-added.ensures.queued c.add_by-added.ensures.worn
    c.add_by-added.ensures.noted c.add_by-added.ensures.same in record {
      added = e.added;
      up = search rules;
      free = search rules;
      stands = e.stands;
      woken = e.woken;
      carries = e.carries;
      same = e.same;
    }

pub add_by-added-requires-clause-low : goal.add_by-added-requires-clause-low
add_by-added-requires-clause-low g c = cond_low c.args.cond c.requires.full

pub unlock-requires-clause-permits : goal.unlock-requires-clause-permits
unlock-requires-clause-permits g c = owes_low c.add_by-added.new.task (head_of (watch.Plain c.args.cond))
    (c.add_by-added.ensures.at ∙ (c.lock.ensures.carries.at ∙ c.head_of.ensures))
    (cond_low c.args.cond c.requires.full)

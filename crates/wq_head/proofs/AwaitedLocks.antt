-- A lock that is taken by looks at its ticket: what it leaves, and that neither the looks nor the lock wake anybody.
use Rattle.std.proofs.Common.{◌∙◌, ap, refl, append_assoc}
use Rattle.std.specs.Prelude.{ℕ, None, [], ◌∷◌}
use Rattle.wait_model.specs.declared.steps.Step.TheVariants as step
use Rattle.wait_rule.specs.declared.journal.Item.TheVariants as item
use Rattle.wait_rule.specs.{Items.steps_of, Known.Known, Queues.walk_of_hold, Says.IsUp, Says.added}
use Rattle.wq_head.specs.{Holds.HasLocked, Holds.HasWaited, LockTurns.AwaitsLock, LockTurns.TookLock, Roused.RousesNone}
use Rattle.wq_head.specs.Roused.{roused}
use Rattle.wq_head.proofs.{CarriedHolds.lock_carried, RousedTasks.none_added, RousedTasks.none_more}
use Rattle.wq_head.proofs.SimpleHolds.{locked_simple}
use Rattle.wq_head.proofs.LockWaits.{locked_holds, locked_owing, locked_stays, turn_awake}

-- what `lock` leaves
pub took_lock : (start new : Known) (head : ℕ) → IsUp start → HasLocked start new head (walk_of_hold head None)
    → TookLock start new head
took_lock start new head up l = record {
  locked = l;
  up = ap (λ (k : Known). k.book.awake) l.is ∙ (turn_awake start new head (walk_of_hold head None) l ∙ up);
  held = locked_holds start new head (walk_of_hold head None) l;
  stays = locked_stays start new head (walk_of_hold head None) l;
  settled = locked_owing start new head (walk_of_hold head None) l;
  carries = lock_carried start new head (walk_of_hold head None) l;
  simple = λ high. locked_simple start new head high l;
}

-- the draw and the looks wake nobody
waits_none : (start now : Known) (head ticket : ℕ) → HasWaited (added start (item.Drawn head ticket)) now
    → RousesNone start now
waits_none start now head ticket w = none_more start now (item.Drawn head ticket ∷ w.tries)
    (ap (λ (k : Known). k.view.items) w.is ∙ append_assoc start.view.items (item.Drawn head ticket ∷ []) w.tries)
    (ap roused w.no_steps)

pub awaits_none : (start now : Known) (head ticket : ℕ) → AwaitsLock start now head ticket → RousesNone start now
awaits_none start now head ticket a = waits_none start now head ticket a.waits

-- nor does the lock
pub took_none : (start new : Known) (head : ℕ) → TookLock start new head → RousesNone start new
took_none start new head t =
    let l = t.locked in
    ap (λ (k : Known). roused (steps_of k.view.items)) l.is
    ∙ (none_added (added l.waited (item.Serving head l.ticket))
    (item.Made (step.Lock head (walk_of_hold head None) l.found)) refl
    ∙ (none_added l.waited (item.Serving head l.ticket) refl ∙ waits_none start l.waited head l.ticket l.waits))

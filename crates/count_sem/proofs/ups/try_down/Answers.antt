use Rattle.std.proofs.Common.{◌<◌, ℕ, refl, rules, subst, sym}
use Rattle.wait_model.specs.declared.layout.TheConstants.{HEADS}
use Rattle.completion_cell.proofs.{Completing.rise_none, Ground.head_there}
use Rattle.count_sem.proofs.TakingPermits.{permit_counted, permit_ends, permit_holds, permit_owes}
use Rattle.count_sem.proofs.ups.try_down.Goals as goal

pub lock-requires-clause-head : goal.lock-requires-clause-head
lock-requires-clause-head g c = subst (λ (n : ℕ). n < HEADS) (sym c.head_of.ensures)
    (head_there c.args.cell c.requires.cell)

pub take_one-requires-clause-counted : goal.take_one-requires-clause-counted
take_one-requires-clause-counted g c =
    let l = c.done_load-count.ensures in
    let k = c.lock.ensures in
    permit_counted c.args.cell _ _ _ _ _ c.head_of.ensures c.requires.free c.told.ensures k.locked k.carries k.held l.step
    l.finds l.carries

pub unlock-requires : goal.unlock-requires
unlock-requires g c =
    let l = c.done_load-count.ensures in
    let k = c.lock.ensures in
    let t = c.take_one.ensures in
    let p = permit_holds c.args.cell _ _ _ _ _ c.head_of.ensures c.requires.free c.told.ensures k.locked k.carries k.held
    l.step l.finds l.carries _ _ t.took t.stores in record {
      of = search rules;
      up = search rules;
      held = p.locked;
      agreed = p.agreed;
      rise = rise_none c.take_one.new.task;
      permits = permit_owes c.args.cell _ _ _ _ _ c.head_of.ensures c.requires.free c.told.ensures k.locked k.carries
          k.held l.step l.finds l.carries _ _ t.took t.stores c.requires.left;
    }

pub returns : goal.returns
returns g c =
    let l = c.done_load-count.ensures in
    let k = c.lock.ensures in
    let t = c.take_one.ensures in
    let p = permit_ends c.args.cell _ _ _ _ _ c.head_of.ensures c.requires.free c.told.ensures k.locked k.carries k.held
    l.step l.finds l.carries _ _ t.took t.stores c.unlock.new.task c.unlock.ensures.unlocked.is c.unlock.ensures.carries
    _ refl in
    record { tried = p.tried; up = search rules; free = search rules; carries = p.carries; off = p.off }

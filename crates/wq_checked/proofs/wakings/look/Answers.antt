use Rattle.std.proofs.Common.{ℕ, ◌<◌, refl, subst, sym}
use Rattle.wait_model.specs.declared.layout.TheConstants.{HEADS}
use Rattle.wq_head.specs.Scanned.{HasEndedAt, HasScanned}
use Rattle.wait_class.proofs.WatchHeads.{watch_fits}
use Rattle.wq_checked.specs.Advancing.{normal_wake}
use Rattle.wq_checked.proofs.Publishing.{full_there, looked_waking, silent_ready}
use Rattle.wq_checked.proofs.WakeTurns.{first_sound}
use Rattle.wq_checked.proofs.wakings.look.Goals as goal

pub active-requires-clause-head : goal.active-requires-clause-head
active-requires-clause-head c = subst (λ (n : ℕ). n < HEADS) (sym c.head_of.ensures)
    (watch_fits c.args.watch (full_there c.args.watch c.requires.waking.full))

pub returns-then-active-clause-sound : goal.returns-then-active-clause-sound
returns-then-active-clause-sound c =
    let new = c.active.new.task in
    let aim = normal_wake c.args.watch in
    first_sound c.args.kept.now new aim c.wake_of.result
    (looked_waking c.args.kept.now c.args.task.now new aim c.requires.waking c.active.result
    (subst (λ (h : ℕ). HasScanned c.args.task.now new h c.active.result) c.head_of.ensures c.active.ensures.scanned)
    c.active.ensures.carries) c.wake_of.ensures

pub returns-else-active-clause-sound : goal.returns-else-active-clause-sound
returns-else-active-clause-sound c =
    let new = c.active.new.task in
    let aim = normal_wake c.args.watch in
    silent_ready c.args.kept.now c.args.task.now new aim c.requires.waking c.active.result
    (subst (λ (h : ℕ). HasScanned c.args.task.now new h c.active.result) c.head_of.ensures c.active.ensures.scanned)
    c.active.ensures.carries refl (subst (HasEndedAt c.args.task.now new) c.head_of.ensures
    (c.active.ensures.ended c.if-active.false))

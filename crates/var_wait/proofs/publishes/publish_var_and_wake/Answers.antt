use Rattle.std.proofs.Common.{◌∙◌, ◌<◌, ℕ, subst, sym}
use Rattle.wait_model.specs.declared.layout.TheConstants.{HEADS}
use Rattle.wait_model.specs.declared.watches.Watch.TheVariants as watch
use Rattle.wq_head.specs.Scanned.{HasEndedAt, HasScanned}
use Rattle.wait_class.proofs.WatchHeads.{watch_fits}
use Rattle.var_wait.proofs.Publishing.{silent, silent_leaves, walked_on}
use Rattle.var_wait.proofs.publishes.publish_var_and_wake.Goals as goal

pub active-requires-clause-head : goal.active-requires-clause-head
active-requires-clause-head g c = subst (λ (n : ℕ). n < HEADS) (sym c.head_of.ensures)
    (watch_fits (watch.Var c.args.var 0) c.requires.there)

pub returns-then-active-clause-published : goal.returns-then-active-clause-published
returns-then-active-clause-published g c =
    let s = c.publish.ensures.step in
    walked_on c.args.task.now c.publish.new.task c.active.new.task c.args.var c.args.value s.0 s.1 c.active.result
    (subst (λ (h : ℕ). HasScanned c.publish.new.task c.active.new.task h c.active.result) c.head_of.ensures
    c.active.ensures.scanned) c.wake.new.task c.if-active.true c.wake.result c.wake.ensures.woken c.wake.ensures.ended

pub returns-else-active-clause-published : goal.returns-else-active-clause-published
returns-else-active-clause-published g c =
    let s = c.publish.ensures.step in
    silent c.args.task.now c.publish.new.task c.active.new.task c.args.var c.args.value s.0 s.1 c.active.result
    (subst (λ (h : ℕ). HasScanned c.publish.new.task c.active.new.task h c.active.result) c.head_of.ensures
    c.active.ensures.scanned) c.if-active.false
    (subst (HasEndedAt c.publish.new.task c.active.new.task) c.head_of.ensures
    (c.active.ensures.ended c.if-active.false)) c.no_walk.result c.no_walk.ensures

pub returns-else-active-clause-carries : goal.returns-else-active-clause-carries
returns-else-active-clause-carries g c = silent_leaves (watch.Var c.args.var 0) c.args.task.now c.publish.new.task
    c.active.new.task c.requires.idle (c.told.ensures.head ∙ c.requires.idle.free.head) c.publish.ensures.carries
    (subst (HasEndedAt c.publish.new.task c.active.new.task) c.head_of.ensures
    (c.active.ensures.ended c.if-active.false)) c.active.ensures.carries

use Rattle.std.proofs.Common.{◌∙◌, subst, sym, arith}
use Rattle.std.specs.Prelude.{ℕ, ◌<◌}
use Rattle.wait_model.specs.declared.layout.TheConstants.{HEADS}
use Rattle.wait_model.specs.declared.watches.Watch.TheVariants as watch
use Rattle.wait_class.proofs.WatchHeads.{watch_fits}
use Rattle.wait_pipe.proofs.Rousing.{roused_none, roused_some}
use Rattle.wait_pipe.proofs.ends.rouse.Goals as goal

pub active-requires-clause-head : goal.active-requires-clause-head
active-requires-clause-head g c =
    let few = c.requires.var in
    subst (λ (n : ℕ). n < HEADS) (sym c.head_of.ensures)
    (watch_fits (watch.Var c.args.var 0) (omega arith))

pub returns-then-active : goal.returns-then-active
returns-then-active g c = record {
  roused = roused_some c.args.var c.args.task.now c.active.new.task c.head_of.result c.active.result c.head_of.ensures
      c.requires.idle (c.told.ensures.head ∙ c.requires.idle.free.head) c.active.ensures.scanned
      c.active.ensures.carries
      c.if-active.true c.wake_end.new.task c.wake_end.result c.wake_end.ensures.woken c.wake_end.ensures.ended
      c.wake_end.ensures.up c.wake_end.ensures.idle c.wake_end.ensures.carries;
}

pub returns-else-active : goal.returns-else-active
returns-else-active g c = record {
  roused = roused_none c.args.var c.args.task.now c.active.new.task c.head_of.result c.active.result c.head_of.ensures
      c.requires.idle (c.told.ensures.head ∙ c.requires.idle.free.head) c.active.ensures.scanned
      c.active.ensures.carries
      c.if-active.false (c.active.ensures.carries.awake ∙ c.requires.up) (c.active.ensures.ended c.if-active.false);
}

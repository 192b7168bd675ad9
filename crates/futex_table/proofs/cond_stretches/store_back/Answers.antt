use Rattle.std.proofs.Common.{◌∙◌, subst}
use Rattle.std.specs.Prelude.{◌≡◌}
use Rattle.wait_model.specs.declared.steps.Step.TheVariants as step
use Rattle.wait_model.specs.declared.watches.Watch.TheVariants as watch
use Rattle.wait_rule.specs.declared.journal.Item.TheVariants as item
use Rattle.wait_rule.specs.{Known.Known, Says.added}
use Rattle.wait_event.proofs.Setting.{set_idle}
use Rattle.futex_table.proofs.CondStretching.{cond_loaded, give_begins}
use Rattle.futex_table.proofs.cond_stretches.store_back.Goals as goal

pub returns-clause-came : goal.returns-clause-came
returns-clause-came c b start x =
    let w = c.args.wait in
    let loaded = c.cond_load-seen.new.task in
    let p = c.publish.ensures in
    let l = cond_loaded w.cond c.cond_load-seen.result w.lock start c.args.task.now loaded x.1
    c.cond_load-seen.ensures.step c.cond_load-seen.ensures.carries in
    record {
      loaded = loaded;
      loads = subst (λ (k : Known). loaded ≡ added k (item.Made (step.Load (watch.Plain w.cond) c.cond_load-seen.result)))
          x.0 c.cond_load-seen.ensures.step;
      left = l;
      told = c.told.ensures;
      found = p.step.0;
      stored = c.publish.new.task;
      stores = p.step.1;
      owes = p.carries;
      aim = c.new-wake.ensures.aim;
      walks = give_begins w.lock c.publish.new.task c.new-wake.result c.new-wake.ensures.aim c.new-wake.ensures.small
          c.requires.lock (p.carries.awake ∙ l.up)
          (set_idle (watch.Plain w.lock) loaded c.publish.new.task l.idle p.carries);
    }

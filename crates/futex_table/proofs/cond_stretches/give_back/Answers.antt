use Rattle.std.proofs.Common.{refl}
use Rattle.wait_class.specs.declared.stages.Turn.TheVariants as turn
use Rattle.wait_leave.specs.OnTheWay.{straight}
use Rattle.wq_head.specs.declared.wakes.WakeStage.TheVariants as wakes
use Rattle.wq_head.specs.declared.wakes.WakeTurn.TheVariants as wake
use Rattle.futex_table.specs.declared.waits.FutexStage.TheVariants as stage
use Rattle.futex_table.proofs.CondStretching.{given_freed, given_left, gives_on}
use Rattle.futex_table.proofs.cond_stretches.give_back.Goals as goal

pub returns-in-Locked-clause-turned : goal.returns-in-Locked-clause-turned
returns-in-Locked-clause-turned c = record {
  wake = c.wake_stretch.new.run;
  did = wake.Locked c.in-Locked.next;
  turned = c.in-Locked.ensures.turned;
  to = refl;
}

pub returns-in-Broken-clause-turned : goal.returns-in-Broken-clause-turned
returns-in-Broken-clause-turned c = record {
  wake = c.wake_stretch.new.run;
  did = wake.Broken;
  turned = c.in-Broken.ensures.turned;
  to = refl;
}

pub returns-in-Starved-clause-turned : goal.returns-in-Starved-clause-turned
returns-in-Starved-clause-turned c = record {
  wake = c.wake_stretch.new.run;
  did = wake.Starved c.in-Starved.failed;
  turned = c.in-Starved.ensures.turned;
  to = refl;
}

pub returns-in-Broken-clause-came : goal.returns-in-Broken-clause-came
returns-in-Broken-clause-came c b start x =
    let t = c.in-Broken.ensures.turned x.stored x.walks in
    gives_on c.args.wait start c.args.task.now c.wake_stretch.new.task c.args.seen c.args.wake c.wake_stretch.new.run
    c.args.stage x t.aim wakes.Next t.turns

pub returns-in-Done-clause-turned : goal.returns-in-Done-clause-turned
returns-in-Done-clause-turned c = record {
  wake = c.wake_stretch.new.run;
  did = wake.Done c.in-Done.field-0;
  turned = c.in-Done.ensures.turned;
  to = (c.begin_futex-first.result, c.begin_futex-first.ensures.fresh, refl);
}

pub returns-in-Done-clause-came : goal.returns-in-Done-clause-came
returns-in-Done-clause-came c b start x =
    let t = c.in-Done.ensures.turned x.stored x.walks in
    let new = c.wake_stretch.new.task in
    let e = c.begin_futex-first.ensures in record {
      let_go = record {
        seen = c.args.seen;
        loaded = x.loaded;
        loads = x.loads;
        unlocked = new;
        gives = given_freed c.args.wait start c.args.task.now new c.args.seen c.args.wake c.wake_stretch.new.run
            c.args.stage x t.aim c.in-Done.field-0 t.turns;
      };
      left = given_left c.args.wait start c.args.task.now new c.args.seen c.args.wake c.wake_stretch.new.run c.args.stage
          x t.aim c.in-Done.field-0 t.turns;
      told = e.told;
      first = c.begin_futex-first.result;
      fresh = e.fresh;
      came = straight new c.begin_futex-first.result (turn.Again stage.First) e.came;
    }

use Rattle.std.proofs.Common.{refl, subst}
use Rattle.std.specs.Prelude.{◌≡◌, ◌||◌, Bool, true, false}
use Rattle.wait_model.specs.declared.steps.Step.TheVariants as step
use Rattle.wait_model.specs.declared.watches.Watch.TheVariants as watch
use Rattle.wait_class.specs.declared.stages.Turn.TheVariants as turn
use Rattle.wait_class.proofs.{AwakeSteps.awake_step, Handed.given_step}
use Rattle.wait_leave.specs.OnTheWay.{straight}
use Rattle.futex_table.specs.declared.waits.FutexStage.TheVariants as stage
use Rattle.futex_table.specs.{Holding.holds_mutex, Mutexes.HasTriedMutex}
use Rattle.futex_table.proofs.LockStretching.{left_tried}
use Rattle.futex_table.proofs.lock_stretches.try_stretch.Goals as goal

pub returns-then-mutex_try-clause-given : goal.returns-then-mutex_try-clause-given
returns-then-mutex_try-clause-given c =
    let s = c.mutex_try.ensures.step in
    given_step c.args.task.now c.mutex_try.new.task (step.Consume (watch.Plain c.args.lock) 0 s.0) s.1

pub returns-then-mutex_try-clause-awake : goal.returns-then-mutex_try-clause-awake
returns-then-mutex_try-clause-awake c =
    let s = c.mutex_try.ensures.step in
    awake_step c.args.task.now c.mutex_try.new.task (step.Consume (watch.Plain c.args.lock) 0 s.0) s.1 refl

pub returns-then-mutex_try-clause-came : goal.returns-then-mutex_try-clause-came
returns-then-mutex_try-clause-came c b start x =
    let t = c.mutex_try.ensures in record {
      locked = (
        c.args.task.now,
        x.rounds,
        subst (HasTriedMutex c.args.task.now c.mutex_try.new.task c.args.lock) c.if-mutex_try.true t.tried,
      );
      left = left_tried c.args.lock start c.args.task.now c.mutex_try.new.task x.left t.carries true
          (subst (λ (hit : Bool). holds_mutex c.mutex_try.new.task c.args.lock
          ≡ (holds_mutex c.args.task.now c.args.lock || hit)) c.if-mutex_try.true t.held) t.others t.tallies t.up t.idle;
    }

pub returns-clause-given : goal.returns-clause-given
returns-clause-given c =
    let s = c.mutex_try.ensures.step in
    given_step c.args.task.now c.mutex_try.new.task (step.Consume (watch.Plain c.args.lock) 0 s.0) s.1

pub returns-clause-awake : goal.returns-clause-awake
returns-clause-awake c =
    let s = c.mutex_try.ensures.step in
    awake_step c.args.task.now c.mutex_try.new.task (step.Consume (watch.Plain c.args.lock) 0 s.0) s.1 refl

pub returns-clause-came : goal.returns-clause-came
returns-clause-came c b start x =
    let t = c.mutex_try.ensures in
    let e = c.begin_futex-wait.ensures in record {
      mid = c.args.task.now;
      rounds = x.rounds;
      tried = c.mutex_try.new.task;
      found = subst (HasTriedMutex c.args.task.now c.mutex_try.new.task c.args.lock) c.if-mutex_try.false t.tried;
      left = left_tried c.args.lock start c.args.task.now c.mutex_try.new.task x.left t.carries false
          (subst (λ (hit : Bool). holds_mutex c.mutex_try.new.task c.args.lock
          ≡ (holds_mutex c.args.task.now c.args.lock || hit)) c.if-mutex_try.false t.held) t.others t.tallies t.up
          t.idle;
      told = e.told;
      first = c.begin_futex-wait.result;
      fresh = e.fresh;
      came = straight c.mutex_try.new.task c.begin_futex-wait.result (turn.Again stage.First) e.came;
    }

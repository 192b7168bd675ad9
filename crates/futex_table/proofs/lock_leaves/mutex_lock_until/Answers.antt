use Rattle.std.proofs.Common.{◌∙◌, sym}
use Rattle.std.specs.Prelude.{true}
use Rattle.wait_model.specs.declared.tasks.SleepState.TheVariants as states
use Rattle.futex_table.proofs.{FutexLeaving.until_as, LeftTallies.until_leaves, LockLeaving.asks_carries}
use Rattle.futex_table.proofs.{LockLeaving.asks_more, TalliedCalls.stay_tallied, Tallying.leaves_on}
use Rattle.futex_table.proofs.lock_leaves.mutex_lock_until.Goals as goal

pub loop-preserved : goal.loop-preserved
loop-preserved g c =
    let A = g.Q.Fn.post c.args.asks tt true in
    let w = c.loop.invariant.0 in
    let t = c.mutex_try.ensures in
    let e = c.futex_wait_until-end.ensures in
    let new = c.futex_wait_until-end.new.task in
    let end = c.futex_wait_until-end.result in
    let waited = until_as (λ p. p) c.mutex_try.new.task new c.args.lock 0 states.Uninterruptible end e.waited in (
      asks_more A c.args.task.now c.loop.task c.mutex_try.new.task c.args.lock w t.carries c.mutex_try.result
          c.if-mutex_try.false t.tried t.held t.others new end waited e.held e.carries e.up e.idle e.out
          (sym c.round_end.ensures ∙ c.in_default.is),
      (asks_carries A c.args.task.now c.loop.task c.mutex_try.new.task c.args.lock w t.carries c.mutex_try.result
          c.if-mutex_try.false t.tried t.held t.others new end waited e.held e.carries).domain ∙ c.requires.of,
      leaves_on c.args.lock c.args.task.now c.loop.task new c.loop.invariant.2
          (leaves_on c.args.lock c.loop.task c.mutex_try.new.task new t.tallies
          (until_leaves c.args.lock c.mutex_try.new.task new e.waited)),
    )

pub returns-then-mutex_try-clause-tallies : goal.returns-then-mutex_try-clause-tallies
returns-then-mutex_try-clause-tallies g c = leaves_on c.args.lock c.args.task.now c.loop.task c.mutex_try.new.task
    c.loop.invariant.2 c.mutex_try.ensures.tallies

pub returns-then-mutex_try-clause-tallied : goal.returns-then-mutex_try-clause-tallied
returns-then-mutex_try-clause-tallied g c = stay_tallied c.args.lock c.args.task.now c.mutex_try.new.task
    (returns-then-mutex_try-clause-tallies g c)

pub returns-in-Some-round_end-clause-tallies : goal.returns-in-Some-round_end-clause-tallies
returns-in-Some-round_end-clause-tallies g c = leaves_on c.args.lock c.args.task.now c.loop.task
    c.futex_wait_until-end.new.task c.loop.invariant.2
    (leaves_on c.args.lock c.loop.task c.mutex_try.new.task c.futex_wait_until-end.new.task c.mutex_try.ensures.tallies
    (until_leaves c.args.lock c.mutex_try.new.task c.futex_wait_until-end.new.task c.futex_wait_until-end.ensures.waited))

pub returns-in-Some-round_end-clause-tallied : goal.returns-in-Some-round_end-clause-tallied
returns-in-Some-round_end-clause-tallied g c = stay_tallied c.args.lock c.args.task.now c.futex_wait_until-end.new.task
    (returns-in-Some-round_end-clause-tallies g c)

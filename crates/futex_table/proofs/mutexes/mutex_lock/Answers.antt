use Rattle.std.proofs.Common.{◌∙◌, sym}
use Rattle.futex_table.proofs.{Mutexing.round_carries, Mutexing.round_more, Tallying.leaves_on, Tallying.waited_leaves}
use Rattle.futex_table.proofs.TalliedCalls.{stay_tallied}
use Rattle.futex_table.proofs.mutexes.mutex_lock.Goals as goal

pub loop-preserved : goal.loop-preserved
loop-preserved g c =
    let w = c.loop.invariant.0 in
    let t = c.mutex_try.ensures in
    let e = c.futex_wait-end.ensures in (
      round_more c.args.task.now c.loop.task c.mutex_try.new.task c.args.lock w t.carries c.mutex_try.result
          c.if-mutex_try.false t.tried t.held t.others c.futex_wait-end.new.task c.futex_wait-end.result e.waited e.held
          e.carries e.up e.idle e.out (sym c.worn_in.ensures ∙ c.in_default.is),
      (round_carries c.args.task.now c.loop.task c.mutex_try.new.task c.args.lock w t.carries c.mutex_try.result
          c.if-mutex_try.false t.tried t.held t.others c.futex_wait-end.new.task c.futex_wait-end.result e.waited e.held
          e.carries).domain ∙ c.requires.of,
      leaves_on c.args.lock c.args.task.now c.loop.task c.futex_wait-end.new.task c.loop.invariant.2
          (leaves_on c.args.lock c.loop.task c.mutex_try.new.task c.futex_wait-end.new.task t.tallies
          (waited_leaves c.args.lock c.mutex_try.new.task c.futex_wait-end.new.task e.waited)),
    )

pub returns-then-mutex_try-clause-tallies : goal.returns-then-mutex_try-clause-tallies
returns-then-mutex_try-clause-tallies g c = leaves_on c.args.lock c.args.task.now c.loop.task c.mutex_try.new.task
    c.loop.invariant.2 c.mutex_try.ensures.tallies

pub returns-in-Some-worn_in-clause-tallies : goal.returns-in-Some-worn_in-clause-tallies
returns-in-Some-worn_in-clause-tallies g c = leaves_on c.args.lock c.args.task.now c.loop.task
    c.futex_wait-end.new.task c.loop.invariant.2
    (leaves_on c.args.lock c.loop.task c.mutex_try.new.task c.futex_wait-end.new.task c.mutex_try.ensures.tallies
    (waited_leaves c.args.lock c.mutex_try.new.task c.futex_wait-end.new.task c.futex_wait-end.ensures.waited))

pub returns-then-mutex_try-clause-tallied : goal.returns-then-mutex_try-clause-tallied
returns-then-mutex_try-clause-tallied g c = stay_tallied c.args.lock c.args.task.now c.mutex_try.new.task
    (returns-then-mutex_try-clause-tallies g c)

pub returns-in-Some-worn_in-clause-tallied : goal.returns-in-Some-worn_in-clause-tallied
returns-in-Some-worn_in-clause-tallied g c = stay_tallied c.args.lock c.args.task.now c.futex_wait-end.new.task
    (returns-in-Some-worn_in-clause-tallies g c)

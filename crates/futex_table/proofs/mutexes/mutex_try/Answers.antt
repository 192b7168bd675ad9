use Rattle.std.proofs.Common.{refl}
use Rattle.futex_table.proofs.{Tallying.took_leaves, TalliedCalls.stay_tallied}
use Rattle.futex_table.proofs.Mutexing.{took_holds, took_others, took_tried, tried_holds}
use Rattle.futex_table.proofs.mutexes.mutex_try.Goals as goal

pub returns-clause-tried : goal.returns-clause-tried
returns-clause-tried c = took_tried c.args.lock c.consume.result c.args.task.now c.consume.new.task
    c.consume.ensures.step _ refl

pub returns-clause-held : goal.returns-clause-held
returns-clause-held c = took_holds c.args.lock c.consume.result c.args.task.now c.consume.new.task
    c.consume.ensures.step _ refl

pub returns-clause-others : goal.returns-clause-others
returns-clause-others c = took_others c.args.lock c.consume.result c.args.task.now c.consume.new.task
    c.consume.ensures.step

pub returns-clause-holds : goal.returns-clause-holds
returns-clause-holds c sure = tried_holds _ _ c.consume.new.task c.args.lock (returns-clause-held c) sure

pub returns-clause-tallies : goal.returns-clause-tallies
returns-clause-tallies c = took_leaves c.args.lock c.consume.result c.args.task.now c.consume.new.task
    c.consume.ensures.step

pub returns-clause-tallied : goal.returns-clause-tallied
returns-clause-tallied c = stay_tallied c.args.lock c.args.task.now c.consume.new.task (returns-clause-tallies c)

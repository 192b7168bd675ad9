use Rattle.wait_event.proofs.Setting.{sets}
use Rattle.futex_table.proofs.{Mutexing.stored_frees, Mutexing.stored_others, TalliedCalls.stay_apart}
use Rattle.futex_table.proofs.Tallying.{stored_apart}
use Rattle.futex_table.proofs.futexes.futex_store.Goals as goal

pub returns-clause-stored : goal.returns-clause-stored
returns-clause-stored c =
    let s = c.publish.ensures.step in sets c.args.task.now c.publish.new.task c.args.futex c.args.value s.0 s.1

pub returns-clause-free : goal.returns-clause-free
returns-clause-free c =
    let s = c.publish.ensures.step in
    stored_frees c.args.futex c.args.value s.0 c.args.task.now c.publish.new.task s.1

pub returns-clause-held : goal.returns-clause-held
returns-clause-held c =
    let s = c.publish.ensures.step in
    stored_others c.args.futex c.args.value s.0 c.args.task.now c.publish.new.task s.1

pub returns-clause-tallies : goal.returns-clause-tallies
returns-clause-tallies c =
    let s = c.publish.ensures.step in
    stored_apart c.args.futex c.args.value s.0 c.args.task.now c.publish.new.task s.1

pub returns-clause-tallied : goal.returns-clause-tallied
returns-clause-tallied c = stay_apart c.args.futex c.args.task.now c.publish.new.task (returns-clause-tallies c)

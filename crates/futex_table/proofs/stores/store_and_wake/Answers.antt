use Rattle.wait_model.specs.declared.watches.Mode.TheVariants as mode
use Rattle.wait_event.proofs.Setting.{has_set}
use Rattle.futex_table.proofs.{Mutexing.set_frees, Mutexing.set_others, Tallying.woken_adds}
use Rattle.futex_table.proofs.stores.store_and_wake.Goals as goal

pub returns-clause-set : goal.returns-clause-set
returns-clause-set g c =
    let s = c.publish.ensures.step in
    has_set c.args.task.now c.publish.new.task c.wake.new.task c.args.word c.args.value s.0 mode.Normal c.args.count
    c.wake.result s.1 c.wake.ensures.woken c.wake.ensures.ended

pub returns-clause-free : goal.returns-clause-free
returns-clause-free g c =
    let s = c.publish.ensures.step in
    set_frees c.args.word c.args.value s.0 c.args.task.now c.publish.new.task c.wake.new.task _ c.wake.result s.1
    c.wake.ensures.woken

pub returns-clause-others : goal.returns-clause-others
returns-clause-others g c =
    let s = c.publish.ensures.step in
    set_others c.args.word c.args.value s.0 c.args.task.now c.publish.new.task c.wake.new.task _ c.wake.result s.1
    c.wake.ensures.woken

pub returns-clause-stores : goal.returns-clause-stores
returns-clause-stores g c =
    let s = c.publish.ensures.step in record {
      found = s.0;
      stored = c.publish.new.task;
      is = s.1;
      behind = woken_adds c.publish.new.task c.wake.new.task _ c.wake.result c.wake.ensures.woken;
    }

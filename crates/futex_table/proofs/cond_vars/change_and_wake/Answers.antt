use Rattle.std.proofs.Common.{◌∙◌, sym}
use Rattle.futex_table.proofs.{CondVaring.load_held, TalliedCalls.counts_add, Tallying.holder_adds}
use Rattle.futex_table.proofs.cond_vars.change_and_wake.Goals as goal

pub returns-clause-others : goal.returns-clause-others
returns-clause-others g c m ne = c.store_and_wake.ensures.others m ne
    ∙ load_held c.args.cond c.cond_load-seen.result c.args.task.now c.cond_load-seen.new.task
    c.cond_load-seen.ensures.step m

pub returns-clause-held : goal.returns-clause-held
unfolding returns-clause-others
returns-clause-held g c = returns-clause-others g c c.args.lock (λ q. c.requires.may.apart (sym q)) ∙ c.requires.may.held

pub returns-clause-adds : goal.returns-clause-adds
returns-clause-adds g c = holder_adds c.args.lock c.args.cond c.cond_load-seen.result c.args.task.now
    c.cond_load-seen.new.task c.store_and_wake.new.task (λ q. c.requires.may.apart (sym q)) c.requires.may.held
    c.cond_load-seen.ensures.step c.store_and_wake.ensures.stores

pub returns-clause-counted : goal.returns-clause-counted
returns-clause-counted g c = counts_add c.args.lock c.args.cond c.args.task.now c.store_and_wake.new.task
    (returns-clause-adds g c)

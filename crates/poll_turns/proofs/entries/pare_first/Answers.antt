use Rattle.std.proofs.Common.{◌∙◌, sym}
use Rattle.wait_event.proofs.PartSteps.{own_looks, pares_may, pares_off, pares_on}
use Rattle.wq_head.proofs.OneMoreLook.{holding_on}
use Rattle.poll_turns.proofs.entries.pare_first.Goals as goal

pub remove-requires-clause-held : goal.remove-requires-clause-held
remove-requires-clause-held c = holding_on c.args.task.now c.own_entry.new.task
    (own_looks c.args.task.now c.own_entry.new.task c.own_entry.result c.own_entry.ensures c.requires.held)
    c.requires.held

pub remove-requires-clause-may : goal.remove-requires-clause-may
remove-requires-clause-may c = pares_may c.args.task.now c.own_entry.new.task c.own_entry.result c.own_entry.ensures
    c.requires.held c.requires.home (sym c.is_some.ensures ∙ c.if-is_some.true) c.number-me.result
    (c.number-me.ensures.number ∙ c.own_entry.ensures.carries.number)

pub returns-then-is_some-clause-pares : goal.returns-then-is_some-clause-pares
returns-then-is_some-clause-pares c = pares_on c.args.task.now c.own_entry.new.task c.own_entry.result
    c.own_entry.ensures c.requires.held c.remove.new.task c.is_some.result c.is_some.ensures c.if-is_some.true
    c.number-me.result (c.number-me.ensures.number ∙ c.own_entry.ensures.carries.number) c.remove.ensures.removed

pub returns-clause-pares : goal.returns-clause-pares
returns-clause-pares c = pares_off c.args.task.now c.own_entry.new.task c.own_entry.result c.own_entry.ensures
    c.requires.held c.is_some.result c.is_some.ensures c.if-is_some.false

pub returns-clause-held : goal.returns-clause-held
returns-clause-held c = holding_on c.args.task.now c.own_entry.new.task
    (own_looks c.args.task.now c.own_entry.new.task c.own_entry.result c.own_entry.ensures c.requires.held)
    c.requires.held

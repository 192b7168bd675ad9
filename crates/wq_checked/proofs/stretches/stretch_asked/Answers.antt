use Rattle.std.proofs.Common.{◌∙◌}
use Rattle.wait_leave.proofs.Ways.{way_domain, way_out}
use Rattle.wq_checked.proofs.Outs.{way_from}
use Rattle.wq_checked.proofs.stretches.stretch_asked.Goals as goal

pub on_from-requires-clause-of : goal.on_from-requires-clause-of
on_from-requires-clause-of g c =
    let t = g.C.Machine.table in
    let x = g.C.Leavable.exits in
    way_domain (Unit {0}) t x c.may_leave.ensures c.lawful.ensures c.args.task.now c.args.run.now c.args.stage
    c.ask.new.task c.ask.new.call c.in-Some.to (way_out (Unit {0}) t x c.may_leave.ensures c.lawful.ensures
    c.args.task.now c.args.run.now c.args.stage c.ask.new.task c.ask.new.call c.in-Some.to tt c.requires.at
    c.in-Some.ensures.asked) ∙ c.requires.of

pub returns-in-Some-clause-goes : goal.returns-in-Some-clause-goes
returns-in-Some-clause-goes g c =
    let t = g.C.Machine.table in
    let x = g.C.Leavable.exits in
    way_from t x c.may_leave.ensures c.lawful.ensures c.args.task.now c.args.run.now c.args.stage c.ask.new.task
    c.on_from.new.task c.ask.new.call c.on_from.new.run c.in-Some.to c.on_from.result
    (way_out (Unit {0}) t x c.may_leave.ensures c.lawful.ensures c.args.task.now c.args.run.now c.args.stage
    c.ask.new.task c.ask.new.call c.in-Some.to tt c.requires.at c.in-Some.ensures.asked) c.on_from.ensures.on

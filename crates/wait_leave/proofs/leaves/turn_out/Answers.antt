use Rattle.std.proofs.Common.{◌∙◌, sym}
use Rattle.wait_leave.specs.OnTheWay.{straight}
use Rattle.wait_leave.proofs.{Ways.way_out, Awake.awake_turn, Awake.up_turn}
use Rattle.wait_leave.proofs.leaves.turn_out.Goals as goal

pub returns-in-Some-clause-way : goal.returns-in-Some-clause-way
returns-in-Some-clause-way g c = way_out (Unit {0}) g.C.Machine.table g.C.Leavable.exits c.may_leave.ensures c.lawful.ensures
    c.args.task.now c.args.call.now c.args.stage c.go_out.new.task c.go_out.new.call c.in-Some.exit.to tt c.requires.at
    c.go_out.ensures.leaves

pub returns-in-None-clause-way : goal.returns-in-None-clause-way
returns-in-None-clause-way g c = straight c.advance.new.task c.advance.new.run c.advance.result
    c.advance.ensures.turned.advances

pub returns-in-None-clause-awake : goal.returns-in-None-clause-awake
returns-in-None-clause-awake g c = awake_turn g.C.Machine.table g.C.Leavable.exits c.may_leave.ensures c.args.task.now
    c.advance.new.task c.args.call.now.of c.args.stage (sym c.exit-found.ensures ∙ c.in-None.is) c.advance.ensures.awake

pub returns-in-None-clause-up : goal.returns-in-None-clause-up
returns-in-None-clause-up g c = up_turn g.C.Machine.table c.args.task.now c.advance.new.task c.args.call.now
    c.advance.new.run c.advance.result c.advance.ensures.turned.shows (returns-in-None-clause-awake g c)

use Rattle.wait_model.specs.declared.steps.Step.TheVariants as step
use Rattle.wait_class.proofs.Handed.{given_step}
use Rattle.wait_leave.proofs.{Leaving.rested_by, Leaving.still_by, Awake.rest_awake}
use Rattle.std.specs.Prelude.{true}
use Rattle.wait_leave.proofs.leaves.go_out.Goals as goal

pub returns-then-exit-clause-leaves : goal.returns-then-exit-clause-leaves
returns-then-exit-clause-leaves g c = rested_by g.C.Machine.table g.C.Leavable.exits c.may_leave.ensures c.lawful.ensures
    c.args.task.now c.set_state.new.task c.args.call.now c.args.stage c.args.exit c.requires.exits c.requires.at
    c.if-exit.true c.set_state.ensures.step c.set_state.ensures.carries c.asked-call.result c.asked-call.ensures

pub returns-then-exit-clause-given : goal.returns-then-exit-clause-given
returns-then-exit-clause-given g c = given_step c.args.task.now c.set_state.new.task (step.State 0)
    c.set_state.ensures.step

pub returns-then-exit-clause-falls : goal.returns-then-exit-clause-falls
returns-then-exit-clause-falls g c = (c.may_leave.ensures.at c.args.call.now.of c.args.stage c.args.exit
    c.requires.exits).falls

pub returns-else-exit-clause-leaves : goal.returns-else-exit-clause-leaves
returns-else-exit-clause-leaves g c = still_by g.C.Machine.table g.C.Leavable.exits c.may_leave.ensures c.lawful.ensures
    c.args.task.now c.args.call.now c.args.stage c.args.exit c.requires.exits c.requires.at c.if-exit.false
    c.asked-call.result c.asked-call.ensures

pub returns-else-exit-clause-falls : goal.returns-else-exit-clause-falls
returns-else-exit-clause-falls g c = (c.may_leave.ensures.at c.args.call.now.of c.args.stage c.args.exit
    c.requires.exits).falls

pub returns-then-exit-clause-awake : goal.returns-then-exit-clause-awake
returns-then-exit-clause-awake g c = rest_awake c.args.task.now c.set_state.new.task true c.set_state.ensures.step

use Rattle.std.proofs.Common.{◌∙◌, subst, sym}
use Rattle.wait_leave.specs.OnTheWay.{straight}
use Rattle.count_sem.specs.DownEnds.{EndsDown}
use Rattle.count_sem.specs.declared.downs.DownOutcome.TheVariants as outcome
use Rattle.count_sem.specs.declared.downs.DownStage.TheVariants as stage
use Rattle.wait_class.specs.declared.stages.Turn.TheVariants as turn
use Rattle.count_sem.proofs.{DownEndings.ends_down, DownEndings.plain_end, DownPasses.passed_down}
use Rattle.count_sem.proofs.DownLeaving.{plain_closes, way_carried, way_idle, way_off, way_out_of, way_up}
use Rattle.count_sem.proofs.down_calls.down.Goals as goal

pub returns-in-Passing-clause-downed : goal.returns-in-Passing-clause-downed
returns-in-Passing-clause-downed g c = passed_down c.args.task.now c.run-outcome.new.task c.pass.new.task
    c.begin_down-wait.result
    c.run-outcome.new.run c.args.cell c.args.state c.begin_down-wait.ensures.fresh c.in-Passing.ensures c.pass.ensures

pub returns-in-Passing-clause-carries : goal.returns-in-Passing-clause-carries
returns-in-Passing-clause-carries g c = way_carried (Unit {0}) c.args.task.now c.run-outcome.new.task c.pass.new.task
    c.begin_down-wait.result c.run-outcome.new.run stage.First outcome.Passing
    (straight c.run-outcome.new.task c.run-outcome.new.run (turn.Done outcome.Passing) c.in-Passing.ensures)
    c.pass.ensures c.requires.up c.requires.idle
    (c.begin_down-wait.ensures.told.head ∙ c.requires.idle.free.head)

pub returns-in-Passing-clause-off : goal.returns-in-Passing-clause-off
returns-in-Passing-clause-off g c = way_off (Unit {0}) c.args.task.now c.run-outcome.new.task c.pass.new.task
    c.begin_down-wait.result c.run-outcome.new.run stage.First outcome.Passing
    (straight c.run-outcome.new.task c.run-outcome.new.run (turn.Done outcome.Passing) c.in-Passing.ensures)
    c.pass.ensures
    (c.begin_down-wait.ensures.told.head ∙ c.requires.idle.free.head)

pub returns-in_default-clause-downed : goal.returns-in_default-clause-downed
returns-in_default-clause-downed g c = subst (EndsDown c.args.task.now c.run-outcome.new.task c.args.cell c.args.state)
    (sym c.end_of.ensures) (ends_down c.args.task.now c.run-outcome.new.task c.begin_down-wait.result
    c.run-outcome.new.run
    c.args.cell c.args.state c.begin_down-wait.ensures.fresh c.run-outcome.result
    (plain_end c.run-outcome.result c.in_default.not-Passing)
    c.run-outcome.ensures)

pub returns-in_default-clause-up : goal.returns-in_default-clause-up
returns-in_default-clause-up g c = way_up (Unit {0}) c.args.task.now c.run-outcome.new.task c.run-outcome.new.task
    c.begin_down-wait.result c.run-outcome.new.run stage.First c.run-outcome.result
    (straight c.run-outcome.new.task c.run-outcome.new.run (turn.Done c.run-outcome.result) c.run-outcome.ensures)
    (plain_closes c.run-outcome.new.task c.run-outcome.new.run.of c.run-outcome.result c.in_default.not-Passing)

pub returns-in_default-clause-idle : goal.returns-in_default-clause-idle
returns-in_default-clause-idle g c = way_idle (Unit {0}) c.args.task.now c.run-outcome.new.task c.run-outcome.new.task
    c.begin_down-wait.result c.run-outcome.new.run stage.First c.run-outcome.result
    (straight c.run-outcome.new.task c.run-outcome.new.run (turn.Done c.run-outcome.result) c.run-outcome.ensures)
    (plain_closes c.run-outcome.new.task c.run-outcome.new.run.of c.run-outcome.result c.in_default.not-Passing)
    c.requires.idle.unmarked

pub returns-in_default-clause-out : goal.returns-in_default-clause-out
returns-in_default-clause-out g c = way_out_of (Unit {0}) c.args.task.now c.run-outcome.new.task c.run-outcome.new.task
    c.begin_down-wait.result c.run-outcome.new.run stage.First c.run-outcome.result
    (straight c.run-outcome.new.task c.run-outcome.new.run (turn.Done c.run-outcome.result) c.run-outcome.ensures)
    (plain_closes c.run-outcome.new.task c.run-outcome.new.run.of c.run-outcome.result c.in_default.not-Passing)

pub returns-in_default-clause-carries : goal.returns-in_default-clause-carries
returns-in_default-clause-carries g c = way_carried (Unit {0}) c.args.task.now c.run-outcome.new.task
    c.run-outcome.new.task
    c.begin_down-wait.result c.run-outcome.new.run stage.First c.run-outcome.result
    (straight c.run-outcome.new.task c.run-outcome.new.run (turn.Done c.run-outcome.result) c.run-outcome.ensures)
    (plain_closes c.run-outcome.new.task c.run-outcome.new.run.of c.run-outcome.result c.in_default.not-Passing)
    c.requires.up c.requires.idle
    (c.begin_down-wait.ensures.told.head ∙ c.requires.idle.free.head)

pub returns-in_default-clause-off : goal.returns-in_default-clause-off
returns-in_default-clause-off g c = way_off (Unit {0}) c.args.task.now c.run-outcome.new.task c.run-outcome.new.task
    c.begin_down-wait.result c.run-outcome.new.run stage.First c.run-outcome.result
    (straight c.run-outcome.new.task c.run-outcome.new.run (turn.Done c.run-outcome.result) c.run-outcome.ensures)
    (plain_closes c.run-outcome.new.task c.run-outcome.new.run.of c.run-outcome.result c.in_default.not-Passing)
    (c.begin_down-wait.ensures.told.head ∙ c.requires.idle.free.head)

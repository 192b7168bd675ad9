use Rattle.std.proofs.Common.{subst, sym}
use Rattle.std.specs.Prelude.{Bool}
use Rattle.wait_rule.specs.Pipes.{read_end}
use Rattle.copy_ends.proofs.Ends.{closes}
use Rattle.flow_merge.specs.MergerSteps.{Shut}
use Rattle.flow_merge.proofs.MergerEnds.{shut_end}
use Rattle.flow_merge.proofs.merger.shut_read.Goals as goal

pub returns-then-has-clause-shut : goal.returns-then-has-clause-shut
returns-then-has-clause-shut g c = subst
    (λ (b : Bool). Shut (read_end c.args.pipe) b c.args.task.now c.close_read.new.task) (sym c.if-has.true)
    (shut_end (read_end c.args.pipe) c.args.task.now c.close_read.new.task
    (closes (read_end c.args.pipe) c.args.task.now c.close_read.new.task c.requires.work c.close_read.ensures.own
    c.close_read.ensures.others c.close_read.ensures.ends))

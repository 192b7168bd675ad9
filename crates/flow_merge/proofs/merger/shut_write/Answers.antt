use Rattle.std.proofs.Common.{subst, sym}
use Rattle.std.specs.Prelude.{Bool}
use Rattle.wait_rule.specs.Pipes.{write_end}
use Rattle.copy_ends.proofs.Ends.{closes}
use Rattle.flow_merge.specs.MergerSteps.{Shut}
use Rattle.flow_merge.proofs.MergerEnds.{shut_end}
use Rattle.flow_merge.proofs.merger.shut_write.Goals as goal

pub returns-then-has-clause-shut : goal.returns-then-has-clause-shut
returns-then-has-clause-shut g c = subst
    (λ (b : Bool). Shut (write_end c.args.pipe) b c.args.task.now c.close_write.new.task) (sym c.if-has.true)
    (shut_end (write_end c.args.pipe) c.args.task.now c.close_write.new.task
    (closes (write_end c.args.pipe) c.args.task.now c.close_write.new.task c.requires.work c.close_write.ensures.own
    c.close_write.ensures.others c.close_write.ensures.ends))

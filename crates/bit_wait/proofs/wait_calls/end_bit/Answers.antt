use Rattle.std.proofs.Common.{subst, sym}
use Rattle.wait_class.specs.Wholes.{HasRested}
use Rattle.bit_wait.specs.BitEnds.{EndsBitWait}
use Rattle.bit_wait.proofs.BitLaws.{ends_clean, ends_wait}
use Rattle.bit_wait.proofs.wait_calls.end_bit.Goals as goal

pub returns-clause-clean : goal.returns-clause-clean
returns-clause-clean c p i = ends_clean i.old c.args.task.now c.args.wait.now c.args.outcome i.came.went.keeps i.came.lands
    c.rest.new.task (subst (HasRested c.args.task.now c.rest.new.task) c.is_bit_worn.ensures c.rest.ensures) i.clean

pub returns-clause-ends : goal.returns-clause-ends
returns-clause-ends c start f word bit state fresh a = subst (EndsBitWait start c.rest.new.task word bit state)
    (sym c.end_of.ensures) (ends_wait start c.args.task.now f c.args.wait.now word bit state fresh c.args.outcome a
    c.rest.new.task (subst (HasRested c.args.task.now c.rest.new.task) c.is_bit_worn.ensures c.rest.ensures))

use Rattle.std.proofs.Common.{◌∙◌, ap, subst, sym, arith}
use Rattle.std.proofs.lemmas.Bool.Decides.{nat_tests}
use Rattle.wait_rule.specs.{Known.Known, Passing.HasPassedCells, Pipes.read_end}
use Rattle.wait_rule.specs.PipeSays.{IsSoundRead, end_at, reading}
use Rattle.wait_rule.proofs.KnownLaws.PipeItems.{other_r}
use Rattle.wait_rule.proofs.WorkedTests.PassedCells.{looks_others, looks_passed, sees_cell}
use Rattle.head_tests.proofs.steps.pipes.has_cell.Goals as goal

pub returns-clause-passed : goal.returns-clause-passed
returns-clause-passed c = looks_passed c.args.domain.now (read_end c.args.pipe) _ c.args.n c.cond_load.result
    c.own_load.new.task c.cond_load.new.task (sym (other_r c.args.pipe)) c.cond_load.ensures.step
    (subst (HasPassedCells c.args.domain.now (read_end c.args.pipe) c.args.n) (sym c.own_load.ensures.same)
    c.requires.passed) c.cond_load.ensures.carries

pub returns-clause-there : goal.returns-clause-there
returns-clause-there c is = sees_cell c.args.domain.now (read_end c.args.pipe) _ c.args.n c.cond_load.result
    c.own_load.new.task c.cond_load.new.task (sym (other_r c.args.pipe)) c.cond_load.ensures.step
    (subst (HasPassedCells c.args.domain.now (read_end c.args.pipe) c.args.n) (sym c.own_load.ensures.same)
    c.requires.passed)
    (subst (λ (k : Known). IsSoundRead (reading c.args.pipe k)) (sym c.own_load.ensures.same)
    (c.own_load.ensures.sound.read (omega arith)))
    (let counts = c.from.ensures in grind (arith, nat_tests))

pub returns-clause-others : goal.returns-clause-others
returns-clause-others c j ne = looks_others c.args.domain.now (read_end c.args.pipe) _ c.args.n c.cond_load.result
    c.own_load.new.task c.cond_load.new.task (sym (other_r c.args.pipe)) c.cond_load.ensures.step
    (subst (HasPassedCells c.args.domain.now (read_end c.args.pipe) c.args.n) (sym c.own_load.ensures.same)
    c.requires.passed) j ne ∙ ap (end_at j) c.own_load.ensures.same

use Rattle.std.proofs.Common.{◌∙◌, add-zero, ap, subst, sym, arith}
use Rattle.std.specs.Prelude.{ℕ}
use Rattle.std.proofs.lemmas.Bool.Decides.{nat_tests}
use Rattle.wait_rule.specs.{Known.Known, Passing.HasPassedCells, Pipes.write_end}
use Rattle.wait_rule.specs.PipeSays.{IsSoundWrite, end_at, writing}
use Rattle.wait_rule.proofs.KnownLaws.PipeItems.{other_w}
use Rattle.wait_rule.proofs.WorkedTests.PassedCells.{looks_others, looks_passed, sees_room}
use Rattle.head_tests.proofs.steps.pipes.has_room.Goals as goal

pub returns-clause-passed : goal.returns-clause-passed
returns-clause-passed c = looks_passed c.args.domain.now (write_end c.args.pipe) _ c.args.n c.cond_load.result
    c.own_load.new.task c.cond_load.new.task (sym (other_w c.args.pipe)) c.cond_load.ensures.step
    (subst (HasPassedCells c.args.domain.now (write_end c.args.pipe) c.args.n) (sym c.own_load.ensures.same)
    c.requires.passed) c.cond_load.ensures.carries

pub returns-clause-room : goal.returns-clause-room
returns-clause-room c is = sees_room c.args.domain.now (write_end c.args.pipe) _ c.args.n c.cond_load.result
    c.own_load.new.task c.cond_load.new.task (sym (other_w c.args.pipe)) c.cond_load.ensures.step
    (subst (HasPassedCells c.args.domain.now (write_end c.args.pipe) c.args.n) (sym c.own_load.ensures.same)
    c.requires.passed)
    (subst (λ (k : Known). IsSoundWrite (writing c.args.pipe k)) (sym c.own_load.ensures.same)
    (subst (λ (e : ℕ). IsSoundWrite (end_at e c.args.task.now)) (add-zero (write_end c.args.pipe))
    (c.own_load.ensures.sound.write (omega arith))))
    (let counts = c.from.ensures in grind (arith, nat_tests))

pub returns-clause-others : goal.returns-clause-others
returns-clause-others c j ne = looks_others c.args.domain.now (write_end c.args.pipe) _ c.args.n c.cond_load.result
    c.own_load.new.task c.cond_load.new.task (sym (other_w c.args.pipe)) c.cond_load.ensures.step
    (subst (HasPassedCells c.args.domain.now (write_end c.args.pipe) c.args.n) (sym c.own_load.ensures.same)
    c.requires.passed) j ne ∙ ap (end_at j) c.own_load.ensures.same

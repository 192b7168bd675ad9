use Rattle.std.proofs.Common.{◌∙◌, ap, sym, refl, subst, arith}
use Rattle.std.specs.Prelude.{ℕ, ◌≡◌, ◌+◌, ◌*◌, ◌<◌, length}
use Rattle.wait_model.specs.declared.layout.TheConstants.{PIPE_CELLS}
use Rattle.wait_rule.specs.declared.journal.EndAct.TheVariants as act
use Rattle.wait_rule.specs.declared.journal.Item.TheVariants as item
use Rattle.wait_rule.specs.{Known.Known, Pipes.cell_of, Pipes.read_end, PipePlays.cell_pipe, PipeSays.reading}
use Rattle.wait_rule.proofs.{TableSteps.PipeMoves.get_moves, KnownLaws.StepCalls.may_step, KnownLaws.StepCalls.known_by}
use Rattle.wait_rule.proofs.KnownLaws.FoundPipes.{piped_told, piped_carried, piped_looked, piped_becomes}
use Rattle.wait_rule.proofs.pipes.cell_load.Goals as goal

pub load-requires : goal.load-requires
load-requires c =
    let pipe = c.requires.pipe in
    let p = c.args.pipe in
    let place = c.requires.place in
    let mine = ap (λ (k : Known). (reading p k).mine) c.task.view_is ∙ c.requires.still.mine in
    let at = c.cell_at-at.ensures in
    may_step c.task.view_is c.requires.of c.domain.view_is c.domain.invariant (omega arith)
    (get_moves _ _ _ c.task.invariant.1 _ p (PIPE_CELLS * p + c.args.at) pipe mine
    (subst (λ (k : Known). length (reading p k).cells < (reading p k).seen) (sym c.task.view_is)
    c.requires.there)
    (ap (λ (n : ℕ). PIPE_CELLS * p + n) place
    ∙ ap (λ (k : Known). cell_of p (length (reading p k).cells)) (sym c.task.view_is)) at)

pub returns : goal.returns
returns c =
    let e = c.load.ensures in
    let there : cell_pipe c.cell_at-at.result ≡ c.args.pipe =
    omega (arith, c.requires.place, c.cell_at-at.ensures) in
    let now = known_by e.0 e.2.0 (λ j. item.Piped (read_end (there j)) act.Cell c.load.result) c.task.view_is in
    record {
      step = now;
      becomes = piped_becomes c.args.task.now _ (read_end c.args.pipe) act.Cell c.load.result now;
      cell = e.2.1;
      told = piped_told c.args.task.now _ (read_end c.args.pipe) act.Cell c.load.result now;
      carries = piped_carried c.args.task.now _ (read_end c.args.pipe) act.Cell c.load.result now refl;
      looked = piped_looked c.args.task.now _ (read_end c.args.pipe) act.Cell c.load.result now;
    }

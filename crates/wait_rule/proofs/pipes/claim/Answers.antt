use Rattle.std.proofs.Common.{refl, arith}
use Rattle.std.specs.Prelude.{◌≡◌, ◌+◌, ◌*◌}
use Rattle.wait_model.specs.declared.layout.TheConstants.{PIPE_ENDS}
use Rattle.wait_rule.specs.declared.journal.EndAct.TheVariants as act
use Rattle.wait_rule.specs.declared.journal.Item.TheVariants as item
use Rattle.wait_rule.specs.PipePlays.{claim_end}
use Rattle.wait_rule.proofs.TableSteps.PipeMoves.{claim_moves}
use Rattle.wait_rule.proofs.KnownLaws.FoundPipes.{claim_carried, piped_told, piped_looked, piped_becomes}
use Rattle.wait_rule.proofs.KnownLaws.StepCalls.{may_step, known_by}
use Rattle.wait_rule.proofs.pipes.claim.Goals as goal

pub swap-requires : goal.swap-requires
swap-requires c = may_step c.task.view_is c.requires.of c.domain.view_is c.domain.invariant
    (omega (arith, c.requires.pipe, c.requires.end, c.claim_at-at.ensures))
    (claim_moves _ _ _ c.task.invariant.1 _ (PIPE_ENDS * c.args.pipe + c.args.end)
    (omega (arith, c.requires.pipe, c.requires.end)) c.claim_at-at.ensures)

pub returns : goal.returns
returns c =
    let k = PIPE_ENDS * c.args.pipe + c.args.end in
    let found = c.swap.result in
    let there : claim_end c.claim_at-at.result ≡ k = omega (arith, c.claim_at-at.ensures) in
    let now = known_by c.swap.ensures.0 c.swap.ensures.2 (λ j. item.Piped (there j) act.Claim found) c.task.view_is in
    record {
      step = (found, (now, refl));
      becomes = piped_becomes c.args.task.now _ k act.Claim found now;
      told = piped_told c.args.task.now _ k act.Claim found now;
      carries = claim_carried c.args.task.now _ k found _ now refl;
      looked = piped_looked c.args.task.now _ k act.Claim found now;
    }

use Rattle.std.proofs.Common.{◌∙◌, ap, sym, refl, subst, arith, true≢false}
use Rattle.std.specs.Prelude.{ℕ, ◌==◌, ◌%◌, ◌+◌, ◌*◌, true}
use Rattle.wait_model.specs.declared.layout.TheConstants.{PIPE_ENDS}
use Rattle.wait_model.specs.declared.watches.Watch.TheVariants as watch
use Rattle.wait_model.specs.declared.steps.Step.TheVariants as step
use Rattle.wait_rule.specs.declared.journal.Item.TheVariants as item
use Rattle.wait_rule.specs.{Known.Known, Queues.IsIdle, Pipes.end_of, Pipes.end_word, PipeSays.IsOpen, PipeSays.end_at}
use Rattle.wait_rule.proofs.{TableSteps.PipeMoves.end_moves, KnownLaws.PipeWords.odd_is}
use Rattle.wait_rule.proofs.{KnownLaws.FoundPipes.advance_becomes, KnownLaws.FoundPipes.closed_carried}
use Rattle.wait_rule.proofs.KnownLaws.StepCalls.{end_spot, may_step, known_by}
use Rattle.wait_rule.proofs.pipes.shut.Goals as goal

pub store-requires : goal.store-requires
store-requires c =
    let k = PIPE_ENDS * c.args.pipe + c.args.end in
    let spot = end_spot c.args.pipe c.args.end _ c.requires.pipe c.requires.end c.cond_at-at.ensures in
    let still = subst (λ (j : Known). IsOpen (end_at k j)) (sym c.task.view_is) c.requires.still in
    may_step c.task.view_is c.requires.of c.domain.view_is c.domain.invariant spot.small
    (end_moves _ _ _ c.task.invariant.1 _ k c.args.word (end_of k c.task.inside.seat.me.0.items).count true spot.few
    (subst IsIdle (sym c.task.view_is) c.requires.idle).free.head still.mine
    (c.requires.word ∙ ap (λ (j : Known). end_word (end_at k j).count true) (sym c.task.view_is))
    (λ sound. (omega arith, sound.count)) (λ shut. absurd (true≢false (sym shut ∙ still.unshut))) spot.is)

pub returns : goal.returns
returns c =
    let k = PIPE_ENDS * c.args.pipe + c.args.end in
    let e = c.store.ensures in
    let spot = end_spot c.args.pipe c.args.end _ c.requires.pipe c.requires.end c.cond_at-at.ensures in
    let now = known_by e.0 e.2.1.0 (λ j. item.Made (step.Publish (watch.Var (spot.names j) 0) c.args.word e.2.0))
    c.task.view_is in
    record {
      step = (e.2.0, now);
      becomes = advance_becomes c.args.task.now _ k c.args.word e.2.0 _ true c.requires.still.mine now c.requires.word
          (omega arith) (omega arith) (λ shut. refl);
      carries = closed_carried c.args.task.now _ k c.args.word e.2.0
          (ap (λ (n : ℕ). n % 2 == 1) c.requires.word ∙ odd_is (end_at k c.args.task.now).count true) now;
    }

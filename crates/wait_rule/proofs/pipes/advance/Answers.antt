use Rattle.std.proofs.Common.{◌∙◌, ap, sym, subst, arith, true≢false}
use Rattle.std.specs.Prelude.{ℕ, ◌+◌, ◌*◌, ◌%◌, false, length}
use Rattle.wait_model.specs.declared.layout.TheConstants.{PIPE_ENDS}
use Rattle.wait_model.specs.declared.watches.Watch.TheVariants as watch
use Rattle.wait_model.specs.declared.steps.Step.TheVariants as step
use Rattle.wait_rule.specs.declared.journal.Item.TheVariants as item
use Rattle.wait_rule.specs.{Known.Known, Queues.IsIdle, Pipes.end_of, Pipes.word_counts}
use Rattle.wait_rule.specs.PipeSays.{IsOpen, IsSoundEnd, end_at}
use Rattle.wait_rule.proofs.{TableSteps.PipeMoves.end_moves, KnownLaws.CarriedTasks.published_carried}
use Rattle.wait_rule.proofs.KnownLaws.FoundPipes.{advance_becomes}
use Rattle.wait_rule.proofs.KnownLaws.StepCalls.{end_spot, known_tells, may_step, known_by}
use Rattle.wait_rule.proofs.pipes.advance.Goals as goal

pub store-requires : goal.store-requires
store-requires c =
    let k = PIPE_ENDS * c.args.pipe + c.args.end in
    let spot = end_spot c.args.pipe c.args.end _ c.requires.pipe c.requires.end c.cond_at-at.ensures in
    let still = subst (λ (j : Known). IsOpen (end_at k j)) (sym c.task.view_is) c.requires.still in
    let count = c.requires.count ∙ ap (λ (j : Known). length (end_at k j).cells % word_counts) (sym c.task.view_is) in
    may_step c.task.view_is c.requires.of c.domain.view_is c.domain.invariant spot.small
    (end_moves _ _ _ c.task.invariant.1 _ k (2 * c.from.result) (length (end_of k c.task.inside.seat.me.0.items).cells)
    false spot.few (subst IsIdle (sym c.task.view_is) c.requires.idle).free.head still.mine
    (omega (arith, count, c.from.ensures)) (λ sound. (sound.count, omega arith))
    (λ shut. absurd (true≢false (sym shut ∙ still.unshut))) spot.is)

pub returns : goal.returns
returns c =
    let k = PIPE_ENDS * c.args.pipe + c.args.end in
    let spot = end_spot c.args.pipe c.args.end _ c.requires.pipe c.requires.end c.cond_at-at.ensures in
    let e = c.store.ensures in
    let now = known_by e.0 e.2.1.0
    (λ j. item.Made (step.Publish (watch.Var (spot.names j) 0) (2 * c.from.ensures j) e.2.0)) c.task.view_is in
    let sound = known_tells (λ (j : Known) (i : ℕ). IsSoundEnd i (end_at i j)) spot.names c.task.view_is e.2.1.1 in
    record {
      step = (e.2.0, now);
      becomes = advance_becomes c.args.task.now _ k (2 * c.args.count) e.2.0 _ false c.requires.still.mine now
          (omega (arith, c.requires.count)) sound.count sound.room
          (λ shut. absurd (true≢false (sym shut ∙ c.requires.still.unshut)));
      carries = published_carried c.args.task.now _ (watch.Var k 0) (2 * c.args.count) e.2.0 now;
    }

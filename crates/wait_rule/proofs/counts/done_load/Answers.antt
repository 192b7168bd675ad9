use Rattle.std.proofs.Common.{◌∙◌, sym, subst, arith}
use Rattle.std.specs.Prelude.{ℕ, ◌≡◌, ◌+◌, ◌≤◌}
use Rattle.wait_model.specs.declared.layout.TheConstants.{FIRST_DONE, ALL_DONE}
use Rattle.wait_model.specs.declared.steps.Step.TheVariants as step
use Rattle.wait_model.specs.declared.watches.Watch.TheVariants as watch
use Rattle.wait_model.proofs.WordLaws.CondWords.{cond_position}
use Rattle.wait_rule.specs.declared.journal.Item.TheVariants as item
use Rattle.wait_rule.specs.{CountPlays.cell_of_place, Counts.FindsCount, Known.Known, Known.known, Queues.IsAgreedHold}
use Rattle.wait_rule.proofs.{TableSteps.CountMoves.count_load_moves, KnownLaws.CarriedTasks.loaded_carried}
use Rattle.wait_rule.proofs.{KnownLaws.StepCalls.may_step, KnownLaws.StepCalls.known_by}
use Rattle.wait_rule.proofs.counts.done_load.Goals as goal

pub load-requires : goal.load-requires
load-requires c =
    let few = c.requires.cell in
    let at = c.cond_at-at.ensures ∙ cond_position (FIRST_DONE + c.args.cell) (omega arith) in
    may_step c.task.view_is c.requires.of c.domain.view_is c.domain.invariant (omega arith)
    (count_load_moves _ _ _ c.task.invariant.1 c.args.cell _ c.requires.cell (omega arith)
    (subst IsAgreedHold (sym c.task.view_is) c.requires.agreed))

pub overflow_cast-result : goal.overflow_cast-result
overflow_cast-result c =
    let small : c.load.result ≤ ALL_DONE = (c.load.ensures.2.1 c.task.inside.seat.table_id).0 in
    omega arith

pub returns-clause-step : goal.returns-clause-step
returns-clause-step c =
    let few = c.requires.cell in
    let at = c.cond_at-at.ensures ∙ cond_position (FIRST_DONE + c.args.cell) (omega arith) in
    let there : cell_of_place c.cond_at-at.result ≡ c.args.cell = omega arith in
    known_by c.load.ensures.0 c.load.ensures.2.0 (λ j. item.Made (step.Load (watch.Done (there j)) c.load.result)) c.task.view_is

pub returns-clause-finds : goal.returns-clause-finds
returns-clause-finds c =
    let few = c.requires.cell in
    let at = c.cond_at-at.ensures ∙ cond_position (FIRST_DONE + c.args.cell) (omega arith) in
    let there : cell_of_place c.cond_at-at.result ≡ c.args.cell = omega arith in
    subst (λ (k : Known). FindsCount k c.args.cell c.load.result) c.task.view_is
    (subst (λ (d : ℕ). FindsCount (known c.task.inside.seat.table_id c.task.inside.seat.me.0 0) d c.load.result)
    there (c.load.ensures.2.1 c.task.inside.seat.table_id))

pub returns-clause-carries : goal.returns-clause-carries
returns-clause-carries c = loaded_carried c.args.task.now _ (watch.Done c.args.cell) c.load.result
    (returns-clause-step c)

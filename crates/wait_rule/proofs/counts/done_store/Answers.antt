use Rattle.std.proofs.Common.{◌∙◌, sym, subst, arith}
use Rattle.std.specs.Prelude.{ℕ, ◌≡◌, ◌+◌}
use Rattle.wait_model.specs.{declared.layout.TheConstants.FIRST_DONE, Runs.set_step}
use Rattle.wait_model.specs.declared.watches.Watch.TheVariants as watch
use Rattle.wait_model.proofs.WordLaws.CondWords.{cond_position}
use Rattle.wait_rule.specs.declared.journal.Item.TheVariants as item
use Rattle.wait_rule.specs.{CountPlays.cell_of_place, Counts.FindsCount, Counts.MayStoreCount, Known.Known, Known.known}
use Rattle.wait_rule.proofs.TableSteps.CountMoves.{count_store_moves}
use Rattle.wait_rule.proofs.KnownLaws.CarriedCounts.{count_publishes, count_consumes}
use Rattle.wait_rule.proofs.KnownLaws.StepCalls.{may_step, known_by}
use Rattle.wait_rule.proofs.counts.done_store.Goals as goal

pub store-requires : goal.store-requires
store-requires c =
    let t = c.task.inside in
    let few = c.requires.cell in
    let at = c.cond_at-at.ensures ∙ cond_position (FIRST_DONE + c.args.cell) (omega arith) in
    may_step c.task.view_is c.requires.of c.domain.view_is c.domain.invariant (omega arith)
    (count_store_moves _ _ _ c.task.invariant.1 c.args.cell _ c.requires.cell (omega arith) t.seat.table_id
    c.from.result t.head
    (subst (λ (k : Known). MayStoreCount k c.args.cell c.from.result) (sym c.task.view_is)
    (subst (MayStoreCount c.args.task.now c.args.cell) (sym c.from.ensures) c.requires.may)))

pub returns : goal.returns
returns c =
    let few = c.requires.cell in
    let at = c.cond_at-at.ensures ∙ cond_position (FIRST_DONE + c.args.cell) (omega arith) in
    let there : cell_of_place c.cond_at-at.result ≡ c.args.cell = omega arith in
    let is = known_by c.store.ensures.0 c.store.ensures.2.2 (λ j. item.Made (set_step (watch.Done (there j)) (c.from.ensures j) c.store.ensures.2.0)) c.task.view_is in
    record {
      found = c.store.ensures.2.0;
      finds = subst (λ (k : Known). FindsCount k c.args.cell c.store.ensures.2.0) c.task.view_is
          (subst (λ (d : ℕ). FindsCount (known c.task.inside.seat.table_id c.task.inside.seat.me.0 0) d
          c.store.ensures.2.0) there (c.store.ensures.2.1 c.task.inside.seat.table_id));
      is = is;
      publishes = count_publishes c.args.task.now _ c.args.cell c.args.done c.store.ensures.2.0 is;
      consumes = count_consumes c.args.task.now _ c.args.cell c.args.done c.store.ensures.2.0 is;
    }

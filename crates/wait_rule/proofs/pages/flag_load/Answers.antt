use Rattle.std.proofs.Common.{◌∙◌, sym, arith}
use Rattle.std.specs.Prelude.{ℕ}
use Rattle.wait_model.specs.declared.layout.TheConstants.{FLAG_AT}
use Rattle.wait_model.specs.declared.steps.Step.TheVariants as step
use Rattle.wait_rule.specs.declared.journal.Item.TheVariants as item
use Rattle.wait_rule.specs.{Known.Known, Queues.index, PageCalls.ShowsGiven, PageCalls.ShowsNoFlag}
use Rattle.wait_rule.proofs.{TableSteps.MemberMoves.own_index, TableSteps.PageMoves.flag_word_moves}
use Rattle.wait_rule.proofs.KnownLaws.CarriedFlags.{flag_carried}
use Rattle.wait_rule.proofs.KnownLaws.StepCalls.{known_tells, own_index_at, may_step, known_by}
use Rattle.wait_rule.proofs.pages.flag_load.Goals as goal

pub load-requires : goal.load-requires
load-requires c =
    let t = c.task.inside in
    let i = c.task.invariant in
    may_step c.task.view_is c.requires.of c.domain.view_is c.domain.invariant
    (omega (arith, i.5, c.requires.slot, c.flag_at-at.ensures))
    (flag_word_moves _ _ _ i.1 (index t.number c.args.slot) _ (omega (arith, i.5, c.requires.slot)) c.flag_at-at.ensures
    (own_index t.number c.args.slot c.requires.slot ∙ sym i.2))

pub returns : goal.returns
returns c =
    let t = c.task.inside in
    let e = c.load.ensures in
    let spot = own_index_at FLAG_AT c.flag_at-at.result t.number c.args.slot c.flag_at-at.ensures c.task.invariant.2
    c.task.view_is in
    let now = known_by e.0 e.2.0 (λ j. item.Made (step.Flag (spot j) c.load.result)) c.task.view_is in
    record {
      step = now;
      word = e.2.1.0;
      given = known_tells (λ (k : Known) (x : ℕ). ShowsGiven k x c.load.result) spot c.task.view_is
          (e.2.1.1 t.seat.table_id);
      none = known_tells (λ (k : Known) (x : ℕ). ShowsNoFlag k x c.load.result) spot c.task.view_is
          (e.2.1.2 t.seat.table_id);
      carries = flag_carried c.args.task.now _ _ c.load.result now;
    }

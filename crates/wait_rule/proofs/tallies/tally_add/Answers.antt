use Rattle.std.proofs.Common.{ap, subst, arith}
use Rattle.std.specs.Prelude.{ℕ, ◌≡◌, ◌-◌}
use Rattle.wait_model.specs.declared.layout.TheConstants.{TALLY_AT}
use Rattle.wait_rule.specs.declared.journal.Item.TheVariants as item
use Rattle.wait_rule.specs.{declared.journal.Journal.Journal, Known.Known, Says.FindsTally}
use Rattle.wait_rule.proofs.TableSteps.TallyMoves.{tally_moves}
use Rattle.wait_rule.proofs.KnownLaws.FoundTallies.{tally_told, tally_carried, tally_looked}
use Rattle.wait_rule.proofs.KnownLaws.StepCalls.{may_step, known_by}
use Rattle.wait_rule.proofs.tallies.tally_add.Goals as goal

pub fetch_add-requires : goal.fetch_add-requires
fetch_add-requires c =
    let page = c.requires.page in
    let at = c.tally_at-at.ensures in
    may_step c.task.view_is c.requires.of c.domain.view_is c.domain.invariant (omega arith)
    (tally_moves _ _ _ c.task.invariant.1 c.args.page c.args.amount _ page at)

pub returns-clause-step : goal.returns-clause-step
returns-clause-step c =
    let e = c.fetch_add.ensures in
    let there : c.tally_at-at.result - TALLY_AT ≡ c.args.page = (let at = c.tally_at-at.ensures in omega arith) in
    known_by e.0 e.2.0 (λ j. item.Tally (there j) c.args.amount c.fetch_add.result) c.task.view_is

pub returns-clause-finds : goal.returns-clause-finds
returns-clause-finds c =
    let there : c.tally_at-at.result - TALLY_AT ≡ c.args.page = (let at = c.tally_at-at.ensures in omega arith) in
    subst (λ (v : Journal). FindsTally v c.args.page c.fetch_add.result) (ap (λ (k : Known). k.view) c.task.view_is)
    (subst (λ (p : ℕ). FindsTally c.task.inside.seat.me.0 p c.fetch_add.result) there c.fetch_add.ensures.2.1)

pub returns-clause-told : goal.returns-clause-told
returns-clause-told c = tally_told c.args.task.now _ c.args.page c.args.amount c.fetch_add.result
    (returns-clause-step c)

pub returns-clause-carries : goal.returns-clause-carries
returns-clause-carries c = tally_carried c.args.task.now _ c.args.page c.args.amount
    c.fetch_add.result (returns-clause-step c)

pub returns-clause-looked : goal.returns-clause-looked
returns-clause-looked c = tally_looked c.args.task.now _ c.args.page c.args.amount
    c.fetch_add.result (returns-clause-step c)

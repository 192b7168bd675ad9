use Rattle.std.proofs.Common.{◌∙◌, ap, subst, ℕ, ◌∷◌, ◌++◌}
use Rattle.wait_model.specs.Totals.{total}
use Rattle.wait_rule.specs.{Journals.part_in, Known.Known, Says.history_of}
use Rattle.head_tests.specs.Meeting.{wakes_task, HaveMet}
use Rattle.head_tests.proofs.steps.meet.Goals as goal

pub returns : goal.returns
returns g c =
    let one = c.join-one.ensures.first in
    let two = c.join-one.ensures.second in
    let joined = c.join.ensures.joined in
    let met : HaveMet c.number-who.result c.join.new.self = (
      ap (λ (k : Known). total (wakes_task c.number-who.result) (history_of k)) joined ∙ one.1,
      (
        part_in c.join-one.result.1.view,
        ap (λ (k : Known). k.view.joined) joined
            ∙ (λ i. one.2 i ++ part_in c.join-one.result.1.view ∷ two.4 i),
        two.3,
        two.2,
      ),
    ) in
    subst (λ (k : ℕ). HaveMet k c.join.new.self) c.number-who.ensures.number met

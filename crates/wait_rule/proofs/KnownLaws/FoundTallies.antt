-- What a tally tells, and what stays of a task that adds to one.
use Rattle.std.proofs.Common.{◌∙◌, ap, sym, refl, add-zero}
use Rattle.std.specs.Prelude.{ℕ, ◌≡◌, ◌%◌, ◌^◌, false}
use Rattle.wait_model.specs.{declared.layout.TheConstants.TASKS, Views.View as Told}
use Rattle.wait_model.specs.Locations as place
use Rattle.wait_model.proofs.HistoryLaws.StepTotals.{sum_same}
use Rattle.wait_rule.specs.declared.journal.Item.TheVariants as item
use Rattle.wait_rule.specs.{Journals.has_of, Known.Known, Tallies.amounts_of, Says.added, Says.told_of, Stays.Carries}
use Rattle.wait_rule.specs.{Stays.unchanged, LookCounts.Looked, LookCounts.looks_made, TallyLaws.RuleSumsTallies}
use Rattle.wait_rule.specs.TallyLaws.{AllSumTallies}
use Rattle.wait_rule.proofs.{KnownLaws.AfterSteps.told_added, KnownLaws.Debts.added_debts}
use Rattle.wait_rule.proofs.{KnownLaws.LookCounts.looked_none, KnownLaws.StayingParts.stays_bits}
use Rattle.wait_rule.proofs.KnownLaws.CarriedTasks.{stays_carried}

pub rule_sums_tallies : RuleSumsTallies
rule_sums_tallies c law p few = law.shown.each (place.Tally p) few ∙ law.tallies p

pub all_sum_tallies : AllSumTallies
all_sum_tallies v p w f all = f.word ∙ ap (λ (n : ℕ). n % 2 ^ 64)
    (sum_same TASKS (λ t. amounts_of p (has_of t v)) (λ t. amounts_of p (f.shown.items t))
    (λ t few. ap (amounts_of p) (f.shown.lists t (all t few))))

-- an add is no step
module _ (old new : Known) (p n w : ℕ) (is : new ≡ added old (item.Tally p n w)) where
  pub tally_told : told_of new ≡ told_of old
  tally_told = ap told_of is ∙ told_added old (item.Tally p n w)

  pub tally_carried : Carries unchanged old new
  tally_carried = stays_carried (λ o. o) (λ t. t) (λ o. o) false old new
      (stays_bits old new (ap (λ (k : Known). k.domain) is) (ap (λ (k : Known). k.view.number) is)
      (ap (λ (k : Known). k.book.state) is) (ap (λ (k : Known). k.book.awake) is)
      (ap (λ (v : Told). v.bits) tally_told) (added_debts old new (item.Tally p n w) refl is))
      (ap (λ (k : Known). k.book.head) is) (ap (λ (k : Known). k.book.ticket) is)
      (ap (λ (v : Told). v.hold.head) tally_told) (ap (λ (k : Known). k.at) is)
      (ap (λ (v : Told). v.mark) tally_told)
      (λ c σ none. ap (λ (v : Told). v.duty.owes c σ) tally_told ∙ none)
      (λ x _. ap (λ (v : Told). v.bits.stored x) tally_told)

  pub tally_looked : Looked 0 old new
  tally_looked = looked_none old new (item.Tally p n w) (λ k. refl) is ∙ sym (add-zero (looks_made old))

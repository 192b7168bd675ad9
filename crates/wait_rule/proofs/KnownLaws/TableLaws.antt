-- The laws of the model, by the rule and by the lists of all tasks.
use Rattle.std.proofs.Common.{sym, ap, subst, arith}
use Rattle.std.specs.Prelude.{ℕ, ◌≡◌, ◌<◌}
use Rattle.wait_model.specs.{declared.layout.TheConstants.TASKS, declared.steps.Step.Step, Totals.total}
use Rattle.wait_model.specs.{Totals.total_below, Histories.Lacks}
use Rattle.wait_model.specs.SignalCounts.{AreRaised, takes_fatal, takes_any, raises_fatal, raises_any}
use Rattle.wait_model.specs.DoneCounts.{of_store, raises_by_one, lowers_by_one, grants, throws, ends_count}
use Rattle.wait_model.proofs.{AccountLaws.DoneCounts.takes_are_completed, HistoryLaws.NoLostWake.no_wake_is_lost}
use Rattle.wait_model.proofs.HistoryLaws.StepTotals.{sum_same}
use Rattle.wait_rule.specs.{declared.journal.Journal.Journal, Interleavings.table_of, Says.IsShown}
use Rattle.wait_rule.specs.TableLaws.{AllBalance, AllLoseNoWake, AllTakeMade, AllTookRaised, HasAll, RuleBalances}
use Rattle.wait_rule.specs.TableLaws.{RuleInventsNoSignal, RuleKeepsBits, RuleLosesNoWake, RuleTakesMade}
use Rattle.wait_rule.specs.TableLaws.{StepsLoseNoWake, histories_in}
use Rattle.wait_rule.proofs.KnownLaws.Moments.{kept_of, views_of}

pub rule_loses_none : RuleLosesNoWake
rule_loses_none s items ruled = no_wake_is_lost s ruled.whole.told ruled.whole.kept.no_lost_wake

pub steps_lose_none : StepsLoseNoWake
steps_lose_none xs may = no_wake_is_lost (table_of xs) (views_of xs) (kept_of xs may).no_lost_wake

pub all_lose_none : AllLoseNoWake
all_lose_none v law all =
    (λ t few. law.history t (all t few), rule_loses_none law.table law.items law.ruled)

pub rule_invents_none : RuleInventsNoSignal
rule_invents_none s items ruled t = ruled.whole.signals t

pub rule_keeps_bits : RuleKeepsBits
rule_keeps_bits s items ruled = ruled.whole.bits

pub rule_balances : RuleBalances
rule_balances s items ruled d = ruled.whole.counts d

module _ (v : Journal) (law : IsShown v) (all : HasAll v) where
  told_below : (f : Step → ℕ) → total_below TASKS f (histories_in v) ≡ total_below TASKS f law.table.history
  told_below f = sum_same TASKS (λ a. total f (law.table.history a)) (λ a. total f (histories_in v a))
      (λ a few. ap (total f) (sym (law.history a (all a few))))

  told_own : (f : Step → ℕ) (t : ℕ) → t < TASKS → total f (histories_in v t) ≡ total f (law.table.history t)
  told_own f t few = ap (total f) (sym (law.history t (all t few)))

pub all_took_raised : AllTookRaised
all_took_raised v law all t few =
    let r : AreRaised TASKS law.table t = law.ruled.whole.signals t in
    let f = r.fatal in
    let a = r.any in
    let f_own = told_own v law all takes_fatal t few in
    let f_all = told_below v law all (raises_fatal t) in
    let a_own = told_own v law all takes_any t few in
    let a_all = told_below v law all (raises_any t) in
    record { fatal = omega arith; any = omega arith }

pub all_balance : AllBalance
all_balance v law all d =
    let b = (law.ruled.whole.counts d).balance in
    let r = told_below v law all (of_store raises_by_one d) in
    let g = told_below v law all (of_store grants d) in
    let l = told_below v law all (of_store lowers_by_one d) in
    let t = told_below v law all (of_store throws d) in
    omega arith

pub rule_takes_made : RuleTakesMade
rule_takes_made s items ruled d lacks = takes_are_completed TASKS s d (ruled.whole.counts d) lacks

pub all_take_made : AllTakeMade
all_take_made v law all d lacks =
    let made = rule_takes_made law.table law.items law.ruled d
    (λ t few. subst (Lacks (ends_count d)) (sym (law.history t (all t few))) (lacks t few)) in
    let r = told_below v law all (of_store raises_by_one d) in
    let l = told_below v law all (of_store lowers_by_one d) in
    omega arith

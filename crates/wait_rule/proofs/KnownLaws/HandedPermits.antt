-- Permits are handed on in each table that meets the rule, and what a step at a completion's head asks of it.
use Rattle.std.proofs.Common.{refl, sym, ◌∙◌, ap, subst, arith, inl, inr}
use Rattle.std.specs.Prelude.{ℕ, ◌≡◌, ◌<◌, ◌-◌, ◌&&◌, ◌==◌, Bool, true, false, if◌then◌else◌, Option, Some, None, List}
use Rattle.std.specs.Prelude.{[], ◌∷◌}
use Rattle.wait_model.specs.{declared.layout.TheConstants.FIRST_DONE_HEAD, declared.steps.Step.Step}
use Rattle.wait_model.specs.{declared.watches.Entry.Entry, PermitFacts.IsAccounted, Runs.own, Tables.Table}
use Rattle.wait_model.specs.Watches.{head_of}
use Rattle.wait_model.specs.Fold.{after, after_all, view_of}
use Rattle.wait_model.specs.Permits.{Dealt, HandsOn, MayGiveBack, PermitsAreHanded, count_after, deals, deals_all}
use Rattle.wait_model.specs.Permits.{dealt, done_head, is_in, none_dealt}
use Rattle.wait_model.specs.Views.{Hold, View, blank}
use Rattle.wait_model.specs.declared.steps.Step.TheVariants as step
use Rattle.wait_model.specs.declared.watches.Watch.TheVariants as watch
use Rattle.wait_model.proofs.{PermitLaws.OwnTurns.held_is, StepLaws.UnlockSteps.unlock_hold}
use Rattle.wait_model.proofs.PermitLaws.PermitSteps.{accounted_handed, accounted_start, accounted_step}
use Rattle.wait_rule.specs.{declared.journal.Item.Item, LeftEntries.OrderOf, LeftEntries.dealt_of, Items.steps_of}
use Rattle.wait_rule.specs.{Known.Known, Queues.index, Rule.IsRuled, Says.history_of, Says.told_of}
use Rattle.wait_rule.specs.HandedPermits.{AllHandPermitsOn, FoundNoPermit, OwesNoPermit, RuleHandsPermitsOn}
use Rattle.wait_rule.specs.HandedPermits.{StepsHandPermitsOn, cell_of_head}
use Rattle.wait_rule.specs.HeldValues.{count_in, value_after, value_from}
use Rattle.wait_rule.specs.Interleavings.{AreAllowed, AreHanded, TaskStep, table_of}
use Rattle.wait_rule.proofs.KnownLaws.Moments.{kept_of}

-- the account of permits after each order of steps that meet their conditions
pub accounted_of : (xs : List TaskStep) → AreAllowed xs → AreHanded xs → IsAccounted (table_of xs)
accounted_of [] may on = accounted_start
accounted_of (x ∷ xs) may on = accounted_step (table_of xs) x.task x.made may.0 (kept_of xs may.2) may.1 on.0
    (accounted_of xs may.2 on.1)

pub steps_hand_on : StepsHandPermitsOn
steps_hand_on xs may on = accounted_handed (table_of xs) (kept_of xs may) (accounted_of xs may on)

pub rule_hands_on : RuleHandsPermitsOn
rule_hands_on s items ruled =
    let k = ruled.whole.interleaved in
    subst PermitsAreHanded (sym k.leads) (steps_hand_on k.steps k.allowed k.handed)

pub all_hand_on : AllHandPermitsOn
all_hand_on v law all = (λ t few. law.history t (all t few), rule_hands_on law.table law.items law.ruled)

-- the heads of completions, and the completion of one
pub none_done : (h d : ℕ) → h < FIRST_DONE_HEAD → h ≡ done_head d → ⊥
unfolding head_of
none_done h d few here = omega (arith, few, here)

pub cell_is : (h d : ℕ) → h ≡ done_head d → h - FIRST_DONE_HEAD ≡ d
unfolding head_of
cell_is h d here = omega (arith, here)

-- a task's list in a table that meets the rule
module _ (s : Table) (items : ℕ → List Item) (ruled : IsRuled s items) (k : Known)
    (own_list : items k.view.number ≡ k.view.items) where
  abbrev a : ℕ
  a = k.view.number

  history_is : s.history a ≡ history_of k
  history_is = ruled.histories a ∙ ap steps_of own_list

  pub order_of : OrderOf k
  order_of =
      let i = ruled.whole.interleaved in record {
        steps = i.steps;
        may = i.allowed;
        on = i.handed;
        is = ap (λ (t : Table). t.history a) (sym i.leads) ∙ history_is;
      }

  pub unlock_on : (sp : Bool) → OwesNoPermit k → HandsOn s a (step.Unlock k.at sp)
  unlock_on sp (inl few) = λ d here. absurd (none_done k.at d few here)
  unlock_on sp (inr owes) = λ d here.
      subst (λ (v : View). MayGiveBack d (own a) v (dealt d a (s.history a)))
      (sym (ruled.whole.told a ∙ ap view_of history_is))
      (subst (λ (l : List Step). MayGiveBack d (own a) (told_of k) (dealt d a l)) (sym history_is)
      (subst (λ (i : ℕ). MayGiveBack i (own a) (told_of k) (dealt_of i k)) (cell_is k.at d here) (owes order_of)))

-- what a hold of a completion's head knows of the count is what it has loaded or stored last
same_number : (i j : ℕ) → i ≡ j → (i == j) ≡ true
same_number i j is = grind (arith, is)

loads_count : (b c : Bool) (r : ℕ) (m n : Option ℕ) → c ≡ true → m ≡ n
    → (if b && c then Some r else m) ≡ (if b then Some r else n)
loads_count true c r m n is same = ap (λ (t : Bool). if t then Some r else m) is
loads_count false c r m n is same = same

count_next : (d : ℕ) (v : View) (m n : Option ℕ) (e : Step) → (v.hold.head ≡ Some (done_head d) → m ≡ n)
    → (after e v).hold.head ≡ Some (done_head d) → count_after d v m e ≡ value_after (watch.Done d) e n
count_next d v m n (step.Lock h aim w) same held = ap (λ (b : Bool). if b then None else m)
    (same_number h (done_head d) (let q : Some h ≡ Some (done_head d) = held in cc))
count_next d v m n (step.Unlock h sp) same held = absurd (let z : None ≡ Some (done_head d) =
    sym (ap (λ (k : Hold). k.head) (unlock_hold v v.walk sp)) ∙ held in cc)
count_next d v m n (step.Load (watch.Done c) r) same held = loads_count (c == d) (is_in d v) r m n
    (held_is v.hold.head (done_head d) (done_head d) held ∙ same_number (done_head d) (done_head d) refl) (same held)
count_next d v m n (step.Publish (watch.Done c) k r) same held = ap (λ (o : Option ℕ). if c == d then Some k else o)
    (same held)
count_next d v m n (step.Consume (watch.Done c) k r) same held = ap (λ (o : Option ℕ). if c == d then Some k else o)
    (same held)
count_next d v m n e same held = same held

counts_from : (d x : ℕ) (v : View) (w : Dealt) (n : Option ℕ) (es : List Step)
    → (v.hold.head ≡ Some (done_head d) → w.count ≡ n) → (after_all v es).hold.head ≡ Some (done_head d)
    → (deals_all d x v w es).count ≡ value_from (watch.Done d) n es
counts_from d x v w n [] same held = same held
counts_from d x v w n (e ∷ es) same held = counts_from d x (after e v) (deals d x v w e)
    (value_after (watch.Done d) e n) es (count_next d v w.count n e same) held

pub count_known : (d : ℕ) (k : Known) → (told_of k).hold.head ≡ Some (done_head d)
    → (dealt_of d k).count ≡ count_in d (history_of k)
count_known d k held = counts_from d (own k.view.number) blank none_dealt None (history_of k) (λ _. refl) held

module _ (s : Table) (items : ℕ → List Item) (ruled : IsRuled s items) (k : Known)
    (own_list : items k.view.number ≡ k.view.items) (slot x : ℕ) (e : Entry) (own_is : x ≡ index k.view.number slot)
    (there : head_of e.watch ≡ k.at) (held : (told_of k).hold.head ≡ Some k.at) where
  zero_known : (d : ℕ) → k.at ≡ done_head d → count_in (cell_of_head k) (history_of k) ≡ Some 0
      → (dealt d k.view.number (s.history k.view.number)).count ≡ Some 0
  zero_known d here is =
      ap (λ (l : List Step). (dealt d k.view.number l).count) (history_is s items ruled k own_list)
      ∙ (count_known d k (held ∙ ap (λ (h : ℕ). Some h) here)
      ∙ subst (λ (i : ℕ). count_in i (history_of k) ≡ Some 0) (cell_is k.at d here) is)

  pub queue_on : FoundNoPermit k slot → HandsOn s k.view.number (step.Queue x e)
  queue_on (inl few) = λ d here. absurd (none_done k.at d few (sym there ∙ here))
  queue_on (inr found) = λ d here.
      let first = found.0 in (omega (arith, own_is, first), zero_known d (sym there ∙ here) found.1)

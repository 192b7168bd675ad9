-- What the steps of a wait's hold leave of permits, one after another.
use Rattle.std.proofs.Common.{refl, ◌∙◌, ap, eq-eqb}
use Rattle.std.specs.Prelude.{ℕ, ◌≡◌, ◌==◌, if◌then◌else◌, Bool, true, false, Option, Some, List, [], ◌∷◌, ◌++◌}
use Rattle.wait_model.specs.{declared.steps.Step.Step, Permits.after_store}
use Rattle.wait_model.specs.Runs.{is_publishing, own, set_step}
use Rattle.wait_model.specs.declared.steps.Step.TheVariants as step
use Rattle.wait_model.specs.declared.watches.Watch.TheVariants as watch
use Rattle.wait_rule.specs.{declared.journal.Item.Item, Items.steps_of, Known.Known, Says.history_of}
use Rattle.wait_rule.specs.{Transitions.AreLooks, Transitions.OnlyLooks}
use Rattle.wait_rule.proofs.TableSteps.ItemLists.{steps_append}
use Rattle.wait_event.proofs.LookedSteps.{looks_all}
use Rattle.completion_cell.specs.HeldPermits.{Deals, Held}

-- by the steps that the history has more
pub held_by : (d : ℕ) (old new : Known) (es : List Step) (o p : Option ℕ) (n m : ℕ)
    → history_of new ≡ history_of old ++ es → new.view.number ≡ old.view.number
    → Deals d (own old.view.number) es o n p m → Held d old new o n p m
held_by d old new es o p n m is number deals = record { made = es; is = is; deals = deals; number = number }

-- looks
looks_deal : (d x : ℕ) (o : Option ℕ) (n : ℕ) (xs : List Item) → AreLooks xs → Deals d x (steps_of xs) o n o n
looks_deal d x o n = looks_all (λ es. Deals d x es o n o n) (refl, refl) (λ y w es deals. (tt, deals))

pub held_only : (d : ℕ) (old new : Known) (o : Option ℕ) (n : ℕ) → OnlyLooks old new → Held d old new o n o n
held_only d old new o n l = record {
  made = steps_of l.items;
  is = ap history_of l.is ∙ steps_append old.view.items l.items;
  deals = looks_deal d (own old.view.number) o n l.items l.looks;
  number = ap (λ (k : Known). k.view.number) l.is;
}

-- a store of the count
pub store_deals : (d x m r : ℕ) (o : Option ℕ) (n : ℕ) → Deals d x (set_step (watch.Done d) m r ∷ []) o n (Some m)
    (after_store m r n)
store_deals d x m r o n = by (is_publishing (watch.Done d) r m)
  where
    same : (d == d) ≡ true
    same = eq-eqb d d refl

    both : ((if d == d then Some m else o) ≡ Some m) × ((if d == d then after_store m r n else n) ≡ after_store m r n)
    both = (
      ap (λ (b : Bool). if b then Some m else o) same,
      ap (λ (b : Bool). if b then after_store m r n else n) same,
    )

    by : (b : Bool) → Deals d x ((if b then step.Publish (watch.Done d) m r else step.Consume (watch.Done d) m r) ∷
        []) o
        n (Some m) (after_store m r n)
    by true = (tt, both)
    by false = (tt, both)

-- Loads that found the count of a semaphore at its end.
use Rattle.std.proofs.Common.{◌∙◌, ap, arith, append_assoc}
use Rattle.std.proofs.lemmas.Bool.Decides.{nat_tests}
use Rattle.std.specs.Prelude.{ℕ, ◌≡◌, ◌<◌, true, Option, List, [], ◌∷◌, ◌++◌}
use Rattle.wait_model.specs.{declared.layout.TheConstants.ALL_DONE, declared.points.Given.Given}
use Rattle.wait_model.specs.{declared.points.Seen.Seen, declared.steps.Step.Step, declared.watches.Watch.Watch}
use Rattle.wait_model.specs.{Programs.done_in, Programs.is_at_end, Watches.number_of}
use Rattle.wait_model.specs.declared.calls.Event.TheVariants as event
use Rattle.wait_model.specs.declared.steps.Step.TheVariants as step
use Rattle.wait_model.specs.declared.watches.Watch.TheVariants as watch
use Rattle.wait_rule.specs.{Known.Known, Says.history_of, Transitions.FindsStep, Transitions.IsStepFor}

-- a load of the task's has found the count at its end
pub record HasLoadedEnd (c : ℕ) (es : List Step) : Type 0 where
  pub count : ℕ
  pub many : (count < ALL_DONE) → ⊥
  pub front : List Step
  pub rest : List Step
  pub is : es ≡ front ++ step.Load (watch.Done c) count ∷ rest

pub loaded_on : (c : ℕ) (es : List Step) (e : Step) → HasLoadedEnd c es → HasLoadedEnd c (es ++ e ∷ [])
loaded_on c es e l = record {
  count = l.count;
  many = l.many;
  front = l.front;
  rest = l.rest ++ e ∷ [];
  is = ap (λ (xs : List Step). xs ++ e ∷ []) l.is
      ∙ append_assoc l.front (step.Load (watch.Done c) l.count ∷ l.rest) (e ∷ []);
}

pub at_end : (v : ℕ) → is_at_end v ≡ true → v < ALL_DONE → ⊥
at_end v is low =
    let same : done_in v ≡ v = omega (arith, low) in
    let q : done_in v ≡ ALL_DONE = grind (arith, nat_tests, is) in
    omega (arith, same, q, low)

module _ (c : ℕ) (k : Known) (self : Option ℕ) (g : Given) (about : g.watch ≡ watch.Done c) (seen : Seen) where
  pub found_end : (e : Step) → is_at_end seen.value ≡ true
      → IsStepFor k self g (event.Load (number_of (watch.Done c)) seen.value) e → FindsStep e seen
      → HasLoadedEnd c (history_of k ++ e ∷ [])
  found_end (step.Load l r) is made finds = record {
    count = r;
    many = λ low. at_end seen.value is (let z : seen.value < ALL_DONE = omega (arith, finds, low) in z);
    front = history_of k;
    rest = [];
    is = ap (λ (w : Watch). history_of k ++ step.Load w r ∷ []) (made ∙ about);
  }
  found_end e is made finds = absurd made

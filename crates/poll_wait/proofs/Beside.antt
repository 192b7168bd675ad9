-- What steps of a poll leave alone: tallies, signals, ends of pipes and completions.
use Rattle.std.proofs.Common.{refl, sym, ◌∙◌, ap, subst, append_assoc}
use Rattle.std.specs.Prelude.{ℕ, ◌≡◌, ◌<◌, ◌&&◌, ◌==◌, not, if◌then◌else◌, Bool, true, false, Option}
use Rattle.std.specs.Prelude.{List, [], ◌∷◌, ◌++◌}
use Rattle.wait_model.specs.{declared.layout.TheConstants.FIRST_DONE_HEAD, declared.points.Next.Next}
use Rattle.wait_model.specs.{declared.steps.Step.Step, Programs.zero_answer, Watches.head_of}
use Rattle.wait_model.specs.declared.calls.Call.TheVariants as calls
use Rattle.wait_model.specs.declared.points.Next.TheVariants as next
use Rattle.wait_model.specs.declared.steps.Step.TheVariants as step
use Rattle.wait_model.specs.declared.watches.Watch.TheVariants as watch
use Rattle.wait_rule.specs.{declared.journal.Item.Item, Aside.GrowsAside, Aside.raised_by, Items.steps_of, Known.Known}
use Rattle.wait_rule.specs.{PipeSays.KeepsEnd, PipeSays.end_at, Says.added, Says.history_of}
use Rattle.wait_rule.specs.Pipes.{End, after_end_look, end_step, if_unclosed, no_end, other_end}
use Rattle.wait_rule.specs.Transitions.{AreLooks, OnlyLooks, after_step_or_look, by_step, with_lock}
use Rattle.wait_rule.specs.declared.journal.Item.TheVariants as item
use Rattle.wait_rule.proofs.{KnownLaws.CalledPermits.adds_join, KnownLaws.CarriedEnds.looks_ends}
use Rattle.wait_rule.proofs.{KnownLaws.HandedSteps.AddsLow, KnownLaws.HandedSteps.AllAddLow}
use Rattle.wait_rule.proofs.{KnownLaws.PipeItems.end_append, TableSteps.ItemLists.steps_append}
use Rattle.wait_rule.proofs.KnownLaws.AsideCalls.{aside_join, calls_grow_aside, more_aside, step_mine}
use Rattle.wait_event.proofs.{Changes.keeps_join, Changes.keeps_same, LookedSteps.looks_all}
use Rattle.poll_wait.proofs.Near.{IsNearStep}

-- Such a part: what it adds to the journal, what it tells of ends, and its steps, of which none queues at a completion.
pub record Beside (a b : Known) : Type 0 where
  pub aside : GrowsAside a b
  pub ends : (k : ℕ) → KeepsEnd (end_at k a) (end_at k b)
  pub steps : List Step
  pub history : history_of b ≡ history_of a ++ steps
  pub low : AllAddLow steps

pub beside_join : (a b c : Known) → Beside a b → Beside b c → Beside a c
beside_join a b c one two = record {
  aside = aside_join a b c one.aside two.aside;
  ends = λ k. keeps_join (one.ends k) (two.ends k);
  steps = one.steps ++ two.steps;
  history = two.history ∙ (ap (λ (l : List Step). l ++ two.steps) one.history
      ∙ append_assoc (history_of a) one.steps two.steps);
  low = adds_join one.steps two.steps one.low two.low;
}

-- looks
looks_low : (xs : List Item) → AreLooks xs → AllAddLow (steps_of xs)
looks_low = looks_all AllAddLow tt (λ x w es low. (tt, low))

abbrev nowhere : Next
nowhere = next.Ends zero_answer

pub looks_beside : (a b : Known) → OnlyLooks a b → Beside a b
looks_beside a b l = record {
  aside = calls_grow_aside 0 0 (calls.Take 0) a b nowhere nowhere [] tt (λ is. absurd (cc)) (l, refl);
  ends = λ k. keeps_same (ap (end_at k) l.is
      ∙ (end_append k no_end a.view.items l.items ∙ looks_ends k (end_at k a) l.items l.looks));
  steps = steps_of l.items;
  history = ap history_of l.is ∙ steps_append a.view.items l.items;
  low = looks_low l.items l.looks;
}

-- the steps of a poll
abbrev pub IsBeside : Step → Type 0
IsBeside (step.State s) = Unit {0}
IsBeside (step.Lock h aim w) = Unit {0}
IsBeside (step.Unlock h used) = Unit {0}
IsBeside (step.Queue x e) = head_of e.watch < FIRST_DONE_HEAD
IsBeside (step.Peek x w) = Unit {0}
IsBeside (step.Unqueue x) = Unit {0}
IsBeside (step.Load l r) = Unit {0}
IsBeside (step.Look w) = Unit {0}
IsBeside (step.Sleep w) = Unit {0}
IsBeside _ = ⊥

near_beside : (own : Option ℕ) (e : Step) → IsNearStep own e → IsBeside e
near_beside own (step.State s) near = tt
near_beside own (step.Lock h aim w) near = tt
near_beside own (step.Unlock h used) near = tt
near_beside own (step.Queue x e) near = near.1
near_beside own (step.Peek x w) near = tt
near_beside own (step.Unqueue x) near = tt
near_beside own e near = absurd near

raises_none : (e : Step) → IsBeside e → raised_by (item.Made e) ≡ []
raises_none (step.Signal who fatal w) is = absurd is
raises_none e is = refl

step_low : (e : Step) → IsBeside e → AddsLow e
step_low (step.Queue x e) is = is
step_low e is = tt

load_ends : (b : Bool) (r : ℕ) (e : End) → KeepsEnd e (if b then if_unclosed (after_end_look r) e else e)
load_ends false r e = keeps_same refl
load_ends true r e = by (e.mine && not e.shut)
  where
    by : (b : Bool) → KeepsEnd e (if b then after_end_look r e else e)
    by true = record { mine = refl; shut = refl; count = refl; before = refl; cells = refl }
    by false = keeps_same refl

step_ends : (k : ℕ) (s : Step) → IsBeside s → (e : End) → KeepsEnd e (end_step k s e)
step_ends k (step.Load (watch.Var v o) r) is e = load_ends (v == other_end k) r e
step_ends k (step.Publish l n r) is e = absurd is
step_ends k s is e = keeps_same refl

pub step_beside : (k : Known) (e : Step) → IsBeside e → Beside k (added k (item.Made e))
step_beside k e is = record {
  aside = more_aside k (added k (item.Made e)) (item.Made e ∷ []) refl (tt, tt)
      (ap (λ l. l ++ []) (raises_none e is)) (λ i x. step_mine i e x);
  ends = λ i. subst (KeepsEnd (end_at i k)) (sym (end_append i no_end k.view.items (item.Made e ∷ [])))
      (step_ends i e is (end_at i k));
  steps = e ∷ [];
  history = steps_append k.view.items (item.Made e ∷ []);
  low = (step_low e is, tt);
}

placed_beside : (a k : Known) (e : Step) → Beside a k → Beside a (with_lock e k)
placed_beside a k (step.Lock h aim w) b = record {
  aside = record {
    grows = record { items = b.aside.grows.items; view = b.aside.grows.view };
    sums = b.aside.sums;
    signals = b.aside.signals;
    claims = b.aside.claims;
  };
  ends = b.ends;
  steps = b.steps;
  history = b.history;
  low = b.low;
}
placed_beside a k e b = b

pub near_steps : (own : Option ℕ) (k : Known) (e : Step) → IsNearStep own e → Beside k (after_step_or_look (by_step e) k)
near_steps own k e near = placed_beside k (added k (item.Made e)) e (step_beside k e (near_beside own e near))

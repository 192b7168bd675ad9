-- What sends of planned signals have raised so far.
use Rattle.std.proofs.Common.{refl, sym, ◌∙◌, ap, subst, append_assoc, arith}
use Rattle.std.proofs.lemmas.List.{take_more}
use Rattle.std.specs.Prelude.{ℕ, ◌≡◌, ◌≤◌, ◌<◌, ◌+◌, ◌++◌, Bool, true, false, if◌then◌else◌, List, [], ◌∷◌, length, take, get_or}
use Rattle.wait_rule.specs.{Aside.Raised, Aside.signals_of, Known.Known, PipeSays.EndsStay, Says.HasSignalled}
use Rattle.wait_rule.specs.{Stays.Carries, Stays.unchanged}
use Rattle.copy_turns.proofs.Frames.{sent_ends, sent_signals, sent_spared, sent_sums, sent_works}
use Rattle.copy_plan.specs.declared.plan.Planned.{Planned}
use Rattle.copy_plan.proofs.DueParts.{due_passed_before, due_passed_behind, due_taken}
use Rattle.copy_plan.specs.Plans.{due_in, fatal_of, target_of}
use Rattle.copy_turns.specs.Raises.{kills_in, raised_for, sent_to}
use Rattle.copy_turns.specs.Transfers.{SendsEach}
use Rattle.copy_turns.specs.Work.{SumsStay, TookNoKill, Works}
use Rattle.copy_turns.proofs.Trails.{sends_each_then}
use Rattle.copy_turns.proofs.PartLaws.{ends_then, sums_then, works_then}

-- signals that were raised, and nothing else done
pub record Sends (old new : Known) (raised : List Raised) : Type 0 where
  pub works : Works old new
  pub ends : EndsStay old new
  pub sums : SumsStay old new
  pub spared : TookNoKill old new
  pub signals : signals_of new.view.items ≡ signals_of old.view.items ++ raised
  pub each : SendsEach raised old new

pub sends_then : (a b c : Known) (xs ys : List Raised) → Sends a b xs → Sends b c ys → Sends a c (xs ++ ys)
sends_then a b c xs ys one two = record {
  works = works_then a b c one.works two.works;
  ends = ends_then a b c one.ends two.ends;
  sums = sums_then a b c one.sums two.sums;
  spared = two.spared ∙ one.spared;
  signals = two.signals ∙ (ap (λ l. l ++ ys) one.signals ∙ append_assoc (signals_of a.view.items) xs ys);
  each = sends_each_then xs ys a b c one.each two.each;
}

length_if : {A B : Type 0} (b : Bool) (x : A) (y : B) (xs : List A) (ys : List B) → length xs ≡ length ys
    → length (if b then x ∷ xs else xs) ≡ length (if b then y ∷ ys else ys)
length_if true x y xs ys e = omega arith
length_if false x y xs ys e = e

pub sent_append : (targets : List ℕ) (xs ys : List Planned) → sent_to targets (xs ++ ys)
    ≡ sent_to targets xs ++ sent_to targets ys
sent_append targets [] ys = refl
sent_append targets (x ∷ xs) ys = ap (λ l. raised_for targets x ∷ l) (sent_append targets xs ys)

-- one signal more
pub sends_more : (a b c : Known) (targets : List ℕ) (xs ys : List Planned) (p : Planned) → ys ≡ xs ++ p ∷ []
    → Sends a b (sent_to targets xs) → Sends b c (raised_for targets p ∷ []) → Sends a c (sent_to targets ys)
sends_more a b c targets xs ys p more one two = subst (Sends a c)
    (sym (ap (sent_to targets) more ∙ sent_append targets xs (p ∷ [])))
    (sends_then a b c (sent_to targets xs) (raised_for targets p ∷ []) one two)

pub sent_kills : (targets : List ℕ) (ps : List Planned) → length (kills_in (sent_to targets ps)) ≡ length (fatal_of ps)
sent_kills targets [] = refl
sent_kills targets (p ∷ ps) = length_if p.fatal (raised_for targets p) p (kills_in (sent_to targets ps)) (fatal_of ps)
    (sent_kills targets ps)

-- one signal of the plan more: it is sent, or passed over
module _ (ps : List Planned) (i : ℕ) (d : Planned) (within : i < length ps) where
  abbrev p : Planned
  p = get_or ps i d

  more : take (i + 1) ps ≡ take i ps ++ p ∷ []
  more = take_more ps i d within

  module _ (from to : ℕ) (targets : List ℕ) (a b c : Known)
      (sends : Sends a b (sent_to targets (due_in from to (take i ps)))) where
    pub sends_due : (end : Known) (who : ℕ) → from ≤ p.offset → p.offset ≤ to → who ≡ target_of targets p.who
        → HasSignalled b c who p.fatal → Carries unchanged b c → end ≡ c
        → Sends a end (sent_to targets (due_in from to (take (i + 1) ps)))
    sends_due end who low high target s carries same =
        subst (λ (k : Known). Sends a k (sent_to targets (due_in from to (take (i + 1) ps)))) (sym same)
        (sends_more a b c targets (due_in from to (take i ps)) (due_in from to (take (i + 1) ps)) p
        (due_taken from to ps i p more low high) sends (record {
          works = sent_works b c who p.fatal s carries sends.works.work;
          ends = sent_ends b c who p.fatal s;
          sums = sent_sums b c who p.fatal s;
          spared = sent_spared b c who p.fatal s;
          signals = sent_signals b c who p.fatal s ∙ ap (λ (n : ℕ). signals_of b.view.items
              ++ record { who = n; fatal = p.fatal } ∷ []) target;
          each = (c, subst (λ (n : ℕ). HasSignalled b c n p.fatal) target s, refl);
        }))

    module _ (end : Known) (same : end ≡ b) where
      pub sends_before : p.offset < from → Sends a end (sent_to targets (due_in from to (take (i + 1) ps)))
      sends_before low = subst (Sends a end) (ap (sent_to targets) (sym (due_passed_before from to ps i p more low)))
          (subst (λ (k : Known). Sends a k (sent_to targets (due_in from to (take i ps)))) (sym same) sends)

      pub sends_behind : to < p.offset → Sends a end (sent_to targets (due_in from to (take (i + 1) ps)))
      sends_behind high = subst (Sends a end) (ap (sent_to targets) (sym (due_passed_behind from to ps i p more high)))
          (subst (λ (k : Known). Sends a k (sent_to targets (due_in from to (take i ps)))) (sym same) sends)

-- The end of a wake of a simple queue: its transitions, and what it carries on.
use Rattle.std.proofs.Common.{◌∙◌, ap, sym, refl, subst, inl, inr, arith}
use Rattle.std.proofs.lemmas.Bool.Decides.{nat_tests}
use Rattle.std.specs.Prelude.{ℕ, ◌≡◌, ◌≢◌, ◌<◌, ◌≤◌, ◌⊎◌, ◌==◌, ◌&&◌, not, Bool, true, false, None, [], ◌∷◌, pos}
use Rattle.wait_model.specs.declared.layout.TheConstants.{FIRST_DONE_HEAD}
use Rattle.wait_model.specs.{declared.layout.TheConstants.FIRST_SIMPLE_HEAD, declared.calls.Call.Call}
use Rattle.wait_model.specs.{declared.watches.Watch.Watch, Points.count_of, Watches.head_of}
use Rattle.wait_model.specs.Views.{View as Told}
use Rattle.wait_model.specs.declared.calls.Answer.TheVariants as answer
use Rattle.wait_model.specs.declared.calls.Call.TheVariants as calls
use Rattle.wait_model.specs.declared.points.Point.TheVariants as at
use Rattle.wait_model.specs.declared.points.SelectPoint.TheVariants as selecting
use Rattle.wait_model.specs.declared.points.Next.TheVariants as next
use Rattle.wait_model.specs.declared.watches.Mode.TheVariants as mode
use Rattle.wait_model.specs.declared.watches.Watch.TheVariants as watch
use Rattle.wait_rule.specs.{Known.Known, Says.told_of, Says.unlocked_with, Transitions.call_program}
use Rattle.wait_rule.specs.Queues.{IsIdle, IsWholeBook, MayRise, simple_watch, walk_of_hold}
use Rattle.wait_rule.specs.Stays.{Carries, Stays, wake_all_change, no_entries}
use Rattle.wait_rule.proofs.{KnownLaws.StayingParts.stays_on, KnownLaws.Transitions.goes_on}
use Rattle.wq_head.specs.Holds.{HasLocked}
use Rattle.wq_head.specs.Selects.{HasSelected, IsSimpleHold, KeepsHold, ShowsNoEntry}
use Rattle.wq_head.proofs.LockWaits.{locked_at, locked_stays, locked_told}
use Rattle.wq_head.proofs.SelectedRuns.{at_next, lock_goes, lock_transition, selected_ends}
use Rattle.wq_head.proofs.SimpleHolds.{own_plain, simple_carried, simple_idle}
use Rattle.swait_queue.specs.SimpleWaits.{IsSimpleCond}
use Rattle.swait_queue.specs.SimpleWakes.{EndsSimpleWake, is_swake_spent, most_of}

-- the head of such a condition is a simple one
pub head_simple : (c : ℕ) → IsSimpleCond c → FIRST_SIMPLE_HEAD ≤ head_of (watch.Plain c)
unfolding head_of
head_simple c is = let high = is.simple in omega (arith, high)

pub cond_low : (c : ℕ) → IsSimpleCond c → head_of (watch.Plain c) < FIRST_DONE_HEAD
unfolding head_of
cond_low c is = let low = is.plain in omega (arith, low)

counts_most : (c : ℕ) (all : Bool) → count_of (calls.SimpleWake c all) ≡ most_of all
counts_most c true = refl
counts_most c false = refl

-- the unlock may raise the spent count where as many were selected as were asked for
and_some : (n : ℕ) (b : Bool) → (not (n == 0) && b) ≡ true → 0 < n
and_some n b is = by (n == 0) refl is
  where
    by : (z : Bool) → (n == 0) ≡ z → (not z && b) ≡ true → 0 < n
    by true none is_some = absurd (cc)
    by false some is_some = grind (arith, nat_tests)

pub may_rise : (k : Known) (all : Bool) (n : ℕ) → (0 < n → MayRise k true) → (b : Bool) → b ≡ is_swake_spent all n
    → MayRise k b
may_rise k all n rises true is = rises (and_some n (n == most_of all) (sym is))
may_rise k all n rises false is = record { used = λ no. absurd (cc); counts = λ w under no. absurd (cc) }

spent_is : (all : Bool) (n : ℕ) → most_of all ≢ 0 → n ≡ most_of all → is_swake_spent all n ≡ true
spent_is true n some all_of = absurd (some refl)
spent_is false n some all_of = ap (λ (m : ℕ). not (m == 0) && (m == 1)) all_of

module _ (old locked last new : Known) (c : ℕ) (all : Bool) (n h : ℕ) (simple : IsSimpleCond c)
    (head : h ≡ head_of (watch.Plain c)) (l : HasLocked old locked h (walk_of_hold h None))
    (s : HasSelected locked last (most_of all) n) (k : KeepsHold locked last)
    (is : new ≡ unlocked_with last last.at (is_swake_spent all n)) where
  abbrev call : Call
  call = calls.SimpleWake c all

  abbrev me : ℕ
  me = old.view.number

  high : FIRST_SIMPLE_HEAD ≤ h
  high = subst (λ (g : ℕ). FIRST_SIMPLE_HEAD ≤ g) (sym head) (head_simple c simple)

  at_h : last.at ≡ h
  at_h = k.at ∙ locked_at old locked h (walk_of_hold h None) l

  pub ends_wake : EndsSimpleWake old new c all n
  ends_wake =
      let ends = selected_ends me 0 call (most_of all) n (counts_most c all) locked last new s (at_h ∙ head)
      (is_swake_spent all n) (ap (λ (m : ℕ). not (n == 0) && (n == m)) (counts_most c all)) is in
      let own = ap simple_watch head ∙ own_plain c simple.simple simple.plain in record {
        runs = record {
          transitions = lock_transition me 0 call old locked h l high own refl head ∷ ends.0;
          goes = goes_on (call_program me 0 call) old locked new (next.Go (at.Select selecting.Lock))
              (at_next me 0 call 0) (next.Ends (answer.Number (pos n)))
              (lock_transition me 0 call old locked h l high own refl head ∷ []) ends.0
              (lock_goes me 0 call old locked h l high own refl head) ends.1;
        };
        locked = locked;
        last = last;
        locks = subst (λ (g : ℕ). HasLocked old locked g (walk_of_hold g None)) head l;
        selected = s;
        unlocks = is;
      }

  module _ (hold : IsSimpleHold last) (idle : IsIdle old) where
    stays_last : Stays no_entries old last
    stays_last = stays_on no_entries old locked last (locked_stays old locked h (walk_of_hold h None) l) k.stays

    owes_last : (d : Watch) (σ : ℕ) → (told_of last).duty.owes d σ ≡ (told_of old).duty.owes d σ
    owes_last d σ = k.owes d σ ∙ ap (λ (v : Told). v.duty.owes d σ) (locked_told old locked h (walk_of_hold h None) l)

    mark_last : (told_of last).mark ≡ (told_of old).mark
    mark_last = k.mark ∙ ap (λ (v : Told). v.mark) (locked_told old locked h (walk_of_hold h None) l)

    over : (is_swake_spent all n ≡ true) ⊎ (IsWholeBook last × ShowsNoEntry last)
    over = elim s.ends [
      | inl enough ↦ inl (spent_is all n enough.0 enough.1)
      | inr none ↦ inr (s.whole, none.0)
    ]

    pub wake_carries : Carries (wake_all_change (watch.Plain c) mode.Normal new.at) old new
    wake_carries = subst (λ (w : Watch). Carries (wake_all_change w mode.Normal new.at) old new)
        (ap simple_watch (at_h ∙ head) ∙ own_plain c simple.simple simple.plain)
        (simple_carried old last new (is_swake_spent all n) stays_last owes_last mark_last hold over is idle)

    pub wake_idle : IsIdle new
    wake_idle = simple_idle old last new (is_swake_spent all n) stays_last owes_last mark_last hold over is idle

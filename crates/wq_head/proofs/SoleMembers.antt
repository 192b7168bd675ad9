-- A head with no member, and one with one alone: the queue that a hold shows of it.
use Rattle.std.proofs.Common.{◌∙◌, ap, sym, subst, inl, inr, arith, ◌-◌}
use Rattle.std.specs.Prelude.{ℕ, zero, suc, ◌≡◌, ◌+◌, ◌≤◌, true, Option, Some, List, [], ◌∷◌}
use Rattle.wait_model.specs.{declared.layout.TheConstants.MEMBERS, declared.queues.Member.Member}
use Rattle.wait_rule.specs.{Known.Known, Queues.place_by, Says.told_of, Says.noted}
use Rattle.wait_rule.specs.Shown.{queue_below, queue_with, shown_queue}
use Rattle.wq_head.specs.{declared.looks.ShownMember.ShownMember, FoundQueues.IsFoundQueue, FoundQueues.IsSole}
use Rattle.wq_head.specs.{Looking.AreNone, Members.AreStanding, Members.IsShownMember}
use Rattle.wq_head.specs.Looks.{Looks, AreSeen, is_seen_member}
use Rattle.wq_head.specs.declared.found_queues.FoundQueue.TheVariants as found
use Rattle.wq_head.proofs.{BitLooks.clear_on, BitLooks.set_on, FirstAndLast.below_or, OneMoreLook.whole_of}

-- indexes of which none is a member add nothing to the queue
none_more : (k : Known) (n m : ℕ) → AreNone k n (n + m) → queue_below (place_by k) (n + m) ≡ queue_below (place_by k) n
none_more k n zero none = ap (queue_below (place_by k)) (let e : n + 0 ≡ n = omega arith in e)
none_more k n (suc m) none = ap (queue_below (place_by k)) (let e : n + suc m ≡ suc (n + m) = omega arith in e)
    ∙ ap (λ (o : Option ℕ). queue_with (n + m) o (queue_below (place_by k) (n + m)))
    (none (n + m) (omega arith) (omega arith)).none
    ∙ none_more k n m (λ x over under. none x over (omega arith))

none_to : (k : Known) (n m : ℕ) → n ≤ m → AreNone k n m → queue_below (place_by k) m ≡ queue_below (place_by k) n
none_to k n m few none = subst (λ (j : ℕ). AreNone k n j → queue_below (place_by k) j ≡ queue_below (place_by k) n)
    (let e : n + (m - n) ≡ m = omega arith in e) (none_more k n (m - n)) none

pub none_found : (k : Known) → AreNone k 0 MEMBERS → IsFoundQueue k found.Empty
unfolding shown_queue
none_found k none = (
  whole_of k (λ m few. (none m (omega arith) few).seen),
  λ m few. (none m (omega arith) few).stands,
  none_to k 0 MEMBERS (omega arith) none,
)

module _ (k : Known) (m : ℕ) (sole : IsSole k m) where
  seen : AreSeen k MEMBERS
  seen x few = elim (below_or x m) [
    | inl under ↦ (sole.1 x (omega arith) under).seen
    | inr over ↦ elim (below_or m x) [
      | inl above ↦ (sole.3 x (omega arith) few).seen
      | inr same ↦ subst (λ (y : ℕ). is_seen_member (told_of k) (noted k) y ≡ true)
          (let e : m ≡ x = omega arith in e) sole.2.seen
    ]
  ]

  standing : AreStanding k MEMBERS
  standing x few = elim (below_or x m) [
    | inl under ↦ (sole.1 x (omega arith) under).stands
    | inr over ↦ elim (below_or m x) [
      | inl above ↦ (sole.3 x (omega arith) few).stands
      | inr same ↦ subst (IsShownMember k) (let e : m ≡ x = omega arith in e) sole.2.stands
    ]
  ]

  queue : (p : ℕ) → place_by k m ≡ Some p → shown_queue k ≡ record { at = m; place = p } ∷ []
  unfolding shown_queue
  queue p is = none_to k (m + 1) MEMBERS (let few = sole.0 in omega arith) sole.3
      ∙ ap (queue_below (place_by k)) (let e : m + 1 ≡ suc m = omega arith in e)
      ∙ ap (λ (o : Option ℕ). queue_with m o (queue_below (place_by k) m)) is
      ∙ ap (λ (q : List Member). queue_with m (Some p) q) (none_to k 0 m (omega arith) sole.1)

  pub sole_found : (s : ShownMember) → s.member ≡ m → place_by k m ≡ Some s.place → IsFoundQueue k (found.Sole s)
  sole_found s same is = (
    whole_of k seen,
    standing,
    queue s.place is ∙ ap (λ (x : ℕ). record { at = x; place = s.place } ∷ []) (let e : m ≡ s.member = sym same in e),
  )

-- a hold that looks on finds it still
pub sole_on : (old new : Known) → Looks old new → (m : ℕ) → IsSole old m → IsSole new m
sole_on old new l m s = (
  s.0,
  λ x over under. clear_on old new l x (s.1 x over under),
  set_on old new l m s.2,
  λ x over under. clear_on old new l x (s.3 x over under),
)

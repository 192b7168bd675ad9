-- How many looks a look at all members of a head makes: one for each word, and one for each member.
use Rattle.std.proofs.Common.{◌∙◌, ap, subst, inl, inr, refl, arith}
use Rattle.std.specs.Prelude.{ℕ, zero, suc, ◌≡◌, ◌+◌, ◌-◌, ◌<◌, ◌≤◌}
use Rattle.std.specs.Prelude.{Bool, true, false, nat_lt, if◌then◌else◌, Option, Some, None, List, [], ◌∷◌, length}
use Rattle.wait_model.specs.{declared.layout.TheConstants.MEMBERS, declared.layout.TheConstants.MEMBER_WORDS}
use Rattle.wait_model.specs.{declared.queues.Member.Member, declared.watches.Entry.Entry, Queues.rank, Queues.mark_add}
use Rattle.wait_model.specs.declared.steps.Step.TheVariants as step
use Rattle.wait_rule.specs.declared.journal.Item.TheVariants as item
use Rattle.wait_rule.specs.{Known.Known, Says.added, Says.stored_with, Queues.place_by}
use Rattle.wait_rule.specs.Shown.{queue_with, queue_below, shown_queue}
use Rattle.wait_rule.specs.LookCounts.{looks_made, Looked, LooksAtMost}
use Rattle.wait_rule.proofs.KnownLaws.LookCounts.{looks_added}
use Rattle.wq_head.specs.Looks.{Looks, AreSeen}
use Rattle.wq_head.specs.Looking.{IsSet, AreNone, words_to, HasLoaded}
use Rattle.wq_head.proofs.FirstAndLast.{below_or}

-- a queue with one member more
pub marked_longer : (b : Member) (q : List Member) → length (mark_add b q) ≡ length q + 1
marked_longer b [] = omega arith
marked_longer b (m ∷ ms) = by (marked_longer b ms) (nat_lt (rank m) (rank b))
  where
    by : length (mark_add b ms) ≡ length ms + 1 → (t : Bool)
        → length (if t then m ∷ mark_add b ms else b ∷ m ∷ ms) ≡ length (m ∷ ms) + 1
    by rest true = omega arith
    by rest false = omega arith

queue_more : (at : ℕ → Option ℕ) (n p : ℕ) → at n ≡ Some p
    → length (queue_below at (suc n)) ≡ length (queue_below at n) + 1
queue_more at n p is = ap (λ (o : Option ℕ). length (queue_with n o (queue_below at n))) is
    ∙ marked_longer (record { at = n; place = p }) (queue_below at n)

queue_same : (old new : ℕ → Option ℕ) (n : ℕ) → ((m : ℕ) → m < n → new m ≡ old m)
    → queue_below new n ≡ queue_below old n
queue_same old new zero same = refl
queue_same old new (suc n) same = λ i. queue_with n (same n (let l : n < suc n = omega arith in l) i)
    (queue_same old new n (λ m few. same m (omega arith)) i)

queue_none : (at : ℕ → Option ℕ) (n m : ℕ) → ((x : ℕ) → n ≤ x → x < n + m → at x ≡ None)
    → queue_below at (n + m) ≡ queue_below at n
queue_none at n zero none = ap (queue_below at) (let e : n + 0 ≡ n = omega arith in e)
queue_none at n (suc m) none = ap (queue_below at) (let e : n + suc m ≡ suc (n + m) = omega arith in e)
    ∙ (ap (λ (o : Option ℕ). queue_with (n + m) o (queue_below at (n + m))) (none (n + m) (omega arith) (omega arith))
    ∙ queue_none at n m (λ x over under. none x over (omega arith)))

queue_to : (k : Known) (n m : ℕ) → n ≤ m → AreNone k n m → queue_below (place_by k) m ≡ queue_below (place_by k) n
queue_to k n m few none = subst (λ (j : ℕ). AreNone k n j
    → queue_below (place_by k) j ≡ queue_below (place_by k) n) (omega arith)
    (λ s. queue_none (place_by k) n (m - n) (λ x over under. (s x over under).none)) none

-- a hold that has seen all shows the same queue after more looks
pub shown_later : (old new : Known) → Looks old new → AreSeen old MEMBERS → shown_queue new ≡ shown_queue old
unfolding shown_queue
shown_later old new l seen = queue_same (place_by old) (place_by new) MEMBERS
    (λ m low. l.from.places m (seen m low))

-- a look that goes on from an index has made one look for each word it came to, and for each member that it found
abbrev pub IsCounted : Known → Known → ℕ → Type 0
IsCounted start k n = LooksAtMost (words_to n + length (queue_below (place_by k) n)) start k

-- it has come to an index
module _ (start old mid : Known) (one : Looks old mid) (n to m : ℕ) (seen : AreSeen old n) (few : n ≤ m)
    (none : AreNone mid n m) (counted : IsCounted start old n) (loaded : HasLoaded old mid n to) where
  same_length : length (queue_below (place_by mid) m) ≡ length (queue_below (place_by old) n)
  same_length = ap length (queue_to mid n m few none
      ∙ queue_same (place_by old) (place_by mid) n (λ x low. one.from.places x (seen x low)))

  seen_to : AreSeen mid m
  seen_to x under = elim (below_or x n) [
    | inl before ↦ one.from.still x (seen x before)
    | inr over ↦ (none x over under).seen
  ]

  -- with a look at a member there
  pub counted_more : (new : Known) → Looks mid new → Looked 1 mid new → IsSet mid m → to ≡ m + 1
      → IsCounted start new to
  counted_more new two look set at =
      let longer : length (queue_below (place_by new) (suc m)) ≡ length (queue_below (place_by new) m) + 1 =
      queue_more (place_by new) m set.place (two.from.places m set.seen ∙ set.there) in
      let still : length (queue_below (place_by new) m) ≡ length (queue_below (place_by mid) m) =
      ap length (queue_same (place_by mid) (place_by new) m (λ x low. two.from.places x (seen_to x low))) in
      let here : length (queue_below (place_by new) to) ≡ length (queue_below (place_by new) (suc m)) =
      ap (λ (j : ℕ). length (queue_below (place_by new) j)) (let e : to ≡ suc m = omega (arith, at) in e) in
      let same = same_length in
      omega (arith, counted, loaded, look, longer, still, here, same)

-- and to the end
pub counted_end : (start old mid : Known) → Looks old mid → (n to : ℕ) → AreSeen old n → n ≤ MEMBERS → to ≤ MEMBERS
    → AreNone mid n MEMBERS → IsCounted start old n → HasLoaded old mid n to
    → LooksAtMost (MEMBER_WORDS + length (shown_queue mid)) start mid
unfolding shown_queue
counted_end start old mid one n to seen few within none counted loaded =
    let same = same_length start old mid one n to MEMBERS seen few none counted loaded in
    omega (arith, counted, loaded, same, within)

-- an entry that is queued is no look
stored_looks : (k : Known) (x : ℕ) (e : Entry) → looks_made (stored_with k (step.Queue x e)) ≡ looks_made k
stored_looks k x e = looks_added (added k (item.Made (step.Queue x e))) item.Member
    ∙ looks_added k (item.Made (step.Queue x e))

-- an add looks at its own entry once more
pub counted_add : (old mid seen new : Known) (x : ℕ) (e : Entry) → Looks mid seen → AreSeen mid MEMBERS
    → LooksAtMost (MEMBER_WORDS + length (shown_queue mid)) old mid → Looked 1 mid seen
    → new ≡ stored_with seen (step.Queue x e)
    → LooksAtMost (MEMBER_WORDS + length (shown_queue seen) + 1) old new
counted_add old mid seen new x e look all counts one is =
    let queue = ap length (shown_later mid seen look all) in
    let stored : looks_made new ≡ looks_made seen = ap looks_made is ∙ stored_looks seen x e in
    omega (arith, counts, one, queue, stored)

-- Positions in a queue in order: who stands before one, and who from it on.
use Rattle.std.proofs.Common.{ap, refl, subst, inl, inr, arith}
use Rattle.std.specs.Prelude.{ℕ, zero, suc, ◌+◌, ◌≡◌, ◌<◌, ◌≤◌, ◌⊎◌, List, [], ◌∷◌, length, take, slice_index_or}
use Rattle.wait_model.specs.declared.queues.Member.{Member}
use Rattle.wait_model.specs.Queues.{rank, IsIn, IsInOrder}
use Rattle.wait_model.proofs.QueueLaws.QueueOrder.{before_in}

-- who stands at a position is in the queue
pub at_in : (q : List Member) (i : ℕ) (d : Member) → i < length q → IsIn (slice_index_or q i d) q
at_in [] i d inside = absurd (omega arith)
at_in (m ∷ ms) zero d inside = inl refl
at_in (m ∷ ms) (suc i) d inside = inr (at_in ms i d (omega arith))

-- each member stands before the position, or has at least the rank of the one there
pub split : (q : List Member) (i : ℕ) (d : Member) → IsInOrder q → i < length q → (x : Member) → IsIn x q
    → IsIn x (take i q) ⊎ (rank (slice_index_or q i d) ≤ rank x)
split [] i d order inside x is = absurd is
split (m ∷ ms) zero d order inside x (inl same) = inr (let r : rank x ≡ rank m = ap rank same in omega (arith, r))
split (m ∷ ms) zero d order inside x (inr is) =
    inr (let r = before_in (rank m) ms x order.0 is in omega (arith, r))
split (m ∷ ms) (suc i) d order inside x (inl same) = inl (inl same)
split (m ∷ ms) (suc i) d order inside x (inr is) = elim (split ms i d order.1 (omega arith) x is) [
  | inl before ↦ inl (inr before)
  | inr later ↦ inr later
]

-- and a lower one where it stands before it
pub is_before : (q : List Member) (i : ℕ) (d : Member) → IsInOrder q → i < length q → (x : Member) → IsIn x (take i q)
    → rank x < rank (slice_index_or q i d)
is_before [] i d order inside x is = absurd (omega arith)
is_before (m ∷ ms) zero d order inside x is = absurd is
is_before (m ∷ ms) (suc i) d order inside x (inl same) =
    let r : rank x ≡ rank m = ap rank same in
    let later = before_in (rank m) ms (slice_index_or ms i d) order.0 (at_in ms i d (omega arith)) in
    omega (arith, r, later)
is_before (m ∷ ms) (suc i) d order inside x (inr is) = is_before ms i d order.1 (omega arith) x is

-- one position further
more_by : (q : List Member) (i : ℕ) (d x : Member) → i < length q → IsIn x (take (suc i) q)
    → IsIn x (take i q) ⊎ (x ≡ slice_index_or q i d)
more_by [] i d x inside is = absurd (omega arith)
more_by (m ∷ ms) zero d x inside (inl same) = inr same
more_by (m ∷ ms) zero d x inside (inr is) = absurd is
more_by (m ∷ ms) (suc i) d x inside (inl same) = inl (inl same)
more_by (m ∷ ms) (suc i) d x inside (inr is) = elim (more_by ms i d x (omega arith) is) [
  | inl before ↦ inl (inr before)
  | inr same ↦ inr same
]

pub one_more : (q : List Member) (i : ℕ) (d x : Member) → i < length q → IsIn x (take (i + 1) q)
    → IsIn x (take i q) ⊎ (x ≡ slice_index_or q i d)
one_more q i d x inside is = more_by q i d x inside
    (subst (λ (n : ℕ). IsIn x (take n q)) (let e : i + 1 ≡ suc i = omega arith in e) is)

-- who stands before a position stands before the next one, and so does who stands there
more_than : (q : List Member) (i : ℕ) (x : Member) → IsIn x (take i q) → IsIn x (take (suc i) q)
more_than [] zero x is = absurd is
more_than [] (suc i) x is = absurd is
more_than (m ∷ ms) zero x is = absurd is
more_than (m ∷ ms) (suc i) x (inl same) = inl same
more_than (m ∷ ms) (suc i) x (inr is) = inr (more_than ms i x is)

last_of : (q : List Member) (i : ℕ) (d : Member) → i < length q → IsIn (slice_index_or q i d) (take (suc i) q)
last_of [] i d inside = absurd (omega arith)
last_of (m ∷ ms) zero d inside = inl refl
last_of (m ∷ ms) (suc i) d inside = inr (last_of ms i d (omega arith))

pub take_more : (q : List Member) (i : ℕ) (x : Member) → IsIn x (take i q) → IsIn x (take (i + 1) q)
take_more q i x is = subst (λ (n : ℕ). IsIn x (take n q)) (let e : suc i ≡ i + 1 = omega arith in e)
    (more_than q i x is)

pub take_last : (q : List Member) (i : ℕ) (d : Member) → i < length q
    → IsIn (slice_index_or q i d) (take (i + 1) q)
take_last q i d inside = subst (λ (n : ℕ). IsIn (slice_index_or q i d) (take n q))
    (let e : suc i ≡ i + 1 = omega arith in e) (last_of q i d inside)

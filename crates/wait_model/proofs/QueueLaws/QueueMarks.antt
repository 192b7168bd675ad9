-- A bookmark that is put into a queue in order.
use Rattle.std.proofs.lemmas.Bool.Decides.{nat_tests}
use Rattle.std.proofs.Common.{refl, ap, arith, inl, inr}
use Rattle.std.specs.Prelude.{◌≡◌, ◌≢◌, ◌<◌, ◌⊎◌, Bool, true, false, nat_lt, if◌then◌else◌, List, [], ◌∷◌}
use Rattle.wait_model.specs.declared.queues.Member.{Member}
use Rattle.wait_model.specs.Queues.{rank, mark_add, IsIn, IsRisingFrom, IsInOrder}
use Rattle.wait_model.proofs.QueueLaws.QueueOrder.{added_here, before_in, before_all, new_here, old_here}

pub marked_in : (b x : Member) (q : List Member) → IsIn x (mark_add b q) → (x ≡ b) ⊎ IsIn x q
marked_in b x [] (inl i) = inl i
marked_in b x [] (inr i) = absurd i
marked_in b x (m ∷ ms) i = added_here b x m (mark_add b ms) ms (nat_lt (rank m) (rank b)) (marked_in b x ms) i

pub mark_in : (b : Member) (q : List Member) → IsIn b (mark_add b q)
mark_in b [] = inl refl
mark_in b (m ∷ ms) = new_here b m (mark_add b ms) ms (nat_lt (rank m) (rank b)) (mark_in b ms)

pub unmarked_in : (b x : Member) (q : List Member) → IsIn x q → IsIn x (mark_add b q)
unmarked_in b x [] i = absurd i
unmarked_in b x (m ∷ ms) i = old_here b x m (mark_add b ms) ms (nat_lt (rank m) (rank b)) (unmarked_in b x ms) i

-- whatever stands behind the member stands behind it with the bookmark too
behind_both : (b m : Member) (ms : List Member) → IsRisingFrom (rank m) ms → rank m < rank b → (x : Member)
    → IsIn x (mark_add b ms) → rank m < rank x
behind_both b m ms before l x i = elim (marked_in b x ms i) [
  | inl s ↦ let g : rank x ≡ rank b = ap rank s in omega arith
  | inr j ↦ before_in (rank m) ms x before j
]

order_here : (b m : Member) (ms : List Member) (t : Bool) → nat_lt (rank m) (rank b) ≡ t → rank m ≢ rank b
    → IsInOrder (m ∷ ms) → IsInOrder (mark_add b ms)
    → IsInOrder (if t then m ∷ mark_add b ms else b ∷ m ∷ ms)
order_here b m ms true t ne o h =
    let l : rank m < rank b = grind (arith, nat_tests) in
    (before_all (rank m) (mark_add b ms) (behind_both b m ms o.0 l), h)
order_here b m ms false t ne o h =
    let u : rank b < rank m = grind (arith, nat_tests, ne) in
    (before_all (rank b) (m ∷ ms) above, o)
  where
    above : (x : Member) → IsIn x (m ∷ ms) → rank b < rank x
    above x (inl s) =
        let g : rank x ≡ rank m = ap rank s in
        let u : rank b < rank m = grind (arith, nat_tests, ne) in
        omega arith
    above x (inr i) =
        let f : rank m < rank x = before_in (rank m) ms x o.0 i in
        let u : rank b < rank m = grind (arith, nat_tests, ne) in
        omega arith

pub order_marked : (b : Member) (q : List Member) → IsInOrder q
    → ((x : Member) → IsIn x q → rank x ≢ rank b) → IsInOrder (mark_add b q)
order_marked b [] o h = (tt, tt)
order_marked b (m ∷ ms) o h = order_here b m ms (nat_lt (rank m) (rank b)) refl (h m (inl refl)) o
    (order_marked b ms o.1 (λ x i. h x (inr i)))

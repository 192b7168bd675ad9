-- Sums in which one number changes.
use Rattle.std.proofs.Common.{sym, ◌∙◌, ap, arith, inl, inr}
use Rattle.std.proofs.lemmas.Bool.Decides.{eqb_tells}
use Rattle.std.specs.Prelude.{ℕ, zero, suc, ◌≡◌, ◌≢◌, ◌+◌, ◌<◌, ◌≤◌}
use Rattle.wait_model.specs.{Functions.put, Totals.sum_below}
use Rattle.wait_model.proofs.Functions.{put_same, put_other, put_at}
use Rattle.wait_model.proofs.HistoryLaws.StepTotals.{sum_same}

-- the sum of all others
pub rest_of : (n a : ℕ) (f : ℕ → ℕ) → ℕ
rest_of n a f = sum_below n (put f a 0)

pub rest_is : (n a : ℕ) (f : ℕ → ℕ) → a < n → sum_below n f ≡ f a + rest_of n a f
unfolding sum_below rest_of
rest_is zero a f lt = absurd (omega (arith, lt))
rest_is (suc n) a f lt = elim (eqb_tells a n) [
  | inl q ↦
      let same = sum_same n f (put f a 0) (λ i below. put_other f a 0 i (λ e. absurd (omega (arith, e, below, q.1)))) in
      let last : put f a 0 n ≡ 0 = ap (put f a 0) (sym q.1) ∙ put_same f a 0 in
      let here : f n ≡ f a = ap f (sym q.1) in
      omega (arith, same, last, here)
  | inr q ↦
      let ne : a ≢ n = q.1 in
      let ih = rest_is n a f (omega (arith, lt, ne)) in
      let last : put f a 0 n ≡ f n = put_other f a 0 n (λ e. ne (sym e)) in
      omega (arith, ih, last)
]

pub rest_same : (n a : ℕ) (f g : ℕ → ℕ) → ((i : ℕ) → i ≢ a → g i ≡ f i) → rest_of n a g ≡ rest_of n a f
unfolding rest_of
rest_same n a f g h = sum_same n (put f a 0) (put g a 0) (λ i lt. put_at (λ (y : ℕ). put g a 0 i ≡ y) f a 0 i
    (λ q. ap (put g a 0) q ∙ put_same g a 0) (λ ne. put_other g a 0 i ne ∙ h i ne))

-- others that account for one at most
pub rest_small : (n a m : ℕ) (f : ℕ → ℕ) → n ≤ m → ((i : ℕ) → i ≢ a → f i ≤ 1) → rest_of n a f ≤ m
unfolding rest_of sum_below
rest_small zero a m f le h = omega arith
rest_small (suc n) a zero f le h = absurd (omega (arith, le))
rest_small (suc n) a (suc m) f le h =
    let ih = rest_small n a m f (omega (arith, le)) h in
    let last : put f a 0 n ≤ 1 = put_at (λ (y : ℕ). y ≤ 1) f a 0 n (λ _. omega arith) (λ ne. h n ne) in
    omega (arith, ih, last)

-- one grows by as much as another gives at most
pub sum_shift : (n a b : ℕ) (f g : ℕ → ℕ) → a < n → b < n → a ≢ b → f a ≤ g a + 1 → f b + 1 ≤ g b
    → ((i : ℕ) → i ≢ a → i ≢ b → g i ≡ f i) → sum_below n f ≤ sum_below n g
sum_shift n a b f g la lb ne ha hb h =
    let first = rest_is n a f la in
    let second = rest_is n a (put f b (g b)) la in
    let third = rest_is n b f lb in
    let fourth = rest_is n b (put f b (g b)) lb in
    let last = rest_is n a g la in
    let others : rest_of n b (put f b (g b)) ≡ rest_of n b f =
    rest_same n b f (put f b (g b)) (λ i q. put_other f b (g b) i q) in
    let moved : rest_of n a g ≡ rest_of n a (put f b (g b)) =
    rest_same n a (put f b (g b)) g (λ i q. put_at (λ (y : ℕ). g i ≡ y) f b (g b) i (λ r. ap g r) (λ r. h i q r)) in
    let at_b : put f b (g b) b ≡ g b = put_same f b (g b) in
    let at_a : put f b (g b) a ≡ f a = put_other f b (g b) a ne in
    omega (arith, first, second, third, fourth, last, others, moved, at_b, at_a, ha, hb)

-- One bit of a mask is set or cleared, and all others stay.
use Rattle.std.proofs.Common.{◌∙◌, ap, sym, refl, subst, arith, inl, inr, lt-ltb, ltb-true}
use Rattle.std.proofs.Common.{get_or-set_same, get_or-set_other}
use Rattle.std.proofs.Math.Nat.{zero-div}
use Rattle.std.proofs.lemmas.Bool.{ltb-false}
use Rattle.std.proofs.lemmas.Bool.Decides.{eqb_tells}
use Rattle.std.proofs.lemmas.List.{get_or-replicate, get_or_past, length-replicate}
use Rattle.std.specs.Prelude.{ℕ, ◌≡◌, ◌<◌, ◌≤◌, ◌+◌, ◌-◌, ◌^◌, ◌%◌, ◌||◌, ◌&&◌, ◌==◌, not, nat_lt, if◌then◌else◌, Bool, true, false, List, length, replicate, set, slice_index}
use Rattle.wait_model.specs.{declared.layout.TheConstants.WORD_BITS, declared.watches.Watch.Watch, Functions.put}
use Rattle.wait_model.specs.{Watches.same, Words.bit_at, Words.bit_word}
use Rattle.wait_model.specs.declared.watches.Watch.TheVariants as watch
use Rattle.wait_model.proofs.Functions.{put_at}
use Rattle.wait_model.proofs.WordLaws.BitWords.{bit_read, bit_word_less, bit_word_more, bit_word_small, same_bits}
use Rattle.wq_checked.specs.{Kept.keeps_in, declared.kept_bits.KeptBits.KeptBits}

-- a word by its bits
word_is : (w : ℕ) → w < 2 ^ 64 → w ≡ bit_word WORD_BITS (bit_at w)
word_is w small = same_bits w (bit_word WORD_BITS (bit_at w)) small (bit_word_small WORD_BITS (bit_at w))
    (λ k lt. sym (bit_read (bit_at w) k lt))

module _ (w b : ℕ) (small : w < 2 ^ 64) (few : b < WORD_BITS) where
  set_reads : (t : Bool) → bit_at w b ≡ t → (k : ℕ) → k < WORD_BITS
      → bit_at (if t then w else w + 2 ^ b) k ≡ put (bit_at w) b true k
  set_reads true h k lt = put_at (λ x. bit_at w k ≡ x) (bit_at w) b true k (λ e. ap (bit_at w) e ∙ h) (λ _. refl)
  set_reads false h k lt = ap (λ (x : ℕ). bit_at x k) (ap (λ (x : ℕ). x + 2 ^ b) (word_is w small)
      ∙ sym (bit_word_more (bit_at w) b few h)) ∙ bit_read (put (bit_at w) b true) k lt

  less_is : bit_at w b ≡ true → w - 2 ^ b ≡ bit_word WORD_BITS (put (bit_at w) b false)
  less_is h = let sum = bit_word_less (bit_at w) b few h in
      let is = word_is w small in
      omega (arith, sum, is)

  clear_reads : (t : Bool) → bit_at w b ≡ t → (k : ℕ) → k < WORD_BITS
      → bit_at (if t then w - 2 ^ b else w) k ≡ put (bit_at w) b false k
  clear_reads true h k lt = ap (λ (x : ℕ). bit_at x k) (less_is h) ∙ bit_read (put (bit_at w) b false) k lt
  clear_reads false h k lt = put_at (λ x. bit_at w k ≡ x) (bit_at w) b false k (λ e. ap (bit_at w) e ∙ h) (λ _. refl)

-- the change of one place, as a test
put_true : (f : ℕ → Bool) (b k : ℕ) → put f b true k ≡ ((k == b) || f k)
put_true f b k = by (k == b)
  where
    by : (t : Bool) → (if t then true else f k) ≡ (t || f k)
    by true = refl
    by false = refl

put_false : (f : ℕ → Bool) (b k : ℕ) → put f b false k ≡ (not (k == b) && f k)
put_false f b k = by (k == b)
  where
    by : (t : Bool) → (if t then false else f k) ≡ (not t && f k)
    by true = refl
    by false = refl

more : (l s t n o : Bool) → (s ≡ false → n ≡ o) → (s ≡ true → l ≡ true → n ≡ (t || o)) → (t ≡ true → l ≡ true)
    → (l && n) ≡ ((s && t) || (l && o))
more true true t n o other here within = here refl refl
more true false t n o other here within = other refl
more false true true n o other here within = absurd (let e : false ≡ true = within refl in cc)
more false true false n o other here within = refl
more false false t n o other here within = refl

less : (l s t n o : Bool) → (s ≡ false → n ≡ o) → (s ≡ true → l ≡ true → n ≡ (not t && o))
    → (l && n) ≡ (not (s && t) && (l && o))
less true true t n o other here = here refl refl
less true false t n o other here = other refl
less false true true n o other here = refl
less false true false n o other here = refl
less false false t n o other here = refl

-- the mask of a word that was stored, and of another one
module _ (ms : List ℕ) (w v : ℕ) (there : w < length ms) where
  mask_here : (x : ℕ) → (x == w) ≡ true → slice_index (set ms w v) x ≡ v
  mask_here x is = elim (eqb_tells x w) [
    | inl h ↦ ap (slice_index (set ms w v)) h.1 ∙ get_or-set_same ms w v 0 there
    | inr h ↦ absurd (let e : false ≡ true = sym h.0 ∙ is in cc)
  ]

  mask_there : (x : ℕ) → (x == w) ≡ false → slice_index (set ms w v) x ≡ slice_index ms x
  mask_there x is = elim (eqb_tells x w) [
    | inl h ↦ absurd (let e : false ≡ true = sym is ∙ h.0 in cc)
    | inr h ↦ get_or-set_other ms w x v 0 h.1
  ]

same_place : (ms : List ℕ) (x w y : ℕ) → (x == w) ≡ true → bit_at (slice_index ms x) y ≡ bit_at (slice_index ms w) y
same_place ms x w y is = elim (eqb_tells x w) [
  | inl h ↦ ap (λ (i : ℕ). bit_at (slice_index ms i) y) h.1
  | inr h ↦ absurd (let e : false ≡ true = sym h.0 ∙ is in cc)
]

within_word : (y b : ℕ) → b < WORD_BITS → (y == b) ≡ true → nat_lt y WORD_BITS ≡ true
within_word y b few is = elim (eqb_tells y b) [
  | inl h ↦ lt-ltb y WORD_BITS (let e = h.1 in omega (arith, e, few))
  | inr h ↦ absurd (let e : false ≡ true = sym h.0 ∙ is in cc)
]

module _ (ks ns : KeptBits) (w b v : ℕ) (there : w < length ks.masks) (few : b < WORD_BITS)
    (small : slice_index ks.masks w < 2 ^ 64) (is : ns.masks ≡ set ks.masks w v) where
  pub put_masks : v ≡ (if bit_at (slice_index ks.masks w) b then slice_index ks.masks w
      else slice_index ks.masks w + 2 ^ b) → (c : Watch) → keeps_in ns c ≡ (same c (watch.Bit w b) || keeps_in ks c)
  unfolding keeps_in
  put_masks made (watch.Plain c) = refl
  put_masks made (watch.Done c) = refl
  put_masks made (watch.Var u o) = refl
  put_masks made (watch.Bit x y) = more (nat_lt y WORD_BITS) (x == w) (y == b) (bit_at (slice_index ns.masks x) y)
      (bit_at (slice_index ks.masks x) y)
      (λ at. ap (λ (m : List ℕ). bit_at (slice_index m x) y) is
      ∙ ap (λ (m : ℕ). bit_at m y) (mask_there ks.masks w v there x at))
      (λ at lt. ap (λ (m : List ℕ). bit_at (slice_index m x) y) is
      ∙ (ap (λ (m : ℕ). bit_at m y) (mask_here ks.masks w v there x at ∙ made)
      ∙ (set_reads (slice_index ks.masks w) b small few (bit_at (slice_index ks.masks w) b) refl y
      (ltb-true y WORD_BITS lt) ∙ (put_true (bit_at (slice_index ks.masks w)) b y
      ∙ ap (λ (t : Bool). (y == b) || t) (sym (same_place ks.masks x w y at))))))
      (within_word y b few)

  pub take_masks : v ≡ (if bit_at (slice_index ks.masks w) b then slice_index ks.masks w - 2 ^ b
      else slice_index ks.masks w)
      → (c : Watch) → keeps_in ns c ≡ (not (same c (watch.Bit w b)) && keeps_in ks c)
  unfolding keeps_in
  take_masks made (watch.Plain c) = refl
  take_masks made (watch.Done c) = refl
  take_masks made (watch.Var u o) = refl
  take_masks made (watch.Bit x y) = less (nat_lt y WORD_BITS) (x == w) (y == b) (bit_at (slice_index ns.masks x) y)
      (bit_at (slice_index ks.masks x) y)
      (λ at. ap (λ (m : List ℕ). bit_at (slice_index m x) y) is
      ∙ ap (λ (m : ℕ). bit_at m y) (mask_there ks.masks w v there x at))
      (λ at lt. ap (λ (m : List ℕ). bit_at (slice_index m x) y) is
      ∙ (ap (λ (m : ℕ). bit_at m y) (mask_here ks.masks w v there x at ∙ made)
      ∙ (clear_reads (slice_index ks.masks w) b small few (bit_at (slice_index ks.masks w) b) refl y
      (ltb-true y WORD_BITS lt) ∙ (put_false (bit_at (slice_index ks.masks w)) b y
      ∙ ap (λ (t : Bool). not (y == b) && t) (sym (same_place ks.masks x w y at))))))

-- what the masks show of a bit
pub has_bit : (ks : KeptBits) (w b : ℕ) → b < WORD_BITS
    → keeps_in ks (watch.Bit w b) ≡ bit_at (slice_index ks.masks w) b
unfolding keeps_in
has_bit ks w b few = ap (λ (t : Bool). t && bit_at (slice_index ks.masks w) b) (lt-ltb b WORD_BITS few)

-- masks that show none
zero_bit : (y : ℕ) → bit_at 0 y ≡ false
unfolding bit_at
zero_bit y = ap (λ (q : ℕ). (q % 2) == 1) (zero-div (2 ^ y))

replicate_reads : (n i : ℕ) → slice_index (replicate n 0) i ≡ 0
replicate_reads n i = by (nat_lt i n) refl
  where
    by : (t : Bool) → nat_lt i n ≡ t → slice_index (replicate n 0) i ≡ 0
    by true is = get_or-replicate n i 0 0 (ltb-true i n is)
    by false is = get_or_past (replicate n 0) i 0
        (subst (λ (m : ℕ). m ≤ i) (sym (length-replicate n 0)) (ltb-false i n is))

none : (t b : Bool) → b ≡ false → (t && b) ≡ false
none true b is = is
none false b is = refl

pub no_masks : (c : Watch) → keeps_in (record { masks = replicate 128 0 }) c ≡ false
unfolding keeps_in
no_masks (watch.Plain c) = refl
no_masks (watch.Done c) = refl
no_masks (watch.Var u o) = refl
no_masks (watch.Bit x y) = none (nat_lt y WORD_BITS) (bit_at (slice_index (replicate 128 0) x) y)
    (ap (λ (m : ℕ). bit_at m y) (replicate_reads 128 x) ∙ zero_bit y)

-- Words of bits are read back, and one bit of a word is set, cleared and tested.
use Rattle.std.proofs.Common.{refl, sym, ◌∙◌, ap, subst, arith, inl, inr, pow-suc, w64}
use Rattle.std.proofs.lemmas.Bool.{cases_lt}
use Rattle.std.proofs.lemmas.Bool.Decides.{eqb_tells}
use Rattle.std.proofs.lemmas.Nat.{one_shl, or_lt, and_le_l, pow_below}
use Rattle.std.proofs.lemmas.Nat.Bits.{bit_at_or, bit_at_and, bit_at-pow_same, bit_at-pow_other, bit_at-lt}
use Rattle.std.proofs.lemmas.Nat.Bits.{bit_at_above, bit_at_not, bit_at_cat_low, bit_at_cat_high}
use Rattle.std.proofs.lemmas.Nat.Bits.{same_from_bits_below}
use Rattle.std.specs.Int as int
use Rattle.std.specs.Prelude.{ℕ, zero, suc, ◌≡◌, ◌≢◌, ◌<◌, ◌≤◌, ◌⊎◌, ◌+◌, ◌-◌, ◌*◌, ◌%◌, ◌^◌, Bool, true, false}
use Rattle.std.specs.Prelude.{◌==◌, if◌then◌else◌, bit_and, bit_or, min, max}
use Rattle.wait_model.specs.{declared.layout.TheConstants.WORD_BITS, Functions.put, Rows.Reads}
use Rattle.wait_model.specs.Tables.{AreBitsLow, Words, publish, consume}
use Rattle.wait_model.specs.Words.{bit_at, flag, bit_word}
use Rattle.wait_model.specs.declared.watches.Watch.TheVariants as watch
use Rattle.wait_model.proofs.Functions.{put_at, put_case, put_same, put_other}

pub bit_word_small : (n : ℕ) (f : ℕ → Bool) → bit_word n f < 2 ^ n
unfolding bit_word
bit_word_small zero f = omega arith
bit_word_small (suc n) f = by (f n) (bit_word_small n f)
  where
    by : (b : Bool) → bit_word n f < 2 ^ n → bit_word n f + (if b then 2 ^ n else 0) < 2 ^ suc n
    by true ih = omega (arith, ih, pow-suc 2 n)
    by false ih = omega (arith, ih, pow-suc 2 n)

-- the highest bit of a word of one bit more
word_split : (n : ℕ) (f : ℕ → Bool) → bit_word (suc n) f ≡ flag (f n) * 2 ^ n + bit_word n f
unfolding bit_word
word_split n f = by (f n)
  where
    by : (b : Bool) → bit_word n f + (if b then 2 ^ n else 0) ≡ flag b * 2 ^ n + bit_word n f
    by true = omega arith
    by false = omega arith

int_at : (n : ℕ) (f : ℕ → Bool) (k : ℕ) → k < n → int.bit_at (bit_word n f) k ≡ flag (f k)
int_at zero f k lt = absurd (omega (arith, lt))
int_at (suc n) f k lt = ap (λ (x : ℕ). int.bit_at x k) (word_split n f) ∙ elim (eqb_tells k n) [
  | inl q ↦ bit_at_cat_high (flag (f n)) n (bit_word n f) k (bit_word_small n f) (omega (arith, q.1))
      ∙ top (f n) (k - n) (omega (arith, q.1)) ∙ ap (λ (i : ℕ). flag (f i)) (sym q.1)
  | inr q ↦ let ne : k ≢ n = q.1 in bit_at_cat_low (flag (f n)) n (bit_word n f) k (omega (arith, lt, ne))
      ∙ int_at n f k (omega (arith, lt, ne))
]
  where
    top : (b : Bool) (i : ℕ) → i ≡ 0 → int.bit_at (flag b) i ≡ flag b
    top b i q = subst (λ (j : ℕ). int.bit_at (flag b) j ≡ flag b) (sym q) (lowest b)
      where
        lowest : (b : Bool) → int.bit_at (flag b) 0 ≡ flag b
        lowest true = refl
        lowest false = refl

-- a bit of this crate is one of std's
bit_is : (w k : ℕ) → flag (bit_at w k) ≡ int.bit_at w k
unfolding bit_at
bit_is w k = by (int.bit_at w k) (bit_at-lt w k)
  where
    by : (d : ℕ) → d < 2 → flag (d == 1) ≡ d
    by d lt = grind (arith, lt)

flag_same : (b c : Bool) → flag b ≡ flag c → b ≡ c
flag_same true true e = refl
flag_same false false e = refl
flag_same true false e = absurd (omega (arith, e))
flag_same false true e = absurd (omega (arith, e))

-- the bits of a bit word are what it was made of
pub bit_read : (f : ℕ → Bool) (k : ℕ) → k < WORD_BITS → bit_at (bit_word WORD_BITS f) k ≡ f k
bit_read f k lt = flag_same (bit_at (bit_word WORD_BITS f) k) (f k) (bit_is (bit_word WORD_BITS f) k
    ∙ int_at WORD_BITS f k lt)

-- a word has no bit from `WORD_BITS` on
pub bit_above : (w k : ℕ) → w < 2 ^ 64 → WORD_BITS ≤ k → bit_at w k ≡ false
bit_above w k small from = flag_same (bit_at w k) false (bit_is w k ∙ bit_at_above w WORD_BITS k small from)

pub bit_read_above : (f : ℕ → Bool) (k : ℕ) → WORD_BITS ≤ k → bit_at (bit_word WORD_BITS f) k ≡ false
bit_read_above f k from = bit_above (bit_word WORD_BITS f) k (bit_word_small WORD_BITS f) from

-- a bit word reads the bits of its table, which has none from `WORD_BITS` on
pub bit_word_reads : (w : Words) (i b : ℕ) → ((k : ℕ) → WORD_BITS ≤ k → w.bits i k ≡ false)
    → Reads w (watch.Bit i b) (bit_word WORD_BITS (w.bits i))
bit_word_reads w i b none k = elim (cases_lt k WORD_BITS) [
  | inl lt ↦ bit_read (w.bits i) k lt
  | inr from ↦ bit_read_above (w.bits i) k from ∙ sym (none k from)
]

put_low : (f : ℕ → Bool) (b : ℕ) (v : Bool) → (WORD_BITS ≤ b → v ≡ false) → ((k : ℕ) → WORD_BITS ≤ k → f k ≡ false)
    → (k : ℕ) → WORD_BITS ≤ k → put f b v k ≡ false
put_low f b v new old k from = put_at (λ (x : Bool). x ≡ false) f b v k
    (λ q. new (omega (arith, q, from))) (λ _. old k from)

pub low_consumed : (w : Words) (i b n : ℕ) → b < WORD_BITS → AreBitsLow w → AreBitsLow (consume w (watch.Bit i b) n)
low_consumed w i b n lt low j = put_at (λ (f : ℕ → Bool). (k : ℕ) → WORD_BITS ≤ k → f k ≡ false) w.bits i
    (put (w.bits i) b true) j (λ _. put_low (w.bits i) b true (λ from. absurd (omega (arith, lt, from)))
    (low i))
    (λ _. low j)

pub low_published : (w : Words) (i b n : ℕ) → AreBitsLow w → AreBitsLow (publish w (watch.Bit i b) n)
low_published w i b n low j = put_at (λ (f : ℕ → Bool). (k : ℕ) → WORD_BITS ≤ k → f k ≡ false) w.bits i
    (put (w.bits i) b false) j (λ _. put_low (w.bits i) b false (λ _. refl) (low i)) (λ _. low j)

-- two words with the same bits are one
pub same_bits : (v w : ℕ) → v < 2 ^ 64 → w < 2 ^ 64 → ((k : ℕ) → k < WORD_BITS → bit_at v k ≡ bit_at w k) → v ≡ w
same_bits v w p q h = same_from_bits_below WORD_BITS v w p q
    (λ k lt. sym (bit_is v k) ∙ ap flag (h k lt) ∙ bit_is w k)

-- `1 << b`, and the words of `w | 1 << b` and `w & !(1 << b)`
module _ (w b : ℕ) (within : b < WORD_BITS) where
  mask : 1 * 2 ^ b % 2 ^ 64 ≡ 2 ^ b
  mask = one_shl b WORD_BITS within

  -- setting a bit
  pub set_at : (k : ℕ) → bit_at (bit_or w (1 * 2 ^ b % 2 ^ 64)) k ≡ put (bit_at w) b true k
  set_at k = flag_same (bit_at (bit_or w (1 * 2 ^ b % 2 ^ 64)) k) (put (bit_at w) b true k)
      (bit_is (bit_or w (1 * 2 ^ b % 2 ^ 64)) k ∙ ap (λ (m : ℕ). int.bit_at (bit_or w m) k) mask
      ∙ bit_at_or w (2 ^ b) k ∙ by (put_case (bit_at w) b true k))
    where
      small : int.bit_at w k < 2
      small = bit_at-lt w k

      by : ((k ≡ b) × (put (bit_at w) b true k ≡ true)) ⊎ ((k ≢ b) × (put (bit_at w) b true k ≡ bit_at w k))
          → max (int.bit_at w k) (int.bit_at (2 ^ b) k) ≡ flag (put (bit_at w) b true k)
      by (inl q) =
          let one : int.bit_at (2 ^ b) k ≡ 1 = ap (int.bit_at (2 ^ b)) q.0 ∙ bit_at-pow_same b in
          let it : flag (put (bit_at w) b true k) ≡ 1 = ap flag q.1 in
          omega (arith, small, one, it)
      by (inr q) =
          let none : int.bit_at (2 ^ b) k ≡ 0 = bit_at-pow_other b k q.0 in
          let it : flag (put (bit_at w) b true k) ≡ int.bit_at w k = ap flag q.1 ∙ bit_is w k in
          omega (arith, none, it)

  pub set_small : w < 2 ^ 64 → bit_or w (1 * 2 ^ b % 2 ^ 64) < 2 ^ 64
  set_small small = or_lt WORD_BITS w (1 * 2 ^ b % 2 ^ 64) small (omega arith)

  -- clearing a bit
  pub clear_at : (k : ℕ) → w < 2 ^ 64
      → bit_at (bit_and w (2 ^ 64 - 1 - 1 * 2 ^ b % 2 ^ 64)) k ≡ put (bit_at w) b false k
  clear_at k fits = flag_same (bit_at (bit_and w (2 ^ 64 - 1 - 1 * 2 ^ b % 2 ^ 64)) k)
      (put (bit_at w) b false k)
      (bit_is (bit_and w (2 ^ 64 - 1 - 1 * 2 ^ b % 2 ^ 64)) k
      ∙ ap (λ (m : ℕ). int.bit_at (bit_and w (2 ^ 64 - 1 - m)) k) mask
      ∙ bit_at_and w (2 ^ 64 - 1 - 2 ^ b) k ∙ by (put_case (bit_at w) b false k) (cases_lt k WORD_BITS))
    where
      small : int.bit_at w k < 2
      small = bit_at-lt w k

      rest : k < WORD_BITS → int.bit_at (2 ^ 64 - 1 - 2 ^ b) k ≡ 1 - int.bit_at (2 ^ b) k
      rest lt = bit_at_not w64 (2 ^ b) k (pow_below b WORD_BITS within) lt

      by : ((k ≡ b) × (put (bit_at w) b false k ≡ false))
          ⊎ ((k ≢ b) × (put (bit_at w) b false k ≡ bit_at w k))
          → (k < WORD_BITS) ⊎ (WORD_BITS ≤ k)
          → min (int.bit_at w k) (int.bit_at (2 ^ 64 - 1 - 2 ^ b) k) ≡ flag (put (bit_at w) b false k)
      by (inl q) (inl lt) =
          let one : int.bit_at (2 ^ b) k ≡ 1 = ap (int.bit_at (2 ^ b)) q.0 ∙ bit_at-pow_same b in
          let it : flag (put (bit_at w) b false k) ≡ 0 = ap flag q.1 in
          let other = rest lt in
          omega (arith, small, one, it, other)
      by (inl q) (inr from) = absurd (let e : k ≡ b = q.0 in omega (arith, e, from, within))
      by (inr q) (inl lt) =
          let none : int.bit_at (2 ^ b) k ≡ 0 = bit_at-pow_other b k q.0 in
          let it : flag (put (bit_at w) b false k) ≡ int.bit_at w k = ap flag q.1 ∙ bit_is w k in
          let other = rest lt in
          omega (arith, small, none, it, other)
      by (inr q) (inr from) =
          let none : int.bit_at w k ≡ 0 = bit_at_above w WORD_BITS k fits from in
          let it : flag (put (bit_at w) b false k) ≡ int.bit_at w k = ap flag q.1 ∙ bit_is w k in
          omega (arith, none, it)

  pub clear_small : w < 2 ^ 64 → bit_and w (2 ^ 64 - 1 - 1 * 2 ^ b % 2 ^ 64) < 2 ^ 64
  clear_small small =
      let le : bit_and w (2 ^ 64 - 1 - 1 * 2 ^ b % 2 ^ 64) ≤ w =
      and_le_l w (2 ^ 64 - 1 - 1 * 2 ^ b % 2 ^ 64) in
      omega (arith, le, small)

module _ (f : ℕ → Bool) (b : ℕ) (within : b < WORD_BITS) where
  abbrev whole : ℕ
  whole = bit_word WORD_BITS f

  fits : whole < 2 ^ 64
  fits = bit_word_small WORD_BITS f

  put_read : (v : Bool) (k : ℕ) → k < WORD_BITS → put (bit_at whole) b v k ≡ put f b v k
  put_read v k lt = put_at (λ (x : Bool). x ≡ put f b v k) (bit_at whole) b v k
      (λ q. sym (ap (put f b v) q ∙ put_same f b v))
      (λ ne. bit_read f k lt ∙ sym (put_other f b v k ne))

  -- a bit word when one bit was set, or cleared
  pub bit_word_set : bit_word WORD_BITS (put f b true) ≡ bit_or (bit_word WORD_BITS f) (1 * 2 ^ b % 2 ^ 64)
  bit_word_set = same_bits (bit_word WORD_BITS (put f b true)) (bit_or whole (1 * 2 ^ b % 2 ^ 64))
      (bit_word_small WORD_BITS (put f b true)) (set_small whole b within fits)
      (λ k lt. bit_read (put f b true) k lt ∙ sym (put_read true k lt) ∙ sym (set_at whole b within k))

  pub bit_word_clear : bit_word WORD_BITS (put f b false) ≡ bit_and (bit_word WORD_BITS f)
      (2 ^ 64 - 1 - 1 * 2 ^ b % 2 ^ 64)
  bit_word_clear = same_bits (bit_word WORD_BITS (put f b false)) (bit_and whole (2 ^ 64 - 1 - 1 * 2 ^ b % 2 ^ 64))
      (bit_word_small WORD_BITS (put f b false)) (clear_small whole b within fits)
      (λ k lt. bit_read (put f b false) k lt ∙ sym (put_read false k lt)
      ∙ sym (clear_at whole b within k fits))

-- the same by sums
more_below : (n : ℕ) (f : ℕ → Bool) (b : ℕ) (v : Bool) → n ≤ b → bit_word n (put f b v) ≡ bit_word n f
unfolding bit_word
more_below zero f b v le = refl
more_below (suc n) f b v le =
    let ih = more_below n f b v (omega (arith, le)) in
    let here : put f b v n ≡ f n = put_other f b v n (λ e. absurd (omega (arith, e, le))) in
    rw here (omega (arith, ih))

sums : (n : ℕ) (f : ℕ → Bool) (b : ℕ) (v : Bool) → b < n
    → bit_word n (put f b v) + (if f b then 2 ^ b else 0) ≡ bit_word n f + (if v then 2 ^ b else 0)
unfolding bit_word
sums zero f b v lt = absurd (omega (arith, lt))
sums (suc n) f b v lt = elim (eqb_tells n b) [
  | inl q ↦ (
      let below = more_below n f b v (omega (arith, q.1)) in
      let now : put f b v n ≡ v = ap (put f b v) q.1 ∙ put_same f b v in
      let was : f n ≡ f b = ap f q.1 in
      let power : 2 ^ n ≡ 2 ^ b = ap (λ (i : ℕ). 2 ^ i) q.1 in
      rw (now, was, power) (omega (arith, below))
      )
  | inr q ↦ (
      let ne : n ≢ b = q.1 in
      let ih = sums n f b v (omega (arith, lt, ne)) in
      let here : put f b v n ≡ f n = put_other f b v n ne in
      rw here (omega (arith, ih))
      )
]

pub bit_word_more : (f : ℕ → Bool) (b : ℕ) → b < WORD_BITS → f b ≡ false
    → bit_word WORD_BITS (put f b true) ≡ bit_word WORD_BITS f + 2 ^ b
bit_word_more f b lt h = let sum = sums WORD_BITS f b true lt in let off = ap (λ (x : Bool). if x then 2 ^ b
    else 0) h in
    omega (arith, sum, off)

pub bit_word_less : (f : ℕ → Bool) (b : ℕ) → b < WORD_BITS → f b ≡ true
    → bit_word WORD_BITS (put f b false) + 2 ^ b ≡ bit_word WORD_BITS f
bit_word_less f b lt h = let sum = sums WORD_BITS f b false lt in let on = ap (λ (x : Bool). if x then 2 ^ b
    else 0) h in
    omega (arith, sum, on)

-- The words that an exchange of a bit and a clear leave.
use Rattle.std.proofs.Common.{refl, arith, ap, sym, ◌∙◌}
use Rattle.wait_model.specs.{declared.layout.TheConstants.BIT_WORDS, declared.layout.TheConstants.WORD_BITS}
use Rattle.wait_model.specs.{declared.watches.Watch.Watch, Functions.put, Words.bit_at, Words.bit_word}
use Rattle.wait_model.specs.Tables.{Table, value_of, publish, consume}
use Rattle.wait_model.specs.Locations.{Shows, Bits, position_of}
use Rattle.std.specs.Prelude.{◌≡◌, ℕ, ◌+◌, ◌-◌, ◌^◌, ◌<◌, Bool, true, false, if◌then◌else◌, List, slice_index}
use Rattle.wait_model.specs.declared.watches.Watch.TheVariants as watch
use Rattle.wait_model.proofs.Functions.{put_at, put_same}
use Rattle.wait_model.proofs.WordLaws.BitWords.{bit_word_small, bit_read, same_bits, bit_word_more, bit_word_less}

-- a word whose bit has the value already
already : (f : ℕ → Bool) (b : ℕ) (v : Bool) → f b ≡ v → bit_word WORD_BITS f ≡ bit_word WORD_BITS (put f b v)
already f b v h = same_bits (bit_word WORD_BITS f) (bit_word WORD_BITS (put f b v)) (bit_word_small WORD_BITS f)
    (bit_word_small WORD_BITS (put f b v)) (λ k lt. bit_read f k lt
    ∙ put_at (λ x. f k ≡ x) f b v k (λ e. ap f e ∙ h) (λ _. refl)
    ∙ sym (bit_read (put f b v) k lt))

module _ (f : ℕ → Bool) (b : ℕ) (lt : b < WORD_BITS) where
  set_word : (t : Bool) → f b ≡ t → (if t then bit_word WORD_BITS f else bit_word WORD_BITS f + 2 ^ b) ≡ bit_word
      WORD_BITS (put f b true)
  set_word true h = already f b true h
  set_word false h = sym (bit_word_more f b lt h)

  clear_word : (t : Bool) → f b ≡ t → (if t then bit_word WORD_BITS f - 2 ^ b else bit_word WORD_BITS f) ≡ bit_word
      WORD_BITS (put f b false)
  clear_word true h = let sum = bit_word_less f b lt h in omega (arith, sum)
  clear_word false h = already f b false h

-- what the two leave in a bit word
module _ (words : List ℕ) (t : Table) (shown : Shows words t) (w b found : ℕ) (inside : w < BIT_WORDS) (lt : b <
    WORD_BITS)
    (read : found ≡ slice_index words (position_of (Bits w))) where
  was : found ≡ bit_word WORD_BITS (t.words.bits w)
  was = read ∙ shown.each (Bits w) inside

  bit_was : bit_at found b ≡ t.words.bits w b
  bit_was = ap (λ (x : ℕ). bit_at x b) was ∙ bit_read (t.words.bits w) b lt

  pub set_leaves : (r : ℕ) → r ≡ (if bit_at found b then found else found + 2 ^ b) → (c : Watch) → c ≡ watch.Bit w b
      → r ≡ value_of (consume t.words c 1) c
  set_leaves r is c at = is
      ∙ ap (λ (x : Bool). if x then found else found + 2 ^ b) bit_was
      ∙ ap (λ (x : ℕ). if t.words.bits w b then x else x + 2 ^ b) was
      ∙ set_word (t.words.bits w) b lt (t.words.bits w b) refl
      ∙ sym (ap (bit_word WORD_BITS) (put_same t.words.bits w (put (t.words.bits w) b true)))
      ∙ ap (λ (d : Watch). value_of (consume t.words d 1) d) (sym at)

  pub clear_leaves : (r : ℕ) → r ≡ (if bit_at found b then found - 2 ^ b else found) → (c : Watch)
      → c ≡ watch.Bit w b → r ≡ value_of (publish t.words c 0) c
  clear_leaves r is c at = is
      ∙ ap (λ (x : Bool). if x then found - 2 ^ b else found) bit_was
      ∙ ap (λ (x : ℕ). if t.words.bits w b then x - 2 ^ b else x) was
      ∙ clear_word (t.words.bits w) b lt (t.words.bits w b) refl
      ∙ sym (ap (bit_word WORD_BITS) (put_same t.words.bits w (put (t.words.bits w) b false)))
      ∙ ap (λ (d : Watch). value_of (publish t.words d 0) d) (sym at)

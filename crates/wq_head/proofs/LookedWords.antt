-- From the index at which a look goes on to the next set bit of its word.
use Rattle.std.proofs.Common.{subst, inl, inr, arith}
use Rattle.std.specs.Prelude.{ℕ, ◌≡◌, ◌+◌, ◌-◌, ◌*◌, ◌/◌, ◌%◌, ◌<◌, ◌≤◌, Bool, true, false}
use Rattle.wait_model.specs.{declared.layout.TheConstants.MEMBERS, declared.layout.TheConstants.WORD_BITS, Words.bit_at}
use Rattle.wait_rule.specs.Known.{Known}
use Rattle.wq_head.specs.{declared.looking.Looking.Looking, Looks.Looks}
use Rattle.wq_head.specs.Looking.{IsClear, IsSet, IsByBit, AreByBits, AreNone, IsLookingBy}
use Rattle.wq_head.proofs.{FirstAndLast.below_or, BitLooks.clear_on, BitLooks.bit_on}

module _ (old new : Known) (l : Looks old new) (from next word bit : ℕ) (few : next < MEMBERS)
    (none : AreNone old from next) (told : AreByBits new (WORD_BITS * (next / WORD_BITS)) word WORD_BITS)
    (low : next % WORD_BITS ≤ bit) (high : bit ≤ WORD_BITS)
    (bits : (b : ℕ) → next % WORD_BITS ≤ b → b < bit → bit_at word b ≡ false) where
  abbrev index : ℕ
  index = next / WORD_BITS * WORD_BITS + bit

  pub none_on : AreNone new from index
  none_on m behind under = elim (below_or m next) [
    | inl before ↦ clear_on old new l m (none m behind before)
    | inr over ↦ subst (IsClear new) (omega arith)
        (subst (λ (t : Bool). IsByBit t new (WORD_BITS * (next / WORD_BITS) + (m - WORD_BITS * (next / WORD_BITS))))
        (bits (m - WORD_BITS * (next / WORD_BITS)) (omega arith) (omega arith))
        (told (m - WORD_BITS * (next / WORD_BITS)) (omega arith)))
  ]

  pub set_there : bit < WORD_BITS → bit_at word bit ≡ true → IsSet new index
  set_there inside is = subst (IsSet new) (omega arith)
      (subst (λ (t : Bool). IsByBit t new (WORD_BITS * (next / WORD_BITS) + bit)) is (told bit inside))

  -- the look goes on at the end of the word, or behind a set bit
  pub looked_on : bit ≡ WORD_BITS → IsLookingBy new (record { word = word; next = index })
  looked_on end = record { within = omega arith; loaded = λ more. absurd (omega arith) }

  pub looked_past : bit < WORD_BITS → IsLookingBy new (record { word = word; next = index + 1 })
  looked_past inside = record {
    within = omega arith;
    loaded = λ more. subst (λ (q : ℕ). AreByBits new (WORD_BITS * q) word WORD_BITS)
        (let same : next / WORD_BITS ≡ (index + 1) / WORD_BITS = omega arith in same) told;
  }

-- what the look has come to stays so
pub looked_later : (old new : Known) → Looks old new → (s : Looking) → IsLookingBy old s → IsLookingBy new s
looked_later old new l s h = record {
  within = h.within;
  loaded = λ more b few. bit_on old new l (WORD_BITS * (s.next / WORD_BITS) + b) (bit_at s.word b)
      (h.loaded more b few);
}

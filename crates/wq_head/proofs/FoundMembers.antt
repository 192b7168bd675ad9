-- A look at the member words of a head in a hold, one word after another.
use Rattle.std.proofs.Common.{subst, inl, inr, arith}
use Rattle.std.specs.Prelude.{ℕ, ◌≡◌, ◌+◌, ◌-◌, ◌*◌, ◌<◌, Bool, true, false, None, MatchBool}
use Rattle.wait_model.specs.declared.layout.TheConstants.{MEMBERS, MEMBER_WORDS, WORD_BITS}
use Rattle.wait_model.specs.Words.{bit_at}
use Rattle.wait_rule.specs.{Known.Known, Says.told_of, Says.noted, Queues.place_by, LookCounts.Looked}
use Rattle.wq_head.specs.Looks.{Looks, is_seen_member, AreSeen, IsEmpty, HasMember}
use Rattle.wq_head.specs.Looking.{IsClear, IsSet, IsByBit, AreNone}
use Rattle.wq_head.specs.Members.{AreStanding}
use Rattle.wq_head.proofs.FirstAndLast.{below_or}
use Rattle.wq_head.proofs.OneMoreLook.{looks_on, whole_of}
use Rattle.wq_head.proofs.BitLooks.{AreBitLooks, clear_on, set_on}

-- whether one of the first indexes is a member
abbrev pub IsFound : Bool → Known → ℕ → Type 0
IsFound true k n = (m : ℕ) × (m < n) × IsSet k m
IsFound false k n = AreNone k 0 n

-- the look has loaded the first n words
pub record HasFound (old now : Known) (n : ℕ) (found : Bool) : Type 0 where
  pub looks : Looks old now
  pub looked : Looked n old now
  pub seen : AreSeen now (WORD_BITS * n)
  pub told : IsFound found now (WORD_BITS * n)

bit_seen : (k : Known) (m : ℕ) (bit : Bool) → IsByBit bit k m → is_seen_member (told_of k) (noted k) m ≡ true
bit_seen k m true s = s.seen
bit_seen k m false c = c.seen

-- one word more
module _ (old now new : Known) (n w : ℕ) (found : Bool) (s : HasFound old now n found)
    (b : AreBitLooks now new (WORD_BITS * n) w WORD_BITS) (one : Looked 1 now new) where
  seen_more : AreSeen new (WORD_BITS * (n + 1))
  seen_more m low = elim (below_or m (WORD_BITS * n)) [
    | inl under ↦ b.looks.from.still m (s.seen m under)
    | inr over ↦ subst (λ (x : ℕ). is_seen_member (told_of new) (noted new) x ≡ true) (omega arith)
        (bit_seen new (WORD_BITS * n + (m - WORD_BITS * n)) (bit_at w (m - WORD_BITS * n))
        (b.told (m - WORD_BITS * n) (omega arith)))
  ]

  more : (f : Bool) → IsFound f new (WORD_BITS * (n + 1)) → HasFound old new (n + 1) f
  more f told = record {
    looks = looks_on old now new s.looks b.looks;
    looked = let a = s.looked in omega (arith, a, one);
    seen = seen_more;
    told = told;
  }

  pub found_set : (k : ℕ) → k < WORD_BITS → bit_at w k ≡ true → HasFound old new (n + 1) true
  found_set k small is = more true (
    WORD_BITS * n + k,
    omega arith,
    subst (λ (t : Bool). IsByBit t new (WORD_BITS * n + k)) is (b.told k small),
  )

  pub found_none : ((k : ℕ) → k < WORD_BITS → bit_at w k ≡ false) → HasFound old new (n + 1) found
  found_none clear = more found (by found s.told)
    where
      by : (f : Bool) → IsFound f now (WORD_BITS * n) → IsFound f new (WORD_BITS * (n + 1))
      by true t = (t.0, let low = t.1 in omega arith, set_on now new b.looks t.0 t.2)
      by false t = λ m low under. elim (below_or m (WORD_BITS * n)) [
        | inl before ↦ clear_on now new b.looks m (t m low before)
        | inr over ↦ subst (IsClear new) (omega arith)
            (subst (λ (c : Bool). IsByBit c new (WORD_BITS * n + (m - WORD_BITS * n)))
            (clear (m - WORD_BITS * n) (omega arith)) (b.told (m - WORD_BITS * n) (omega arith)))
      ]

-- all words
pub found_tells : (old now : Known) (found : Bool) → HasFound old now MEMBER_WORDS found
    → MatchBool found (HasMember now) (IsEmpty now)
found_tells old now true s =
    let low : s.told.0 < MEMBERS = let l = s.told.1 in omega arith in
    (s.told.0, s.told.2.place, low, s.told.2.there)
found_tells old now false s = (
  whole_of now (λ m few. s.seen m (omega arith)),
  λ m p few is. let gone : place_by now m ≡ None = (s.told m (omega arith) (omega arith)).none in absurd (cc),
)

-- where none is found, whom the hold shows stand as they should, since it shows none
pub found_standing : (old now : Known) (found : Bool) → HasFound old now MEMBER_WORDS found → found ≡ false
    → AreStanding now MEMBERS
found_standing old now true s is = absurd (cc)
found_standing old now false s is = λ m few. (s.told m (omega arith) (omega arith)).stands

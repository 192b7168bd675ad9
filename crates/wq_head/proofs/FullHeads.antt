-- Full heads: which watches one wake calls together, and which kinds of entries stand there.
use Rattle.std.proofs.Common.{◌∙◌, ap, sym, refl, inl, inr, eq-eqb, eqb-true, arith}
use Rattle.std.proofs.lemmas.Bool.{and_from}
use Rattle.std.specs.Prelude.{ℕ, ◌+◌, ◌*◌, ◌≡◌, ◌≢◌, ◌<◌, ◌⊎◌, ◌&&◌, ◌==◌, not, Bool, true, false}
use Rattle.wait_model.specs.{declared.watches.Watch.Watch, declared.watches.Entry.Entry, declared.watches.Kind.Kind}
use Rattle.wait_model.specs.{Words.bit_at, Words.Suited}
use Rattle.wait_model.specs.declared.layout.TheConstants.{BIT_WORDS, WORD_BITS, HASHED_HEADS, FIRST_SIMPLE_HEAD}
use Rattle.wait_model.specs.Watches.{same, head_of, hashed, misses, failing, is_bit, counted, is_simple, page}
use Rattle.wait_model.specs.declared.watches.Watch.TheVariants as watch
use Rattle.wait_model.specs.declared.watches.Kind.TheVariants as kind
use Rattle.wait_model.proofs.Functions.{both_left, both_right}
use Rattle.wait_rule.specs.Members.{IsStanding, IsKindFor}
use Rattle.wq_head.specs.Walks.{IsFull}

pub hashed_low : (n : ℕ) → hashed n < HASHED_HEADS
unfolding hashed
hashed_low n = omega arith

-- a full head is none of a simple queue
pub head_small : (a : Watch) → IsFull a → head_of a < FIRST_SIMPLE_HEAD
unfolding head_of
head_small (watch.Plain c) full = omega (arith, full)
head_small (watch.Done d) full = absurd full
head_small (watch.Bit w b) full = let low = hashed_low (w * WORD_BITS + b) in omega (arith, low)
head_small (watch.Var v o) full = let low = hashed_low (BIT_WORDS + v) in omega (arith, low)

-- a wake for a watch calls the entries of it
pub same_self : (c : Watch) → same c c ≡ true
same_self (watch.Plain c) = eq-eqb c c refl
same_self (watch.Done d) = eq-eqb d d refl
same_self (watch.Bit w b) = and_from (w == w) (b == b) (eq-eqb w w refl) (eq-eqb b b refl)
same_self (watch.Var v o) = eq-eqb v v refl

-- two watches that one wake calls
pub record IsOne (c d : Watch) : Type 0 where
  pub likes : (e : Watch) → same e c ≡ same e d
  pub bit : is_bit c ≡ is_bit d
  pub counts : counted c ≡ counted d
  pub fails : is_bit c ≡ true → (r : ℕ) → failing c r d ≡ misses c r

-- a watch that is no bit is one with itself
one_same : (c d : Watch) → c ≡ d → is_bit c ≡ false → IsOne c d
one_same c d is other = record {
  likes = λ e. ap (same e) is;
  bit = ap is_bit is;
  counts = ap counted is;
  fails = λ bit. absurd (let clash : true ≡ false = sym bit ∙ other in cc);
}

one_bit : (w b v a : ℕ) → (w == v) ≡ true → (b == a) ≡ true → IsOne (watch.Bit w b) (watch.Bit v a)
one_bit w b v a words bits =
    let at = eqb-true w v words in
    let of = eqb-true b a bits in record {
      likes = λ e. (λ i. same e (watch.Bit (at i) (of i)));
      bit = refl;
      counts = refl;
      fails = λ _ r. ap (λ (t : Bool). t && bit_at r a) words ∙ ap (bit_at r) (sym of);
    }

one_var : (v o u p : ℕ) → v ≡ u → IsOne (watch.Var v o) (watch.Var u p)
one_var v o u p is = record { likes = by; bit = refl; counts = refl; fails = λ is. absurd (cc) }
  where
    by : (e : Watch) → same e (watch.Var v o) ≡ same e (watch.Var u p)
    by (watch.Plain c) = refl
    by (watch.Done d) = refl
    by (watch.Bit w b) = refl
    by (watch.Var x q) = ap (λ (y : ℕ). x == y) is

pub one_of : (c d : Watch) → same c d ≡ true → IsOne c d
one_of (watch.Plain c) (watch.Plain d) is =
    one_same (watch.Plain c) (watch.Plain d) (ap watch.Plain (eqb-true c d is)) refl
one_of (watch.Plain c) (watch.Done d) is = absurd (cc)
one_of (watch.Plain c) (watch.Bit v a) is = absurd (cc)
one_of (watch.Plain c) (watch.Var u p) is = absurd (cc)
one_of (watch.Done c) (watch.Plain d) is = absurd (cc)
one_of (watch.Done c) (watch.Done d) is =
    one_same (watch.Done c) (watch.Done d) (ap watch.Done (eqb-true c d is)) refl
one_of (watch.Done c) (watch.Bit v a) is = absurd (cc)
one_of (watch.Done c) (watch.Var u p) is = absurd (cc)
one_of (watch.Bit w b) (watch.Plain d) is = absurd (cc)
one_of (watch.Bit w b) (watch.Done d) is = absurd (cc)
one_of (watch.Bit w b) (watch.Bit v a) is = one_bit w b v a (both_left (w == v) (b == a) is)
    (both_right (w == v) (b == a) is)
one_of (watch.Bit w b) (watch.Var u p) is = absurd (cc)
one_of (watch.Var v o) (watch.Plain d) is = absurd (cc)
one_of (watch.Var v o) (watch.Done d) is = absurd (cc)
one_of (watch.Var v o) (watch.Bit w b) is = absurd (cc)
one_of (watch.Var v o) (watch.Var u p) is = one_var v o u p (eqb-true v u is)

-- a full head has no simple entries
pub not_simple : (x : ℕ) (e : Entry) → IsStanding x e → head_of e.watch < FIRST_SIMPLE_HEAD → is_simple e.kind ≡ false
unfolding head_of
not_simple x e at low = by e.watch e.kind e.exclusive at.lawful.suited at.kind low
  where
    by : (w : Watch) (k : Kind) (t : Bool) → Suited w k → IsKindFor w k t → head_of w < FIRST_SIMPLE_HEAD
        → is_simple k ≡ false
    by (watch.Plain c) k t suits for low = for (omega (arith, low))
    by (watch.Done d) k t suits for low = absurd (omega (arith, low))
    by (watch.Bit w b) k t suits for low = elim suits.2 [ inl is ↦ ap is_simple is | inr is ↦ ap is_simple is.0 ]
    by (watch.Var v o) k t suits for low = ap is_simple suits.2

module _ (a : Watch) (full : IsFull a) (x : ℕ) (e : Entry) (at : IsStanding x e)
    (here : head_of e.watch ≡ head_of a) where
  pub simple_none : is_simple e.kind ≡ false
  simple_none = not_simple x e at (let low = head_small a full in omega (arith, low, here))

  pub no_simple : not (is_simple e.kind) ≡ true
  no_simple = ap not simple_none

-- the kinds of entries by their watches
plain_unhashed : (k : Kind) → (k ≡ kind.Default) ⊎ ((k ≡ kind.Autoremove) ⊎ ((k ≡ kind.Woken) ⊎ (k ≡ kind.Simple)))
    → (k ≡ kind.Bit → ⊥) × (k ≡ kind.Page → ⊥)
plain_unhashed k (inl is) = (λ bit. absurd (cc), λ page. absurd (cc))
plain_unhashed k (inr (inl is)) = (λ bit. absurd (cc), λ page. absurd (cc))
plain_unhashed k (inr (inr (inl is))) = (λ bit. absurd (cc), λ page. absurd (cc))
plain_unhashed k (inr (inr (inr is))) = (λ bit. absurd (cc), λ page. absurd (cc))

pub kind_bit : (x : ℕ) (e : Entry) → IsStanding x e → e.kind ≡ kind.Bit → is_bit e.watch ≡ true
kind_bit x e at is = by e.watch e.kind at.lawful.suited is
  where
    by : (w : Watch) (k : Kind) → Suited w k → k ≡ kind.Bit → is_bit w ≡ true
    by (watch.Plain c) k suits is = absurd ((plain_unhashed k suits.1).0 is)
    by (watch.Done d) k suits is = let both : kind.Simple ≡ kind.Bit = sym suits.1 ∙ is in absurd (cc)
    by (watch.Bit w b) k suits is = refl
    by (watch.Var v o) k suits is = let both : kind.Var ≡ kind.Bit = sym suits.2 ∙ is in absurd (cc)

pub kind_page : (x : ℕ) (e : Entry) → IsStanding x e → e.kind ≡ kind.Page → (p : ℕ) × (e.watch ≡ page p)
kind_page x e at is = by e.watch e.kind at.lawful.suited is
  where
    by : (w : Watch) (k : Kind) → Suited w k → k ≡ kind.Page → (p : ℕ) × (w ≡ page p)
    by (watch.Plain c) k suits is = absurd ((plain_unhashed k suits.1).1 is)
    by (watch.Done d) k suits is = let both : kind.Simple ≡ kind.Page = sym suits.1 ∙ is in absurd (cc)
    by (watch.Bit w b) k suits is = elim suits.2 [
      | inl bit ↦ let both : kind.Bit ≡ kind.Page = sym bit ∙ is in absurd (cc)
      | inr paged ↦ (w, ap (λ (c : ℕ). watch.Bit w c) paged.1)
    ]
    by (watch.Var v o) k suits is = let both : kind.Var ≡ kind.Page = sym suits.2 ∙ is in absurd (cc)

-- a wake for the watch of such an entry is one for its page
pub page_same : (e w : Watch) (p : ℕ) → e ≡ page p → same e w ≡ true → w ≡ page p
page_same e w p is sought = by w (sym (ap (λ (c : Watch). same c w) is) ∙ sought)
  where
    by : (c : Watch) → same (page p) c ≡ true → c ≡ page p
    by (watch.Plain c) z = absurd (cc)
    by (watch.Done d) z = absurd (cc)
    by (watch.Bit v b) z =
        let words = eqb-true p v (both_left (p == v) (0 == b) z) in
        let bits = eqb-true 0 b (both_right (p == v) (0 == b) z) in
        (λ i. watch.Bit (sym words i) (sym bits i))
    by (watch.Var u q) z = absurd (cc)

pub bit_kinds : (x : ℕ) (e : Entry) → IsStanding x e → is_bit e.watch ≡ true
    → (e.kind ≡ kind.Bit) ⊎ (e.kind ≡ kind.Page)
bit_kinds x e at is = by e.watch e.kind at.lawful.suited is
  where
    by : (w : Watch) (k : Kind) → Suited w k → is_bit w ≡ true → (k ≡ kind.Bit) ⊎ (k ≡ kind.Page)
    by (watch.Plain c) k suits is = absurd (cc)
    by (watch.Done d) k suits is = absurd (cc)
    by (watch.Bit w b) k suits is = elim suits.2 [ inl bit ↦ inl bit | inr paged ↦ inr paged.0 ]
    by (watch.Var v o) k suits is = absurd (cc)

-- an entry that is of none of these kinds is for a counted watch
pub plain_counts : (x : ℕ) (e : Entry) → IsStanding x e → e.kind ≢ kind.Bit → e.kind ≢ kind.Page → e.kind ≢ kind.Var
    → counted e.watch ≡ true
plain_counts x e at no_bit no_page no_var = by e.watch e.kind at.lawful.suited no_bit no_page no_var
  where
    by : (w : Watch) (k : Kind) → Suited w k → k ≢ kind.Bit → k ≢ kind.Page → k ≢ kind.Var → counted w ≡ true
    by (watch.Plain c) k suits no_bit no_page no_var = refl
    by (watch.Done d) k suits no_bit no_page no_var = refl
    by (watch.Bit w b) k suits no_bit no_page no_var = elim suits.2 [
      | inl is ↦ absurd (no_bit is)
      | inr paged ↦ absurd (no_page paged.0)
    ]
    by (watch.Var v o) k suits no_bit no_page no_var = absurd (no_var suits.2)

-- a watch is counted, or a bit, or entries for it are not exclusive
pub var_only : (x : ℕ) (e : Entry) → IsStanding x e → counted e.watch ≡ false → is_bit e.watch ≡ false
    → e.exclusive ≡ false
var_only x e at uncounted no_bit = by e.watch e.kind e.exclusive at.kind uncounted no_bit
  where
    by : (w : Watch) (k : Kind) (t : Bool) → IsKindFor w k t → counted w ≡ false → is_bit w ≡ false → t ≡ false
    by (watch.Plain c) k t for un bit = absurd (cc)
    by (watch.Done d) k t for un bit = absurd (cc)
    by (watch.Bit w b) k t for un bit = absurd (cc)
    by (watch.Var v o) k t for un bit = for

-- a plain entry that is none of these is a default one
pub is_default : (a : Watch) → IsFull a → (x : ℕ) (e : Entry) → IsStanding x e → head_of e.watch ≡ head_of a
    → e.kind ≢ kind.Autoremove → e.kind ≢ kind.Woken → e.kind ≢ kind.Bit → e.kind ≢ kind.Page → e.kind ≢ kind.Var
    → e.kind ≡ kind.Default
is_default a full x e at here no_auto no_woken no_bit no_page no_var =
    by e.watch e.kind at.lawful.suited (simple_none a full x e at here) no_auto no_woken no_bit no_page no_var
  where
    by : (w : Watch) (k : Kind) → Suited w k → is_simple k ≡ false → k ≢ kind.Autoremove → k ≢ kind.Woken
        → k ≢ kind.Bit → k ≢ kind.Page → k ≢ kind.Var → k ≡ kind.Default
    by (watch.Plain c) k suits simple no_auto no_woken no_bit no_page no_var = elim suits.1 [
      | inl is ↦ is
      | inr more ↦ elim more [
        | inl is ↦ absurd (no_auto is)
        | inr rest ↦ elim rest [
          | inl is ↦ absurd (no_woken is)
          | inr is ↦ let both : true ≡ false = sym (ap is_simple is) ∙ simple in absurd (cc)
        ]
      ]
    ]
    by (watch.Done d) k suits simple no_auto no_woken no_bit no_page no_var =
        let both : true ≡ false = sym (ap is_simple suits.1) ∙ simple in absurd (cc)
    by (watch.Bit w b) k suits simple no_auto no_woken no_bit no_page no_var = elim suits.2 [
      | inl is ↦ absurd (no_bit is)
      | inr paged ↦ absurd (no_page paged.0)
    ]
    by (watch.Var v o) k suits simple no_auto no_woken no_bit no_page no_var = absurd (no_var suits.2)

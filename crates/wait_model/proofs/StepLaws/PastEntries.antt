-- A book that shows an entry before the walk does not show the walk as past it.
use Rattle.std.proofs.lemmas.Bool.Decides.{eqb_tells}
use Rattle.std.proofs.Common.{refl, subst, arith, inl, inr}
use Rattle.std.specs.Prelude.{ℕ, zero, suc, ◌≡◌, ◌<◌, Option, Some, Bool, true, false, not, ◌&&◌, ◌||◌, nat_le, nat_lt}
use Rattle.wait_model.specs.{declared.layout.TheConstants.ENTRIES, declared.watches.Entry.Entry, Facts.Agrees}
use Rattle.wait_model.specs.Views.{Look, unseen, off, elsewhere, shown, Walk, View, gone, passed, all_below, all_passed}
use Rattle.wait_model.specs.Views.{all_cleared}
use Rattle.wait_model.specs.Watches.{same, head_of, is_simple}

pub shown_not : (w : Walk) (v : View) (stop : ℕ → Bool) (x : ℕ) (e : Entry) → same e.watch w.watch ≡ true
    → (is_simple e.kind || (nat_le w.from e.place && (not (stop e.place) && not (gone v x e)))) ≡ true
    → passed w v stop (shown e) x ≡ false
shown_not w v stop x e we opn = go (is_simple e.kind) (same e.watch w.watch) (stop e.place)
    (gone v x e) w.from e.place we opn
  where
    go : (si sa st gn : Bool) (f p : ℕ) → sa ≡ true → (si || (nat_le f p && (not st && not gn))) ≡ true
        → (not sa || (not si && (nat_lt p f || (st || gn)))) ≡ false
    go si sa st gn f p we opn = grind arith

pub passed_not : (w : Walk) (v : View) (stop : ℕ → Bool) (l : Look) (x : ℕ) (e : Entry) (o : Option Entry)
    (h : ℕ)
    → Agrees h l o → o ≡ Some e → head_of e.watch ≡ h → same e.watch w.watch ≡ true
    → (is_simple e.kind || (nat_le w.from e.place && (not (stop e.place) && not (gone v x e)))) ≡ true
    → passed w v stop l x ≡ false
passed_not w v stop unseen x e o h ag is hd we opn = refl
passed_not w v stop off x e o h ag is hd we opn = absurd (ag e is hd)
passed_not w v stop elsewhere x e o h ag is hd we opn = absurd (ag e is hd)
passed_not w v stop (shown d) x e o h ag is hd we opn =
    subst (λ (g : Entry). passed w v stop (shown g) x ≡ false) (let eq : e ≡ d = cc (ag.0)
    in eq) (shown_not w v stop x e we opn)

pub all_below_at : (n : ℕ) (p : ℕ → Bool) (x : ℕ) → all_below n p ≡ true → x < n → p x ≡ true
unfolding all_below
all_below_at zero p x h lt = absurd (omega arith)
all_below_at (suc n) p x h lt = elim (eqb_tells x n) [
  | inl q ↦ first n p x h q.1
  | inr q ↦ all_below_at n p x (rest n p h) (omega arith)
]
  where
    first : (n : ℕ) (p : ℕ → Bool) (x : ℕ) → (p n && all_below n p) ≡ true → x ≡ n → p x ≡ true
    first n p x h q = grind arith

    rest : (n : ℕ) (p : ℕ → Bool) → (p n && all_below n p) ≡ true → all_below n p ≡ true
    rest n p h = grind arith

pub all_below_not : (n : ℕ) (p : ℕ → Bool) (x : ℕ) → x < n → p x ≡ false → all_below n p ≡ false
all_below_not n p x lt fails = go (all_below n p) refl
  where
    go : (b : Bool) → all_below n p ≡ b → all_below n p ≡ false
    go true e = let all : p x ≡ true = all_below_at n p x e lt in absurd (cc)
    go false e = e

-- the test of the whole book fails where one entry is still before the walk
pub all_passed_not : (v : View) (w : Walk) (stop : ℕ → Bool) (x : ℕ) → x < ENTRIES
    → passed w v stop (v.hold.book x) x ≡ false → all_passed v w stop ≡ false
unfolding all_passed
all_passed_not v w stop x lt fails = all_below_not ENTRIES (λ i. passed w v stop (v.hold.book i) i) x lt fails

pub all_cleared_not : (f : ℕ → Bool) (x : ℕ) → x < ENTRIES → f x ≡ false → all_cleared f ≡ false
unfolding all_cleared
all_cleared_not f x lt fails = all_below_not ENTRIES f x lt fails

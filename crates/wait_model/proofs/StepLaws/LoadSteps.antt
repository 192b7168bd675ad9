-- A load of a condition word, and the looks at entries without a lock.
use Rattle.std.proofs.Common.{refl, ap, subst, arith, inl, inr}
use Rattle.std.specs.Prelude.{ℕ, ◌≡◌, ◌≢◌, ◌<◌, ◌⊎◌, Option, Some, None, Bool, true, false, not, ◌&&◌, ◌||◌, IsTrue}
use Rattle.std.specs.Prelude.{◌==◌}
use Rattle.wait_model.specs.{declared.layout.TheConstants.ENTRIES, declared.watches.Watch.Watch}
use Rattle.wait_model.specs.{declared.watches.Entry.Entry, Facts.Facts, Tables.Table, Tables.met, Words.entry_of}
use Rattle.wait_model.specs.Rows.{Reads}
use Rattle.wait_model.specs.Views.{Walk, View, checked, gone, ahead, covers, all_cleared}
use Rattle.wait_model.specs.Fold.{finds_bit_set, peeks, after}
use Rattle.wait_model.specs.Watches.{head_of, is_bit, is_simple, failing}
use Rattle.wait_model.proofs.{StepLaws.QuietSteps.back_waits, StepLaws.UntouchedParts.Moves}
use Rattle.wait_model.proofs.{StepLaws.UntouchedParts.framed, Functions.bool_or, StepLaws.PastEntries.all_cleared_not}
use Rattle.wait_model.proofs.Sameness.{same_bit, failing_unmet, same_bit_failing, same_bit_is}
use Rattle.wait_model.specs.declared.steps.Step.TheVariants as step

pub loaded_checked : (v : View) (l : Watch) (r x : ℕ) (e : Entry) (on : Watch) (m : ℕ) → failing l r on ≡ false
    → checked (after (step.Load l r) v) x e on ≡ Some m → checked v x e on ≡ Some m
loaded_checked v l r x e on m nope h = grind arith

ahead_moot : (o : Option Walk) (g : Bool) (l : Watch) (r : ℕ) (c : Watch) (σ p : ℕ) → failing l r c ≡ false
    → IsTrue (ahead o g c σ p) → IsTrue (ahead o (g || finds_bit_set o l r) c σ p)
ahead_moot None g l r c σ p nope h = refl
ahead_moot (Some w) g l r c σ p nope h = grind (arith, same_bit_failing l r c w.watch)

gone_loaded : (v : View) (l : Watch) (r x : ℕ) (e : Entry) → (gone (after (step.Load l r) v) x e ≡ gone v x e)
    ⊎ (gone (after (step.Load l r) v) x e ≡ (gone v x e || finds_bit_set v.walk l r))
gone_loaded v l r x e = grind arith

-- a load by which the test of one of the entry's watches did not fail
covers_loaded : (v : View) (l : Watch) (r x : ℕ) (e : Entry) (σ : ℕ)
    → (is_bit e.watch ≡ true → failing l r e.watch ≡ false) → IsTrue (covers v x e σ)
    → IsTrue (covers (after (step.Load l r) v) x e σ)
covers_loaded v l r x e σ nope h = by_bit (bool_or (is_bit e.watch))
  where
    by_bit : (is_bit e.watch ≡ true) ⊎ (is_bit e.watch ≡ false)
        → IsTrue (covers (after (step.Load l r) v) x e σ)
    by_bit (inl b) = elim (gone_loaded v l r x e) [
      | inl g ↦ rw g h
      | inr g ↦ rw g (grind (arith, ahead_moot v.walk (gone v x e) l r e.watch σ e.place (nope b)))
    ]
    by_bit (inr b) = elim (gone_loaded v l r x e) [
      | inl g ↦ rw g h
      | inr g ↦ rw g (grind (arith, ahead_else v.walk (gone v x e) e.watch σ e.place b))
    ]
      where
        ahead_else : (o : Option Walk) (g : Bool) (c : Watch) (σ p : ℕ) → is_bit c ≡ false
            → IsTrue (ahead o g c σ p) → IsTrue (ahead o (g || finds_bit_set o l r) c σ p)
        ahead_else None g c σ p nb q = refl
        ahead_else (Some w) g c σ p nb q = grind (arith, same_bit c w.watch)

pub load_moves : (s : Table) (a : ℕ) (l : Watch) (r : ℕ) → Reads s.words l r → Moves s a (step.Load l r)
load_moves s a l r al x e on m σ z = elim (bool_or (failing l r on)) [
  | inl f ↦ let un : met s.words on ≡ false = failing_unmet s.words l r on al f
      in let is : met s.words on ≡ true = z.is_set in absurd (cc)
  | inr f ↦ framed s a (step.Load l r) x e on m σ
      (back_waits s a (step.Load l r) x e on m σ (loaded_checked (s.view a) l r x e on m f) (λ q. q) (λ _ q. q)
      (λ q. q) z) (λ q. q)
      (covers_loaded (s.view a) l r x e σ
      (λ b. subst (λ (c : Watch). failing l r c ≡ false)
      (same_bit_is on e.watch (same_bit on e.watch z.watches b) z.watches) f))
]

-- an entry that stands is not found off
pub peek_clears : (s : Table) (a y : ℕ) (f : Option Entry) (x : ℕ) (e : Entry) → f ≡ s.entry y
    → s.entry x ≡ Some e → (s.view a).duty.cleared e.watch x ≡ false
    → peeks (s.view a).duty.cleared y f e.watch x ≡ false
peek_clears s a y None x e al st cl = let ne : x ≢ y = λ q. absurd (let w : s.entry x ≡ s.entry y =
    ap s.entry q in cc) in grind arith
peek_clears s a y (Some d) x e al st cl = elim (bool_or (x == y)) [
  | inl q ↦ let same_entry : d ≡ e = let w : s.entry x ≡ s.entry y = ap s.entry (grind arith) in cc
      in let hd : head_of d.watch ≡ head_of e.watch = ap (λ (g : Entry). head_of g.watch) same_entry
      in grind arith
  | inr q ↦ grind arith
]

-- nor is a wake over for it that is owed, where the entry is ahead
pub owes_peeked : (s : Table) (a y w x : ℕ) (e : Entry) (σ : ℕ) (on : Bool) → x < ENTRIES → entry_of w ≡ s.entry y
    → s.entry x ≡ Some e
    → ((s.view a).duty.owes e.watch σ && (not ((s.view a).duty.cleared e.watch x) && on)) ≡ true
    → (((s.view a).duty.owes e.watch σ && not (all_cleared (peeks (s.view a).duty.cleared y (entry_of w) e.watch)))
    && (not (peeks (s.view a).duty.cleared y (entry_of w) e.watch x) && on)) ≡ true
owes_peeked s a y w x e σ on lt al st h =
    let cl : (s.view a).duty.cleared e.watch x ≡ false = grind arith in
    let still : peeks (s.view a).duty.cleared y (entry_of w) e.watch x ≡ false =
    peek_clears s a y (entry_of w) x e al st cl in
    let owing : all_cleared (peeks (s.view a).duty.cleared y (entry_of w) e.watch) ≡ false =
    all_cleared_not (peeks (s.view a).duty.cleared y (entry_of w) e.watch) x lt still in
    by ((s.view a).duty.owes e.watch σ) ((s.view a).duty.cleared e.watch x)
    (peeks (s.view a).duty.cleared y (entry_of w) e.watch x)
    (all_cleared (peeks (s.view a).duty.cleared y (entry_of w) e.watch)) on still owing h
  where
    by : (ow cl cl2 all ah : Bool) → cl2 ≡ false → all ≡ false → (ow && (not cl && ah)) ≡ true
        → ((ow && not all) && (not cl2 && ah)) ≡ true
    by ow cl cl2 all ah p q h = grind arith

pub peek_moves : (s : Table) (a y w : ℕ) → Facts s → entry_of w ≡ s.entry y → Moves s a (step.Peek y w)
peek_moves s a y w k al x e on m σ z = framed s a (step.Peek y w) x e on m σ
    (back_waits s a (step.Peek y w) x e on m σ (λ q. q) (λ q. q) (λ _ q. q) (λ q. q) z) (λ q. q)
    (owes_peeked s a y w x e σ (is_simple e.kind || ahead (s.view a).walk (gone (s.view a) x e) e.watch σ e.place)
    (k.named x e z.stands) al z.stands)

-- A wake, and a lock.
use Rattle.std.proofs.Common.{refl, subst, arith, sym, ◌∙◌}
use Rattle.std.specs.Prelude.{ℕ, ◌≡◌, ◌≢◌, Option, Some, None, Bool, true, false, IsTrue}
use Rattle.wait_model.specs.{declared.watches.Watch.Watch, declared.watches.Entry.Entry, declared.watches.Aim.Aim}
use Rattle.wait_model.specs.{Tasks.meets, Watches.owner, Watches.is_page, Tables.Table, Tables.next}
use Rattle.wait_model.specs.Views.{Walk, View, gone, ahead, covers}
use Rattle.wait_model.specs.Fold.{begun, hits, after}
use Rattle.wait_model.proofs.StepLaws.QuietSteps.{back_waits}
use Rattle.wait_model.proofs.StepLaws.UntouchedParts.{Moves, framed}
use Rattle.wait_model.specs.declared.steps.Step.TheVariants as step

pub meets_zero : (mask : ℕ) → meets mask 0 ≡ false
unfolding meets
meets_zero mask = refl

pub wake_state : (s : Table) (a who mask w i : ℕ) → ((next s a (step.Wake who mask w)).task i).state ≢ 0
    → (((next s a (step.Wake who mask w)).task i).state ≡ (s.task i).state)
    × (i ≡ who → meets mask (s.task i).state ≡ false)
wake_state s a who mask w i h = (grind arith, grind arith)

ahead_woken : (o : Option Walk) (g g2 : Bool) (c : Watch) (σ p mask : ℕ)
    → (hits o mask ≡ true → meets mask σ ≡ true → g2 ≡ g) → (hits o mask ≡ false → g2 ≡ g)
    → IsTrue (ahead o g c σ p) → IsTrue (ahead o g2 c σ p)
ahead_woken None g g2 c σ p mask k l h = refl
ahead_woken (Some w) g g2 c σ p mask k l h = grind arith

gone_woken : (v : View) (x : ℕ) (e : Entry) (who mask w σ : ℕ)
    → (is_page e.kind ≡ false → owner x ≡ who → meets mask σ ≡ false) → meets mask σ ≡ true
    → gone (after (step.Wake who mask w) v) x e ≡ gone v x e
gone_woken v x e who mask w σ nope me = grind arith

gone_not_hit : (v : View) (x : ℕ) (e : Entry) (who mask w : ℕ) → hits v.walk mask ≡ false
    → gone (after (step.Wake who mask w) v) x e ≡ gone v x e
gone_not_hit v x e who mask w nope = grind arith

covers_woken : (v : View) (x : ℕ) (e : Entry) (σ who mask w : ℕ)
    → (is_page e.kind ≡ false → owner x ≡ who → meets mask σ ≡ false)
    → IsTrue (covers v x e σ) → IsTrue (covers (after (step.Wake who mask w) v) x e σ)
covers_woken v x e σ who mask w nope h =
    grind (
      arith,
      ahead_woken v.walk (gone v x e) (gone (after (step.Wake who mask w) v) x e) e.watch σ
          e.place mask (λ _. gone_woken v x e who mask w σ nope) (gone_not_hit v x e who mask w),
    )

pub wake_moves : (s : Table) (a who mask w : ℕ) → Moves s a (step.Wake who mask w)
wake_moves s a who mask w x e on m σ z = framed s a (step.Wake who mask w) x e on m σ
    (back_waits s a (step.Wake who mask w) x e on m σ (λ h. h) (λ h. h) (λ ne q. sym (both ne q).0 ∙ q) (λ h. h) z)
    (λ h. h) (covers_woken (s.view a) x e σ who mask w unmet)
  where
    both : σ ≢ 0 → ((next s a (step.Wake who mask w)).task (owner x)).state ≡ σ
        → (((next s a (step.Wake who mask w)).task (owner x)).state ≡ (s.task (owner x)).state)
        × (owner x ≡ who → meets mask (s.task (owner x)).state ≡ false)
    both ne q = wake_state s a who mask w (owner x) (subst (λ (n : ℕ). n ≢ 0) (sym q) ne)

    unmet : is_page e.kind ≡ false → owner x ≡ who → meets mask σ ≡ false
    unmet np own = let d : (((next s a (step.Wake who mask w)).task (owner x)).state ≡ σ) × (σ ≢ 0) = z.down np in
        let f : (((next s a (step.Wake who mask w)).task (owner x)).state ≡ (s.task (owner x)).state)
        × (owner x ≡ who → meets mask (s.task (owner x)).state ≡ false) = both d.1 d.0 in
        subst (λ (n : ℕ). meets mask n ≡ false) (sym f.0 ∙ d.0) (f.1 own)

pub ahead_begun : (o : Option Walk) (aim : Option Aim) (g : Bool) (c : Watch) (σ p : ℕ)
    → IsTrue (ahead o g c σ p) → IsTrue (ahead (begun o aim) false c σ p)
ahead_begun o None g c σ p h = grind arith
ahead_begun None (Some a) g c σ p h = grind arith
ahead_begun (Some w) (Some a) g c σ p h = grind arith

gone_locked : (v : View) (h : ℕ) (aim : Option Aim) (w x : ℕ) (e : Entry)
    → gone (after (step.Lock h aim w) v) x e ≡ false
gone_locked v h aim w x e = grind arith

covers_locked : (v : View) (h : ℕ) (aim : Option Aim) (w x : ℕ) (e : Entry) (σ : ℕ) → IsTrue (covers v x e σ)
    → IsTrue (covers (after (step.Lock h aim w) v) x e σ)
covers_locked v h aim w x e σ q = grind (
  arith,
  gone_locked v h aim w x e,
  ahead_begun v.walk aim (gone v x e) e.watch σ e.place,
)

pub lock_moves : (s : Table) (a h : ℕ) (aim : Option Aim) (w : ℕ) → Moves s a (step.Lock h aim w)
lock_moves s a h aim w x e on m σ z = framed s a (step.Lock h aim w) x e on m σ
    (back_waits s a (step.Lock h aim w) x e on m σ (λ q. q) (λ q. q) (λ _ q. q) (λ q. q) z) (λ q. q)
    (covers_locked (s.view a) h aim w x e σ)

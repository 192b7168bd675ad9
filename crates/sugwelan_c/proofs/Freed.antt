-- A code that is 0, or is another number.
use Rattle.std.proofs.Common.{◌≡◌, ℕ, ℤ, pos, negsuc, ◌<◌, ◌^◌, [], ◌∷◌, refl, sym, ap, subst, lit<, w32, eqb→eq}
use Prim.Native.Nat.{zero, suc}
use mathlib.Core.Bool.{not}
use lib.Dec.{T, eqb}
use lib.Signed.{mag}
use mir.Val.{of_z, vint, hbits}
use seplogic.Ra.Ura.{Ura}
use base.Logic.{ent, id⊢}
use types.Logic.{Logic, sem}
use denote.RawPtr.{Ptr}
use denote.Signed.{sint_Fixes}
use Rattle.sugwelan_c.specs.Blocks.{left, owned}
use Rattle.wq_checked.specs.Checked.{Checked}

pub at_zero : (s : ℤ) → mag s < 2 ^ hbits w32 → T (eqb (of_z w32 s) 0) → s ≡ pos 0
at_zero s small at =
    let bits : of_z w32 s ≡ 0 = eqb→eq (of_z w32 s) 0 at in
    sint_Fixes w32 s (pos 0) (vint w32 0 ∷ []) (ap (λ (n : ℕ). vint w32 n ∷ []) (sym bits), small) (refl, lit< tt)

pub not_zero : (s : ℤ) → T (not (eqb (of_z w32 s) 0)) → s ≡ pos 0 → ⊥
not_zero s other is = subst (λ (t : ℤ). T (not (eqb (of_z w32 t) 0))) is other

pub stays : {M : Type 1} {𝓤 : Ura M} (𝓛 : Logic 𝓤) (s : ℤ) (p : Ptr) (h : Checked) → (s ≡ pos 0 → ⊥)
    → ent 𝓤 (sem 𝓛 (owned p h)) (sem 𝓛 (left s p h))
stays 𝓛 (pos zero) p h not = absurd (not refl)
stays {𝓤 = 𝓤} 𝓛 (pos (suc n)) p h not = id⊢ 𝓤 (sem 𝓛 (owned p h))
stays {𝓤 = 𝓤} 𝓛 (negsuc n) p h not = id⊢ 𝓤 (sem 𝓛 (owned p h))

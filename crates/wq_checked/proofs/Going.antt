-- What an advance leaves under way and tells, by equations.
use Rattle.std.proofs.Common.{sym, subst}
use Rattle.std.specs.Prelude.{ℕ, ◌≡◌, ◌||◌, Bool, Option, Some, None}
use Rattle.wait_model.specs.declared.watches.Watch.{Watch}
use Rattle.wait_model.specs.declared.watches.Watch.TheVariants as watch
use Rattle.wait_rule.specs.{Bits.taken_bits, Known.Known}
use Rattle.wq_checked.specs.{Kept.keeps_in, Locks.refused_with, declared.calls.Awaited.Awaited}
use Rattle.wq_checked.specs.{declared.calls.Progress.Progress, declared.calls.Running.Running}
use Rattle.wq_checked.specs.declared.kept_bits.KeptBits.{KeptBits}
use Rattle.wq_checked.specs.Calls.{CameFrom, FitsProgress, WentOn}

pub went_as : (may : Bool) (start : Known) (first : Running) (new : Known) (r s : Running) (p u : Progress) → r ≡ s → p ≡ u
    → WentOn may start first new s u → WentOn may start first new r p
went_as may start first new r s p u a b w = subst (λ (x : Running). WentOn may start first new x p) (sym a)
    (subst (WentOn may start first new s) (sym b) w)

-- a stretch that was refused its lock
pub went_refused : (may : Bool) (start : Known) (first : Running) (new : Known) (now : Running) (o : Option Awaited)
    → CameFrom may start first new now → FitsProgress now (refused_with o) → WentOn may start first new now (refused_with o)
went_refused may start first new now (Some a) came fits = (came, fits)
went_refused may start first new now None came fits = (came, fits)

-- the bits that are noted, by an equation
pub noted : (ks more : KeptBits) (w b : ℕ) (g h : Bool) → g ≡ h
    → ((d : Watch) → keeps_in more d ≡ (taken_bits (watch.Bit w b) g d || keeps_in ks d))
    → (d : Watch) → keeps_in more d ≡ (taken_bits (watch.Bit w b) h d || keeps_in ks d)
noted ks more w b g h is notes = subst (λ (t : Bool). (d : Watch) → keeps_in more d ≡ (taken_bits (watch.Bit w b) t d
    || keeps_in ks d)) is notes

-- A wake that has ended leaves nobody asleep for whom it was.
use Rattle.std.proofs.Common.{◌∙◌, refl}
use Rattle.std.specs.Prelude.{◌≡◌, Bool, true, false, not, ◌&&◌}
use Rattle.wait_model.specs.{declared.watches.Aim.Aim, Tasks.meets, Watches.same, Watches.mask_of}
use Rattle.wait_rule.specs.{Known.Known, LosesNone.OwesNoneOf, Says.told_of}
use Rattle.wait_rule.proofs.KnownLaws.LosesNone.{settled_leave_none}
use Rattle.wq_head.specs.{LosesNone.WakesLoseNone, Walks.HasEnded}

ended_owes_none : (old new : Known) (a : Aim) → HasEnded old new a → OwesNoneOf a.watch a.mode new
ended_owes_none old new a ended d σ is met = ended.owes d σ
    ∙ by ((told_of old).duty.owes d σ) (same d a.watch) (meets (mask_of a.mode) σ) is met
  where
    by : (owed is_it meet : Bool) → is_it ≡ true → meet ≡ true → (owed && not (is_it && meet)) ≡ false
    by false is_it meet p q = refl
    by true true true p q = refl
    by true true false p q = absurd (cc)
    by true false meet p q = absurd (cc)

pub wakes_lose_none : WakesLoseNone
wakes_lose_none old new a ended = settled_leave_none a.watch a.mode new (ended_owes_none old new a ended)

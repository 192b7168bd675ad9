-- Who published a variable leaves nobody asleep on it.
use Rattle.std.proofs.Common.{inl, inr, subst, sym}
use Rattle.std.proofs.lemmas.Bool.Decides.{eqb_tells}
use Rattle.std.specs.Prelude.{ℕ, ◌≡◌, ◌≢◌, ◌⊎◌, true, false, eqb}
use Rattle.wait_model.specs.declared.queues.Walked.{Walked}
use Rattle.wait_model.specs.declared.watches.Mode.TheVariants as mode
use Rattle.wait_model.specs.declared.watches.Watch.TheVariants as watch
use Rattle.wait_rule.specs.{Known.Known, LosesNone.OwesNoneOf, Says.told_of}
use Rattle.wait_rule.proofs.KnownLaws.LosesNone.{settled_leave_none}
use Rattle.var_wait.specs.{LosesNone.PublishesLoseNone, VarPublishes.HasPublished}

published_owes_none : (old new : Known) (v value : ℕ) (walked : Walked) → HasPublished old new v value walked
    → OwesNoneOf (watch.Var v 0) mode.Normal new
published_owes_none old new v value walked has (watch.Var u o) σ is met = by (eqb_tells u v)
  where
    by : ((eqb u v ≡ true) × (u ≡ v)) ⊎ ((eqb u v ≡ false) × (u ≢ v))
        → (told_of new).duty.owes (watch.Var u o) σ ≡ false
    by (inl it) = subst (λ n. (told_of new).duty.owes (watch.Var n o) σ ≡ false) (sym it.1) (has.over o σ met)
    by (inr other) = absurd (let no : eqb u v ≡ false = other.0 in let yes : eqb u v ≡ true = is in cc)
published_owes_none old new v value walked has (watch.Plain c) σ is met =
    absurd (let no : false ≡ true = is in cc)
published_owes_none old new v value walked has (watch.Done c) σ is met =
    absurd (let no : false ≡ true = is in cc)
published_owes_none old new v value walked has (watch.Bit w b) σ is met =
    absurd (let no : false ≡ true = is in cc)

pub publishes_lose_none : PublishesLoseNone
publishes_lose_none old new v value walked has = settled_leave_none (watch.Var v 0) mode.Normal new
    (published_owes_none old new v value walked has)

-- A ready task that takes a condition, tries a bit, or makes a single step that is about no head is ready after it.
use Rattle.std.proofs.Common.{refl, sym, subst}
use Rattle.std.specs.Prelude.{ℕ, ◌≡◌, ◌<◌, ◌||◌, Bool, true, false, Option}
use Rattle.wait_model.specs.declared.calls.Answer.TheVariants as answer
use Rattle.wait_model.specs.declared.calls.Call.TheVariants as calls
use Rattle.wait_model.specs.{declared.layout.TheConstants.PLAIN_CONDITIONS, declared.watches.Watch.Watch}
use Rattle.wait_model.specs.declared.points.BitPoint.TheVariants as biting
use Rattle.wait_model.specs.declared.points.Next.TheVariants as next
use Rattle.wait_model.specs.declared.points.Point.TheVariants as at
use Rattle.wait_model.specs.declared.watches.Watch.TheVariants as watch
use Rattle.wait_model.specs.declared.steps.Step.TheVariants as step
use Rattle.wait_rule.specs.{declared.journal.Item.Item, Aside.IsAsideItem, Bits.SetsBit, Bits.taken_bits}
use Rattle.wait_rule.specs.{HandedPermits.StaysOff, Known.Known, Says.added, Stays.Carries, Stays.unchanged}
use Rattle.wait_rule.specs.declared.journal.Item.TheVariants as item
use Rattle.wait_rule.proofs.KnownLaws.AsideCalls.{items_stay_off}
use Rattle.wait_event.specs.Conds.{HasTakenCond}
use Rattle.bit_wait.specs.Tries.{HasTriedBit, tried_answer}
use Rattle.wq_checked.specs.{Kept.IsReadyWith, Kept.keeps_in, Begins.Does, Signals.Woke, Signals.who_if}
use Rattle.wq_checked.specs.declared.kept_bits.KeptBits.{KeptBits}
use Rattle.wq_checked.specs.declared.calls.Answer.TheVariants as told
use Rattle.wq_checked.specs.declared.calls.Call.TheVariants as call
use Rattle.wq_checked.proofs.Elsewhere.{bit_low, calls_off, plain_low}
use Rattle.wq_checked.proofs.Readiness.{ready_carried, ready_sets}

pub took_ready : (ks : KeptBits) (old new : Known) (c v : ℕ) → c < PLAIN_CONDITIONS → HasTakenCond old new c v
    → Carries unchanged old new → IsReadyWith ks old → IsReadyWith ks new
took_ready ks old new c v few took carries r = ready_carried ks old new carries
    (calls_off (calls.Take c) old new (next.Go at.Take) (next.Ends (answer.Value v)) (plain_low c few) r.told took) r

pub tried_ready : (ks more : KeptBits) (old new : Known) (w b : ℕ) (clear : Bool)
    → ((d : Watch) → keeps_in more d ≡ (taken_bits (watch.Bit w b) clear d || keeps_in ks d))
    → HasTriedBit old new w b clear → SetsBit old new (watch.Bit w b) clear → IsReadyWith ks old → IsReadyWith more new
tried_ready ks more old new w b clear notes tried sets r = ready_sets ks more old new w b clear notes sets
    (calls_off (calls.TryBit w b) old new (next.Go (at.Bit biting.Try)) (next.Ends (tried_answer clear)) (bit_low w b)
    r.told tried) r

-- a single step that is about no head, and an add to a tally
pub item_ready : (ks : KeptBits) (old new : Known) (x : Item) → IsAsideItem x → new ≡ added old x
    → Carries unchanged old new → IsReadyWith ks old → IsReadyWith ks new
item_ready ks old new x aside is carries r = ready_carried ks old new carries
    (subst (λ (k : Known). StaysOff old k) (sym is) (items_stay_off old x aside)) r

-- a signal that was raised, and its wake that was tried
pub raised_ready : (ks : KeptBits) (old mid new : Known) (who mask found met : ℕ) (fatal : Bool)
    → mid ≡ added old (item.Made (step.Signal who fatal found)) → Carries unchanged old mid
    → new ≡ added mid (item.Made (step.Wake who mask met)) → Carries unchanged mid new → IsReadyWith ks old → IsReadyWith ks new
raised_ready ks old mid new who mask found met fatal sent still woke carries r =
    item_ready ks mid new (item.Made (step.Wake who mask met)) tt woke carries
    (item_ready ks old mid (item.Made (step.Signal who fatal found)) tt sent still r)

-- what it tells, by whether its thread is to be roused
pub raised_as : (old new : Known) (who : ℕ) (fatal : Bool) (ks : KeptBits) (b : Bool) (o : Option ℕ) → o ≡ who_if who b
    → Woke old new who fatal b → Does (call.Signal who fatal) old new ks (told.Raised o)
raised_as old new who fatal ks b o is w =
    subst (λ (x : Option ℕ). Does (call.Signal who fatal) old new ks (told.Raised x)) (sym is) (by b w)
  where
    by : (b : Bool) → Woke old new who fatal b → Does (call.Signal who fatal) old new ks (told.Raised (who_if who b))
    by true w = (refl, w)
    by false w = w

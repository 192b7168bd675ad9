-- Calls at a completion's head: stretches that queue nothing at one leave the own entry off, and a hold owes what its
-- steps say.
use Rattle.std.proofs.Common.{refl, sym, ◌∙◌, ap, subst, append_assoc, append-nil}
use Rattle.std.specs.Prelude.{ℕ, ◌≡◌, ◌⊎◌, false, Option, None, List, [], ◌∷◌, ◌++◌}
use Rattle.wait_model.specs.{declared.steps.Step.Step, declared.watches.Aim.Aim, Runs.own}
use Rattle.wait_model.specs.Permits.{ShowsNobody, dealt, done_head, shows_at}
use Rattle.wait_model.specs.declared.steps.Step.TheVariants as step
use Rattle.wait_rule.specs.{Interleavings.table_of, Known.Known, Says.history_of, Says.told_of}
use Rattle.wait_rule.specs.HandedPermits.{NewcomersLeaveNone, OwesNoPermit, StaysOff}
use Rattle.wait_rule.specs.LeftEntries.{LeftOff, Order, OrderOf, ShowsNoOwn}
use Rattle.wait_rule.proofs.KnownLaws.HandedSteps.{AddsLow, AllAddLow, IsAwayAt, away_all, order_front, order_step}
use Rattle.wait_rule.proofs.KnownLaws.HeldPermits.{AreInside, IsInside, Owing, owed_by, owes_none, owing_all}
use Rattle.wait_rule.proofs.KnownLaws.HeldPermits.{owing_lock}
use Rattle.wait_rule.proofs.KnownLaws.Moments.{moment_of}

-- who holds no lock sees no entry
pub shows_none : (k : Known) → (told_of k).hold.head ≡ None → ShowsNoOwn k
shows_none k out d o = ap (shows_at (done_head d)) ((moment_of (table_of o.steps)
    (record { steps = o.steps; allowed = o.may; handed = o.on; leads = refl }) k.view.number (history_of k) []
    (o.is ∙ sym (append-nil (history_of k)))).sees out (own k.view.number))

-- who holds no lock and has left its own entry off
pub away_of : (d : ℕ) (k : Known) → (told_of k).hold.head ≡ None → LeftOff d k → OrderOf k
    → IsAwayAt d k.view.number (history_of k)
away_of d k out left o = record { left = left o; away = shows_none k out d o }

-- an order that leads to the history of the same task
pub order_as : (a : ℕ) (k : Known) (front : List Step) → k.view.number ≡ a → history_of k ≡ front → OrderOf k
    → Order a front
order_as a k front same is o = record {
  steps = o.steps;
  may = o.may;
  on = o.on;
  is = subst (λ (i : ℕ). (table_of o.steps).history i ≡ history_of k) same o.is ∙ is;
}

-- a stretch in which nothing is queued at a completion
pub left_on : (old new : Known) (es : List Step) → new.view.number ≡ old.view.number
    → history_of new ≡ history_of old ++ es → AllAddLow es → (told_of old).hold.head ≡ None → StaysOff old new
left_on old new es same more none out d left o =
    let front = order_as old.view.number new (history_of old ++ es) same more o in
    let w = away_all d old.view.number (history_of old) es front none
    (away_of d old out left (order_front old.view.number (history_of old) es front)) in
    subst (λ (i : ℕ). (dealt d i (history_of new)).left ≡ false) (sym same)
    (subst (λ (l : List Step). (dealt d old.view.number l).left ≡ false) (sym more) w.left)

-- from the start on
pub newcomers_leave_none : NewcomersLeaveNone
newcomers_leave_none domain number next spare d o = refl

-- what a hold has made of itself
pub inside_adds_none : (es : List Step) → AreInside es → AllAddLow es
inside_adds_none [] is = tt
inside_adds_none (e ∷ es) is = (one e is.0, inside_adds_none es is.1)
  where
    one : (e : Step) → IsInside e → AddsLow e
    one (step.Queue x e) is = absurd is
    one e is = tt

pub adds_join : (es fs : List Step) → AllAddLow es → AllAddLow fs → AllAddLow (es ++ fs)
adds_join [] fs one two = two
adds_join (e ∷ es) fs one two = (one.0, adds_join es fs one.1 two)

module _ (d a : ℕ) (front : List Step) (h : ℕ) (aim : Option Aim) (w : ℕ) (is : h ≡ done_head d) where
  pub hold_owes : (es : List Step) → AreInside es → Order a (front ++ step.Lock h aim w ∷ es) → IsAwayAt d a front
      → Owing d a (front ++ step.Lock h aim w ∷ es) (owed_by d es 0)
  hold_owes es inside o k = subst (λ (l : List Step). Owing d a l (owed_by d es 0))
      (append_assoc front (step.Lock h aim w ∷ []) es)
      (owing_all d a (front ++ step.Lock h aim w ∷ []) 0 es
      (subst (Order a) (sym (append_assoc front (step.Lock h aim w ∷ []) es)) o) inside
      (owing_lock d a front h aim w is (order_step a front (step.Lock h aim w) es o) k))

-- A hold of the completion's head so far, which has queued nothing: it may end where it owes nothing, or has seen
-- nobody queued.
pub hold_may_end : (d : ℕ) (old m : Known) (h : ℕ) (aim : Option Aim) (w : ℕ) (es : List Step)
    → h ≡ done_head d → m.at ≡ done_head d → m.view.number ≡ old.view.number
    → history_of m ≡ history_of old ++ step.Lock h aim w ∷ es → AreInside es → (told_of old).hold.head ≡ None
    → LeftOff d old → (owed_by d es 0 ≡ 0) ⊎ ShowsNobody (done_head d) (told_of m) → OwesNoPermit m
hold_may_end d old m h aim w es is at same more inside out left done = owes_none d m at (λ o. (
  owed_by d es 0,
  subst (λ (i : ℕ). Owing d i (history_of m) (owed_by d es 0)) (sym same)
      (subst (λ (l : List Step). Owing d old.view.number l (owed_by d es 0)) (sym more) (owing o)),
  done,
))
  where
    owing : OrderOf m → Owing d old.view.number (history_of old ++ step.Lock h aim w ∷ es) (owed_by d es 0)
    owing o =
        let front = order_as old.view.number m (history_of old ++ step.Lock h aim w ∷ es) same more o in
        hold_owes d old.view.number (history_of old) h aim w is es inside front
        (away_of d old out left (order_front old.view.number (history_of old) (step.Lock h aim w ∷ es) front))

-- What a hold of a completion's head owes, by the task's own steps in it, and that its unlock hands permits on.
use Rattle.std.proofs.Common.{refl, sym, ◌∙◌, ap, subst, arith, append_assoc, append-nil, inl, inr}
use Rattle.std.proofs.lemmas.Bool.Decides.{eqb_tells}
use Rattle.std.specs.Prelude.{ℕ, ◌≡◌, ◌+◌, ◌-◌, ◌⊎◌, ◌==◌, ◌&&◌, not, Bool, true, false, if◌then◌else◌, Option, Some}
use Rattle.std.specs.Prelude.{List, [], ◌∷◌, ◌++◌}
use Rattle.wait_model.specs.{declared.steps.Step.Step, declared.watches.Aim.Aim, declared.watches.Entry.Entry}
use Rattle.wait_model.specs.{Fold.after, Fold.view_of, Runs.own, Views.View, Views.blank, Watches.head_of}
use Rattle.wait_model.specs.{Watches.stands_at, Words.entry_of, Words.flag}
use Rattle.wait_model.specs.Permits.{Dealt, MayGiveBack, ShowsNobody, after_read, after_store, dealt, debt_after}
use Rattle.wait_model.specs.Permits.{done_head, is_in, is_seen, none_dealt}
use Rattle.wait_model.specs.declared.steps.Step.TheVariants as step
use Rattle.wait_model.specs.declared.watches.Watch.TheVariants as watch
use Rattle.wait_model.proofs.HistoryLaws.HoldLooks.{after_snoc}
use Rattle.wait_model.proofs.PermitLaws.OwnTurns.{clash, deals_snoc}
use Rattle.wait_rule.specs.{HandedPermits.OwesNoPermit, Interleavings.table_of, Known.Known, Says.history_of}
use Rattle.wait_rule.specs.Says.{told_of}
use Rattle.wait_rule.specs.LeftEntries.{Order, OrderOf, dealt_of}
use Rattle.wait_rule.proofs.KnownLaws.HandedPermits.{cell_is}
use Rattle.wait_rule.proofs.KnownLaws.HandedSteps.{AddsLow, IsAwayAt, OrderStep, away_next, off_there, order_step}
use Rattle.wait_rule.proofs.KnownLaws.HandedSteps.{order_view}

-- In a hold of the head, with so many permits to hand on or to take.
pub record Owing (d a : ℕ) (front : List Step) (n : ℕ) : Type 0 where
  pub head : (view_of front).hold.head ≡ Some (done_head d)
  pub away : IsAwayAt d a front
  pub debt : (dealt d a front).debt ≡ n

-- what the hold owes after one more step in it, which queues nothing and gives no lock back
abbrev pub owed : ℕ → Step → ℕ → ℕ
owed d (step.Load (watch.Done c) r) n = if c == d then after_read r n else n
owed d (step.Publish (watch.Done c) m r) n = if c == d then after_store m r n else n
owed d (step.Consume (watch.Done c) m r) n = if c == d then after_store m r n else n
owed d (step.Unqueue y) n = n - 1
owed d e n = n

abbrev pub owed_by : ℕ → List Step → ℕ → ℕ
owed_by d [] n = n
owed_by d (e ∷ es) n = owed_by d es (owed d e n)

abbrev pub IsInside : Step → Type 0
IsInside (step.Lock h aim w) = ⊥
IsInside (step.Unlock h sp) = ⊥
IsInside (step.Queue x e) = ⊥
IsInside e = Unit {0}

abbrev pub AreInside : List Step → Type 0
AreInside [] = Unit {0}
AreInside (e ∷ es) = IsInside e × AreInside es

inside_head : (v : View) (e : Step) → IsInside e → (after e v).hold.head ≡ v.hold.head
inside_head v (step.Lock h aim w) is = absurd is
inside_head v e is = grind arith

inside_adds : (e : Step) → IsInside e → AddsLow e
inside_adds (step.Queue x e) is = absurd is
inside_adds e is = tt

abbrev TakesOthers : ℕ → Step → Type 0
TakesOthers x (step.Unqueue y) = (y == x) ≡ false
TakesOthers x e = Unit {0}

none_found : (b c l : Bool) → l ≡ false → (b && (l && c)) ≡ false
none_found true c l is = ap (λ (t : Bool). t && c) is
none_found false c l is = refl

inside_debt : (d x : ℕ) (v : View) (w : Dealt) (n : ℕ) (e : Step) → IsInside e → TakesOthers x e → w.left ≡ false
    → w.debt ≡ n → debt_after d x v w e ≡ owed d e n
inside_debt d x v w n (step.Saw y f) is others left debt =
    let z = none_found (is_in d v && (y == x)) (not (is_seen (v.hold.book x)) && not (stands_at (entry_of f)
    (done_head d))) w.left left in
    let k : w.debt + flag ((is_in d v && (y == x)) && (w.left && (not (is_seen (v.hold.book x))
    && not (stands_at (entry_of f) (done_head d))))) ≡ w.debt + 0 = ap (λ (b : Bool). w.debt + flag b) z in
    k ∙ omega (arith, debt)
inside_debt d x v w n (step.Unqueue y) is others left debt =
    let k : w.debt - flag (not (y == x)) ≡ w.debt - 1 = ap (λ (b : Bool). w.debt - flag (not b)) others in
    k ∙ ap (λ (m : ℕ). m - 1) debt
inside_debt d x v w n (step.Load (watch.Done c) r) is others left debt =
    ap (λ (m : ℕ). if c == d then after_read r m else m) debt
inside_debt d x v w n (step.Publish (watch.Done c) m r) is others left debt =
    ap (λ (k : ℕ). if c == d then after_store m r k else k) debt
inside_debt d x v w n (step.Consume (watch.Done c) m r) is others left debt =
    ap (λ (k : ℕ). if c == d then after_store m r k else k) debt
inside_debt d x v w n e is others left debt = grind arith

-- the hold takes off entries of its head alone, and the own one is off
takes_others : (d a : ℕ) (front : List Step) (e : Step) → OrderStep a front e
    → (view_of front).hold.head ≡ Some (done_head d) → IsAwayAt d a front → TakesOthers (own a) e
takes_others d a front (step.Unqueue y) o held w = elim (eqb_tells y (own a)) [
  | inl q ↦ absurd (
      let s = table_of o.order.steps in
      let there : Some (head_of o.allowed.0.watch) ≡ Some (done_head d) =
      sym o.allowed.2 ∙ (ap (λ (v : View). v.hold.head) (order_view a front o.order) ∙ held) in
      let at : head_of o.allowed.0.watch ≡ done_head d = cc in
      let stands : stands_at (Some o.allowed.0) (done_head d) ≡ true = at_head (head_of o.allowed.0.watch) (done_head d)
      at in
      clash (stands_at (s.entry (own a)) (done_head d))
      (ap (λ (z : Option Entry). stands_at z (done_head d)) (ap s.entry (sym q.1) ∙ o.allowed.1) ∙ stands)
      (off_there d a front o.order w))
  | inr q ↦ q.0
]
  where
    at_head : (h i : ℕ) → h ≡ i → (h == i) ≡ true
    at_head h i is = grind (arith, is)
takes_others d a front e o held w = tt

pub owing_next : (d a : ℕ) (front : List Step) (n : ℕ) (e : Step) → OrderStep a front e → IsInside e
    → Owing d a front n → Owing d a (front ++ e ∷ []) (owed d e n)
owing_next d a front n e o is w = record {
  head = ap (λ (v : View). v.hold.head) (after_snoc blank front e) ∙ (inside_head (view_of front) e is ∙ w.head);
  away = away_next d a front e o (inside_adds e is) w.away;
  debt = ap (λ (u : Dealt). u.debt) (deals_snoc d (own a) blank none_dealt front e)
      ∙ inside_debt d (own a) (view_of front) (dealt d a front) n e is (takes_others d a front e o w.head w.away)
      w.away.left w.debt;
}

pub owing_all : (d a : ℕ) (front : List Step) (n : ℕ) (es : List Step) → Order a (front ++ es) → AreInside es
    → Owing d a front n → Owing d a (front ++ es) (owed_by d es n)
owing_all d a front n [] o is w = subst (λ (l : List Step). Owing d a l n) (sym (append-nil front)) w
owing_all d a front n (e ∷ es) o is w = subst (λ (l : List Step). Owing d a l (owed_by d es (owed d e n)))
    (append_assoc front (e ∷ []) es)
    (owing_all d a (front ++ e ∷ []) (owed d e n) es (subst (Order a) (sym (append_assoc front (e ∷ []) es)) o) is.1
    (owing_next d a front n e (order_step a front e es o) is.0 w))

-- a lock of the head begins a hold that owes nothing
pub owing_lock : (d a : ℕ) (front : List Step) (h : ℕ) (aim : Option Aim) (w : ℕ) → h ≡ done_head d
    → OrderStep a front (step.Lock h aim w) → IsAwayAt d a front → Owing d a (front ++ step.Lock h aim w ∷ []) 0
owing_lock d a front h aim w is o k = record {
  head = ap (λ (v : View). v.hold.head) (after_snoc blank front (step.Lock h aim w)) ∙ ap (λ (i : ℕ). Some i) is;
  away = away_next d a front (step.Lock h aim w) o tt k;
  debt = ap (λ (u : Dealt). u.debt) (deals_snoc d (own a) blank none_dealt front (step.Lock h aim w))
      ∙ ap (λ (b : Bool). if b then 0 else (dealt d a front).debt) (same h (done_head d) is);
}
  where
    same : (i j : ℕ) → i ≡ j → (i == j) ≡ true
    same i j q = grind (arith, q)

-- a hold that owes nothing, or that has seen nobody queued, may end
pub owes_none : (d : ℕ) (k : Known) → k.at ≡ done_head d
    → (OrderOf k → (n : ℕ) × Owing d k.view.number (history_of k) n × ((n ≡ 0) ⊎ ShowsNobody (done_head d) (told_of k)))
    → OwesNoPermit k
owes_none d k at owes = inr (λ o. subst (λ (i : ℕ). MayGiveBack i (own k.view.number) (told_of k) (dealt_of i k))
    (sym (cell_is k.at d at)) (give o))
  where
    give : OrderOf k → MayGiveBack d (own k.view.number) (told_of k) (dealt_of d k)
    give o =
        let w = owes o in (
          λ left. absurd (clash (dealt_of d k).left left w.1.away.left),
          (elim w.2 [ inl none ↦ inl (w.1.debt ∙ none) | inr nobody ↦ inr nobody ]),
        )

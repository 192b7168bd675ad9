-- The hold of a `down` that hands on: what it owes, and that it may end.
use Rattle.std.proofs.Common.{◌∙◌, ap, sym, refl, subst, arith, append_assoc, append-nil, inl, inr}
use Rattle.std.proofs.lemmas.Bool.Decides.{eqb_tells}
use Rattle.std.specs.Prelude.{ℕ, ◌≡◌, ◌+◌, ◌-◌, ◌==◌, ◌&&◌, ◌⊎◌, not, Bool, true, false, if◌then◌else◌, Option, Some}
use Rattle.std.specs.Prelude.{None, List, [], ◌∷◌, ◌++◌}
use Rattle.wait_model.specs.{declared.steps.Step.Step, declared.watches.Entry.Entry, Fold.after, Fold.view_of, Runs.own}
use Rattle.wait_model.specs.{Tables.Table, Watches.head_of, Watches.stands_at, Words.entry_of, Words.flag}
use Rattle.wait_model.specs.Permits.{Dealt, MayGiveBack, ShowsNobody, after_read, after_store, dealt, debt_after}
use Rattle.wait_model.specs.Permits.{done_head, is_in, is_seen, none_dealt, shows_at}
use Rattle.wait_model.specs.Views.{Look, View, blank, elsewhere, look_at, off, shown}
use Rattle.wait_model.specs.declared.steps.Step.TheVariants as step
use Rattle.wait_model.specs.declared.watches.Watch.TheVariants as watch
use Rattle.wait_model.proofs.{Functions.put_at, HistoryLaws.HoldLooks.after_snoc, PermitLaws.OwnTurns.clash}
use Rattle.wait_model.proofs.PermitLaws.OwnTurns.{deals_snoc}
use Rattle.wait_model.proofs.PermitLaws.PermitTurns.{look_seen, not_unseen, seen_shows}
use Rattle.wait_rule.specs.{HandedPermits.OwesNoPermit, Interleavings.table_of, Known.Known, Says.history_of}
use Rattle.wait_rule.specs.Says.{told_of}
use Rattle.wait_rule.specs.LeftEntries.{Order, OrderOf, dealt_of}
use Rattle.wait_rule.proofs.{KnownLaws.CalledPermits.order_as, KnownLaws.HandedPermits.cell_is}
use Rattle.wait_rule.proofs.KnownLaws.Moments.{kept_of}
use Rattle.wait_rule.proofs.KnownLaws.HandedSteps.{OrderStep, order_front, order_step, order_view}
use Rattle.wait_rule.proofs.KnownLaws.HeldPermits.{AreInside, IsInside, owed, owed_by}
use Rattle.completion_cell.proofs.Permits.{Inside}

-- in a hold of the head that has seen the own entry off, with so many permits to take or to hand on
pub record Passes (d a : ℕ) (front : List Step) (n : ℕ) : Type 0 where
  pub head : (view_of front).hold.head ≡ Some (done_head d)
  pub seen : is_seen ((view_of front).hold.book (own a)) ≡ true
  pub away : shows_at (done_head d) ((view_of front).hold.book (own a)) ≡ false
  pub debt : (dealt d a front).debt ≡ n

-- then it is queued nowhere there
none_there : (d a n : ℕ) (front : List Step) (o : Order a front) → Passes d a front n
    → stands_at ((table_of o.steps).entry (own a)) (done_head d) ≡ false
none_there d a n front o w = by (stands_at (s.entry (own a)) (done_head d)) refl
  where
    s : Table
    s = table_of o.steps

    there : stands_at (s.entry (own a)) (done_head d) ≡ true → ⊥
    there st =
        let told = order_view a front o in
        let held = ap (λ (v : View). v.hold.head) told ∙ w.head in
        let seen = not_unseen ((s.view a).hold.book (own a)) (ap (λ (v : View). is_seen (v.hold.book (own a))) told
        ∙ w.seen) in
        let shows = seen_shows (done_head d) ((s.view a).hold.book (own a)) (s.entry (own a))
        (((kept_of o.steps o.may).facts.views a).hold.agrees (done_head d) (own a) held) seen st in
        clash (shows_at (done_head d) ((s.view a).hold.book (own a))) shows
        (ap (λ (v : View). shows_at (done_head d) (v.hold.book (own a))) told ∙ w.away)

    by : (b : Bool) → stands_at (s.entry (own a)) (done_head d) ≡ b → stands_at (s.entry (own a)) (done_head d) ≡ false
    by false is = is
    by true is = absurd (there is)

inside_head : (v : View) (e : Step) → IsInside e → (after e v).hold.head ≡ v.hold.head
inside_head v (step.Lock h aim w) is = absurd is
inside_head v (step.Unlock h sp) is = absurd is
inside_head v (step.Queue x e) is = absurd is
inside_head v e is = refl

look_away : (h : ℕ) (o : Option ℕ) (f : Option Entry) → stands_at f h ≡ false → shows_at h (look_at o f) ≡ false
look_away h None f none = refl
look_away h (Some i) None none = refl
look_away h (Some i) (Some e) none = by (head_of e.watch == i)
  where
    by : (b : Bool) → shows_at h (if b then shown e else elsewhere) ≡ false
    by true = none
    by false = refl

abbrev SeesAway : ℕ → ℕ → Step → Type 0
SeesAway d x (step.Saw y w) = x ≡ y → stands_at (entry_of w) (done_head d) ≡ false
SeesAway d x e = Unit {0}

abbrev TakesOthers : ℕ → Step → Type 0
TakesOthers x (step.Unqueue y) = (y == x) ≡ false
TakesOthers x e = Unit {0}

book_seen : (h x : ℕ) (v : View) (e : Step) → IsInside e → v.hold.head ≡ Some h → is_seen (v.hold.book x) ≡ true
    → is_seen ((after e v).hold.book x) ≡ true
book_seen h x v (step.Lock i aim w) is held seen = absurd is
book_seen h x v (step.Unlock i sp) is held seen = absurd is
book_seen h x v (step.Queue y e) is held seen = absurd is
book_seen h x v (step.Saw y f) is held seen = put_at (λ (l : Look). is_seen l ≡ true) v.hold.book y
    (look_at v.hold.head (entry_of f)) x
    (λ _. subst (λ (q : Option ℕ). is_seen (look_at q (entry_of f)) ≡ true) (sym held) (look_seen h (entry_of f)))
    (λ _. seen)
book_seen h x v (step.Unqueue y) is held seen = put_at (λ (l : Look). is_seen l ≡ true) v.hold.book y off x (λ _. refl)
    (λ _. seen)
book_seen h x v e is held seen = seen

book_away : (d x : ℕ) (v : View) (e : Step) → IsInside e → SeesAway d x e
    → shows_at (done_head d) (v.hold.book x) ≡ false → shows_at (done_head d) ((after e v).hold.book x) ≡ false
book_away d x v (step.Lock i aim w) is sees away = absurd is
book_away d x v (step.Unlock i sp) is sees away = absurd is
book_away d x v (step.Queue y e) is sees away = absurd is
book_away d x v (step.Saw y f) is sees away = put_at (λ (l : Look). shows_at (done_head d) l ≡ false) v.hold.book y
    (look_at v.hold.head (entry_of f)) x (λ q. look_away (done_head d) v.hold.head (entry_of f) (sees q)) (λ _. away)
book_away d x v (step.Unqueue y) is sees away = put_at (λ (l : Look). shows_at (done_head d) l ≡ false) v.hold.book y
    off
    x (λ _. refl) (λ _. away)
book_away d x v e is sees away = away

none_found : (b l s c : Bool) → s ≡ true → (b && (l && (not s && c))) ≡ false
none_found false l s c seen = refl
none_found true false s c seen = refl
none_found true true s c seen = ap (λ (t : Bool). not t && c) seen

inside_debt : (d x : ℕ) (v : View) (w : Dealt) (n : ℕ) (e : Step) → IsInside e → TakesOthers x e
    → is_seen (v.hold.book x) ≡ true → w.debt ≡ n → debt_after d x v w e ≡ owed d e n
inside_debt d x v w n (step.Lock h aim f) is others seen debt = absurd is
inside_debt d x v w n (step.Unlock h sp) is others seen debt = absurd is
inside_debt d x v w n (step.Queue y e) is others seen debt = absurd is
inside_debt d x v w n (step.Saw y f) is others seen debt = by (y == x) refl
  where
    by : (b : Bool) → (y == x) ≡ b → debt_after d x v w (step.Saw y f) ≡ n
    by b at =
        let none = none_found (is_in d v && (y == x)) w.left (is_seen (v.hold.book x))
        (not (stands_at (entry_of f) (done_head d))) seen in
        let k : w.debt + flag ((is_in d v && (y == x)) && (w.left && (not (is_seen (v.hold.book x))
        && not (stands_at (entry_of f) (done_head d))))) ≡ w.debt + 0 = ap (λ (c : Bool). w.debt + flag c) none in
        k ∙ omega (arith, debt)
inside_debt d x v w n (step.Unqueue y) is others seen debt =
    let k : w.debt - flag (not (y == x)) ≡ w.debt - 1 = ap (λ (b : Bool). w.debt - flag (not b)) others in
    k ∙ ap (λ (m : ℕ). m - 1) debt
inside_debt d x v w n (step.Load (watch.Done c) r) is others seen debt =
    ap (λ (m : ℕ). if c == d then after_read r m else m) debt
inside_debt d x v w n (step.Publish (watch.Done c) m r) is others seen debt =
    ap (λ (k : ℕ). if c == d then after_store m r k else k) debt
inside_debt d x v w n (step.Consume (watch.Done c) m r) is others seen debt =
    ap (λ (k : ℕ). if c == d then after_store m r k else k) debt
inside_debt d x v w n (step.Load (watch.Plain c) r) is others seen debt = debt
inside_debt d x v w n (step.Load (watch.Bit c b) r) is others seen debt = debt
inside_debt d x v w n (step.Load (watch.Var c o) r) is others seen debt = debt
inside_debt d x v w n (step.Publish (watch.Plain c) m r) is others seen debt = debt
inside_debt d x v w n (step.Publish (watch.Bit c b) m r) is others seen debt = debt
inside_debt d x v w n (step.Publish (watch.Var c o) m r) is others seen debt = debt
inside_debt d x v w n (step.Consume (watch.Plain c) m r) is others seen debt = debt
inside_debt d x v w n (step.Consume (watch.Bit c b) m r) is others seen debt = debt
inside_debt d x v w n (step.Consume (watch.Var c o) m r) is others seen debt = debt
inside_debt d x v w n e is others seen debt = debt

-- the hold takes off entries of its head alone, and the own one is off
takes_others : (d a n : ℕ) (front : List Step) (e : Step) → OrderStep a front e → Passes d a front n
    → TakesOthers (own a) e
takes_others d a n front (step.Unqueue y) o w = elim (eqb_tells y (own a)) [
  | inl q ↦ absurd (
      let s = table_of o.order.steps in
      let there : Some (head_of o.allowed.0.watch) ≡ Some (done_head d) =
      sym o.allowed.2 ∙ (ap (λ (v : View). v.hold.head) (order_view a front o.order) ∙ w.head) in
      let at : head_of o.allowed.0.watch ≡ done_head d = cc in
      let stands : stands_at (Some o.allowed.0) (done_head d) ≡ true = same_head (head_of o.allowed.0.watch)
      (done_head d)
      at in
      clash (stands_at (s.entry (own a)) (done_head d))
      (ap (λ (z : Option Entry). stands_at z (done_head d)) (ap s.entry (sym q.1) ∙ o.allowed.1) ∙ stands)
      (none_there d a n front o.order w))
  | inr q ↦ q.0
]
  where
    same_head : (h i : ℕ) → h ≡ i → (h == i) ≡ true
    same_head h i is = grind (arith, is)
takes_others d a n front e o w = tt

sees_away : (d a n : ℕ) (front : List Step) (e : Step) → OrderStep a front e → Passes d a front n
    → SeesAway d (own a) e
sees_away d a n front (step.Saw y f) o w = λ q. ap (λ (z : Option Entry). stands_at z (done_head d))
    (o.allowed ∙ ap (table_of o.order.steps).entry (sym q)) ∙ none_there d a n front o.order w
sees_away d a n front e o w = tt

passes_next : (d a : ℕ) (front : List Step) (n : ℕ) (e : Step) → OrderStep a front e → IsInside e
    → Passes d a front n → Passes d a (front ++ e ∷ []) (owed d e n)
passes_next d a front n e o is w = record {
  head = ap (λ (v : View). v.hold.head) (after_snoc blank front e) ∙ (inside_head (view_of front) e is ∙ w.head);
  seen = ap (λ (v : View). is_seen (v.hold.book (own a))) (after_snoc blank front e)
      ∙ book_seen (done_head d) (own a) (view_of front) e is w.head w.seen;
  away = ap (λ (v : View). shows_at (done_head d) (v.hold.book (own a))) (after_snoc blank front e)
      ∙ book_away d (own a) (view_of front) e is (sees_away d a n front e o w) w.away;
  debt = ap (λ (u : Dealt). u.debt) (deals_snoc d (own a) blank none_dealt front e)
      ∙ inside_debt d (own a) (view_of front) (dealt d a front) n e is (takes_others d a n front e o w) w.seen w.debt;
}

passes_all : (d a : ℕ) (front : List Step) (n : ℕ) (es : List Step) → Order a (front ++ es) → AreInside es
    → Passes d a front n → Passes d a (front ++ es) (owed_by d es n)
passes_all d a front n [] o is w = subst (λ (l : List Step). Passes d a l n) (sym (append-nil front)) w
passes_all d a front n (e ∷ es) o is w = subst (λ (l : List Step). Passes d a l (owed_by d es (owed d e n)))
    (append_assoc front (e ∷ []) es)
    (passes_all d a (front ++ e ∷ []) (owed d e n) es (subst (Order a) (sym (append_assoc front (e ∷ []) es)) o) is.1
    (passes_next d a front n e (order_step a front e es o) is.0 w))

-- so the hold may end that owes nothing then, or has seen nobody queued
pub passes_owing_none : (d n : ℕ) (old m : Known) (f : ℕ → ℕ) → Inside d old m f → m.at ≡ done_head d
    → m.view.number ≡ old.view.number → (OrderOf old → Passes d old.view.number (history_of old) n)
    → (f n ≡ 0) ⊎ ShowsNobody (done_head d) (told_of m) → OwesNoPermit m
passes_owing_none d n old m f i at number start done = inr (λ order.
    let a = old.view.number in
    let front = order_as a m (history_of old ++ i.made) number i.is order in
    let w : Passes d m.view.number (history_of m) (owed_by d i.made n) =
    subst (λ (j : ℕ). Passes d j (history_of m) (owed_by d i.made n)) (sym number)
    (subst (λ (l : List Step). Passes d a l (owed_by d i.made n)) (sym i.is)
    (passes_all d a (history_of old) n i.made front i.inside (start (order_front a (history_of old) i.made front)))) in
    subst (λ (j : ℕ). MayGiveBack j (own m.view.number) (told_of m) (dealt_of j m)) (sym (cell_is m.at d at)) (
      λ left. not_unseen ((told_of m).hold.book (own m.view.number)) w.seen,
      elim done [ inl none ↦ inl (w.debt ∙ (i.leaves n ∙ none)) | inr nobody ↦ inr nobody ],
    ))

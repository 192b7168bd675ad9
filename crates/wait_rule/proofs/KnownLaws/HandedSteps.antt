-- What a task's own steps leave of permits, by the orders of steps that lead to them.
use Rattle.std.proofs.Common.{refl, sym, ◌∙◌, ap, subst, arith, append_assoc, append-nil, inl, inr}
use Rattle.std.specs.Prelude.{ℕ, ◌≡◌, ◌<◌, ◌==◌, Bool, true, false, if◌then◌else◌, Option, Some, None, List}
use Rattle.std.specs.Prelude.{[], ◌∷◌, ◌++◌}
use Rattle.wait_model.specs.{declared.layout.TheConstants.FIRST_DONE_HEAD, declared.steps.Step.Step}
use Rattle.wait_model.specs.{declared.watches.Entry.Entry, Fold.after, Fold.view_of, PermitFacts.is_settled}
use Rattle.wait_model.specs.{Rows.Allowed, Runs.own, Tables.Table, Watches.head_of, Watches.stands_at, Words.entry_of}
use Rattle.wait_model.specs.Permits.{Dealt, dealt, deals, done_head, is_in, is_seen, none_dealt, shows_at}
use Rattle.wait_model.specs.Views.{View, Hold, Look, off, elsewhere, shown, look_at, blank}
use Rattle.wait_model.specs.declared.steps.Step.TheVariants as step
use Rattle.wait_model.proofs.{HistoryLaws.HoldLooks.after_snoc, PermitLaws.PermitTurns.not_unseen}
use Rattle.wait_model.proofs.{PermitLaws.PermitTurns.seen_shows, StepLaws.UnlockSteps.unlock_hold}
use Rattle.wait_model.proofs.WordLaws.DecodedWords.{owner_own}
use Rattle.wait_model.proofs.Functions.{both_left, both_right, put_at}
use Rattle.wait_model.proofs.PermitLaws.OwnTurns.{clash, deals_snoc, in_is}
use Rattle.wait_rule.specs.LeftEntries.{Order}
use Rattle.wait_rule.specs.Interleavings.{AreAllowed, AreHanded, TaskStep, table_of}
use Rattle.wait_rule.proofs.KnownLaws.HandedPermits.{accounted_of, none_done}
use Rattle.wait_rule.proofs.KnownLaws.Moments.{by_latest, kept_of, never_none, views_of}

-- where one more step of the task follows such an order
pub record OrderStep (a : ℕ) (front : List Step) (e : Step) : Type 0 where
  pub order : Order a front
  pub allowed : Allowed (table_of order.steps) a e

order_at : (xs : List TaskStep) → AreAllowed xs → AreHanded xs → (a : ℕ) (front : List Step) (e : Step)
    (rest : List Step) → (table_of xs).history a ≡ front ++ e ∷ rest → OrderStep a front e
order_at [] may on a front e rest is = never_none front e rest is
order_at (x ∷ xs) may on a front e rest is = by_latest {P = OrderStep a front e} (table_of xs) x may.1 a front e
    (λ q all allowed. record {
      order = record { steps = xs; may = may.2; on = on.1; is = ap (table_of xs).history q ∙ all };
      allowed = allowed;
    }) (λ more early. order_at xs may.2 on.1 a front e more early) rest is

pub order_step : (a : ℕ) (front : List Step) (e : Step) (rest : List Step) → Order a (front ++ e ∷ rest)
    → OrderStep a front e
order_step a front e rest o = order_at o.steps o.may o.on a front e rest o.is

pub order_front : (a : ℕ) (front more : List Step) → Order a (front ++ more) → Order a front
order_front a front [] o = record { steps = o.steps; may = o.may; on = o.on; is = o.is ∙ append-nil front }
order_front a front (e ∷ more) o = (order_step a front e more o).order

pub order_view : (a : ℕ) (front : List Step) (o : Order a front) → (table_of o.steps).view a ≡ view_of front
order_view a front o = views_of o.steps a ∙ ap view_of o.is

-- The task has left its own entry off, and its hold shows it nowhere at the completion's head.
pub record IsAway (d x : ℕ) (v : View) (w : Dealt) : Type 0 where
  pub left : w.left ≡ false
  pub away : shows_at (done_head d) (v.hold.book x) ≡ false

abbrev pub IsAwayAt : ℕ → ℕ → List Step → Type 0
IsAwayAt d a front = IsAway d (own a) (view_of front) (dealt d a front)

-- then it is queued nowhere there
pub off_there : (d a : ℕ) (front : List Step) (o : Order a front) → IsAwayAt d a front
    → stands_at ((table_of o.steps).entry (own a)) (done_head d) ≡ false
off_there d a front o w = by (stands_at (s.entry (own a)) (done_head d)) refl
  where
    s : Table
    s = table_of o.steps

    settled : is_settled d (own a) (s.view a) ≡ true → stands_at (s.entry (own a)) (done_head d) ≡ true → ⊥
    settled is st =
        let held = in_is (s.view a).hold.head (done_head d) (both_left (is_in d (s.view a))
        (is_seen ((s.view a).hold.book (own a))) is) in
        let seen = not_unseen ((s.view a).hold.book (own a)) (both_right (is_in d (s.view a))
        (is_seen ((s.view a).hold.book (own a))) is) in
        let shows = seen_shows (done_head d) ((s.view a).hold.book (own a)) (s.entry (own a))
        (((kept_of o.steps o.may).facts.views a).hold.agrees (done_head d) (own a) held) seen st in
        clash (shows_at (done_head d) ((s.view a).hold.book (own a))) shows
        (ap (λ (v : View). shows_at (done_head d) (v.hold.book (own a))) (order_view a front o) ∙ w.away)

    by : (b : Bool) → stands_at (s.entry (own a)) (done_head d) ≡ b → stands_at (s.entry (own a)) (done_head d) ≡ false
    by false is = is
    by true is = absurd (elim (((accounted_of o.steps o.may o.on).exact d).there (own a) is).1 [
      | inl q ↦ settled (subst (λ (i : ℕ). is_settled d (own a) (s.view i) ≡ true) (owner_own a) q) is
      | inr q ↦ clash (dealt d a (s.history a)).left
          (subst (λ (i : ℕ). (dealt d i (s.history i)).left ≡ true) (owner_own a) q)
          (ap (λ (l : List Step). (dealt d a l).left) o.is ∙ w.left)
    ])

-- One more step leaves it so, unless it queues an entry at a completion.
abbrev pub AddsLow : Step → Type 0
AddsLow (step.Queue x e) = head_of e.watch < FIRST_DONE_HEAD
AddsLow e = Unit {0}

low_apart : (d h : ℕ) → h < FIRST_DONE_HEAD → (h == done_head d) ≡ false
low_apart d h low = by (h == done_head d) refl
  where
    by : (b : Bool) → (h == done_head d) ≡ b → (h == done_head d) ≡ false
    by false q = q
    by true q = absurd (none_done h d low (grind (arith, q)))

abbrev SeesAway : ℕ → ℕ → Step → Type 0
SeesAway d x (step.Saw y w) = x ≡ y → stands_at (entry_of w) (done_head d) ≡ false
SeesAway d x e = Unit {0}

look_away : (h : ℕ) (o : Option ℕ) (f : Option Entry) → stands_at f h ≡ false → shows_at h (look_at o f) ≡ false
look_away h None f none = refl
look_away h (Some i) None none = refl
look_away h (Some i) (Some e) none = by (head_of e.watch == i)
  where
    by : (b : Bool) → shows_at h (if b then shown e else elsewhere) ≡ false
    by true = none
    by false = refl

away_after : (d x : ℕ) (v : View) (w : Dealt) (e : Step) → AddsLow e → SeesAway d x e → IsAway d x v w
    → IsAway d x (after e v) (deals d x v w e)
away_after d x v w (step.Lock h aim f) none sees a = record { left = a.left; away = refl }
away_after d x v w (step.Unlock i sp) none sees a = record {
  left = by (i == done_head d);
  away = ap (λ (k : Hold). shows_at (done_head d) (k.book x)) (unlock_hold v v.walk sp);
}
  where
    by : (b : Bool) → (if b then shows_at (done_head d) (v.hold.book x) else w.left) ≡ false
    by true = a.away
    by false = a.left
away_after d x v w (step.Saw y f) none sees a = record {
  left = a.left;
  away = put_at (λ (l : Look). shows_at (done_head d) l ≡ false) v.hold.book y (look_at v.hold.head (entry_of f)) x
      (λ q. look_away (done_head d) v.hold.head (entry_of f) (sees q)) (λ _. a.away);
}
away_after d x v w (step.Unqueue y) none sees a = record {
  left = a.left;
  away = put_at (λ (l : Look). shows_at (done_head d) l ≡ false) v.hold.book y off x (λ _. refl) (λ _. a.away);
}
away_after d x v w (step.Queue y e) low sees a = record {
  left = a.left;
  away = put_at (λ (l : Look). shows_at (done_head d) l ≡ false) v.hold.book y (shown e) x
      (λ _. low_apart d (head_of e.watch) low) (λ _. a.away);
}
away_after d x v w e none sees a = record { left = a.left; away = a.away }

-- what is known after one more step of a history
away_more : (d a : ℕ) (front : List Step) (e : Step)
    → IsAway d (own a) (after e (view_of front)) (deals d (own a) (view_of front) (dealt d a front) e)
    → IsAwayAt d a (front ++ e ∷ [])
away_more d a front e w = subst (λ (v : View). IsAway d (own a) v (dealt d a (front ++ e ∷ [])))
    (sym (after_snoc blank front e))
    (subst (IsAway d (own a) (after e (view_of front))) (sym (deals_snoc d (own a) blank none_dealt front e)) w)

pub away_next : (d a : ℕ) (front : List Step) (e : Step) → OrderStep a front e → AddsLow e → IsAwayAt d a front
    → IsAwayAt d a (front ++ e ∷ [])
away_next d a front e o none w = away_more d a front e (away_after d (own a) (view_of front) (dealt d a front) e none
    (by e o) w)
  where
    by : (e : Step) → OrderStep a front e → SeesAway d (own a) e
    by (step.Saw y f) o = λ q. ap (λ (z : Option Entry). stands_at z (done_head d))
        (o.allowed ∙ ap (table_of o.order.steps).entry (sym q)) ∙ off_there d a front o.order w
    by e o = tt

abbrev pub AllAddLow : List Step → Type 0
AllAddLow [] = Unit {0}
AllAddLow (e ∷ es) = AddsLow e × AllAddLow es

pub away_all : (d a : ℕ) (front es : List Step) → Order a (front ++ es) → AllAddLow es → IsAwayAt d a front
    → IsAwayAt d a (front ++ es)
away_all d a front [] o none w = subst (IsAwayAt d a) (sym (append-nil front)) w
away_all d a front (e ∷ es) o none w = subst (IsAwayAt d a) (append_assoc front (e ∷ []) es)
    (away_all d a (front ++ e ∷ []) es (subst (Order a) (sym (append_assoc front (e ∷ []) es)) o) none.1
    (away_next d a front e (order_step a front e es o) none.0 w))

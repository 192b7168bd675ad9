-- What the steps of a wait's hold leave of permits, by the task's history, and that a hold which owes nothing may end.
use Rattle.std.proofs.Common.{refl, sym, ◌∙◌, ap, subst, arith, append_assoc, append-nil, eq-eqb, inl, inr}
use Rattle.std.specs.Prelude.{ℕ, ◌≡◌, ◌≢◌, ◌+◌, ◌-◌, ◌==◌, ◌&&◌, not, Bool, true, false, if◌then◌else◌, Option, Some}
use Rattle.std.specs.Prelude.{List, [], ◌∷◌, ◌++◌}
use Rattle.wait_model.specs.{declared.steps.Step.Step, Fold.after, Fold.view_of, Runs.own, Watches.stands_at}
use Rattle.wait_model.specs.{Words.entry_of, Words.flag}
use Rattle.wait_model.specs.Permits.{Dealt, MayGiveBack, after_read, after_store, count_after, dealt, debt_after}
use Rattle.wait_model.specs.Permits.{done_head, is_in, is_seen, leaves, none_dealt}
use Rattle.wait_model.specs.Views.{View, Look, unseen, off, shown, look_at, blank}
use Rattle.wait_model.specs.declared.steps.Step.TheVariants as step
use Rattle.wait_model.specs.declared.watches.Watch.TheVariants as watch
use Rattle.wait_model.proofs.{Functions.put_at, HistoryLaws.HoldLooks.after_snoc, PermitLaws.OwnTurns.deals_snoc}
use Rattle.wait_model.proofs.PermitLaws.OwnTurns.{held_is}
use Rattle.wait_model.proofs.PermitLaws.PermitTurns.{look_seen, not_unseen, seen_of}
use Rattle.wait_rule.specs.{HandedPermits.OwesNoPermit, LeftEntries.dealt_of, Known.Known, Says.history_of}
use Rattle.wait_rule.specs.Says.{told_of}
use Rattle.wait_rule.proofs.{KnownLaws.CalledPermits.order_as, KnownLaws.HandedPermits.cell_is}
use Rattle.wait_rule.proofs.KnownLaws.HandedSteps.{order_front}
use Rattle.completion_cell.specs.HeldPermits.{Deals, HasLoadedCount, Held, IsOfWait, WaitsForPermit, WaitsIn}
use Rattle.completion_cell.specs.HeldPermits.{counted_in_cell, still_owed_in_cell}

pub wait_head : (v : View) (x : ℕ) (o : Option ℕ) (e : Step) → IsOfWait x o e → (after e v).hold.head ≡ v.hold.head
wait_head v x o (step.Saw y w) is = refl
wait_head v x o (step.Look w) is = refl
wait_head v x o (step.State σ) is = refl
wait_head v x o (step.Load (watch.Done c) r) is = refl
wait_head v x o (step.Publish (watch.Done c) m r) is = refl
wait_head v x o (step.Consume (watch.Done c) m r) is = refl
wait_head v x o (step.Unqueue y) is = refl
wait_head v x o (step.Queue y e) is = refl
wait_head v x o e is = absurd is

wait_left : (h y : ℕ) (v : View) (was : Bool) (x : ℕ) (o : Option ℕ) (e : Step) → IsOfWait x o e
    → leaves h y v was e ≡ was
wait_left h y v was x o (step.Saw z w) is = refl
wait_left h y v was x o (step.Look w) is = refl
wait_left h y v was x o (step.State σ) is = refl
wait_left h y v was x o (step.Load (watch.Done c) r) is = refl
wait_left h y v was x o (step.Publish (watch.Done c) m r) is = refl
wait_left h y v was x o (step.Consume (watch.Done c) m r) is = refl
wait_left h y v was x o (step.Unqueue z) is = refl
wait_left h y v was x o (step.Queue z e) is = refl
wait_left h y v was x o e is = absurd is

wait_seen : (h : ℕ) (v : View) (x : ℕ) (o : Option ℕ) (e : Step) → IsOfWait x o e → v.hold.head ≡ Some h
    → v.hold.book x ≢ unseen → (after e v).hold.book x ≢ unseen
wait_seen h v x o (step.Saw y w) is held seen = put_at (λ (l : Look). l ≢ unseen) v.hold.book y
    (look_at v.hold.head (entry_of w)) x
    (λ _. subst (λ (q : Option ℕ). look_at q (entry_of w) ≢ unseen) (sym held)
    (not_unseen (look_at (Some h) (entry_of w)) (look_seen h (entry_of w)))) (λ _. seen)
wait_seen h v x o (step.Unqueue y) is held seen = put_at (λ (l : Look). l ≢ unseen) v.hold.book y off x
    (λ _. not_unseen off refl) (λ _. seen)
wait_seen h v x o (step.Queue y e) is held seen = put_at (λ (l : Look). l ≢ unseen) v.hold.book y (shown e) x
    (λ _. not_unseen (shown e) refl) (λ _. seen)
wait_seen h v x o (step.Look w) is held seen = seen
wait_seen h v x o (step.State σ) is held seen = seen
wait_seen h v x o (step.Load (watch.Done c) r) is held seen = seen
wait_seen h v x o (step.Publish (watch.Done c) m r) is held seen = seen
wait_seen h v x o (step.Consume (watch.Done c) m r) is held seen = seen
wait_seen h v x o e is held seen = absurd is

wait_count : (d : ℕ) (v : View) (was : Option ℕ) (x : ℕ) (o : Option ℕ) (e : Step) → IsOfWait x o e
    → is_in d v ≡ true → was ≡ o → count_after d v was e ≡ counted_in_cell d e o
wait_count d v was x o (step.Saw y w) is inside same = same
wait_count d v was x o (step.Look w) is inside same = same
wait_count d v was x o (step.State σ) is inside same = same
wait_count d v was x o (step.Load (watch.Done c) r) is inside same = by (c == d)
  where
    by : (b : Bool) → (if b && is_in d v then Some r else was) ≡ (if b then Some r else o)
    by true = ap (λ (t : Bool). if t then Some r else was) inside
    by false = same
wait_count d v was x o (step.Publish (watch.Done c) m r) is inside same =
    ap (λ (q : Option ℕ). if c == d then Some m else q) same
wait_count d v was x o (step.Consume (watch.Done c) m r) is inside same =
    ap (λ (q : Option ℕ). if c == d then Some m else q) same
wait_count d v was x o (step.Unqueue y) is inside same = same
wait_count d v was x o (step.Queue y e) is inside same = same
wait_count d v was x o e is inside same = absurd is

-- no look finds a permit any more
none_found : (b l s c : Bool) → (l ≡ true → s ≡ true) → (b && (l && (not s && c))) ≡ false
none_found false l s c seen = refl
none_found true false s c seen = refl
none_found true true s c seen = ap (λ (t : Bool). not t && c) (seen refl)

wait_debt : (d : ℕ) (v : View) (w : Dealt) (x : ℕ) (o : Option ℕ) (n : ℕ) (e : Step) → IsOfWait x o e
    → (w.left ≡ true → v.hold.book x ≢ unseen) → w.debt ≡ n → debt_after d x v w e ≡ still_owed_in_cell d e n
wait_debt d v w x o n (step.Saw y f) is seen debt =
    let none = none_found (is_in d v && (y == x)) w.left (is_seen (v.hold.book x))
    (not (stands_at (entry_of f) (done_head d))) (λ left. seen_of (v.hold.book x) (seen left)) in
    let k : w.debt + flag ((is_in d v && (y == x)) && (w.left && (not (is_seen (v.hold.book x))
    && not (stands_at (entry_of f) (done_head d))))) ≡ w.debt + 0 = ap (λ (b : Bool). w.debt + flag b) none in
    k ∙ omega (arith, debt)
wait_debt d v w x o n (step.Unqueue y) is seen debt =
    let k : w.debt - flag (not (y == x)) ≡ w.debt - 0 = ap (λ (b : Bool). w.debt - flag (not b)) (eq-eqb y x is) in
    k ∙ omega (arith, debt)
wait_debt d v w x o n (step.Load (watch.Done c) r) is seen debt =
    ap (λ (m : ℕ). if c == d then after_read r m else m) debt
wait_debt d v w x o n (step.Publish (watch.Done c) m r) is seen debt =
    ap (λ (k : ℕ). if c == d then after_store m r k else k) debt
wait_debt d v w x o n (step.Consume (watch.Done c) m r) is seen debt =
    ap (λ (k : ℕ). if c == d then after_store m r k else k) debt
wait_debt d v w x o n (step.Look f) is seen debt = debt
wait_debt d v w x o n (step.State σ) is seen debt = debt
wait_debt d v w x o n (step.Queue y e) is seen debt = debt
wait_debt d v w x o n e is seen debt = absurd is

waits_next : (d a : ℕ) (front : List Step) (o : Option ℕ) (n : ℕ) (e : Step) → WaitsForPermit d a front o n
    → IsOfWait (own a) o e → WaitsForPermit d a (front ++ e ∷ []) (counted_in_cell d e o) (still_owed_in_cell d e n)
waits_next d a front o n e w is = record {
  head = ap (λ (v : View). v.hold.head) (after_snoc blank front e)
      ∙ (wait_head (view_of front) (own a) o e is ∙ w.head);
  seen = λ left. subst (λ (v : View). v.hold.book (own a) ≢ unseen) (sym (after_snoc blank front e))
      (wait_seen (done_head d) (view_of front) (own a) o e is w.head
      (w.seen (sym (ap (λ (u : Dealt). u.left) (deals_snoc d (own a) blank none_dealt front e)
      ∙ wait_left (done_head d) (own a) (view_of front) (dealt d a front).left (own a) o e is) ∙ left)));
  count = ap (λ (u : Dealt). u.count) (deals_snoc d (own a) blank none_dealt front e)
      ∙ wait_count d (view_of front) (dealt d a front).count (own a) o e is
      (held_is (view_of front).hold.head (done_head d) (done_head d) w.head ∙ eq-eqb (done_head d) (done_head d) refl)
      w.count;
  debt = ap (λ (u : Dealt). u.debt) (deals_snoc d (own a) blank none_dealt front e)
      ∙ wait_debt d (view_of front) (dealt d a front) (own a) o n e is w.seen w.debt;
}

waits_all : (d a : ℕ) (front es : List Step) (o p : Option ℕ) (n m : ℕ) → WaitsForPermit d a front o n
    → Deals d (own a) es o n p m → WaitsForPermit d a (front ++ es) p m
waits_all d a front [] o p n m w k = subst (λ (l : List Step). WaitsForPermit d a l p m) (sym (append-nil front))
    (subst (λ (c : Option ℕ). WaitsForPermit d a front c m) k.0 (subst (λ (i : ℕ). WaitsForPermit d a front o i) k.1 w))
waits_all d a front (e ∷ es) o p n m w k = subst (λ (l : List Step). WaitsForPermit d a l p m) (append_assoc front (e ∷ []) es)
    (waits_all d a (front ++ e ∷ []) es (counted_in_cell d e o) p (still_owed_in_cell d e n) m (waits_next d a front o n e w k.0) k.1)

-- a part of a hold
pub waits_on : (d : ℕ) (old new : Known) (o p : Option ℕ) (n m : ℕ) → Held d old new o n p m → WaitsIn d old o n
    → WaitsIn d new p m
waits_on d old new o p n m h w order =
    let front = order_as old.view.number new (history_of old ++ h.made) h.number h.is order in
    subst (λ (i : ℕ). WaitsForPermit d i (history_of new) p m) (sym h.number)
    (subst (λ (l : List Step). WaitsForPermit d old.view.number l p m) (sym h.is)
    (waits_all d old.view.number (history_of old) h.made o p n m
    (w (order_front old.view.number (history_of old) h.made front)) h.deals))

-- and it may end where nothing is owed
pub waits_may_end : (d : ℕ) (k : Known) (o : Option ℕ) → k.at ≡ done_head d → WaitsIn d k o 0 → OwesNoPermit k
waits_may_end d k o at w = inr (λ order.
    let here = w order in
    subst (λ (i : ℕ). MayGiveBack i (own k.view.number) (told_of k) (dealt_of i k)) (sym (cell_is k.at d at))
    (here.seen, inl here.debt))

-- the count is known as 0, and so nothing is owed
pub zero_waits : (d : ℕ) (k : Known) → HasLoadedCount d k 0 → WaitsIn d k (Some 0) 0
zero_waits d k h = subst (λ (n : ℕ). WaitsIn d k (Some 0) n) (h.settled.2 refl) h.waits

pub loaded_on : (d : ℕ) (old new : Known) (n : ℕ) → ((k : ℕ) → Held d old new (Some n) k (Some n) k)
    → HasLoadedCount d old n → HasLoadedCount d new n
loaded_on d old new n held h = record {
  owes = h.owes;
  settled = h.settled;
  waits = waits_on d old new (Some n) (Some n) h.owes h.owes (held h.owes) h.waits;
}

-- The points of the programs of semaphores: what holds of the task's history there, and that each event changes the
-- count as the law on permits asks for.
use Rattle.std.proofs.Common.{refl, sym, ◌∙◌, ap, subst, arith, eq-eqb}
use Rattle.std.proofs.lemmas.Bool.Decides.{nat_tests}
use Rattle.std.specs.Prelude.{ℕ, ◌≡◌, ◌≢◌, ◌+◌, ◌-◌, ◌<◌, ◌==◌, ◌||◌, nat_lt, Bool, true, false, if◌then◌else◌, Option}
use Rattle.std.specs.Prelude.{Some, None, List, [], ◌∷◌, ◌++◌}
use Rattle.wait_model.specs.{declared.points.Given.Given, declared.points.Seen.Seen}
use Rattle.wait_model.specs.{declared.queues.CalledEntry.CalledEntry, declared.queues.Member.Member}
use Rattle.wait_model.specs.{declared.steps.Step.Step, declared.watches.Entry.Entry, declared.watches.Watch.Watch}
use Rattle.wait_model.specs.{Facts.Agrees, Fold.after, Fold.view_of, Queues.entry_from, Queues.is_entry, Rows.Allowed}
use Rattle.wait_model.specs.Words.{entry_of}
use Rattle.wait_model.specs.declared.layout.TheConstants.{ALL_DONE, ENTRIES, MEMBERS}
use Rattle.wait_model.specs.Permits.{ShowsNobody, done_head, shows_at}
use Rattle.wait_model.specs.Runs.{called_as, called_by, called_of, is_publishing}
use Rattle.wait_model.specs.Views.{View, Look, blank, elsewhere, look_at, shown, unseen}
use Rattle.wait_model.specs.Watches.{head_of, owner, same, stands_at}
use Rattle.wait_model.specs.declared.calls.Event.TheVariants as event
use Rattle.wait_model.specs.declared.steps.Step.TheVariants as step
use Rattle.wait_model.specs.declared.watches.Watch.TheVariants as watch
use Rattle.wait_model.proofs.{Functions.put_at, HistoryLaws.HoldLooks.after_snoc, PermitLaws.OwnTurns.clash}
use Rattle.wait_model.proofs.{QueueLaws.QueueOrder.IsFirstFrom, QueueLaws.QueueOrder.first_is}
use Rattle.wait_model.proofs.PermitLaws.PermitTurns.{look_seen, not_unseen, seen_shows}
use Rattle.wait_rule.specs.{Known.Known, Says.history_of, Says.told_of, Shown.shown_entry, Shown.shown_queue}
use Rattle.wait_rule.specs.HeldValues.{CountsStand, count_in, value_after}
use Rattle.wait_rule.specs.Interleavings.{AreAllowed, TaskStep, table_of}
use Rattle.wait_rule.specs.Transitions.{FindsFirst, FindsStep, IsStepFor}
use Rattle.wait_rule.proofs.{KnownLaws.HandedSteps.OrderStep, KnownLaws.HandedSteps.order_view}
use Rattle.wait_rule.proofs.{KnownLaws.HeldCounts.counts_next, KnownLaws.Moments.kept_of}
use Rattle.wq_head.specs.Selects.{ShowsNoEntry}
use Rattle.wq_head.proofs.MemberStands.{entry_shown, shown_place}
use Rattle.wq_head.proofs.ShownQueue.{queue_has, queue_in_order, queue_of}
use Rattle.completion_cell.proofs.{Ground.value_append, Permits.nobody}
use Rattle.count_sem.specs.{declared.ups.TheConstants.FULL, SemPermits.IsSemStep}

-- a held count stands as its hold has loaded or stored it
counts_stand : (xs : List TaskStep) → AreAllowed xs → CountsStand (table_of xs)
counts_stand [] may = λ a d n held counts. absurd (let z : ◌≡◌ {A = Option ℕ} None (Some n) = counts in cc)
counts_stand (x ∷ xs) may = counts_next (table_of xs) x.task x.made may.1 (kept_of xs may.2).facts.one_holder
    (counts_stand xs may.2)

-- the task is in a hold of the semaphore's head, and has found this count in it
abbrev pub IsIn : ℕ → List Step → Type 0
IsIn c es = (view_of es).hold.head ≡ Some (done_head c)

pub record Found (c : ℕ) (es : List Step) : Type 0 where
  pub held : IsIn c es
  pub count : ℕ
  pub known : count_in c es ≡ Some count
  pub some : count ≢ 0

pub record FoundLow (c : ℕ) (es : List Step) : Type 0 where
  pub found : Found c es
  pub low : found.count < ALL_DONE

pub record MayRaise (c : ℕ) (es : List Step) : Type 0 where
  pub held : IsIn c es
  pub count : ℕ
  pub known : count_in c es ≡ Some count
  pub below : count < FULL
  pub nobody : ShowsNobody (done_head c) (view_of es)

-- one step more
pub view_more : (es : List Step) (e : Step) → view_of (es ++ e ∷ []) ≡ after e (view_of es)
view_more es e = after_snoc blank es e

pub count_more : (c : ℕ) (es : List Step) (e : Step) → count_in c (es ++ e ∷ [])
    ≡ value_after (watch.Done c) e (count_in c es)
count_more c es e = value_append (watch.Done c) None es (e ∷ [])

-- a step that leaves the head and the count
pub record Keeps (c : ℕ) (es : List Step) (e : Step) : Type 0 where
  pub head : (after e (view_of es)).hold.head ≡ (view_of es).hold.head
  pub count : value_after (watch.Done c) e (count_in c es) ≡ count_in c es

pub in_on : (c : ℕ) (es : List Step) (e : Step) → (after e (view_of es)).hold.head ≡ (view_of es).hold.head → IsIn c es
    → IsIn c (es ++ e ∷ [])
in_on c es e keeps held = ap (λ (v : View). v.hold.head) (view_more es e) ∙ (keeps ∙ held)

abbrev pub found_on : (c : ℕ) (es : List Step) (e : Step) → Keeps c es e → Found c es → Found c (es ++ e ∷ [])
found_on c es e keeps f = record {
  held = in_on c es e keeps.head f.held;
  count = f.count;
  known = count_more c es e ∙ (keeps.count ∙ f.known);
  some = f.some;
}

pub low_on : (c : ℕ) (es : List Step) (e : Step) → Keeps c es e → FoundLow c es → FoundLow c (es ++ e ∷ [])
low_on c es e keeps f = record { found = found_on c es e keeps f.found; low = f.low }

-- a look leaves a hold that has seen nobody queued so
module _ (me c : ℕ) (es : List Step) (y w : ℕ) (o : OrderStep me es (step.Saw y w)) where
  pub saw_keeps : Keeps c es (step.Saw y w)
  saw_keeps = record { head = refl; count = refl }

  look_shows : (h : ℕ) (f : Option Entry) → stands_at f h ≡ false → shows_at h (look_at (Some h) f) ≡ false
  look_shows h None none = refl
  look_shows h (Some e) none = by (head_of e.watch == h)
    where
      by : (b : Bool) → shows_at h (if b then shown e else elsewhere) ≡ false
      by true = none
      by false = refl

  pub nobody_on : IsIn c es → ShowsNobody (done_head c) (view_of es)
      → ShowsNobody (done_head c) (view_of (es ++ step.Saw y w ∷ []))
  nobody_on held none x few = subst (λ (v : View). (v.hold.book x ≢ unseen) × (shows_at (done_head c) (v.hold.book x)
      ≡ false)) (sym (view_more es (step.Saw y w)))
      (put_at (λ (l : Look). (l ≢ unseen) × (shows_at (done_head c) l ≡ false)) (view_of es).hold.book y
      (look_at (view_of es).hold.head (entry_of w)) x
      (λ q. subst (λ (h : Option ℕ). (look_at h (entry_of w) ≢ unseen) × (shows_at (done_head c) (look_at h
      (entry_of w)) ≡ false)) (sym held) (
        not_unseen (look_at (Some (done_head c)) (entry_of w)) (look_seen (done_head c) (entry_of w)),
        look_shows (done_head c) (entry_of w) (off (stands_at (entry_of w) (done_head c)) refl q),
      ))
      (λ ne. none x few))
    where
      agrees : Agrees (done_head c) ((view_of es).hold.book x) ((table_of o.order.steps).entry x)
      agrees = subst (λ (v : View). Agrees (done_head c) (v.hold.book x) ((table_of o.order.steps).entry x))
          (order_view me es o.order)
          (((kept_of o.order.steps o.order.may).facts.views me).hold.agrees (done_head c) x
          (ap (λ (v : View). v.hold.head) (order_view me es o.order) ∙ held))

      off : (b : Bool) → stands_at (entry_of w) (done_head c) ≡ b → x ≡ y
          → stands_at (entry_of w) (done_head c) ≡ false
      off false is q = is
      off true is q = absurd (clash (shows_at (done_head c) ((view_of es).hold.book x))
          (seen_shows (done_head c) ((view_of es).hold.book x) ((table_of o.order.steps).entry x) agrees (none x few).0
          (ap (λ (e : Option Entry). stands_at e (done_head c))
          (ap (table_of o.order.steps).entry q ∙ sym o.allowed) ∙ is)) (none x few).1)

-- a load of the count
pub record Loads (c : ℕ) (es : List Step) (e : Step) (value : ℕ) : Type 0 where
  pub head : (after e (view_of es)).hold.head ≡ (view_of es).hold.head
  pub book : (after e (view_of es)).hold.book ≡ (view_of es).hold.book
  pub count : value_after (watch.Done c) e (count_in c es) ≡ Some value

-- steps by their events
module _ (c : ℕ) (es : List Step) (k : Known) (own : Option ℕ) (g : Given) where
  pub lock_in : (h : ℕ) (e : Step) → h ≡ done_head c → IsStepFor k own g (event.Lock h) e → IsIn c (es ++ e ∷ [])
  lock_in h (step.Lock i aim w) here made = ap (λ (v : View). v.hold.head) (view_more es (step.Lock i aim w))
      ∙ ap (λ (j : ℕ). Some j) (made.0 ∙ here)
  lock_in h e here made = absurd made

  pub wake_keeps : (who : ℕ) (hit : Bool) (e : Step) → IsStepFor k own g (event.Wake who hit) e → Keeps c es e
  wake_keeps who hit (step.Wake i mask w) made = record { head = refl; count = refl }
  wake_keeps who hit e made = absurd made

  pub off_keeps : (who : ℕ) (e : Step) → IsStepFor k own g (event.Unqueue who) e → Keeps c es e
  off_keeps who (step.Unqueue x) made = record { head = refl; count = refl }
  off_keeps who e made = absurd made

  pub loads_it : (n v value : ℕ) (e : Step) (seen : Seen) → g.watch ≡ watch.Done c → seen.value ≡ value
      → IsStepFor k own g (event.Load n v) e → FindsStep e seen → Loads c es e value
  loads_it n v value (step.Load l r) seen about is made finds = record {
    head = refl;
    book = refl;
    count = ap (λ (b : Bool). if b then Some r else count_in c es)
        (ap (λ (w : Watch). same w (watch.Done c)) (made ∙ about) ∙ eq-eqb c c refl)
        ∙ ap (λ (i : ℕ). Some i) (sym finds ∙ is);
  }
  loads_it n v value e seen about is made finds = absurd made

-- what a load of the count shows
module _ (c : ℕ) (es : List Step) (e : Step) (value : ℕ) (l : Loads c es e value) (held : IsIn c es) where
  abbrev pub found_it : value ≢ 0 → Found c (es ++ e ∷ [])
  found_it some = record {
    held = in_on c es e l.head held;
    count = value;
    known = count_more c es e ∙ l.count;
    some = some;
  }

  pub found_low : value ≢ 0 → value < ALL_DONE → FoundLow c (es ++ e ∷ [])
  found_low some low = record { found = found_it some; low = low }

  pub may_raise : value < FULL → ShowsNobody (done_head c) (view_of es) → MayRaise c (es ++ e ∷ [])
  may_raise below none = record {
    held = in_on c es e l.head held;
    count = value;
    known = count_more c es e ∙ l.count;
    below = below;
    nobody = λ x few. subst (λ (v : View). (v.hold.book x ≢ unseen) × (shows_at (done_head c) (v.hold.book x) ≡ false))
        (sym (view_more es e))
        (subst (λ (b : ℕ → Look). (b x ≢ unseen) × (shows_at (done_head c) (b x) ≡ false)) (sym l.book) (none x few));
  }

-- a store of the count
module _ (d me c : ℕ) (k : Known) (own : Option ℕ) (g : Given) (about : g.watch ≡ watch.Done c) (m : ℕ)
    (known : count_in c (history_of k) ≡ Some m) where
  abbrev es : List Step
  es = history_of k

  published : (l : Watch) (n r : ℕ) → l ≡ watch.Done c → OrderStep me es (step.Publish l n r) → r ≡ m
  published l n r is o =
      let a : Allowed (table_of o.order.steps) me (step.Publish (watch.Done c) n r) =
      subst (λ (w : Watch). Allowed (table_of o.order.steps) me (step.Publish w n r)) is o.allowed in
      a.2 ∙ counts_stand o.order.steps o.order.may me c m a.0 (ap (count_in c) o.order.is ∙ known)

  consumed : (l : Watch) (n r : ℕ) → l ≡ watch.Done c → OrderStep me es (step.Consume l n r) → r ≡ m
  consumed l n r is o =
      let a : Allowed (table_of o.order.steps) me (step.Consume (watch.Done c) n r) =
      subst (λ (w : Watch). Allowed (table_of o.order.steps) me (step.Consume w n r)) is o.allowed in
      a.2 ∙ counts_stand o.order.steps o.order.may me c m a.1 (ap (count_in c) o.order.is ∙ known)

  not_lowered : (n r : ℕ) → n ≡ r + 1 → (nat_lt r n || (n == ALL_DONE)) ≡ false → ⊥
  not_lowered n r is low =
      let t : nat_lt r n ≡ true = grind (arith, nat_tests, is) in
      let z : true ≡ false = sym (ap (λ (b : Bool). b || (n == ALL_DONE)) t) ∙ low in cc

  not_raised : (n r : ℕ) → n ≡ r - 1 → r < ALL_DONE → (nat_lt r n || (n == ALL_DONE)) ≡ true → ⊥
  not_raised n r is low high =
      let f : nat_lt r n ≡ false = grind (arith, nat_tests, is) in
      let z : (n == ALL_DONE) ≡ true = sym (ap (λ (b : Bool). b || (n == ALL_DONE)) f) ∙ high in
      let y : n ≡ ALL_DONE = grind (arith, nat_tests) in
      omega (arith, is, low, y)

  pub raises_one : m < FULL → ShowsNobody (done_head c) (view_of es) → (num : ℕ) (e : Step) (seen : Seen)
      → OrderStep me es e → IsStepFor k own g (event.Set num (seen.value + 1)) e → FindsStep e seen
      → IsSemStep d (view_of es) e
  raises_one below none num (step.Publish l n r) seen o made finds =
      subst (λ (w : Watch). IsSemStep d (view_of es) (step.Publish w n r)) (sym (made.0 ∙ about)) (λ same. record {
        one = made.1 ∙ ap (λ (i : ℕ). i + 1) finds;
        below = let q = published l n r (made.0 ∙ about) o in omega (arith, q, below);
        nobody = subst (λ (i : ℕ). ShowsNobody (done_head i) (view_of es))
            (let q : c ≡ d = grind (arith, nat_tests) in q) none;
      })
  raises_one below none num (step.Consume l n r) seen o made finds = absurd (not_lowered n r
      (made.1 ∙ ap (λ (i : ℕ). i + 1) finds)
      (sym (ap (λ (w : Watch). is_publishing w r n) (made.0 ∙ about)) ∙ made.2))
  raises_one below none num e seen o made finds = absurd made

  pub lowers_one : m ≢ 0 → m < ALL_DONE → (num v : ℕ) (e : Step) (seen : Seen)
      → (seen.value < ALL_DONE → v ≡ seen.value - 1) → OrderStep me es e → IsStepFor k own g (event.Set num v) e
      → FindsStep e seen → IsSemStep d (view_of es) e
  lowers_one some low num v (step.Publish l n r) seen less o made finds =
      let q = published l n r (made.0 ∙ about) o in
      let few : r < ALL_DONE = omega (arith, q, low) in
      let lower = less (omega (arith, finds, few)) in
      let to = made.1 in
      absurd (not_raised n r (let z : n ≡ r - 1 = omega (arith, to, lower, finds) in z) few
      (sym (ap (λ (w : Watch). is_publishing w r n) (made.0 ∙ about)) ∙ made.2))
  lowers_one some low num v (step.Consume l n r) seen less o made finds =
      subst (λ (w : Watch). IsSemStep d (view_of es) (step.Consume w n r)) (sym (made.0 ∙ about)) (λ same.
      let q = consumed l n r (made.0 ∙ about) o in
      let few : r < ALL_DONE = omega (arith, q, low) in
      let lower = less (omega (arith, finds, few)) in
      let to = made.1 in
      omega (arith, q, some, to, lower, finds))
  lowers_one some low num v e seen less o made finds = absurd made

-- a whole book that shows no first entry shows nobody queued
module _ (k : Known) (seen : Seen) (first : FindsFirst k seen) (none : seen.called ≡ None) where
  not_some : (o : Option CalledEntry) (c : CalledEntry) → o ≡ None → o ≡ Some c → ⊥
  not_some None c p q = cc
  not_some (Some e) c p q = cc

  no_first : (o : Option Member) → entry_from 0 (shown_queue k) ≡ o → o ≡ None
  no_first None is = refl
  no_first (Some m) is =
      let f : IsFirstFrom is_entry 0 (shown_queue k) (Some m) = subst (IsFirstFrom is_entry 0 (shown_queue k)) is
      (first_is is_entry 0 (shown_queue k) (queue_in_order k)) in
      let t = f.1 in
      let shows = entry_shown k m.at m.place (grind (arith, nat_tests)) (queue_has k m f.0).1 in
      absurd (not_some seen.called (called_of (owner m.at) shows.0) none
      (first.1 ∙ (ap (called_by (shown_entry k)) is ∙ ap (called_as (owner m.at)) shows.1)))

  no_entry_shown : ShowsNoEntry k
  no_entry_shown x e few shows =
      let f : IsFirstFrom is_entry 0 (shown_queue k) None = subst (IsFirstFrom is_entry 0 (shown_queue k))
      (no_first (entry_from 0 (shown_queue k)) refl) (first_is is_entry 0 (shown_queue k) (queue_in_order k)) in
      let at : x < MEMBERS = omega (arith, few) in
      let low = f (record { at = x; place = e.place })
      (queue_of k (record { at = x; place = e.place }) at (shown_place k x e few shows))
      (let t : nat_lt x ENTRIES ≡ true = grind (arith, nat_tests, few) in t) in
      absurd (omega (arith, low))

  pub nobody_first : (h : ℕ) → ShowsNobody h (told_of k)
  nobody_first h = nobody h k first.0 no_entry_shown

-- An entry that its task has queued or seen queued in its hold, and left so, stands as long as that task is not woken.
use Rattle.std.proofs.lemmas.Bool.Decides.{eqb_tells, nat_tests}
use Rattle.std.proofs.Common.{refl, sym, ◌∙◌, ap, subst, arith, inl, inr}
use Rattle.std.specs.Prelude.{ℕ, ◌≡◌, ◌≢◌, ◌⊎◌, ◌&&◌, ◌||◌, ◌==◌, not, Bool, true, false, eqb, if◌then◌else◌, Option}
use Rattle.std.specs.Prelude.{Some, None, List, [], ◌∷◌, ◌++◌}
use Rattle.wait_model.specs.{declared.steps.Step.Step, declared.tasks.TaskRecord.TaskRecord}
use Rattle.wait_model.specs.{declared.watches.Entry.Entry, Facts.Agrees, Facts.Kept, Functions.put, Rows.Allowed}
use Rattle.wait_model.specs.{Tables.Table, Tables.next, Watches.head_of, Watches.owner}
use Rattle.wait_model.specs.Fold.{after, met_task, view_of}
use Rattle.wait_model.specs.Histories.{Lacks, Since, turns_lock}
use Rattle.wait_model.specs.Tasks.{meets, pending, raised, slept, task_of, woken}
use Rattle.wait_model.specs.Views.{Hold, Look, View, shown}
use Rattle.wait_model.specs.declared.steps.Step.TheVariants as step
use Rattle.wait_model.proofs.{HistoryLaws.Stretches.lacks_left, HistoryLaws.Stretches.lacks_right}
use Rattle.wait_model.proofs.{StepLaws.UnlockSteps.unlock_hold, WaitLaws.OutsideStages.either}
use Rattle.wait_model.proofs.Functions.{put_at, put_other, put_same}
use Rattle.wait_rule.specs.Interleavings.{AreAllowed, TaskStep, table_of}
use Rattle.wait_rule.proofs.KnownLaws.Moments.{kept_of, views_of}
use Rattle.order_laws.specs.TakenOff.{AllTakeOffWoken, Grips, IsGripped, IsLeftQueued, LeftEntriesStand, TakesOffWoken}
use Rattle.order_laws.specs.TakenOff.{frees, is_mild, leaves_running}

-- the last step of a list that is split
tail_is : (x y : Step) (xs ys : List Step) → x ∷ xs ≡ y ∷ ys → xs ≡ ys
tail_is x y xs ys is = cc

head_is : (x y : Step) (xs ys : List Step) → x ∷ xs ≡ y ∷ ys → x ≡ y
head_is x y xs ys is = cc

none_split : {A : Type 0} (b : List Step) (p : Step) (l : List Step) → [] ≡ b ++ p ∷ l → A
none_split [] p l is = absurd (cc)
none_split (x ∷ b) p l is = absurd (cc)

abbrev pub LastOf : (h : List Step) (y : Step) (b : List Step) (p : Step) (l : List Step) → Type 0
LastOf h y b p l = ((h ≡ b) × (y ≡ p) × (l ≡ []))
    ⊎ ((more : List Step) × (h ≡ b ++ p ∷ more) × (l ≡ more ++ y ∷ []))

pub last_of : (h : List Step) (y : Step) (b : List Step) (p : Step) (l : List Step) → h ++ y ∷ [] ≡ b ++ p ∷ l
    → LastOf h y b p l
last_of [] y [] p l is = inl (refl, head_is y p [] l is, sym (tail_is y p [] l is))
last_of [] y (x ∷ b) p l is = none_split b p l (tail_is y x [] (b ++ p ∷ l) is)
last_of (z ∷ h) y [] p l is = inr (
  h,
  ap (λ (d : Step). d ∷ h) (head_is z p (h ++ y ∷ []) l is),
  sym (tail_is z p (h ++ y ∷ []) l is),
)
last_of (z ∷ h) y (x ∷ b) p l is =
    let eq : z ≡ x = head_is z x (h ++ y ∷ []) (b ++ p ∷ l) is in
    elim (last_of h y b p l (tail_is z x (h ++ y ∷ []) (b ++ p ∷ l) is)) [
      | inl q ↦ inl (λ i. eq i ∷ q.0 i, q.1, q.2)
      | inr q ↦ inr (q.0, λ i. eq i ∷ q.1 i, q.2)
    ]

-- a stretch since a step, before one more
since_back : (p q : Step → Bool) (es : List Step) (e : Step) → p e ≡ false → Since p q (es ++ e ∷ []) → Since p q es
since_back p q es e not_it s = by (last_of es e s.earlier s.it s.later s.split)
  where
    by : LastOf es e s.earlier s.it s.later → Since p q es
    by (inl h) = absurd (let z : true ≡ false = sym s.passes ∙ (ap p (sym h.1) ∙ not_it) in cc)
    by (inr h) = record {
      earlier = s.earlier;
      it = s.it;
      later = h.0;
      split = h.1;
      passes = s.passes;
      none_since = lacks_left q h.0 (e ∷ []) (subst (Lacks q) h.2 s.none_since);
    }

since_turn : {A : Type 0} (p q : Step → Bool) (es : List Step) (e : Step) → p e ≡ false → q e ≡ true
    → Since p q (es ++ e ∷ []) → A
since_turn p q es e not_it turns s = by (last_of es e s.earlier s.it s.later s.split)
  where
    by : {A : Type 0} → LastOf es e s.earlier s.it s.later → A
    by (inl h) = absurd (let z : true ≡ false = sym s.passes ∙ (ap p (sym h.1) ∙ not_it) in cc)
    by (inr h) = absurd (let z : false ≡ true = sym (lacks_right q h.0 (e ∷ [])
        (subst (Lacks q) h.2 s.none_since)).0 ∙ turns in cc)

-- the head that a task holds
head_same : (e : Step) (v : View) → turns_lock e ≡ false → (after e v).hold.head ≡ v.hold.head
head_same (step.Lock h aim w) v q = absurd (cc)
head_same (step.Unlock h sp) v q = absurd (cc)
head_same e v q = refl

-- a task that is RUNNING stays so, but by its own store
woken_low : (mask : ℕ) (k : TaskRecord) → k.state ≡ 0 → (woken mask k).state ≡ 0
woken_low mask k low = either (λ (j : TaskRecord). j.state ≡ 0) (meets mask k.state) _ _ refl low

slept_low : (k : TaskRecord) → k.state ≡ 0 → (slept k).state ≡ 0
slept_low k low = either (λ (j : TaskRecord). j.state ≡ 0) (k.state == 0) _ _ low
    (either (λ (j : TaskRecord). j.state ≡ 0) (pending k.state k) _ _ refl low)

other_low : (s : Table) (a t : ℕ) (e : Step) → t ≢ a → (s.task t).state ≡ 0 → ((next s a e).task t).state ≡ 0
other_low s a t (step.State σ) ne low = ap (λ (k : TaskRecord). k.state) (put_other s.task a _ t ne) ∙ low
other_low s a t (step.Sleep w) ne low = ap (λ (k : TaskRecord). k.state) (put_other s.task a _ t ne) ∙ low
other_low s a t (step.Accept w) ne low = ap (λ (k : TaskRecord). k.state) (put_other s.task a _ t ne) ∙ low
other_low s a t (step.Wake who mask w) ne low = put_at (λ (k : TaskRecord). k.state ≡ 0) s.task who
    (woken mask (s.task who)) t (λ q. woken_low mask (s.task who) (ap (λ (i : ℕ). (s.task i).state) (sym q) ∙ low))
    (λ _. low)
other_low s a t (step.Signal who fatal w) ne low = put_at (λ (k : TaskRecord). k.state ≡ 0) s.task who
    (raised fatal (s.task who)) t (λ q. ap (λ (i : ℕ). (s.task i).state) (sym q) ∙ low) (λ _. low)
other_low s a t e ne low = low

-- a wake that leaves it RUNNING
woken_by : (mask : ℕ) (k : TaskRecord) (m z : Bool) → meets mask k.state ≡ m → (k.state == 0) ≡ z → (m || z) ≡ true
    → (woken mask k).state ≡ 0
woken_by mask k true z is zero h = ap (λ (b : Bool).
    (if b then record k { state = 0; runnable = true } else k).state) is
woken_by mask k false true is zero h = woken_low mask k (let q : k.state ≡ 0 = grind (arith, nat_tests) in q)
woken_by mask k false false is zero h = absurd (cc)

left_running : (s : Table) (a t : ℕ) (e : Step) → Allowed s a e → leaves_running t e ≡ true
    → ((next s a e).task t).state ≡ 0
left_running s a t (step.Wake who mask w) may leaves = by (who == t) refl leaves
  where
    by : (b : Bool) → (who == t) ≡ b → (b && (met_task mask w || ((task_of w).state == 0))) ≡ true
        → (put s.task who (woken mask (s.task who)) t).state ≡ 0
    by true is h = put_at (λ (k : TaskRecord). k.state ≡ 0) s.task who (woken mask (s.task who)) t
        (λ q. woken_by mask (s.task who) (meets mask (s.task who).state) ((s.task who).state == 0) refl refl
        (subst (λ (k : TaskRecord). (meets mask k.state || (k.state == 0)) ≡ true) may h))
        (λ ne. absurd (ne (let q : t ≡ who = grind (arith, nat_tests) in q)))
    by false is h = absurd (cc)
left_running s a t e may leaves = absurd (cc)

module _ (t x h : ℕ) (e : Entry) (mine : owner x ≡ t) where
  -- in the hold
  record InHold (s : Table) : Type 0 where
    stands : s.entry x ≡ Some e
    at : head_of e.watch ≡ h
    held : (s.view t).hold.head ≡ Some h

  -- behind it
  abbrev Unwoken : Table → Type 0
  Unwoken s = (a : ℕ) → (s.view a).hold.head ≡ Some h
      → Since (leaves_running t) turns_lock (s.history a) → ⊥

  abbrev Behind : Table → Type 0
  Behind s = ((s.task t).state ≡ 0) ⊎ ((s.entry x ≡ Some e) × (head_of e.watch ≡ h) × Unwoken s)

  some_same : (o : Option Entry) (f : Entry) → o ≡ Some e → o ≡ Some f → f ≡ e
  some_same o f one two = let z : Some f ≡ Some e = sym two ∙ one in cc

  head_some : (o : Option ℕ) (g : ℕ) → o ≡ Some g → g ≡ h → o ≡ Some h
  head_some o g one same = one ∙ ap (λ (i : ℕ). Some i) same

  -- a step that takes nothing off here leaves the entry
  entry_left : (s : Table) (a : ℕ) (f : Step) → ((y : ℕ) (g : Entry) → f ≡ step.Queue y g → y ≢ x)
      → ((y : ℕ) → f ≡ step.Unqueue y → y ≢ x) → s.entry x ≡ Some e → (next s a f).entry x ≡ Some e
  entry_left s a (step.Queue y g) queues takes stands = put_other s.entry y (Some g) x
      (λ q. queues y g refl (sym q)) ∙ stands
  entry_left s a (step.Unqueue y) queues takes stands = put_other s.entry y None x (λ q. takes y refl (sym q)) ∙ stands
  entry_left s a f queues takes stands = stands

  queue_owner : (s : Table) (a : ℕ) (f : Step) → Allowed s a f → a ≢ t → (y : ℕ) (g : Entry) → f ≡ step.Queue y g
      → y ≢ x
  queue_owner s a (step.Queue z i) may ne y g is same = ne (sym (may.0) ∙ (ap owner (let q : z ≡ y = cc in q)
      ∙ (ap owner same ∙ mine)))
  queue_owner s a f may ne y g is same = absurd (cc)

  -- who may take it off holds its head
  taker_holds : (s : Table) (a : ℕ) (f : Step) → Allowed s a f → s.entry x ≡ Some e → head_of e.watch ≡ h → (y : ℕ)
      → f ≡ step.Unqueue y → y ≡ x → (s.view a).hold.head ≡ Some h
  taker_holds s a (step.Unqueue z) may stands at y is same = head_some (s.view a).hold.head (head_of may.0.watch) may.2
      (ap (λ (f : Entry). head_of f.watch) (some_same (s.entry x) may.0 stands
      (ap s.entry (sym (let q : z ≡ y = cc in q ∙ same)) ∙ may.1)) ∙ at)
  taker_holds s a f may stands at y is same = absurd (cc)

  -- the view of another, and the own one
  other_view : (s : Table) (a b : ℕ) (f : Step) → b ≢ a → (next s a f).view b ≡ s.view b
  other_view s a b f ne = put_other s.view a (after f (s.view a)) b ne

  own_view : (s : Table) (a : ℕ) (f : Step) → (next s a f).view a ≡ after f (s.view a)
  own_view s a f = put_same s.view a (after f (s.view a))

  -- in its hold nobody else takes it off
  held_on : (s : Table) (a : ℕ) (f : Step) → Kept s → Allowed s a f → a ≢ t → InHold s → InHold (next s a f)
  held_on s a f kept may ne g = record {
    stands = entry_left s a f (queue_owner s a f may ne)
        (λ y is same. ne (kept.facts.one_holder a t h (taker_holds s a f may g.stands g.at y is same) g.held)) g.stands;
    at = g.at;
    held = ap (λ (v : View). v.hold.head) (other_view s a t f (λ q. ne (sym q))) ∙ g.held;
  }

  not_freed_queue : (f : Step) → frees x f ≡ false → (y : ℕ) (g : Entry) → f ≡ step.Queue y g → y ≢ x
  not_freed_queue (step.Queue z i) no_free y g is same = absurd (let q : z ≡ y = cc in
      let w : x ≡ z = sym same ∙ sym q in let v : (x == z) ≡ true = grind (arith, nat_tests) in
      let u : true ≡ false = sym v ∙ no_free in cc)
  not_freed_queue f no_free y g is same = absurd (cc)

  not_freed_take : (f : Step) → frees x f ≡ false → (y : ℕ) → f ≡ step.Unqueue y → y ≢ x
  not_freed_take (step.Unqueue z) no_free y is same = absurd (let q : z ≡ y = cc in
      let w : x ≡ z = sym same ∙ sym q in let v : (x == z) ≡ true = grind (arith, nat_tests) in
      let u : true ≡ false = sym v ∙ no_free in cc)
  not_freed_take f no_free y is same = absurd (cc)

  no_turn : (f : Step) → frees x f ≡ false → turns_lock f ≡ false
  no_turn (step.Queue y g) no_free = refl
  no_turn (step.Unqueue y) no_free = refl
  no_turn f no_free = no_free

  own_on : (s : Table) (f : Step) → frees x f ≡ false → InHold s → InHold (next s t f)
  own_on s f no_free g = record {
    stands = entry_left s t f (not_freed_queue f no_free) (not_freed_take f no_free) g.stands;
    at = g.at;
    held = ap (λ (v : View). v.hold.head) (own_view s t f) ∙ (head_same f (s.view t) (no_turn f no_free) ∙ g.held);
  }

  -- the step with which it is there
  gripped_on : (s : Table) (g : Step) → Kept s → (v : View) → s.view t ≡ v → v.hold.head ≡ Some h
      → Grips g x h e v → InHold (next s t g)
  gripped_on s (step.Queue y f) kept v is held grips = record {
    stands = ap (λ (i : ℕ). put s.entry i (Some f) x) grips.0 ∙ (put_same s.entry x (Some f)
        ∙ ap (λ (g : Entry). Some g) grips.1);
    at = grips.2;
    held = ap (λ (u : View). u.hold.head) (own_view s t (step.Queue y f)) ∙ (ap (λ (u : View). u.hold.head) is ∙ held);
  }
  gripped_on s (step.State σ) kept v is held grips = record {
    stands = agrees.0;
    at = agrees.1;
    held = ap (λ (u : View). u.hold.head) (own_view s t (step.State σ)) ∙ (ap (λ (u : View). u.hold.head) is ∙ held);
  }
    where
      agrees : Agrees h (shown e) (s.entry x)
      agrees = subst (λ (l : Look). Agrees h l (s.entry x)) (ap (λ (u : View). u.hold.book x) is ∙ grips)
          ((kept.facts.views t).hold.agrees h x (ap (λ (u : View). u.hold.head) is ∙ held))
  gripped_on s g kept v is held grips = absurd grips

  -- so the entry stands in its hold, in each order of steps
  abbrev hist : List TaskStep → ℕ → List Step
  hist xs = (table_of xs).history

  own_history : (y : TaskStep) (xs : List TaskStep) → y.task ≡ t → hist (y ∷ xs) t ≡ hist xs t ++ y.made ∷ []
  own_history y xs q = ap (hist (y ∷ xs)) (sym q) ∙ (put_same (hist xs) y.task (hist xs y.task ++ y.made ∷ [])
      ∙ ap (λ (i : ℕ). hist xs i ++ y.made ∷ []) q)

  other_history : (y : TaskStep) (xs : List TaskStep) → y.task ≢ t → hist (y ∷ xs) t ≡ hist xs t
  other_history y xs ne = put_other (hist xs) y.task (hist xs y.task ++ y.made ∷ []) t (λ q. ne (sym q))

  in_hold : (xs : List TaskStep) → AreAllowed xs → IsGripped (hist xs t) x h e → InHold (table_of xs)
  in_hold [] may g = none_split g.front g.grip g.inside g.split
  in_hold (y ∷ xs) may g = by (eqb_tells y.task t) (in_hold xs may.2)
    where
      by_own : y.task ≡ t → (IsGripped (hist xs t) x h e → InHold (table_of xs))
          → LastOf (hist xs t) y.made g.front g.grip g.inside → InHold (table_of (y ∷ xs))
      by_own q rec (inl w) = subst (λ (i : ℕ). InHold (next (table_of xs) i y.made)) (sym q)
          (subst (λ (f : Step). InHold (next (table_of xs) t f)) (sym w.1)
          (gripped_on (table_of xs) g.grip (kept_of xs may.2) (view_of g.front)
          (views_of xs t ∙ ap view_of w.0) g.held g.grips))
      by_own q rec (inr w) =
          let kept : Lacks (frees x) (w.0 ++ y.made ∷ []) = subst (Lacks (frees x)) w.2 g.kept in
          subst (λ (i : ℕ). InHold (next (table_of xs) i y.made)) (sym q)
          (own_on (table_of xs) y.made (lacks_right (frees x) w.0 (y.made ∷ []) kept).0
          (rec (record {
            front = g.front;
            grip = g.grip;
            inside = w.0;
            split = w.1;
            held = g.held;
            grips = g.grips;
            kept = lacks_left (frees x) w.0 (y.made ∷ []) kept;
          })))

      by : ((eqb y.task t ≡ true) × (y.task ≡ t)) ⊎ ((eqb y.task t ≡ false) × (y.task ≢ t))
          → (IsGripped (hist xs t) x h e → InHold (table_of xs)) → InHold (table_of (y ∷ xs))
      by (inl q) rec = by_own q.1 rec
          (last_of (hist xs t) y.made g.front g.grip g.inside (sym (own_history y xs q.1) ∙ g.split))
      by (inr q) rec = held_on (table_of xs) y.task y.made (kept_of xs may.2) may.1 q.1
          (rec (record {
            front = g.front;
            grip = g.grip;
            inside = g.inside;
            split = sym (other_history y xs q.1) ∙ g.split;
            held = g.held;
            grips = g.grips;
            kept = g.kept;
          }))

  -- behind the hold
  unwoken_on : (s : Table) (a : ℕ) (f : Step) → leaves_running t f ≡ false → Unwoken s → Unwoken (next s a f)
  unwoken_on s a f not_woken un b held since = by (eqb_tells b a)
    where
      turn : b ≡ a → (z : Bool) → turns_lock f ≡ z → ⊥
      turn q true is = since_turn (leaves_running t) turns_lock (s.history a) f not_woken is
          (subst (Since (leaves_running t) turns_lock) (ap (λ (i : ℕ). (next s a f).history i) q
          ∙ put_same s.history a (s.history a ++ f ∷ [])) since)
      turn q false is = un a (sym (head_same f (s.view a) is) ∙ (ap (λ (v : View). v.hold.head) (sym (own_view s a f))
          ∙ (ap (λ (i : ℕ). ((next s a f).view i).hold.head) (sym q) ∙ held)))
          (since_back (leaves_running t) turns_lock (s.history a) f not_woken
          (subst (Since (leaves_running t) turns_lock) (ap (λ (i : ℕ). (next s a f).history i) q
          ∙ put_same s.history a (s.history a ++ f ∷ [])) since))

      by : ((eqb b a ≡ true) × (b ≡ a)) ⊎ ((eqb b a ≡ false) × (b ≢ a)) → ⊥
      by (inl q) = turn q.1 (turns_lock f) refl
      by (inr q) = un b (ap (λ (v : View). v.hold.head) (sym (other_view s a b f q.1)) ∙ held)
          (subst (Since (leaves_running t) turns_lock) (put_other s.history a (s.history a ++ f ∷ []) b q.1) since)

  given_back : (s : Table) (i : ℕ) (sp : Bool) → Kept s → InHold s → Behind (next s t (step.Unlock i sp))
  given_back s i sp kept g = inr (g.stands, g.at, λ a held since. by a (eqb_tells a t) held)
    where
      by : (a : ℕ) → ((eqb a t ≡ true) × (a ≡ t)) ⊎ ((eqb a t ≡ false) × (a ≢ t))
          → ((next s t (step.Unlock i sp)).view a).hold.head ≡ Some h → ⊥
      by a (inl q) held = let z : None ≡ Some h = sym (ap (λ (k : Hold). k.head)
          (unlock_hold (s.view t) (s.view t).walk sp))
          ∙ (ap (λ (v : View). v.hold.head) (sym (own_view s t (step.Unlock i sp)))
          ∙ (ap (λ (j : ℕ). ((next s t (step.Unlock i sp)).view j).hold.head) (sym q.1) ∙ held)) in absurd (cc)
      by a (inr q) held = q.1 (kept.facts.one_holder a t h
          (ap (λ (v : View). v.hold.head) (sym (other_view s t a (step.Unlock i sp) q.1)) ∙ held) g.held)

  taken_woken : (s : Table) (a : ℕ) (f : Step) → TakesOffWoken s a f → a ≢ t → (y : ℕ) → f ≡ step.Unqueue y → y ≡ x
      → Since (leaves_running t) turns_lock (s.history a)
  taken_woken s a (step.Unqueue z) takes ne y is same =
      let at : owner z ≡ t = ap owner (let q : z ≡ y = cc in q ∙ same) ∙ mine in
      subst (λ (o : ℕ). Since (leaves_running o) turns_lock (s.history a)) at (takes (λ q. ne (sym q ∙ at)))
  taken_woken s a f takes ne y is same = absurd (cc)

  behind_other : (s : Table) (a : ℕ) (f : Step) → Allowed s a f → TakesOffWoken s a f → a ≢ t → Behind s
      → Behind (next s a f)
  behind_other s a f may takes ne (inl low) = inl (other_low s a t f (λ q. ne (sym q)) low)
  behind_other s a f may takes ne (inr g) = by (leaves_running t f) refl
    where
      by : (b : Bool) → leaves_running t f ≡ b → Behind (next s a f)
      by true is = inl (left_running s a t f may is)
      by false is = inr (
        entry_left s a f (queue_owner s a f may ne)
            (λ y q same. g.2 a (taker_holds s a f may g.0 g.1 y q same) (taken_woken s a f takes ne y q same)) g.0,
        g.1,
        unwoken_on s a f is g.2,
      )

  behind_own : (s : Table) (f : Step) → is_mild f ≡ true → Behind s → Behind (next s t f)
  behind_own s (step.Saw y w) mild (inl low) = inl low
  behind_own s (step.Load c r) mild (inl low) = inl low
  behind_own s (step.Sleep w) mild (inl low) = inl (ap (λ (k : TaskRecord). k.state)
      (put_same s.task t (slept (s.task t))) ∙ slept_low (s.task t) low)
  behind_own s (step.Saw y w) mild (inr g) = inr (g.0, g.1, unwoken_on s t (step.Saw y w) refl g.2)
  behind_own s (step.Load c r) mild (inr g) = inr (g.0, g.1, unwoken_on s t (step.Load c r) refl g.2)
  behind_own s (step.Sleep w) mild (inr g) = inr (g.0, g.1, unwoken_on s t (step.Sleep w) refl g.2)
  behind_own s f mild b = absurd (cc)

  mild_of : (b : Bool) → not b ≡ false → b ≡ true
  mild_of true q = refl
  mild_of false q = absurd (cc)

  left_queued : (xs : List TaskStep) → AreAllowed xs → AllTakeOffWoken xs → IsLeftQueued (hist xs t) x h e
      → Behind (table_of xs)
  left_queued [] may takes g = none_split g.hold (step.Unlock g.head g.spent) g.later g.split
  left_queued (y ∷ xs) may takes g = by (eqb_tells y.task t) (left_queued xs may.2 takes.1)
    where
      by_own : y.task ≡ t → (IsLeftQueued (hist xs t) x h e → Behind (table_of xs))
          → LastOf (hist xs t) y.made g.hold (step.Unlock g.head g.spent) g.later → Behind (table_of (y ∷ xs))
      by_own q rec (inl w) = subst (λ (i : ℕ). Behind (next (table_of xs) i y.made)) (sym q)
          (subst (λ (f : Step). Behind (next (table_of xs) t f)) (sym w.1)
          (given_back (table_of xs) g.head g.spent (kept_of xs may.2)
          (in_hold xs may.2 (subst (λ (es : List Step). IsGripped es x h e) (sym w.0) g.gripped))))
      by_own q rec (inr w) =
          let mild : Lacks (λ f. not (is_mild f)) (w.0 ++ y.made ∷ []) = subst (Lacks (λ f. not (is_mild f))) w.2 g.mild
          in
          subst (λ (i : ℕ). Behind (next (table_of xs) i y.made)) (sym q)
          (behind_own (table_of xs) y.made
          (mild_of (is_mild y.made) (lacks_right (λ f. not (is_mild f)) w.0 (y.made ∷ []) mild).0)
          (rec (record {
            hold = g.hold;
            head = g.head;
            spent = g.spent;
            later = w.0;
            split = w.1;
            gripped = g.gripped;
            mild = lacks_left (λ f. not (is_mild f)) w.0 (y.made ∷ []) mild;
          })))

      by : ((eqb y.task t ≡ true) × (y.task ≡ t)) ⊎ ((eqb y.task t ≡ false) × (y.task ≢ t))
          → (IsLeftQueued (hist xs t) x h e → Behind (table_of xs)) → Behind (table_of (y ∷ xs))
      by (inl q) rec = by_own q.1 rec
          (last_of (hist xs t) y.made g.hold (step.Unlock g.head g.spent) g.later
          (sym (own_history y xs q.1) ∙ g.split))
      by (inr q) rec = behind_other (table_of xs) y.task y.made may.1 takes.0 q.1
          (rec (record {
            hold = g.hold;
            head = g.head;
            spent = g.spent;
            later = g.later;
            split = sym (other_history y xs q.1) ∙ g.split;
            gripped = g.gripped;
            mild = g.mild;
          }))

  -- so the entry of a task that was not woken stands
  pub still_queued : (xs : List TaskStep) → AreAllowed xs → AllTakeOffWoken xs → IsLeftQueued (hist xs t) x h e
      → ((table_of xs).task t).state ≢ 0 → (table_of xs).entry x ≡ Some e
  still_queued xs may takes g down = by (left_queued xs may takes g)
    where
      by : Behind (table_of xs) → (table_of xs).entry x ≡ Some e
      by (inl low) = absurd (down low)
      by (inr q) = q.0

pub left_entries_stand : LeftEntriesStand
left_entries_stand xs may takes x h e left down = still_queued (owner x) x h e refl xs may takes left down

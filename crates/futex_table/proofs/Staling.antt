-- Who loaded a value of a futex in its hold, and sleeps, is woken by a walk of a task that changed the word after that.
use Rattle.std.proofs.Common.{◌∙◌, ap, refl, sym, subst, append_assoc, arith, inl, inr}
use Rattle.std.proofs.lemmas.Bool.Decides.{eqb_tells, nat_tests}
use Rattle.std.specs.Prelude.{ℕ, ◌≡◌, ◌≢◌, ◌≤◌, ◌⊎◌, ◌==◌, ◌&&◌, ◌||◌, not, nat_le, eqb, Bool, true, false, if◌then◌else◌, Option, Some, None, List, [], ◌∷◌, ◌++◌}
use Rattle.wait_model.specs.{declared.steps.Step.Step, declared.tasks.TaskRecord.TaskRecord, declared.watches.Aim.Aim}
use Rattle.wait_model.specs.{declared.watches.Entry.Entry, declared.watches.Kind.Kind, declared.watches.Watch.Watch}
use Rattle.wait_model.specs.{Facts.Facts, Facts.Kept, Functions.put, Rows.Allowed, Tables.Table, Tables.next}
use Rattle.wait_model.specs.Fold.{after, after_all, after_unlock, begun, finds_bit_set, hits, is_for_page, paused}
use Rattle.wait_model.specs.Fold.{view_of}
use Rattle.wait_model.specs.Histories.{Lacks, publishes, turns_lock}
use Rattle.wait_model.specs.Tasks.{meets, pending, raised, slept}
use Rattle.wait_model.specs.Views.{Hold, View, Walk, all_passed, blank, concerns, gone, no_hold}
use Rattle.wait_model.specs.Watches.{failing, head_of, is_bit, is_page, is_simple, is_woken, mask_of, owner, page, same}
use Rattle.wait_model.specs.declared.steps.Step.TheVariants as step
use Rattle.wait_model.specs.declared.watches.Kind.TheVariants as kinds
use Rattle.wait_model.specs.declared.watches.Watch.TheVariants as watch
use Rattle.wait_model.proofs.{HistoryLaws.Stretches.lacks_left, HistoryLaws.Stretches.lacks_right}
use Rattle.wait_model.proofs.{StepLaws.KeptLaws.step_keeps, StepLaws.UnlockSteps.not_whole}
use Rattle.wait_model.proofs.{StepLaws.UnlockSteps.unlock_hold, StepLaws.WakeSteps.wake_state}
use Rattle.wait_model.proofs.Functions.{both_left, both_right, put_at, put_other, put_same}
use Rattle.wait_rule.specs.Interleavings.{AreAllowed, TaskStep, table_of}
use Rattle.wait_rule.specs.Setters.{step_by}
use Rattle.wait_rule.proofs.{KnownLaws.Moments.kept_of, KnownLaws.Moments.views_of, KnownLaws.SetterSteps.anew_before}
use Rattle.futex_table.specs.FutexTables.{futex_head, futex_word}
use Rattle.futex_table.specs.StaleSleepers.{HasPassedEntries, IsOther, RuleLeavesNoStale, SleepsFor, StaysOther}
use Rattle.futex_table.specs.StaleSleepers.{StepsLeaveNoStale, is_unsteady}

-- lists by their last step
last_of : (es : List Step) → (es ≡ []) ⊎ ((fs : List Step) × (z : Step) × (es ≡ fs ++ z ∷ []))
last_of [] = inl refl
last_of (e ∷ es) = elim (last_of es) [
  | inl q ↦ inr ([], e, ap (λ (l : List Step). e ∷ l) q)
  | inr q ↦ inr (e ∷ q.0, q.1, ap (λ (l : List Step). e ∷ l) q.2)
]

tail_is : (x y : Step) (xs ys : List Step) → x ∷ xs ≡ y ∷ ys → xs ≡ ys
tail_is x y xs ys is = cc

head_is : (x y : Step) (xs ys : List Step) → x ∷ xs ≡ y ∷ ys → x ≡ y
head_is x y xs ys is = cc

some_last : {A : Type 0} (es : List Step) (y : Step) → es ++ y ∷ [] ≡ [] → A
some_last [] y is = absurd (cc)
some_last (e ∷ es) y is = absurd (cc)

snoc_is : (es fs : List Step) (y z : Step) → es ++ y ∷ [] ≡ fs ++ z ∷ [] → (es ≡ fs) × (y ≡ z)
snoc_is [] [] y z is = (refl, head_is y z [] [] is)
snoc_is [] (f ∷ fs) y z is = some_last fs z (sym (tail_is y f [] (fs ++ z ∷ []) is))
snoc_is (e ∷ es) [] y z is = some_last es y (tail_is e z (es ++ y ∷ []) [] is)
snoc_is (e ∷ es) (f ∷ fs) y z is =
    let eq : e ≡ f = head_is e f (es ++ y ∷ []) (fs ++ z ∷ []) is in
    let rest = snoc_is es fs y z (tail_is e f (es ++ y ∷ []) (fs ++ z ∷ []) is) in
    (λ i. eq i ∷ rest.0 i, rest.1)

-- a hold goes on where no lock is turned
head_stays : (e : Step) (v : View) → turns_lock e ≡ false → (after e v).hold.head ≡ v.hold.head
head_stays (step.Lock i aim w) v t = absurd (cc)
head_stays (step.Unlock i sp) v t = absurd (cc)
head_stays e v t = refl

heads_stay : (es : List Step) (v : View) → Lacks turns_lock es → (after_all v es).hold.head ≡ v.hold.head
heads_stay [] v l = refl
heads_stay (e ∷ es) v l = heads_stay es (after e v) l.1 ∙ head_stays e v l.0

pub in_hold : (front more : List Step) (v : View) (h : ℕ) (aim : Option Aim) (w : ℕ) (c : Watch) (r : ℕ)
    → Lacks turns_lock more
    → (after_all v (front ++ step.Lock h aim w ∷ step.Load c r ∷ more)).hold.head ≡ Some h
in_hold [] more v h aim w c r l = heads_stay more (after (step.Load c r) (after (step.Lock h aim w) v)) l
in_hold (e ∷ front) more v h aim w c r l = in_hold front more (after e v) h aim w c r l

-- a walk of the futex is one of a plain condition
pub record IsPlainWalk (f : ℕ) (d : Watch) : Type 0 where
  pub bit : is_bit d ≡ false
  pub head : head_of d ≡ futex_head f
  pub page : (p : ℕ) → same (page p) d ≡ false

plain_walk : (f : ℕ) (d : Watch) → same (futex_word f) d ≡ true → IsPlainWalk f d
plain_walk f (watch.Plain g) is = record {
  bit = refl;
  head = ap futex_head (let q : g ≡ f = grind (arith, nat_tests) in q);
  page = λ p. refl;
}
plain_walk f (watch.Done g) is = absurd (cc)
plain_walk f (watch.Bit g b) is = absurd (cc)
plain_walk f (watch.Var g o) is = absurd (cc)

still_off : (a m n : Bool) → (a || m) ≡ false → n ≡ false → (a || (m || n)) ≡ false
still_off true m n h g = absurd (cc)
still_off false true n h g = absurd (cc)
still_off false false true h g = absurd (cc)
still_off false false false h g = refl

-- the state of a task that a step left in it
slept_state : (k : TaskRecord) → (slept k).state ≢ 0 → (slept k).state ≡ k.state
slept_state k some = by (k.state == 0) (pending k.state k) some
  where
    by : (a b : Bool) → (if a then k else if b then record k { state = 0 } else record k { runnable = false }).state ≢ 0
        → (if a then k else if b then record k { state = 0 } else record k { runnable = false }).state ≡ k.state
    by true b h = refl
    by false true h = absurd (h refl)
    by false false h = refl

abbrev stores_state : Step → Bool
stores_state (step.State σ) = true
stores_state _ = false

state_back : (s : Table) (a t σ : ℕ) (ev : Step) → σ ≢ 0 → (t ≡ a → stores_state ev ≡ false)
    → ((next s a ev).task t).state ≡ σ → (s.task t).state ≡ σ
state_back s a t σ (step.State τ) ne own is = sym (ap (λ (k : TaskRecord). k.state)
    (put_other s.task a (record (s.task a) { state = τ }) t
    (λ q. absurd (let z : true ≡ false = own q in cc)))) ∙ is
state_back s a t σ (step.Sleep w) ne own is =
    let same_state : ((next s a (step.Sleep w)).task t).state ≡ (s.task t).state =
    put_at (λ (k : TaskRecord). k.state ≢ 0 → k.state ≡ (s.task t).state) s.task a (slept (s.task a)) t
    (λ q h. slept_state (s.task a) h ∙ ap (λ (i : ℕ). (s.task i).state) (sym q)) (λ q h. refl)
    (λ zero_is. ne (sym is ∙ zero_is)) in
    sym same_state ∙ is
state_back s a t σ (step.Wake who mask w) ne own is =
    sym (wake_state s a who mask w t (λ zero_is. ne (sym is ∙ zero_is))).0 ∙ is
state_back s a t σ (step.Signal who fatal w) ne own is =
    let same_state : ((next s a (step.Signal who fatal w)).task t).state ≡ (s.task t).state =
    put_at (λ (k : TaskRecord). k.state ≡ (s.task t).state) s.task who (raised fatal (s.task who)) t
    (λ q. ap (λ (i : ℕ). (s.task i).state) (sym q)) (λ q. refl) in
    sym same_state ∙ is
state_back s a t σ (step.Accept w) ne own is =
    let same_state : ((next s a (step.Accept w)).task t).state ≡ (s.task t).state =
    put_at (λ (k : TaskRecord). k.state ≡ (s.task t).state) s.task a
    (record (s.task a) { signal = false; fatal = false }) t
    (λ q. ap (λ (i : ℕ). (s.task i).state) (sym q)) (λ q. refl) in
    sym same_state ∙ is
state_back s a t σ ev ne own is = is

-- an entry that stands behind a step stood before it, if that did not queue it
abbrev queues_one : Step → Bool
queues_one (step.Queue x e) = true
queues_one _ = false

entry_back : (s : Table) (a t x : ℕ) (e : Entry) (ev : Step) → Allowed s a ev → owner x ≡ t
    → (t ≡ a → queues_one ev ≡ false) → (next s a ev).entry x ≡ Some e → s.entry x ≡ Some e
entry_back s a t x e (step.Queue y g) may mine own is = sym (put_other s.entry y (Some g) x
    (λ q. absurd (let z : true ≡ false = own (sym mine ∙ (ap owner q ∙ may.0)) in cc))) ∙ is
entry_back s a t x e (step.Unqueue y) may mine own is = sym (put_other s.entry y None x
    (λ q. absurd (let z : None ≡ Some e = sym (ap (put s.entry y None) q ∙ put_same s.entry y None) ∙ is in cc))) ∙ is
entry_back s a t x e ev may mine own is = is

steady_state : (ev : Step) → is_unsteady ev ≡ false → stores_state ev ≡ false
steady_state (step.State σ) h = absurd (cc)
steady_state ev h = refl

steady_queue : (ev : Step) → is_unsteady ev ≡ false → queues_one ev ≡ false
steady_queue (step.Queue x e) h = absurd (cc)
steady_queue ev h = refl

-- The sleeper, and the walker.
module _ (me t x f v σ : ℕ) (e : Entry) (front : List Step) (aim : Option Aim) (word : ℕ) (apart : t ≢ me)
    (mine : owner x ≡ t) (watches : e.watch ≡ futex_word f) (sort : e.kind ≡ kinds.Autoremove) (down : σ ≢ 0) where
  abbrev hd : ℕ
  hd = futex_head f

  abbrev one : Step
  one = step.Lock hd aim word

  abbrev two : Step
  two = step.Load (futex_word f) v

  abbrev hist : List TaskStep → List Step
  hist ys = (table_of ys).history t

  record Stands (s : Table) : Type 0 where
    entry : s.entry x ≡ Some e
    state : (s.task t).state ≡ σ

  record InHold (ys : List TaskStep) : Type 0 where
    more : List Step
    is : hist ys ≡ front ++ one ∷ two ∷ more
    within : Lacks turns_lock more

  record Left (ys : List TaskStep) : Type 0 where
    inside : List Step
    head : ℕ
    spent : Bool
    rest : List Step
    is : hist ys ≡ front ++ one ∷ two ∷ (inside ++ step.Unlock head spent ∷ rest)
    within : Lacks turns_lock inside
    steady : Lacks is_unsteady rest
    stands : Stands (table_of ys)

  abbrev Has : List TaskStep → Type 0
  Has ys = InHold ys ⊎ Left ys

  own_history : (y : TaskStep) (ys : List TaskStep) → t ≡ y.task → hist (y ∷ ys) ≡ hist ys ++ y.made ∷ []
  own_history y ys q = ap (table_of (y ∷ ys)).history q
      ∙ (put_same (table_of ys).history y.task ((table_of ys).history y.task ++ y.made ∷ [])
      ∙ ap (λ (i : ℕ). (table_of ys).history i ++ y.made ∷ []) (sym q))

  other_history : (y : TaskStep) (ys : List TaskStep) → t ≢ y.task → hist (y ∷ ys) ≡ hist ys
  other_history y ys ne = put_other (table_of ys).history y.task ((table_of ys).history y.task ++ y.made ∷ []) t ne

  stands_back : (s : Table) (a : ℕ) (ev : Step) → Allowed s a ev → (t ≡ a → is_unsteady ev ≡ false)
      → Stands (next s a ev) → Stands s
  stands_back s a ev may own z = record {
    entry = entry_back s a t x e ev may mine (λ q. steady_queue ev (own q)) z.entry;
    state = state_back s a t σ ev down (λ q. steady_state ev (own q)) z.state;
  }

  -- the load is none of a time when the word had another value
  no_load : {A : Type 0} (ys : List TaskStep) (a : ℕ) (ev : Step) → Allowed (table_of ys) a ev → IsOther ys f v
      → ev ≡ two → A
  no_load ys a ev may other q =
      let reads : v ≡ (table_of ys).words.plains f = subst (Allowed (table_of ys) a) q may in
      absurd (let yes_is : ((table_of ys).words.plains f == v) ≡ true = grind (arith, nat_tests) in
      let z : true ≡ false = sym yes_is ∙ other in cc)

  -- one step back
  back_other : (y : TaskStep) (ys : List TaskStep) → Allowed (table_of ys) y.task y.made → t ≢ y.task → Has (y ∷ ys)
      → Has ys
  back_other y ys may ne (inl z) = inl (record {
    more = z.more;
    is = sym (other_history y ys ne) ∙ z.is;
    within = z.within;
  })
  back_other y ys may ne (inr z) = inr (record {
    inside = z.inside;
    head = z.head;
    spent = z.spent;
    rest = z.rest;
    is = sym (other_history y ys ne) ∙ z.is;
    within = z.within;
    steady = z.steady;
    stands = stands_back (table_of ys) y.task y.made may (λ q. absurd (ne q)) z.stands;
  })

  back_held : (y : TaskStep) (ys : List TaskStep) → Allowed (table_of ys) y.task y.made → IsOther ys f v
      → t ≡ y.task → (more : List Step) → hist (y ∷ ys) ≡ front ++ one ∷ two ∷ more → Lacks turns_lock more → Has ys
  back_held y ys may other q more is within = by (last_of more)
    where
      by : (more ≡ []) ⊎ ((fs : List Step) × (z : Step) × (more ≡ fs ++ z ∷ [])) → Has ys
      by (inl none) =
          let eq : hist ys ++ y.made ∷ [] ≡ (front ++ one ∷ []) ++ two ∷ [] = sym (own_history y ys q)
          ∙ (is ∙ (ap (λ (l : List Step). front ++ one ∷ two ∷ l) none
          ∙ sym (append_assoc front (one ∷ []) (two ∷ [])))) in
          no_load ys y.task y.made may other (snoc_is (hist ys) (front ++ one ∷ []) y.made two eq).1
      by (inr z) =
          let eq : hist ys ++ y.made ∷ [] ≡ (front ++ one ∷ two ∷ z.0) ++ z.1 ∷ [] = sym (own_history y ys q)
          ∙ (is ∙ (ap (λ (l : List Step). front ++ one ∷ two ∷ l) z.2
          ∙ sym (append_assoc front (one ∷ two ∷ z.0) (z.1 ∷ [])))) in
          inl (record {
            more = z.0;
            is = (snoc_is (hist ys) (front ++ one ∷ two ∷ z.0) y.made z.1 eq).0;
            within = lacks_left turns_lock z.0 (z.1 ∷ []) (subst (Lacks turns_lock) z.2 within);
          })

  back_left : (y : TaskStep) (ys : List TaskStep) → Allowed (table_of ys) y.task y.made → t ≡ y.task → Left (y ∷ ys)
      → Has ys
  back_left y ys may q l = by (last_of l.rest)
    where
      u : Step
      u = step.Unlock l.head l.spent

      by : (l.rest ≡ []) ⊎ ((fs : List Step) × (z : Step) × (l.rest ≡ fs ++ z ∷ [])) → Has ys
      by (inl none) =
          let eq : hist ys ++ y.made ∷ [] ≡ (front ++ one ∷ two ∷ l.inside) ++ u ∷ [] = sym (own_history y ys q)
          ∙ (l.is ∙ (ap (λ (r : List Step). front ++ one ∷ two ∷ (l.inside ++ u ∷ r)) none
          ∙ sym (append_assoc front (one ∷ two ∷ l.inside) (u ∷ [])))) in
          inl (record {
            more = l.inside;
            is = (snoc_is (hist ys) (front ++ one ∷ two ∷ l.inside) y.made u eq).0;
            within = l.within;
          })
      by (inr z) =
          let eq : hist ys ++ y.made ∷ [] ≡ (front ++ one ∷ two ∷ (l.inside ++ u ∷ z.0)) ++ z.1 ∷ [] =
          sym (own_history y ys q)
          ∙ (l.is ∙ (ap (λ (r : List Step). front ++ one ∷ two ∷ (l.inside ++ u ∷ r)) z.2
          ∙ (ap (λ (r : List Step). front ++ one ∷ two ∷ r) (sym (append_assoc l.inside (u ∷ z.0) (z.1 ∷ [])))
          ∙ sym (append_assoc front (one ∷ two ∷ (l.inside ++ u ∷ z.0)) (z.1 ∷ []))))) in
          let both = snoc_is (hist ys) (front ++ one ∷ two ∷ (l.inside ++ u ∷ z.0)) y.made z.1 eq in
          let steady = subst (Lacks is_unsteady) z.2 l.steady in
          let mild : is_unsteady y.made ≡ false = ap is_unsteady both.1
          ∙ (lacks_right is_unsteady z.0 (z.1 ∷ []) steady).0 in
          inr (record {
            inside = l.inside;
            head = l.head;
            spent = l.spent;
            rest = z.0;
            is = both.0;
            within = l.within;
            steady = lacks_left is_unsteady z.0 (z.1 ∷ []) steady;
            stands = stands_back (table_of ys) y.task y.made may (λ _. mild) l.stands;
          })

  back_own : (y : TaskStep) (ys : List TaskStep) → Allowed (table_of ys) y.task y.made → IsOther ys f v → t ≡ y.task
      → Has (y ∷ ys) → Has ys
  back_own y ys may other q (inl z) = back_held y ys may other q z.more z.is z.within
  back_own y ys may other q (inr z) = back_left y ys may q z

  back : (y : TaskStep) (ys : List TaskStep) → Allowed (table_of ys) y.task y.made → IsOther ys f v → Has (y ∷ ys)
      → Has ys
  back y ys may other has = by (eqb_tells t y.task)
    where
      by : ((eqb t y.task ≡ true) × (t ≡ y.task)) ⊎ ((eqb t y.task ≡ false) × (t ≢ y.task)) → Has ys
      by (inl q) = back_own y ys may other q.1 has
      by (inr q) = back_other y ys may q.1 has

  -- so at each of these moments the task holds the head, or its entry stands, and it has its state
  abbrev Kept_at : Table → Type 0
  Kept_at s = ((s.view t).hold.head ≡ Some hd) ⊎ Stands s

  kept_at : (ys : List TaskStep) → Has ys → Kept_at (table_of ys)
  kept_at ys (inl z) = inl (ap (λ (u : View). u.hold.head) (views_of ys t ∙ ap view_of z.is)
      ∙ in_hold front z.more blank hd aim word (futex_word f) v z.within)
  kept_at ys (inr z) = inr z.stands

  -- the walk has not called the entry in its hold, and goes on before it
  abbrev Ahead : View → Type 0
  Ahead u = (w : Walk) → u.walk ≡ Some w → concerns w (futex_word f) σ ≡ true
      → (w.from ≤ e.place) × (u.hold.head ≡ Some hd → (u.hold.called (owner x) || u.hold.moot) ≡ false)

  plain_of : (w : Walk) → concerns w (futex_word f) σ ≡ true → IsPlainWalk f w.watch
  plain_of w con = plain_walk f w.watch (both_left (same (futex_word f) w.watch) (meets w.mask σ) con)

  gone_is : (u : View) → gone u x e ≡ (u.hold.called (owner x) || u.hold.moot)
  gone_is u = ap (λ (k : Kind). if is_woken k then u.hold.rung x else if is_page k then u.hold.moot
      else (u.hold.called (owner x) || u.hold.moot)) sort

  -- who holds the head is not the walker, where the sleeper does
  entry_there : (s : Table) → Facts s → Kept_at s → (s.view me).hold.head ≡ Some hd → Stands s
  entry_there s k (inl held) own = absurd (apart (k.one_holder t me hd held own))
  entry_there s k (inr z) own = z

  from_le : (a b : ℕ) → a ≤ b → nat_le a b ≡ true
  from_le a b le = grind (arith, nat_tests)

  not_passed : (s : Table) (w : Walk) (stop : ℕ → Bool) → Facts s → Stands s → (s.view me).hold.head ≡ Some hd
      → (s.view me).walk ≡ Some w → concerns w (futex_word f) σ ≡ true → Ahead (s.view me) → stop e.place ≡ false
      → all_passed (s.view me) w stop ≡ false
  not_passed s w stop k z held is con ahead off_stop =
      let a = ahead w is con in
      let simple : is_simple e.kind ≡ false = ap is_simple sort in
      let from : nat_le w.from e.place ≡ true = from_le w.from e.place a.0 in
      let un : gone (s.view me) x e ≡ false = gone_is (s.view me) ∙ a.1 held in
      not_whole s me hd w x e stop k held is z.entry
      (ap (λ (d : Watch). same d w.watch) watches ∙ both_left (same (futex_word f) w.watch) (meets w.mask σ) con)
      (rw (simple, from, off_stop, un) refl)

  -- a step of the walker
  begun_from : (o : Option Walk) (a : Option Aim) (w : Walk) → begun o a ≡ Some w
      → ((g : Walk) → o ≡ Some g → concerns g (futex_word f) σ ≡ true → g.from ≤ e.place)
      → concerns w (futex_word f) σ ≡ true → w.from ≤ e.place
  begun_from o None w is old con = absurd (cc)
  begun_from None (Some a) w is old con =
      subst (λ (g : Walk). g.from ≤ e.place)
      (let q : record { watch = a.watch; mask = mask_of a.mode; from = 0 } ≡ w = cc in q) (omega arith)
  begun_from (Some g) (Some a) w is old con = by (same a.watch g.watch && (g.mask == mask_of a.mode)) is
    where
      by : (b : Bool)
          → (if b then Some g else Some (record { watch = a.watch; mask = mask_of a.mode; from = 0 })) ≡ Some w
          → w.from ≤ e.place
      by true q = old w (ap (λ (o : Option Walk). o) q) con
      by false q = subst (λ (u : Walk). u.from ≤ e.place)
          (let r : record { watch = a.watch; mask = mask_of a.mode; from = 0 } ≡ w = cc in r) (omega arith)

  paused_from : (u : View) (g : Walk) (mark : Option ℕ) (w : Walk) → paused u g mark ≡ Some w
      → (concerns g (futex_word f) σ ≡ true → (q : ℕ) → all_passed u g (λ i. nat_le q i) ≡ true → q ≤ e.place)
      → concerns w (futex_word f) σ ≡ true → w.from ≤ e.place
  paused_from u g None w is stops con = absurd (cc)
  paused_from u g (Some q) w is stops con = by (all_passed u g (λ i. nat_le q i)) refl is
    where
      by : (b : Bool) → all_passed u g (λ i. nat_le q i) ≡ b → (if b then Some (record g { from = q }) else None) ≡ Some w
          → w.from ≤ e.place
      by false h r = absurd (cc)
      by true h r =
          let at : record g { from = q } ≡ w = cc in
          subst (λ (k : Walk). k.from ≤ e.place) at
          (stops (subst (λ (k : Walk). concerns k (futex_word f) σ ≡ true) (sym at) con) q h)

  module _ (s : Table) (k : Kept s) (was : Kept_at s) (ahead : Ahead (s.view me)) where
    unlocks : (i : ℕ) (sp : Bool) → Allowed s me (step.Unlock i sp) → Ahead (after (step.Unlock i sp) (s.view me))
    unlocks i sp may w is con = (
      by (s.view me).walk refl is,
      λ held. absurd (let z : None ≡ Some hd =
          sym (ap (λ (h : Hold). h.head) (unlock_hold (s.view me) (s.view me).walk sp)) ∙ held in cc),
    )
      where
        stops : (g : Walk) → (s.view me).walk ≡ Some g → concerns g (futex_word f) σ ≡ true → (q : ℕ)
            → all_passed (s.view me) g (λ j. nat_le q j) ≡ true → q ≤ e.place
        stops g at cg q all = at_place (nat_le q e.place) refl
          where
            here : (s.view me).hold.head ≡ Some hd
            here = may.0 ∙ ap (λ (h : ℕ). Some h) (sym ((k.facts.views me).hold.aimed i g may.0 at)
                ∙ (plain_of g cg).head)

            at_place : (b : Bool) → nat_le q e.place ≡ b → q ≤ e.place
            at_place true h = grind (arith, nat_tests)
            at_place false h = absurd (let z : all_passed (s.view me) g (λ j. nat_le q j) ≡ false =
                not_passed s g (λ j. nat_le q j) k.facts (entry_there s k.facts was here) here at cg ahead h in cc)

        by : (o : Option Walk) → (s.view me).walk ≡ o → (after_unlock (s.view me) o sp).walk ≡ Some w
            → w.from ≤ e.place
        by None at r = absurd (cc)
        by (Some g) at r = left_walk (sp || all_passed (s.view me) g (λ _. false)) r
          where
            left_walk : (b : Bool) → (if b then record (s.view me) {
              hold = no_hold;
              walk = None;
              duty = record ((s.view me).duty) { owes = λ c τ. (s.view me).duty.owes c τ && not (concerns g c τ) };
            }
                else record (s.view me) { hold = no_hold; walk = paused (s.view me) g (s.view me).mark }).walk ≡ Some w
                → w.from ≤ e.place
            left_walk true q = absurd (cc)
            left_walk false q = paused_from (s.view me) g (s.view me).mark w q (stops g at) con

    -- a wake leaves the task in its state, so it is none of the walk
    wakes : (who mask r : ℕ) → Stands (next s me (step.Wake who mask r)) → (w : Walk) → (s.view me).walk ≡ Some w
        → concerns w (futex_word f) σ ≡ true → (hits (s.view me).walk mask && (owner x == who)) ≡ false
    wakes who mask r z w is con = by (owner x == who) (mask == w.mask) refl refl
      where
        by : (a b : Bool) → (owner x == who) ≡ a → (mask == w.mask) ≡ b
            → (hits (s.view me).walk mask && (owner x == who)) ≡ false
        by false b p q = ap (λ (c : Bool). hits (s.view me).walk mask && c) p ∙ and_false (hits (s.view me).walk mask)
          where
            and_false : (c : Bool) → (c && false) ≡ false
            and_false true = refl
            and_false false = refl
        by true false p q = ap (λ (o : Option Walk). hits o mask && (owner x == who)) is
            ∙ ap (λ (c : Bool). c && (owner x == who)) q
        by true true p q =
            let who_is : t ≡ who = sym mine ∙ (let m : owner x ≡ who = grind (arith, nat_tests) in m) in
            let state = wake_state s me who mask r t (λ zero_is. down (sym z.state ∙ zero_is)) in
            let unmet : meets mask σ ≡ false = ap (meets mask) (sym z.state ∙ state.0) ∙ state.1 who_is in
            let mask_is : mask ≡ w.mask = grind (arith, nat_tests) in
            let met : meets mask σ ≡ true = ap (λ (m : ℕ). meets m σ) mask_is
            ∙ both_right (same (futex_word f) w.watch) (meets w.mask σ) con in
            absurd (let c : true ≡ false = sym met ∙ unmet in cc)

    own_step : (ev : Step) → Allowed s me ev → Kept_at (next s me ev) → Facts (next s me ev)
        → Ahead (after ev (s.view me))
    own_step (step.Lock i a r) may behind kn w is con = (
      begun_from (s.view me).walk a w is (λ g at cg. (ahead g at cg).0) con,
      λ held. refl,
    )
    own_step (step.Unlock i sp) may behind kn w is con = unlocks i sp may w is con
    own_step (step.Publish d n r) may behind kn w is con = (anew_before (s.view me).walk e.place w is, λ held. refl)
    own_step (step.Wake who mask r) may behind kn w is con = (
      (ahead w is con).0,
      λ held.
          let z = entry_there (next s me (step.Wake who mask r)) kn behind
          (ap (λ (u : View). u.hold.head) (put_same s.view me (after (step.Wake who mask r) (s.view me))) ∙ held) in
          or_more ((s.view me).hold.called (owner x)) (hits (s.view me).walk mask && (owner x == who))
          (s.view me).hold.moot ((ahead w is con).1 held) (wakes who mask r z w is con),
    )
      where
        or_more : (a b m : Bool) → (a || m) ≡ false → b ≡ false → ((a || b) || m) ≡ false
        or_more true b m h g = absurd (cc)
        or_more false true m h g = absurd (cc)
        or_more false false m h g = h
    own_step (step.Load l r) may behind kn w is con = (
      (ahead w is con).0,
      λ held. still_off ((s.view me).hold.called (owner x)) (s.view me).hold.moot (finds_bit_set (s.view me).walk l r)
          ((ahead w is con).1 held)
          (ap (λ (o : Option Walk). finds_bit_set o l r) is ∙ ap (λ (b : Bool). b && failing l r w.watch) (plain_of w con).bit),
    )
    own_step (step.TasFor y p r) may behind kn w is con = (
      (ahead w is con).0,
      λ held. still_off ((s.view me).hold.called (owner x)) (s.view me).hold.moot (is_for_page (s.view me).walk p)
          ((ahead w is con).1 held) (ap (λ (o : Option Walk). is_for_page o p) is ∙ (plain_of w con).page p),
    )
    own_step ev may behind kn w is con = ahead w is con

  -- any step
  one_step : (y : TaskStep) (ys : List TaskStep) → AreAllowed (y ∷ ys) → Has ys → Has (y ∷ ys)
      → Ahead ((table_of ys).view me) → Ahead ((table_of (y ∷ ys)).view me)
  one_step y ys may was has ahead = by (eqb_tells me y.task)
    where
      k : Kept (table_of ys)
      k = kept_of ys may.2

      by : ((eqb me y.task ≡ true) × (me ≡ y.task)) ⊎ ((eqb me y.task ≡ false) × (me ≢ y.task))
          → Ahead ((table_of (y ∷ ys)).view me)
      by (inl q) =
          let kn = (step_keeps (table_of ys) y.task y.made k may.1).facts in
          subst Ahead (sym (ap (λ (i : ℕ). (next (table_of ys) i y.made).view me) (sym q.1)
          ∙ put_same (table_of ys).view me (after y.made ((table_of ys).view me))))
          (own_step (table_of ys) k (kept_at ys was) ahead y.made
          (subst (λ (i : ℕ). Allowed (table_of ys) i y.made) (sym q.1) may.1)
          (subst (λ (i : ℕ). Kept_at (next (table_of ys) i y.made)) (sym q.1) (kept_at (y ∷ ys) has))
          (subst (λ (i : ℕ). Facts (next (table_of ys) i y.made)) (sym q.1) kn))
      by (inr q) = subst Ahead (sym (put_other (table_of ys).view y.task (after y.made ((table_of ys).view y.task)) me
          q.1)) ahead

  published : (u : View) (p : Step) → publishes p (futex_word f) ≡ true → Ahead (after p u)
  published u (step.Publish d n r) is w at con = (anew_before u.walk e.place w at, λ held. refl)
  published u p is w at con = absurd (cc)

  last_other : (zs base : List TaskStep) → StaysOther zs base f v → IsOther (zs ++ base) f v
  last_other [] base o = o
  last_other (z ∷ zs) base o = o.0

  ahead_at : (zs base : List TaskStep) (p : Step) → publishes p (futex_word f) ≡ true
      → AreAllowed (zs ++ step_by me p ∷ base) → StaysOther zs (step_by me p ∷ base) f v
      → Has (zs ++ step_by me p ∷ base) → Ahead ((table_of (zs ++ step_by me p ∷ base)).view me)
  ahead_at [] base p is may other has = subst Ahead
      (sym (put_same (table_of base).view me (after p ((table_of base).view me))))
      (published ((table_of base).view me) p is)
  ahead_at (z ∷ zs) base p is may other has =
      let was = back z (zs ++ step_by me p ∷ base) may.1 (last_other zs (step_by me p ∷ base) other.1) has in
      one_step z (zs ++ step_by me p ∷ base) may was has (ahead_at zs base p is may.2 other.1 was)

  back_all : (zs ys : List TaskStep) → AreAllowed (zs ++ ys) → StaysOther zs ys f v → Has (zs ++ ys) → Has ys
  back_all [] ys may other has = has
  back_all (z ∷ zs) ys may other has = back_all zs ys may.2 other.1
      (back z (zs ++ ys) may.1 (last_other zs ys other.1) has)

  allowed_behind : (zs ys : List TaskStep) → AreAllowed (zs ++ ys) → AreAllowed ys
  allowed_behind [] ys may = may
  allowed_behind (z ∷ zs) ys may = allowed_behind zs ys may.2

  none_left : (later between before : List TaskStep) (p : Step) → publishes p (futex_word f) ≡ true
      → AreAllowed (later ++ step_by me (step.Unlock hd false) ∷ (between ++ step_by me p ∷ before))
      → StaysOther between (step_by me p ∷ before) f v
      → StaysOther later (step_by me (step.Unlock hd false) ∷ (between ++ step_by me p ∷ before)) f v
      → HasPassedEntries ((table_of (between ++ step_by me p ∷ before)).view me) f σ
      → Has (later ++ step_by me (step.Unlock hd false) ∷ (between ++ step_by me p ∷ before)) → ⊥
  none_left later between before p is may until since walked has =
      let ys = between ++ step_by me p ∷ before in
      let end = step_by me (step.Unlock hd false) in
      let front_may = allowed_behind later (end ∷ ys) may in
      let at_end = back_all later (end ∷ ys) may since has in
      let at = back end ys front_may.1 (last_other between (step_by me p ∷ before) until) at_end in
      let ahead = ahead_at between before p is front_may.2 until at in
      let k = kept_of ys front_may.2 in
      let held : ((table_of ys).view me).hold.head ≡ Some hd = front_may.1.0 in
      let none = not_passed (table_of ys) walked.walk (λ _. false) k.facts
      (entry_there (table_of ys) k.facts (kept_at ys at) held) held walked.is walked.concerns ahead refl in
      absurd (let z : true ≡ false = sym walked.passed ∙ none in cc)

pub steps_leave_no_stale : StepsLeaveNoStale
steps_leave_no_stale xs may waker f v σ w t x e apart z = none_left waker t x f v σ e z.front z.aim z.word apart z.own
    z.watch z.kind z.down w.later w.between w.before w.publish w.is_publish (subst AreAllowed w.split may) w.until w.since
    w.walked (inr (record {
      inside = z.inside;
      head = z.head;
      spent = z.spent;
      rest = z.rest;
      is = ap (λ (ys : List TaskStep). (table_of ys).history t) (sym w.split) ∙ z.history;
      within = z.within;
      steady = z.steady;
      stands = record {
        entry = ap (λ (ys : List TaskStep). (table_of ys).entry x) (sym w.split) ∙ z.stands;
        state = ap (λ (ys : List TaskStep). ((table_of ys).task t).state) (sym w.split) ∙ z.state;
      };
    }))

pub rule_leaves_no_stale : RuleLeavesNoStale
rule_leaves_no_stale s items ruled waker f v σ w t x e apart z = steps_leave_no_stale
    ruled.whole.interleaved.steps ruled.whole.interleaved.allowed waker f v σ w t x e apart
    (subst (λ (u : Table). SleepsFor u t x e f v σ) ruled.whole.interleaved.leads z)

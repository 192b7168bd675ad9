-- Who is asleep in a wait has its entry queued, so a walk behind a change of the word has woken it.
use Rattle.std.proofs.Common.{◌∙◌, ap, append_assoc, arith, inl, inr, refl, subst, sym}
use Rattle.std.proofs.lemmas.Bool.Decides.{eqb_tells, nat_tests}
use Rattle.std.specs.Prelude.{ℕ, ◌≡◌, ◌≢◌, ◌⊎◌, ◌==◌, eqb, true, false, List, [], ◌∷◌, ◌++◌}
use Rattle.wait_model.specs.{declared.steps.Step.Step, Rows.Allowed, Tables.Table, Views.blank, Watches.head_of}
use Rattle.wait_model.specs.Watches.{mask_of}
use Rattle.wait_model.specs.Histories.{Lacks, is_publish, publishes}
use Rattle.wait_model.specs.Tasks.{IsState, meets, state_mask}
use Rattle.wait_model.specs.declared.steps.Step.TheVariants as step
use Rattle.wait_model.specs.declared.watches.Mode.TheVariants as mode
use Rattle.wait_model.proofs.Functions.{put_other, put_same}
use Rattle.wait_model.proofs.HistoryLaws.Stretches.{lacks_append, lacks_left, lacks_right}
use Rattle.wait_rule.specs.{Items.steps_of, Known.Known, Queues.index, Says.history_of, Setters.step_by}
use Rattle.wait_rule.specs.Interleavings.{AreAllowed, TaskStep, table_of}
use Rattle.order_laws.specs.TakenOff.{AllTakeOffWoken, IsLeftQueued}
use Rattle.order_laws.proofs.QueuedOrders.{LastOf, last_of, still_queued}
use Rattle.wait_class.specs.{declared.stages.Run.Run, Tables.IsAsleepAt}
use Rattle.wait_class.proofs.Ground.Standing.{owner_own}
use Rattle.futex_table.specs.{Sleepers.SleepsByValue, declared.waits.FutexStage.FutexStage}
use Rattle.futex_table.specs.declared.waits.FutexWait.{FutexWait}
use Rattle.futex_table.specs.FutexTables.{AreSaws, futex_head, futex_table, futex_word, slept_steps}
use Rattle.futex_table.specs.StaleSleepers.{HasWokenStale, IsOther, RuleLeavesNobody, SleepsFor, StaysOther}
use Rattle.futex_table.specs.StaleSleepers.{StepsLeaveNobody}
use Rattle.futex_table.proofs.{FutexAdds.kind_is, Staling.in_hold, Staling.steps_leave_no_stale}
use Rattle.futex_table.proofs.Sleeping.{saws_turn, sleepers_queued, sleeps_for}

-- looks are no stores
saws_publish : (es : List Step) → AreSaws es → Lacks is_publish es
saws_publish [] l = tt
saws_publish (step.Saw x w ∷ es) l = (refl, saws_publish es l)
saws_publish (e ∷ es) l = absurd l

-- a state that a wake with NORMAL meets is not RUNNING, and each other lawful one is such
up_met : (σ : ℕ) → meets (mask_of mode.Normal) σ ≡ true → σ ≢ 0
unfolding meets
up_met σ met zero_is = absurd (let z : true ≡ false = sym met ∙ ap (meets (mask_of mode.Normal)) zero_is in cc)

lawful_met : (σ : ℕ) → IsState σ → σ ≢ 0 → meets (mask_of mode.Normal) σ ≡ true
unfolding meets
lawful_met σ (inl q) down = absurd (down q)
lawful_met σ (inr (inl q)) down = ap (meets (mask_of mode.Normal)) q
lawful_met σ (inr (inr (inl q))) down = ap (meets (mask_of mode.Normal)) q
lawful_met σ (inr (inr (inr q))) down = ap (meets (mask_of mode.Normal)) q

-- The walker itself is not asleep there either: its load would stand behind its store.
module _ (t f v : ℕ) where
  abbrev two : Step
  two = step.Load (futex_word f) v

  -- its history ends with such a load and steps none of which is a store
  pub record Ends (ys : List TaskStep) : Type 0 where
    pub front : List Step
    pub more : List Step
    pub is : (table_of ys).history t ≡ front ++ two ∷ more
    pub quiet : Lacks is_publish more

  other_base : (zs base : List TaskStep) → StaysOther zs base f v → IsOther (zs ++ base) f v
  other_base [] base o = o
  other_base (z ∷ zs) base o = o.0

  no_load : {A : Type 0} (ys : List TaskStep) (a : ℕ) (e : Step) → Allowed (table_of ys) a e → IsOther ys f v → e ≡ two
      → A
  no_load ys a e may other q =
      let reads : v ≡ (table_of ys).words.plains f = subst (Allowed (table_of ys) a) q may in
      absurd (let yes_is : ((table_of ys).words.plains f == v) ≡ true = grind (arith, nat_tests) in
      let z : true ≡ false = sym yes_is ∙ other in cc)

  grows : (y : TaskStep) (ys : List TaskStep) → t ≡ y.task
      → (table_of ys).history t ++ y.made ∷ [] ≡ (table_of (y ∷ ys)).history t
  grows y ys q = sym (ap (table_of (y ∷ ys)).history q
      ∙ (put_same (table_of ys).history y.task ((table_of ys).history y.task ++ y.made ∷ [])
      ∙ ap (λ (i : ℕ). (table_of ys).history i ++ y.made ∷ []) (sym q)))

  one_back : (y : TaskStep) (ys : List TaskStep) → Allowed (table_of ys) y.task y.made → IsOther ys f v
      → Ends (y ∷ ys) → Ends ys
  one_back y ys may other z = by (eqb_tells t y.task)
    where
      mine : LastOf ((table_of ys).history t) y.made z.front two z.more → Ends ys
      mine (inl q) = no_load ys y.task y.made may other q.1
      mine (inr q) = record {
        front = z.front;
        more = q.0;
        is = q.1;
        quiet = lacks_left is_publish q.0 (y.made ∷ []) (subst (Lacks is_publish) q.2 z.quiet);
      }

      by : ((eqb t y.task ≡ true) × (t ≡ y.task)) ⊎ ((eqb t y.task ≡ false) × (t ≢ y.task)) → Ends ys
      by (inl q) = mine (last_of ((table_of ys).history t) y.made z.front two z.more (grows y ys q.1 ∙ z.is))
      by (inr q) = record {
        front = z.front;
        more = z.more;
        is = sym (put_other (table_of ys).history y.task ((table_of ys).history y.task ++ y.made ∷ []) t q.1) ∙ z.is;
        quiet = z.quiet;
      }

  all_back : (zs ys : List TaskStep) → AreAllowed (zs ++ ys) → StaysOther zs ys f v → Ends (zs ++ ys) → Ends ys
  all_back [] ys may other z = z
  all_back (y ∷ zs) ys may other z = all_back zs ys may.2 other.1
      (one_back y (zs ++ ys) may.1 (other_base zs ys other.1) z)

  allowed_from : (zs ys : List TaskStep) → AreAllowed (zs ++ ys) → AreAllowed ys
  allowed_from [] ys may = may
  allowed_from (z ∷ zs) ys may = allowed_from zs ys may.2

  -- a store is none of them
  is_store : (p : Step) → publishes p (futex_word f) ≡ true → is_publish p ≡ true
  is_store (step.Publish c n r) is = refl
  is_store p is = absurd (cc)

  no_store : (p : Step) → publishes p (futex_word f) ≡ true → p ≡ two → ⊥
  no_store p is q = let z : false ≡ true = ap (λ (e : Step). publishes e (futex_word f)) (sym q) ∙ is in absurd (cc)

  stored_last : (p : Step) (before : List TaskStep) → publishes p (futex_word f) ≡ true
      → Ends (step_by t p ∷ before) → ⊥
  stored_last p before is z = by (last_of ((table_of before).history t) p z.front two z.more
      (grows (step_by t p) before refl ∙ z.is))
    where
      by : LastOf ((table_of before).history t) p z.front two z.more → ⊥
      by (inl q) = no_store p is q.1
      by (inr q) = let z : false ≡ true = sym (lacks_right is_publish q.0 (p ∷ [])
          (subst (Lacks is_publish) q.2 z.quiet)).0 ∙ is_store p is in absurd (cc)

  pub own_awake : (xs : List TaskStep) (σ : ℕ) → AreAllowed xs → HasWokenStale xs t f v σ → Ends xs → ⊥
  own_awake xs σ may w z =
      let store = step_by t w.publish in
      let end = step_by t (step.Unlock (futex_head f) false) in
      let ys = w.between ++ store ∷ w.before in
      let all = subst AreAllowed w.split may in
      let at_end = all_back w.later (end ∷ ys) all w.since (subst Ends w.split z) in
      let front = allowed_from w.later (end ∷ ys) all in
      let at = one_back end ys front.1 (other_base w.between (store ∷ w.before) w.until) at_end in
      stored_last w.publish w.before w.is_publish (all_back w.between (store ∷ w.before) front.2 w.until at)

module _ (k : Known) (r : Run FutexWait) (s : FutexStage) (a : IsAsleepAt futex_table k r s) where
  abbrev x : ℕ
  x = index k.view.number 0

  abbrev hd : ℕ
  hd = futex_head r.of.futex

  pub z : SleepsByValue (history_of k) x r.of
  z = sleepers_queued k r s a

  left : IsLeftQueued (history_of k) x hd z.queued.entry
  left =
      let q = z.queued in
      let one = step.Lock hd q.aim q.word in
      let two = step.Load (futex_word r.of.futex) r.of.expected in
      let front = q.before ++ one ∷ two ∷ q.looks in
      let stored = step.State (state_mask r.of.state) ∷ [] in
      let grip = step.Queue x q.entry in
      record {
        hold = front ++ grip ∷ stored;
        head = hd;
        spent = false;
        later = step.Sleep z.found ∷ [];
        split = q.is ∙ (sym (append_assoc q.before (one ∷ two ∷ q.looks) (grip ∷ slept_steps r.of z.found))
            ∙ sym (append_assoc front (grip ∷ stored) (step.Unlock hd false ∷ step.Sleep z.found ∷ [])));
        gripped = record {
          front = front;
          grip = grip;
          inside = stored;
          split = refl;
          held = in_hold q.before q.looks blank hd q.aim q.word (futex_word r.of.futex) r.of.expected
              (saws_turn q.looks q.saws);
          grips = (refl, refl, ap head_of q.watch);
          kept = (refl, tt);
        };
        mild = (refl, tt);
      }

  pub stands_asleep : (xs : List TaskStep) → AreAllowed xs → AllTakeOffWoken xs
      → (table_of xs).history k.view.number ≡ history_of k → ((table_of xs).task k.view.number).state ≢ 0
      → SleepsFor (table_of xs) k.view.number x z.queued.entry r.of.futex r.of.expected
      ((table_of xs).task k.view.number).state
  stands_asleep xs may takes same down = sleeps_for k r s a (table_of xs) same z.queued.entry
      (still_queued k.view.number x hd z.queued.entry (owner_own k.view.number) xs may takes
      (subst (λ (es : List Step). IsLeftQueued es x hd z.queued.entry) (sym same) left) down)
      z.queued.watch (z.queued.kind ∙ kind_is r.of.futex a.fits) down

  -- what it made last is no store
  pub ends_asleep : (xs : List TaskStep) → (table_of xs).history k.view.number ≡ history_of k
      → Ends k.view.number r.of.futex r.of.expected xs
  ends_asleep xs same =
      let q = z.queued in
      let behind = step.Queue x q.entry ∷ slept_steps r.of z.found in
      record {
        front = q.before ++ step.Lock hd q.aim q.word ∷ [];
        more = q.looks ++ behind;
        is = same ∙ (q.is ∙ sym (append_assoc q.before (step.Lock hd q.aim q.word ∷ [])
            (step.Load (futex_word r.of.futex) r.of.expected ∷ (q.looks ++ behind))));
        quiet = lacks_append is_publish q.looks behind (saws_publish q.looks q.saws) (refl, (refl, (refl, (refl, tt))));
      }

pub steps_leave_nobody : StepsLeaveNobody
steps_leave_nobody xs may takes waker k r s a walks same met = by (eqb_tells k.view.number waker)
  where
    σ : ℕ
    σ = ((table_of xs).task k.view.number).state

    by : ((eqb k.view.number waker ≡ true) × (k.view.number ≡ waker))
        ⊎ ((eqb k.view.number waker ≡ false) × (k.view.number ≢ waker)) → ⊥
    by (inl q) = own_awake k.view.number r.of.futex r.of.expected xs σ may
        (subst (λ (n : ℕ). HasWokenStale xs n r.of.futex r.of.expected σ) (sym q.1) (walks σ met))
        (ends_asleep k r s a xs same)
    by (inr q) = steps_leave_no_stale xs may waker r.of.futex r.of.expected σ (walks σ met) k.view.number
        (index k.view.number 0) (z k r s a).queued.entry q.1
        (stands_asleep k r s a xs may takes same (up_met σ met))

pub rule_leaves_nobody : RuleLeavesNobody
rule_leaves_nobody u items ruled takes waker k r s a walks own down =
    let o = ruled.whole.interleaved in
    steps_leave_nobody o.steps o.allowed takes waker k r s a walks
    (ap (λ (w : Table). w.history k.view.number) (sym o.leads) ∙ (ruled.histories k.view.number ∙ ap steps_of own))
    (ap (λ (w : Table). meets (mask_of mode.Normal) (w.task k.view.number).state) (sym o.leads)
    ∙ lawful_met (u.task k.view.number).state (ruled.lawful.tasks k.view.number).state down)

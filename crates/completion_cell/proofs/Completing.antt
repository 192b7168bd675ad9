-- A completion is made done: the transitions, and what the calls carry on.
use Rattle.std.proofs.Common.{◌∙◌, ap, sym, refl, subst, arith, inl, inr, eqb-true}
use Rattle.std.specs.Prelude.{ℕ, ◌≡◌, ◌≢◌, ◌<◌, ◌≤◌, ◌+◌, ◌⊎◌, ◌&&◌, ◌||◌, ◌==◌, not, nat_lt, if◌then◌else◌, Bool, true}
use Rattle.std.specs.Prelude.{false, Some, None, [], ◌∷◌, ◌++◌, MatchBool}
use Rattle.std.proofs.lemmas.Bool.Decides.{nat_tests}
use Rattle.wait_model.specs.{declared.layout.TheConstants.ALL_DONE, declared.layout.TheConstants.FIRST_SIMPLE_HEAD}
use Rattle.wait_model.specs.{declared.calls.Call.Call, declared.points.SelectPoint.SelectPoint}
use Rattle.wait_model.specs.{declared.watches.Watch.Watch, Counts.raised_done, Runs.set_step, Fold.begun_anew}
use Rattle.wait_model.specs.{Views.View as Told, Watches.head_of}
use Rattle.wait_model.specs.Points.{call_watch, count_of, mode_of}
use Rattle.wait_model.specs.Programs.{done_in, is_at_end, is_enough, select_from, selected_answer, zero_answer}
use Rattle.wait_model.specs.declared.calls.Call.TheVariants as calls
use Rattle.wait_model.specs.declared.points.Next.TheVariants as next
use Rattle.wait_model.specs.declared.points.Point.TheVariants as at
use Rattle.wait_model.specs.declared.points.SelectPoint.TheVariants as selecting
use Rattle.wait_model.specs.declared.steps.Step.TheVariants as step
use Rattle.wait_model.specs.declared.watches.Mode.TheVariants as mode
use Rattle.wait_model.specs.declared.watches.Watch.TheVariants as watch
use Rattle.wait_model.proofs.{SentenceLaws.SentenceAwaits.shown_count, WaitLaws.OutsideStages.either}
use Rattle.wait_rule.specs.declared.journal.Item.TheVariants as item
use Rattle.wait_rule.specs.{Counts.FindsCount, Counts.StoresCount, Known.Known, Transitions.by_step}
use Rattle.wait_rule.specs.Transitions.{call_program}
use Rattle.wait_rule.specs.Queues.{IsTold, IsWholeBook, MayRise, index, simple_watch, walk_of_hold}
use Rattle.wait_rule.specs.Says.{IsFree, Excuse, added, told_of, unlocked_with, OwesBut}
use Rattle.wait_rule.specs.Stays.{Carries, Change, lock_change, only_looks, publish_change, unchanged, unlock_change}
use Rattle.wait_rule.specs.Stays.{with_wakes}
use Rattle.wait_rule.proofs.{KnownLaws.AfterSteps.told_added, KnownLaws.CarriedTasks.unchanged_first}
use Rattle.wait_rule.proofs.{KnownLaws.CarriedTasks.unchanged_none, KnownLaws.CarriedCounts.as_publish}
use Rattle.wait_rule.proofs.{KnownLaws.StayingParts.stays_same, KnownLaws.TaskHistories.history_after}
use Rattle.wait_rule.proofs.KnownLaws.Transitions.{only_none}
use Rattle.wq_head.specs.Holds.{HasLocked, HasUnlocked, IsHolding}
use Rattle.wq_head.specs.Selects.{HasSelected, IsSimpleHold, ShowsNoEntry}
use Rattle.wq_head.proofs.{LockWaits.turn_of, SelectedRuns.lock_goes, SelectedRuns.selected_ends, SimpleHolds.own_done}
use Rattle.wq_head.proofs.SimpleHolds.{simple_ended}
use Rattle.wait_event.specs.Conds.{set_change}
use Rattle.wait_class.specs.{Posts.Runs, Findings.saw_nothing, Findings.with_value}
use Rattle.wait_class.proofs.Ground.Going.{runs_none, runs_on, runs_one}
use Rattle.completion_cell.specs.Asks.{HasCountedDone}
use Rattle.completion_cell.specs.Completes.{HasCompleted, HasCompletedAll, RaisesOne}
use Rattle.completion_cell.proofs.Asking.{locked_history, counted_after}
use Rattle.completion_cell.proofs.RangedLoads.{is_selecting, ranged_by, ranged_on, selects_ranged}
use Rattle.completion_cell.proofs.Ground.{as_looks, quiet_store, step_behind, holding_on}

-- the head of a completion is a simple one
pub done_simple : (d : ℕ) → FIRST_SIMPLE_HEAD ≤ head_of (watch.Done d)
unfolding head_of
done_simple d = omega arith

-- whether a selection has as many as were asked for
enough_one : (n : ℕ) → (not (n == 0) && (n == 1)) ≡ (n == 1)
enough_one n = by (n == 1) refl
  where
    by : (b : Bool) → (n == 1) ≡ b → (not (n == 0) && b) ≡ b
    by true is =
        let one = eqb-true n 1 is in
        let z : (n == 0) ≡ false = grind (arith, nat_tests, one) in
        ap (λ (c : Bool). not c && true) z
    by false is = no (not (n == 0))
      where
        no : (c : Bool) → (c && false) ≡ false
        no true = refl
        no false = refl

enough_none : (n : ℕ) → (not (n == 0) && (n == 0)) ≡ false
enough_none n = by (n == 0)
  where
    by : (b : Bool) → (not b && b) ≡ false
    by true = refl
    by false = refl

-- what a load leaves of the hold's walk, and a store
pub simple_loaded : (old new : Known) (l : Watch) (r : ℕ) → new ≡ added old (item.Made (step.Load l r)) → IsSimpleHold old
    → IsSimpleHold new
simple_loaded old new l r is s = subst IsSimpleHold (sym is) (record {
  simple = s.simple;
  walk = s.walk;
  under = record {
    under = ap (λ (v : Told). v.walk) (told_added old (item.Made (step.Load l r))) ∙ s.under.under;
    watch = s.under.watch;
    mask = s.under.mask;
  };
})

pub simple_stored : (old new : Known) (d n r : ℕ) → new ≡ added old (item.Made (set_step (watch.Done d) n r))
    → IsSimpleHold old → IsSimpleHold new
simple_stored old new d n r is s = by (nat_lt r n || (n == ALL_DONE)) is
  where
    by : (b : Bool) → new ≡ added old (item.Made (if b then step.Publish (watch.Done d) n r
        else step.Consume (watch.Done d) n r)) → IsSimpleHold new
    by true made = subst IsSimpleHold (sym made) (record {
      simple = s.simple;
      walk = record (s.walk) { from = 0 };
      under = record {
        under = ap (λ (v : Told). v.walk) (told_added old (item.Made (step.Publish (watch.Done d) n r)))
            ∙ ap begun_anew s.under.under;
        watch = s.under.watch;
        mask = s.under.mask;
      };
    })
    by false made = subst IsSimpleHold (sym made) (record {
      simple = s.simple;
      walk = s.walk;
      under = record {
        under = ap (λ (v : Told). v.walk) (told_added old (item.Made (step.Consume (watch.Done d) n r)))
            ∙ s.under.under;
        watch = s.under.watch;
        mask = s.under.mask;
      };
    })

-- an unlock that raises no spent count
pub rise_none : (k : Known) → MayRise k false
rise_none k = record { used = λ e. absurd (cc); counts = λ w is e. absurd (cc) }

-- a change, with looks before and behind it
pub looked_around : (c : Change) (w x y z : Known) → Carries only_looks w x → Carries c x y → Carries only_looks y z
    → Carries (record c { looks = true }) w z
looked_around c w x y z one two three = record {
  domain = three.domain ∙ (two.domain ∙ one.domain);
  number = three.number ∙ (two.number ∙ one.number);
  awake = three.awake ∙ (two.awake ∙ ap c.awake one.awake);
  state = three.state ∙ (two.state ∙ ap c.state one.state);
  head = three.head ∙ (two.head ∙ ap c.head one.head);
  ticket = three.ticket ∙ (two.ticket ∙ ap c.ticket one.ticket);
  hold = three.hold ∙ (two.hold ∙ ap c.head one.hold);
  at = three.at ∙ (two.at ∙ ap c.at one.at);
  mark = three.mark ∙ (two.mark ∙ one.mark);
  fewer = λ v σ p is. three.fewer v σ refl (two.fewer v σ p (one.fewer v σ refl is));
  stored = λ i none away. absurd (cc);
  out = λ i away none. three.out i refl (two.out i away (one.out i refl none));
  stands = λ slot few away e own kind.
      let by_x = one.stands slot few refl e own kind in
      let by_y = two.stands slot few (ap (λ (m : ℕ). c.but (index m slot)) one.number ∙ away) e
      (subst (λ (m : ℕ). (told_of x).bits.stored (index m slot) ≡ Some e) (sym one.number) by_x) kind in
      subst (λ (m : ℕ). (told_of z).bits.stored (index m slot) ≡ Some e) (two.number ∙ one.number)
      (three.stands slot few refl e
      (subst (λ (m : ℕ). (told_of y).bits.stored (index m slot) ≡ Some e) (sym two.number) by_y) kind);
  keeps = λ v p. three.keeps v refl ∙ (two.keeps v p ∙ one.keeps v refl);
  owes = λ e o. three.owes (c.to e) (two.owes e (one.owes (c.from e) o));
}

looks_none : (k : Known) → Carries only_looks k k
looks_none k = as_looks k k (unchanged_none k)

pub looked_first : (c : Change) (w x y : Known) → Carries only_looks w x → Carries c x y
    → Carries (record c { looks = true }) w y
looked_first c w x y one two = looked_around c w x y y one two (looks_none y)

-- From the lock on: what is counted, with looks, and the unlock. What is owed of the completion is owed no more.
module _ (d : ℕ) (old a m new : Known) (spent : Bool) (free : IsFree old) (told : IsTold old)
    (one : Carries (lock_change (head_of (watch.Done d))) old a)
    (two : Carries (record (publish_change (watch.Done d)) { looks = true }) a m) (three : Carries unlock_change m new)
    (hold : IsSimpleHold m) (at_d : m.at ≡ head_of (watch.Done d))
    (over : (spent ≡ true) ⊎ ((IsWholeBook m) × (ShowsNoEntry m))) (is : new ≡ unlocked_with m m.at spent) where
  ends_owed : (x : Excuse) → OwesBut (with_wakes (watch.Done d) mode.Normal x) m → OwesBut x new
  ends_owed x o = (simple_ended m m new spent (stays_same m) (λ c σ. refl) refl hold over is).settled x
      (subst (λ (c : Watch). OwesBut (with_wakes c mode.Normal x) m) (sym (ap simple_watch at_d ∙ own_done d)) o)

  pub ended_carried : Carries (set_change (watch.Done d) mode.Normal new.at) old new
  ended_carried = record {
    domain = three.domain ∙ (two.domain ∙ one.domain);
    number = three.number ∙ (two.number ∙ one.number);
    awake = three.awake ∙ (two.awake ∙ one.awake);
    state = three.state ∙ (two.state ∙ one.state);
    head = three.head ∙ sym free.head;
    ticket = three.ticket ∙ sym free.ticket;
    hold = three.hold ∙ sym (told.head ∙ free.head);
    at = refl;
    mark = three.mark ∙ (two.mark ∙ one.mark);
    fewer = λ w σ p is. three.fewer w σ refl (two.fewer w σ p (one.fewer w σ refl is));
    stored = λ x none away. absurd (cc);
    out = λ x away none. three.out x refl (two.out x refl (one.out x refl none));
    stands = λ slot few away e own kind.
        let by_a = one.stands slot few refl e own kind in
        let by_m = two.stands slot few refl e
        (subst (λ (i : ℕ). (told_of a).bits.stored (index i slot) ≡ Some e) (sym one.number) by_a) kind in
        subst (λ (i : ℕ). (told_of new).bits.stored (index i slot) ≡ Some e) (two.number ∙ one.number)
        (three.stands slot few refl e
        (subst (λ (i : ℕ). (told_of m).bits.stored (index i slot) ≡ Some e) (sym two.number) by_m) kind);
    keeps = λ w p. three.keeps w refl ∙ (two.keeps w p ∙ one.keeps w refl);
    owes = λ x o. ends_owed x (two.owes x (one.owes x o));
  }

-- The count is stored, or stays at its end; then the selection.
pub completed_carried : (d : ℕ) (old a b m new : Known) (most n : ℕ) (spent : Bool) → IsFree old → IsTold old
    → Carries (lock_change (head_of (watch.Done d))) old a → Carries (publish_change (watch.Done d)) a b
    → Carries only_looks b m → Carries unlock_change m new → IsSimpleHold m → m.at ≡ head_of (watch.Done d)
    → HasSelected b m most n → (n ≡ most → most ≢ 0 → spent ≡ true) → new ≡ unlocked_with m m.at spent
    → Carries (set_change (watch.Done d) mode.Normal new.at) old new
completed_carried d old a b m new most n spent free told one two three four hold at_d s full is =
    ended_carried d old a m new spent free told one
    (looked_around (publish_change (watch.Done d)) a a b m (looks_none a) two three) four hold at_d over is
  where
    over : (spent ≡ true) ⊎ ((IsWholeBook m) × (ShowsNoEntry m))
    over = elim s.ends [ inl all ↦ inl (full all.1 all.0) | inr none ↦ inr (s.whole, none.0) ]

-- a count is raised by one, unless it is at its end
module _ (old new : Known) (d n : ℕ) (c : HasCountedDone old d n) (raised : Bool) (raises : RaisesOne n raised)
    (made : MatchBool raised (StoresCount old new d (n + 1)) (new ≡ old)) where
  stored : (e : Bool) → (n == ALL_DONE) ≡ e → MatchBool (not e) (StoresCount old new d (n + 1)) (new ≡ old)
  stored e is = subst (λ (b : Bool). MatchBool b (StoresCount old new d (n + 1)) (new ≡ old))
      (raises ∙ ap not is) made

  pub raise_carried : Carries (publish_change (watch.Done d)) old new
  raise_carried = by (n == ALL_DONE) refl
    where
      by : (e : Bool) → (n == ALL_DONE) ≡ e → Carries (publish_change (watch.Done d)) old new
      by true is = subst (Carries (publish_change (watch.Done d)) old) (sym (stored true is))
          (as_publish (watch.Done d) old old (unchanged_none old))
      by false is = (stored false is).publishes

  pub raise_simple : IsSimpleHold old → IsSimpleHold new
  raise_simple s = by (n == ALL_DONE) refl
    where
      by : (e : Bool) → (n == ALL_DONE) ≡ e → IsSimpleHold new
      by true is = subst IsSimpleHold (sym (stored true is)) s
      by false is = let t = stored false is in simple_stored old new d (n + 1) t.found t.is s

  ends_is : (e : Bool) → (n == ALL_DONE) ≡ e → is_at_end n ≡ e
  ends_is e is = ap (λ (m : ℕ). m == ALL_DONE) (shown_count n c.small) ∙ is

  one_more : (n == ALL_DONE) ≡ false → n + 1 ≡ raised_done (done_in n)
  one_more is = sym (ap raised_done (shown_count n c.small) ∙ ap (λ (b : Bool). if b then n else n + 1) is)

  raise_by : (e : Bool) → (n == ALL_DONE) ≡ e → Runs (call_program old.view.number 0 (calls.Complete d)) old new
      (next.Go (at.Select (if e then selecting.Next 0 else selecting.Store))) (next.Go (at.Select (selecting.Next 0)))
  raise_by true is = subst (λ (k : Known). Runs (call_program old.view.number 0 (calls.Complete d)) old k
      (next.Go (at.Select (selecting.Next 0))) (next.Go (at.Select (selecting.Next 0)))) (sym (stored true is))
      (runs_none (call_program old.view.number 0 (calls.Complete d)) old _)
  raise_by false is =
      let t = stored false is in
      (quiet_store (call_program old.view.number 0 (calls.Complete d)) (at.Select selecting.Store) old new
      (with_value n) d (n + 1) t.found _ (raised_done (done_in n)) _ refl refl refl (one_more is)
      (sym (t.finds.1 c.held n c.loaded)) tt tt tt old (only_none old) t.is).0

  pub raise_runs : Runs (call_program old.view.number 0 (calls.Complete d)) old new
      (next.Go (at.Select (if is_at_end n then selecting.Next 0 else selecting.Store)))
      (next.Go (at.Select (selecting.Next 0)))
  raise_runs = subst (λ (b : Bool). Runs (call_program old.view.number 0 (calls.Complete d)) old new
      (next.Go (at.Select (if b then selecting.Next 0 else selecting.Store))) (next.Go (at.Select (selecting.Next 0))))
      (sym (ends_is (n == ALL_DONE) refl)) (raise_by (n == ALL_DONE) refl)

-- the lock, the selection and the unlock, of a call for this completion
module _ (call : Call) (d : ℕ) (about : call_watch call ≡ watch.Done d) (normal : mode_of call ≡ mode.Normal) where
  abbrev h : ℕ
  h = head_of (watch.Done d)

  pub select_locks : (me : ℕ) (old a : Known) → HasLocked old a h (walk_of_hold h None)
      → Runs (call_program me 0 call) old a (next.Go (at.Select selecting.Lock))
      (next.Go (at.Select (select_from call)))
  select_locks me old a l = record {
    transitions = record {
      seen = saw_nothing;
      knew = turn_of old a h (walk_of_hold h None) l;
      did = by_step (step.Lock h (walk_of_hold h None) l.found);
    } ∷ [];
    goes = lock_goes me 0 call old a h l (done_simple d) (own_done d ∙ sym about) normal (ap head_of (sym about));
  }

  pub select_ends_at : (me most n : ℕ) → count_of call ≡ most → (old m new : Known) → HasSelected old m most n
      → m.at ≡ h → (b : Bool) → is_enough call n ≡ b → new ≡ unlocked_with m m.at b
      → Runs (call_program me 0 call) old new (next.Go (at.Select (selecting.Next 0)))
      (next.Ends (selected_answer call n))
  select_ends_at me most n counts old m new s here b is end =
      let g = selected_ends me 0 call most n counts old m new s (here ∙ ap head_of (sym about)) b is end in
      record { transitions = g.0; goes = g.1 }

-- a store leaves no word that differs from its bit
pub stored_agreed : (old new : Known) (d n r : ℕ) → new ≡ added old (item.Made (set_step (watch.Done d) n r))
    → new.book.differs ≡ old.book.differs
stored_agreed old new d n r is = by (nat_lt r n || (n == ALL_DONE)) is
  where
    by : (b : Bool) → new ≡ added old (item.Made (if b then step.Publish (watch.Done d) n r
        else step.Consume (watch.Done d) n r)) → new.book.differs ≡ old.book.differs
    by true made = ap (λ (k : Known). k.book.differs) made
    by false made = ap (λ (k : Known). k.book.differs) made

pub count_agreed : (old new : Known) (d n : ℕ) (did : Bool) → MatchBool did (StoresCount old new d n) (new ≡ old)
    → new.book.differs ≡ old.book.differs
count_agreed old new d n true made = stored_agreed old new d n made.found made.is
count_agreed old new d n false made = ap (λ (k : Known). k.book.differs) made

-- `complete`
module _ (old a a2 b m new : Known) (d v n h : ℕ) (same : h ≡ head_of (watch.Done d)) (free : IsFree old)
    (told : IsTold old) (l : HasLocked old a h (walk_of_hold h None)) (simple : FIRST_SIMPLE_HEAD ≤ h → IsSimpleHold a)
    (one : Carries (lock_change h) old a) (is : a2 ≡ added a (item.Made (step.Load (watch.Done d) v)))
    (finds : FindsCount a d v) (loaded : Carries unchanged a a2) where
  at_a : a.at ≡ head_of (watch.Done d)
  at_a = ap (λ (k : Known). k.at) l.is ∙ same

  pub complete_counted : HasCountedDone a2 d v
  complete_counted = counted_after d v a a2 (ap (λ (k : Known). k.book.head) l.is ∙ ap Some same) is finds loaded

  module _ (raised : Bool) (raises : RaisesOne v raised)
      (made : MatchBool raised (StoresCount a2 b d (v + 1)) (b ≡ a2)) where
    abbrev raise : Carries (publish_change (watch.Done d)) a2 b
    raise = raise_carried a2 b d v complete_counted raised raises made

    pub complete_at : b.at ≡ h
    complete_at = raise.at ∙ (loaded.at ∙ ap (λ (k : Known). k.at) l.is)

    pub complete_simple : IsSimpleHold b
    complete_simple = raise_simple a2 b d v complete_counted raised raises made
        (simple_loaded a a2 (watch.Done d) v is
        (simple (subst (λ (i : ℕ). FIRST_SIMPLE_HEAD ≤ i) (sym same) (done_simple d))))

    pub complete_holds : IsHolding a → IsHolding b
    complete_holds g = holding_on a b (raise.head ∙ loaded.head) (raise.hold ∙ loaded.hold) (raise.at ∙ loaded.at)
        (count_agreed a2 b d (v + 1) raised made ∙ ap (λ (k : Known). k.book.differs) is) g

    module _ (s : HasSelected b m 1 n) (select : Carries only_looks b m) (kept : IsSimpleHold b → IsSimpleHold m)
        (u : HasUnlocked m new (n == 1)) where
      at_m : m.at ≡ head_of (watch.Done d)
      at_m = select.at ∙ (complete_at ∙ same)

      locked : HasLocked old a (head_of (watch.Done d)) (walk_of_hold (head_of (watch.Done d)) None)
      locked = subst (λ (i : ℕ). HasLocked old a i (walk_of_hold i None)) same l

      number_a : a.view.number ≡ old.view.number
      number_a = one.number

      number_a2 : a2.view.number ≡ old.view.number
      number_a2 = loaded.number ∙ one.number

      load_event : Runs (call_program old.view.number 0 (calls.Complete d)) a a2 (next.Go (at.Select selecting.Load))
          (next.Go (at.Select (if is_at_end v then selecting.Next 0 else selecting.Store)))
      load_event = runs_one (call_program old.view.number 0 (calls.Complete d)) (at.Select selecting.Load) a a a2
          (with_value v) (by_step (step.Load (watch.Done d) v)) (only_none a) refl (refl, tt, tt)
          (step_behind a a2 (step.Load (watch.Done d) v) is)

      pub has_completed : HasCompleted old new d
      has_completed =
          let call = calls.Complete d in
          let f = call_program old.view.number 0 call in
          let first = next.Go (at.Select selecting.Lock) in
          let load = next.Go (at.Select selecting.Load) in
          let middle = next.Go (at.Select (if is_at_end v then selecting.Next 0 else selecting.Store)) in
          let over = next.Ends zero_answer in
          let one : Runs f old a first load = select_locks call d refl refl old.view.number old a locked in
          let rest : Runs f a2 new middle over =
          runs_on f a2 b new middle (next.Go (at.Select (selecting.Next 0))) over
          (subst (λ (i : ℕ). Runs (call_program i 0 (calls.Complete d)) a2 b middle
          (next.Go (at.Select (selecting.Next 0)))) number_a2
          (raise_runs a2 b d v complete_counted raised raises made))
          (select_ends_at call d refl refl old.view.number 1 n refl b m new s at_m (n == 1) (enough_one n) u.is) in
          let all : Runs f old new first over =
          runs_on f old a new first load over one (runs_on f a a2 new load middle over load_event rest) in record {
            transitions = all.transitions;
            goes = all.goes;
            ranged = ranged_on one.transitions (load_event.transitions ++ rest.transitions)
                (ranged_by f old a first load one.transitions one.goes _
                (locked_history old a (head_of (watch.Done d)) locked) (tt, tt))
                (ranged_on load_event.transitions rest.transitions
                (ranged_by f a a2 load middle load_event.transitions load_event.goes (step.Load (watch.Done d) v ∷ [])
                (history_after a a2 (step.Load (watch.Done d) v) is) (finds.0, tt))
                (selects_ranged old.view.number call new zero_answer rest.transitions a2
                (at.Select (if is_at_end v then selecting.Next 0 else selecting.Store))
                (either (λ (p : SelectPoint). is_selecting (at.Select p) ≡ true) (is_at_end v) _ _ refl refl)
                rest.goes));
          }

      pub complete_carried : Carries unlock_change m new
          → Carries (set_change (watch.Done d) mode.Normal new.at) old new
      complete_carried back = completed_carried d old a b m new 1 n (n == 1) free told
          (subst (λ (i : ℕ). Carries (lock_change i) old a) same one)
          (unchanged_first (publish_change (watch.Done d)) a a2 b loaded raise) select back (kept complete_simple) at_m s
          (λ all some. ap (λ (i : ℕ). i == 1) all) u.is

pub complete_rises : (m : Known) (n : ℕ) → (0 < n → MayRise m true) → (e : Bool) → (n == 1) ≡ e → MayRise m e
complete_rises m n rises true is = rises (let one = eqb-true n 1 is in omega (arith, one))
complete_rises m n rises false is = rise_none m

-- `complete_all`
module _ (old a b m new : Known) (d n h : ℕ) (same : h ≡ head_of (watch.Done d)) (free : IsFree old)
    (told : IsTold old) (l : HasLocked old a h (walk_of_hold h None)) (simple : FIRST_SIMPLE_HEAD ≤ h → IsSimpleHold a)
    (one : Carries (lock_change h) old a) (stored : StoresCount a b d ALL_DONE) where
  pub all_at : b.at ≡ h
  all_at = stored.publishes.at ∙ ap (λ (k : Known). k.at) l.is

  pub all_simple : IsSimpleHold b
  all_simple = simple_stored a b d ALL_DONE stored.found stored.is
      (simple (subst (λ (i : ℕ). FIRST_SIMPLE_HEAD ≤ i) (sym same) (done_simple d)))

  pub all_holds : IsHolding a → IsHolding b
  all_holds g = holding_on a b stored.publishes.head stored.publishes.hold stored.publishes.at
      (stored_agreed a b d ALL_DONE stored.found stored.is) g

  module _ (s : HasSelected b m 0 n) (select : Carries only_looks b m) (kept : IsSimpleHold b → IsSimpleHold m)
      (u : HasUnlocked m new false) where
    at_all : m.at ≡ head_of (watch.Done d)
    at_all = select.at ∙ (all_at ∙ same)

    pub has_completed_all : HasCompletedAll old new d
    has_completed_all =
        let call = calls.CompleteAll d in
        let f = call_program old.view.number 0 call in
        let first = next.Go (at.Select selecting.Lock) in
        let store = next.Go (at.Select selecting.Store) in
        let over = next.Ends zero_answer in
        let all_locked : HasLocked old a (head_of (watch.Done d)) (walk_of_hold (head_of (watch.Done d)) None) =
        subst (λ (i : ℕ). HasLocked old a i (walk_of_hold i None)) same l in
        let one : Runs f old a first store = select_locks call d refl refl old.view.number old a all_locked in
        let rest : Runs f a new store over =
        runs_on f a b new store (next.Go (at.Select (selecting.Next 0))) over
        (quiet_store f (at.Select selecting.Store) a b (with_value stored.found) d ALL_DONE stored.found _ ALL_DONE _
        refl refl refl refl refl tt tt tt a (only_none a) stored.is).0
        (select_ends_at call d refl refl old.view.number 0 n refl b m new s at_all false (enough_none n) u.is) in
        let all : Runs f old new first over = runs_on f old a new first store over one rest in record {
          transitions = all.transitions;
          goes = all.goes;
          ranged = ranged_on one.transitions rest.transitions
              (ranged_by f old a first store one.transitions one.goes _
              (locked_history old a (head_of (watch.Done d)) all_locked) (tt, tt))
              (selects_ranged old.view.number call new zero_answer rest.transitions a (at.Select selecting.Store) refl
              rest.goes);
        }

    pub all_carried : Carries unlock_change m new → Carries (set_change (watch.Done d) mode.Normal new.at) old new
    all_carried back = completed_carried d old a b m new 0 n false free told
        (subst (λ (i : ℕ). Carries (lock_change i) old a) same one) stored.publishes
        select back (kept all_simple) at_all
        s (λ all some. absurd (some refl)) u.is

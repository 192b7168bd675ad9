-- A `down` hands a permit on: its transitions, and what it carries on.
use Rattle.std.proofs.Common.{◌∙◌, ap, sym, refl, subst, arith, inl, inr}
use Rattle.std.proofs.lemmas.Bool.Decides.{nat_tests}
use Rattle.std.specs.Prelude.{ℕ, ◌≡◌, ◌≢◌, ◌<◌, ◌≤◌, ◌-◌, ◌⊎◌, true, false, Option, Some, [], ◌∷◌, ◌++◌}
use Rattle.wait_model.specs.{declared.layout.TheConstants.FIRST_SIMPLE_HEAD, declared.points.Planned.Planned}
use Rattle.wait_model.specs.{declared.points.Seen.Seen, declared.queues.CalledEntry.CalledEntry, Programs.zero_answer}
use Rattle.wait_model.specs.Views.{Look}
use Rattle.wait_model.specs.Permits.{done_head, is_seen, shows_at}
use Rattle.wait_model.specs.Runs.{called_by, own, set_step}
use Rattle.wait_model.specs.declared.points.Next.TheVariants as next
use Rattle.wait_model.specs.declared.points.Point.TheVariants as at
use Rattle.wait_model.specs.declared.points.SelectPoint.TheVariants as selecting
use Rattle.wait_model.specs.declared.steps.Step.TheVariants as step
use Rattle.wait_model.specs.declared.watches.Watch.TheVariants as watch
use Rattle.wait_rule.specs.declared.journal.Item.TheVariants as item
use Rattle.wait_rule.specs.{Counts.StoresCount, HandedPermits.OwesNoPermit, Known.Known, LeftEntries.OrderOf}
use Rattle.wait_rule.specs.{Queues.IsWholeBook, Queues.MayRise, Shown.look_entry, Shown.shown_entry}
use Rattle.wait_rule.specs.{Transitions.OnlyLooks, Transitions.by_step}
use Rattle.wait_rule.specs.Says.{IsUp, added, history_of, told_of, unlocked_with}
use Rattle.wait_rule.specs.Stays.{Carries, only_looks, unchanged, unlock_change}
use Rattle.wait_rule.proofs.{KnownLaws.CarriedTasks.unchanged_none, KnownLaws.HeldPermits.owed}
use Rattle.wait_rule.proofs.{KnownLaws.Transitions.only_none, KnownLaws.Turns.serve_looks}
use Rattle.wq_head.specs.{Holds.IsHolding, Looks.Looks, Walking.IsUnder}
use Rattle.wq_head.specs.Selects.{HasSelected, IsSimpleHold, KeepsHold, SelectsMany, ShowsNoEntry, simple_aim}
use Rattle.wq_head.proofs.{CarriedHolds.unlock_carried, FirstEntries.no_entry, LookingHold.looks_only}
use Rattle.wq_head.proofs.MemberStands.{look_is_shown}
use Rattle.wq_head.proofs.KeptHolds.{hold_carried, hold_holds, hold_looks, hold_same, hold_simple}
use Rattle.wait_class.specs.{Findings.saw_nothing, Findings.with_value, Posts.own_of, Tables.IsEnded}
use Rattle.wait_class.specs.declared.stages.Run.{Run}
use Rattle.wait_class.proofs.Ground.Going.{runs_looks, runs_on, runs_one}
use Rattle.completion_cell.specs.Asks.{HasCountedDone}
use Rattle.completion_cell.proofs.AwaitTakes.{takes_owed}
use Rattle.completion_cell.proofs.Completing.{done_simple, looked_around, looked_first, simple_stored, stored_agreed}
use Rattle.completion_cell.proofs.Ground.{looked_count, quiet_store, holding_on}
use Rattle.completion_cell.proofs.Permits.{inside_join, inside_looks, inside_step, nobody, selection_inside}
use Rattle.completion_cell.proofs.Permits.{store_inside, store_owes, unlocked_steps}
use Rattle.count_sem.specs.{Downs.down_table, declared.downs.DownCall.DownCall}
use Rattle.count_sem.specs.SemPrograms.{down_program, gives_to, joined, pass_gives, pass_point, sem_head}
use Rattle.count_sem.specs.Passes.{HasPassedOn, HasWaiter, pass_change}
use Rattle.count_sem.specs.declared.downs.DownOutcome.TheVariants as outcome
use Rattle.count_sem.proofs.{DownTakes.lowers_none, FirstWaiters.gives_runs, FoundWaiters.first_waits}
use Rattle.count_sem.proofs.{PassedHolds.Passes, PassedHolds.passes_owing_none, SemBooks.book_store}

-- an event of a part of a program, in the whole of it
abbrev plan_joined : Planned → Planned
plan_joined p = record { event = p.event; next = joined p.next }

-- looks, a store that makes no permit, a selection, and the unlock
passed_carried : (old l b m new : Known) → Carries only_looks old l → Carries unchanged l b → Carries only_looks b m
    → Carries unlock_change m new → Carries pass_change old new
passed_carried old l b m new one two three four =
    looked_first unlock_change old m new (looked_around unchanged old l b m one two three) four

module _ (old : Known) (run : Run DownCall) (a : IsEnded down_table old run outcome.Passing) where
  abbrev r : DownCall
  r = run.of

  abbrev d : ℕ
  d = r.cell

  abbrev h : ℕ
  h = sem_head d

  at_old : old.at ≡ h
  at_old = a.stands.at h refl

  pub pass_holds : IsHolding old
  pass_holds = record {
    locked = a.stands.head ∙ ap Some (sym at_old);
    agreed = a.stands.agreed h refl;
    told = a.stands.told ∙ ap Some (sym at_old);
  }

  pub pass_simple : IsSimpleHold old
  pass_simple = record {
    simple = subst (λ (i : ℕ). FIRST_SIMPLE_HEAD ≤ i) (sym at_old) (done_simple d);
    walk = a.trail.walk.0;
    under = subst (λ (i : ℕ). IsUnder (simple_aim i) (told_of old) a.trail.walk.0) (sym at_old) a.trail.walk.1;
  }

  pub pass_head : (i : ℕ) → i ≡ h → i ≡ old.at
  pass_head i same = same ∙ sym at_old

  pub pass_high : (i : ℕ) → i ≡ h → FIRST_SIMPLE_HEAD ≤ i
  pass_high i same = subst (λ (j : ℕ). FIRST_SIMPLE_HEAD ≤ j) (sym same) (done_simple d)

  abbrev owing : ℕ
  owing = a.trail.count.knows.loaded.owes

  starts : OrderOf old → Passes d old.view.number (history_of old) owing
  starts order =
      let w = a.trail.count.knows.loaded.waits order in
      let mine : own_of old ≡ own old.view.number = omega arith in
      let gone = ap (told_of old).hold.book (sym mine) ∙ a.trail.gone in record {
        head = w.head;
        seen = ap is_seen gone;
        away = ap (shows_at (done_head d)) gone;
        debt = w.debt;
      }

  -- the look for who waits
  module _ (l : Known) (sees : Looks old l) where
    k_l : KeepsHold old l
    k_l = hold_looks old l sees

    look : Carries only_looks old l
    look = hold_carried old l k_l

    looked : OnlyLooks old l
    looked = looks_only (simple_aim old.at) old l sees

    at_l : l.at ≡ h
    at_l = k_l.at ∙ at_old

    pub looking_holds : IsHolding l
    looking_holds = hold_holds old l k_l pass_holds

    pub looking_up : IsUp l
    looking_up = look.awake ∙ a.up

    -- somebody waits: one is taken of the count
    module _ (whole : IsWholeBook l) (waits : HasWaiter l) where
      pub looking_counted : HasCountedDone l d r.count
      looking_counted = record {
        held = looking_holds.locked ∙ ap Some at_l;
        loaded = looked_count d old l looked ∙ a.trail.count.knows.counts.0;
        small = a.trail.count.knows.counts.1;
      }

      pub looking_some : 0 < r.count
      looking_some = let z = a.trail.count.some in grind (arith, nat_tests, z)

      module _ (b : Known) (made : StoresCount l b d (r.count - 1)) where
        same : made.found ≡ r.count
        same = made.finds.1 looking_counted.held r.count looking_counted.loaded

        stored : Carries unchanged l b
        stored = made.consumes (lowers_none d r.count made.found a.trail.count.some looking_counted.small same)

        at_b : b.at ≡ h
        at_b = stored.at ∙ at_l

        pub lowered_up : IsUp b
        lowered_up = stored.awake ∙ looking_up

        pub lowered_holds : IsHolding b
        lowered_holds = holding_on l b stored.head stored.hold stored.at
            (stored_agreed l b d (r.count - 1) made.found made.is) looking_holds

        pub lowered_simple : IsSimpleHold b
        lowered_simple = simple_stored l b d (r.count - 1) made.found made.is (hold_simple old l k_l pass_simple)

        pub lowered_head : (i : ℕ) → i ≡ h → i ≡ b.at
        lowered_head i same_head = same_head ∙ sym at_b

        -- and the first is given it
        module _ (m : Known) (n : ℕ) (s : HasSelected b m 1 n) (k : KeepsHold b m) where
          still_shows : (shown_entry m waits.0 ≡ Some waits.1) ⊎ (n ≡ 1)
          still_shows = elim s.ends [ inl all ↦ inr all.1 | inr few ↦ inl (kept few.1) ]
            where
              kept : (◌≢◌ {A = ℕ} 1 0 → n < 1) → shown_entry m waits.0 ≡ Some waits.1
              kept few =
                  let none : n ≡ 0 = let l = few (λ z. absurd (cc)) in omega (arith, l) in
                  let seen : m ≡ s.seen = subst (λ (j : ℕ). SelectsMany s.seen j m) none s.selects in
                  let shows = s.looks.from.shows waits.0 waits.1
                  (ap (λ (f : ℕ → Look). f waits.0) (book_store l b d (r.count - 1) made.found made.is).book
                  ∙ look_is_shown ((told_of l).hold.book waits.0) waits.1 waits.3) in
                  ap (λ (x : Known). shown_entry x waits.0) seen ∙ ap look_entry shows

          pub given_one : n ≡ 1
          given_one = elim s.ends [
            | inl all ↦ all.1
            | inr few ↦ elim still_shows [
              | inl shows ↦ absurd (few.0 waits.0 waits.1 waits.2 shows)
              | inr one ↦ one
            ]
          ]

          pub given_holds : IsHolding m
          given_holds = hold_holds b m k lowered_holds

          pub given_rises : (0 < n → IsSimpleHold b → MayRise m true) → MayRise m true
          given_rises rise = rise (let one = given_one in omega (arith, one)) lowered_simple

          at_m : m.at ≡ h
          at_m = k.at ∙ at_b

          select : Carries only_looks b m
          select = hold_carried b m k

          lowered_owes : owed d (set_step (watch.Done d) (r.count - 1) made.found) owing ≡ 0
          lowered_owes = store_owes d (r.count - 1) made.found owing
              ∙ takes_owed r.count made.found owing same a.trail.count.knows.loaded.settled.0

          pub given_owes : OwesNoPermit m
          given_owes = passes_owing_none d owing old m
              (λ j. owed d (set_step (watch.Done d) (r.count - 1) made.found) j - n)
              (inside_join d old b m (owed d (set_step (watch.Done d) (r.count - 1) made.found)) (λ j. j - n)
              (inside_join d old l b (λ j. j) (owed d (set_step (watch.Done d) (r.count - 1) made.found))
              (inside_looks d old l sees)
              (inside_step d l b (set_step (watch.Done d) (r.count - 1) made.found)
              (store_inside d (r.count - 1) made.found)
              made.is)) (selection_inside d b m 1 n s)) at_m (select.number ∙ (stored.number ∙ look.number)) starts
              (inl (ap (λ (j : ℕ). j - n) lowered_owes ∙ omega arith))

          module _ (new : Known) (gave : new ≡ unlocked_with m m.at true) where
            pub passed_on : HasPassedOn old new r
            passed_on =
                let f = down_program old.view.number d r.state in
                let over = next.Ends zero_answer in
                let first = first_waits l waits in record {
                  runs = runs_on f old b new (next.Go pass_point) (next.Go (at.Select (selecting.Next 1))) over
                      (quiet_store f pass_point l b (record (with_value r.count) { called = Some first.0 }) d
                      (r.count - 1) made.found _ (r.count - 1) _ refl refl refl refl (sym same) (whole, sym first.1) tt
                      tt
                      old looked made.is).0
                      (runs_on f b m new (next.Go (at.Select (selecting.Next 1))) (next.Go (at.Select selecting.Store))
                      over
                      (gives_runs f 1 (at.Select selecting.Store) (λ c seen is. by c seen seen.called is)
                      (λ who seen. refl) refl b m (subst (λ (j : ℕ). HasSelected b m 1 j) given_one s))
                      (runs_one f (at.Select selecting.Store) m m new saw_nothing (by_step (step.Unlock m.at true))
                      (only_none m) (at_m, refl) (tt, tt, tt)
                      (subst (OnlyLooks (added m (item.Made (step.Unlock m.at true)))) (sym gave)
                      (serve_looks m m.at true))));
                  carries = passed_carried old l b m new look stored select (unlock_carried m new true gave);
                  spent = true;
                  back = (
                    history_of m,
                    unlocked_steps m new true gave
                        ∙ ap (λ (i : ℕ). history_of m ++ step.Unlock i true ∷ []) at_m,
                  );
                }
              where
                by : (c : CalledEntry) (seen : Seen) (o : Option CalledEntry) → o ≡ Some c
                    → plan_joined (pass_gives d o seen) ≡ gives_to c seen
                by c seen o is = ap (λ (p : Option CalledEntry). plan_joined (pass_gives d p seen)) is

    -- nobody does
    module _ (whole : IsWholeBook l) (none : ShowsNoEntry l) where
      pub alone_owes : OwesNoPermit l
      alone_owes = passes_owing_none d owing old l (λ j. j) (inside_looks d old l sees) at_l look.number starts
          (inr (nobody (done_head d) l whole none))

      module _ (new : Known) (gave : new ≡ unlocked_with l l.at false) where
        pub kept_alone : HasPassedOn old new r
        kept_alone =
            let f = down_program old.view.number d r.state in record {
              runs = runs_on f old l new (next.Go pass_point) (next.Go pass_point) (next.Ends zero_answer)
                  (runs_looks f old l (next.Go pass_point) looked)
                  (runs_one f pass_point l l new saw_nothing (by_step (step.Unlock l.at false)) (only_none l) (at_l, refl)
                  (tt, (whole, sym (ap (called_by (shown_entry l)) (no_entry l none))), tt)
                  (subst (OnlyLooks (added l (item.Made (step.Unlock l.at false)))) (sym gave)
                  (serve_looks l l.at false)));
              carries = passed_carried old l l l new look (unchanged_none l) (hold_carried l l (hold_same l))
                  (unlock_carried l new false gave);
              spent = false;
              back = (
                history_of l,
                unlocked_steps l new false gave ∙ ap (λ (i : ℕ). history_of l ++ step.Unlock i false ∷ []) at_l,
              );
            }

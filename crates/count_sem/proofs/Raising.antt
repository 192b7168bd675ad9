-- A permit is given back: to the first who waits, or to the count.
use Rattle.std.proofs.Common.{◌∙◌, ap, sym, refl, subst, arith, inl, inr, append_assoc}
use Rattle.std.proofs.lemmas.Bool.Decides.{nat_tests}
use Rattle.std.specs.Prelude.{ℕ, ◌≡◌, ◌<◌, ◌≤◌, ◌+◌, ◌-◌, if◌then◌else◌, Bool, true, false, Option, Some, None}
use Rattle.std.specs.Prelude.{Result, Err, Ok, [], ◌∷◌, ◌++◌}
use Rattle.wait_model.specs.{declared.layout.TheConstants.FIRST_SIMPLE_HEAD, declared.points.CountPoint.CountPoint}
use Rattle.wait_model.specs.{declared.points.Seen.Seen, declared.queues.CalledEntry.CalledEntry, Permits.done_head}
use Rattle.wait_model.specs.{Programs.zero_answer, Runs.called_by, Runs.set_step}
use Rattle.wait_model.specs.declared.calls.Call.TheVariants as calls
use Rattle.wait_model.specs.declared.points.CountPoint.TheVariants as counting
use Rattle.wait_model.specs.declared.points.Next.TheVariants as next
use Rattle.wait_model.specs.declared.points.Point.TheVariants as at
use Rattle.wait_model.specs.declared.points.SelectPoint.TheVariants as selecting
use Rattle.wait_model.specs.declared.steps.Step.TheVariants as step
use Rattle.wait_model.specs.declared.watches.Mode.TheVariants as mode
use Rattle.wait_model.specs.declared.watches.Watch.TheVariants as watch
use Rattle.wait_rule.specs.declared.journal.Item.TheVariants as item
use Rattle.wait_rule.specs.{Counts.FindsCount, Counts.StoresCount, HandedPermits.OwesNoPermit, HandedPermits.StaysOff}
use Rattle.wait_rule.specs.{Known.Known, LeftEntries.LeftOff, Shown.shown_entry}
use Rattle.wait_rule.specs.Queues.{IsTold, IsWholeBook, walk_of_hold}
use Rattle.wait_rule.specs.Says.{IsFree, IsUp, added, history_of, unlocked_with}
use Rattle.wait_rule.specs.Stays.{Carries, Stays, StaysOwing, lock_change, no_entries, only_looks, publish_change}
use Rattle.wait_rule.specs.Stays.{unchanged}
use Rattle.wait_rule.specs.Transitions.{OnlyLooks, Program, by_step}
use Rattle.wait_rule.proofs.{KnownLaws.CarriedCounts.as_publish, KnownLaws.CarriedTasks.unchanged_first}
use Rattle.wait_rule.proofs.{KnownLaws.CarriedTasks.unchanged_none, KnownLaws.HeldPermits.owed}
use Rattle.wait_rule.proofs.{KnownLaws.TaskHistories.history_after, KnownLaws.Transitions.only_none}
use Rattle.wait_rule.proofs.KnownLaws.Turns.{serve_looks}
use Rattle.wq_head.specs.{Holds.HasLocked, Holds.IsHolding, LockTurns.TookLock}
use Rattle.wq_head.specs.Selects.{HasSelected, IsSimpleHold, KeepsHold, ShowsNoEntry, simple_aim}
use Rattle.wq_head.proofs.{CarriedHolds.unlock_carried, FirstEntries.no_entry, KeptHolds.hold_carried}
use Rattle.wq_head.proofs.{KeptHolds.hold_holds, LockWaits.turn_of, LookingHold.looks_only, SelectedRuns.lock_goes}
use Rattle.wq_head.proofs.SimpleHolds.{own_done}
use Rattle.wait_event.specs.Conds.{set_change}
use Rattle.wait_class.specs.{Findings.saw_nothing, Findings.with_value, Posts.Runs, Tables.plan_program}
use Rattle.wait_class.proofs.Ground.Going.{runs_looks, runs_on, runs_one}
use Rattle.wait_class.proofs.Histories.{unlocked_history}
use Rattle.completion_cell.specs.Asks.{HasCountedDone}
use Rattle.completion_cell.proofs.Asking.{none_held, counted_after}
use Rattle.completion_cell.proofs.Completing.{done_simple, ended_carried, looked_first, simple_loaded, simple_stored}
use Rattle.completion_cell.proofs.Completing.{stored_agreed}
use Rattle.completion_cell.proofs.Ground.{quiet_store, step_behind, holding_on}
use Rattle.completion_cell.proofs.Permits.{MayEndHold, ends_off, ends_owing_none, hold_made, inside_join, inside_step}
use Rattle.completion_cell.proofs.Permits.{nobody, selection_inside, store_inside}
use Rattle.count_sem.specs.{declared.ups.SemFull.SemFull, declared.ups.TheConstants.FULL, Ups.FoundNobody}
use Rattle.count_sem.specs.Ups.{HasRaised}
use Rattle.count_sem.specs.SemPrograms.{full_answer, gives_to, is_full, sem_head, up_next, up_plan}
use Rattle.count_sem.proofs.FirstWaiters.{gives_runs}
use Rattle.count_sem.proofs.SemBooks.{SameBook, book_load, book_on, book_store, nobody_on, whole_on}

-- the program's lock, and its unlocks
module _ (me d : ℕ) where
  abbrev pub up_program : Program
  up_program = plan_program me 0 (up_plan d)

  up_locks : (old a : Known) → HasLocked old a (sem_head d) (walk_of_hold (sem_head d) None)
      → Runs up_program old a (next.Go (at.Select selecting.Lock)) (next.Go (at.Select (selecting.Next 0)))
  up_locks old a l =
      let g = lock_goes me 0 (calls.Complete d) old a (sem_head d) l (done_simple d) (own_done d) refl refl in record {
        transitions = record {
          seen = saw_nothing;
          knew = turn_of old a (sem_head d) (walk_of_hold (sem_head d) None) l;
          did = by_step (step.Lock (sem_head d) (walk_of_hold (sem_head d) None) l.found);
        } ∷ [];
        goes = (record { looks = g.0.looks; is = g.0.is; finds = g.0.finds }, (g.1.0, refl));
      }

  up_gives : (old new : Known) → HasSelected old new 1 1
      → Runs up_program old new (next.Go (at.Select (selecting.Next 0))) (next.Go (at.Select selecting.Store))
  up_gives old new s = gives_runs up_program 0 (at.Select selecting.Store) (λ c seen is. by c seen seen.called is)
      (λ who seen. refl) refl old new s
    where
      by : (c : CalledEntry) (seen : Seen) (o : Option CalledEntry) → o ≡ Some c → up_next d o seen ≡ gives_to c seen
      by c seen o is = ap (λ (p : Option CalledEntry). up_next d p seen) is

  up_spends : (m new : Known) → m.at ≡ sem_head d → new ≡ unlocked_with m m.at true
      → Runs up_program m new (next.Go (at.Select selecting.Store)) (next.Ends zero_answer)
  up_spends m new here is = runs_one up_program (at.Select selecting.Store) m m new saw_nothing
      (by_step (step.Unlock m.at true)) (only_none m) (here, refl) (tt, tt, tt)
      (subst (OnlyLooks (added m (item.Made (step.Unlock m.at true)))) (sym is) (serve_looks m m.at true))

  up_unlocks : (m new : Known) → m.at ≡ sem_head d → new ≡ unlocked_with m m.at false
      → Runs up_program m new (next.Go (at.Count (counting.Unlock true))) (next.Ends zero_answer)
  up_unlocks m new here is = runs_one up_program (at.Count (counting.Unlock true)) m m new saw_nothing
      (by_step (step.Unlock m.at false)) (only_none m) (here, refl) (tt, tt, tt)
      (subst (OnlyLooks (added m (item.Made (step.Unlock m.at false)))) (sym is) (serve_looks m m.at false))

  up_refuses : (m new : Known) → m.at ≡ sem_head d → new ≡ unlocked_with m m.at false
      → Runs up_program m new (next.Go (at.Count (counting.Unlock false))) (next.Ends full_answer)
  up_refuses m new here is = runs_one up_program (at.Count (counting.Unlock false)) m m new saw_nothing
      (by_step (step.Unlock m.at false)) (only_none m) (here, refl) (tt, tt, tt)
      (subst (OnlyLooks (added m (item.Made (step.Unlock m.at false)))) (sym is) (serve_looks m m.at false))

  -- nobody is queued, and the count is loaded
  up_loads : (m b : Known) (v : ℕ) → IsWholeBook m → ShowsNoEntry m
      → b ≡ added m (item.Made (step.Load (watch.Done d) v))
      → Runs up_program m b (next.Go (at.Select (selecting.Next 0)))
      (next.Go (at.Count (if is_full v then counting.Unlock false else counting.Store)))
  up_loads m b v whole none is = runs_one up_program (at.Select (selecting.Next 0)) m m b (with_value v)
      (by_step (step.Load (watch.Done d) v)) (only_none m) refl
      (refl, (whole, sym (ap (called_by (shown_entry m)) (no_entry m none))), tt)
      (step_behind m b (step.Load (watch.Done d) v) is)

-- what a permit given back says, by its answer
pub record RaisedBy (old new : Known) (d : ℕ) (r : Result (Unit {0}) SemFull) : Type 0 where
  pub raised : HasRaised old new d r
  pub carries : Carries (set_change (watch.Done d) mode.Normal new.at) old new
  pub off : StaysOff old new

-- with somebody queued
module _ (d : ℕ) (old a m new : Known) (took : TookLock old a (sem_head d)) (free : IsFree old) (told : IsTold old)
    (s : HasSelected a m 1 1) (k : KeepsHold a m) where
  given_at : m.at ≡ sem_head d
  given_at = k.at ∙ ap (λ (x : Known). x.at) took.locked.is

  given_may : MayEndHold d old m
  given_may = hold_made d old a m (sem_head d) refl took.locked (λ n. n - 1) (selection_inside d a m 1 1 s) given_at
      ((hold_carried a m k).number ∙ took.carries.number) (none_held old told free) (inl refl)

  pub given_owes : LeftOff d old → OwesNoPermit m
  given_owes left = ends_owing_none d old m given_may left

  module _ (is : new ≡ unlocked_with m m.at true) where
    given_carried : (IsSimpleHold a → IsSimpleHold m)
        → Carries (set_change (watch.Done d) mode.Normal new.at) old new
    given_carried simple = ended_carried d old a m new true free told took.carries
        (looked_first (publish_change (watch.Done d)) a m m (hold_carried a m k)
        (as_publish (watch.Done d) m m (unchanged_none m))) (unlock_carried m new true is)
        (simple (took.simple (done_simple d))) given_at (inl refl) is

    has_given : HasRaised old new d (Ok tt)
    has_given =
        let me = old.view.number in
        let f = up_program me d in
        let over = next.Ends zero_answer in record {
          runs = runs_on f old a new (next.Go (at.Select selecting.Lock)) (next.Go (at.Select (selecting.Next 0))) over
              (up_locks me d old a took.locked)
              (runs_on f a m new (next.Go (at.Select (selecting.Next 0))) (next.Go (at.Select selecting.Store)) over
              (up_gives me d a m s) (up_spends me d m new given_at is));
          cause = tt;
        }

    pub given_by : (IsSimpleHold a → IsSimpleHold m) → RaisedBy old new d (Ok tt)
    given_by simple = record {
      raised = has_given;
      carries = given_carried simple;
      off = ends_off d old m new true given_may is;
    }

-- with nobody queued
module _ (d : ℕ) (old m : Known) (f : FoundNobody old m d) where
  look : Carries only_looks f.locked m
  look = hold_carried f.locked m f.keeps

  pub found_holds : IsHolding m
  found_holds = hold_holds f.locked m f.keeps f.took.held

  at_m : m.at ≡ sem_head d
  at_m = f.keeps.at ∙ ap (λ (x : Known). x.at) f.took.locked.is

  module _ (b : Known) (v : ℕ) (is : b ≡ added m (item.Made (step.Load (watch.Done d) v))) (finds : FindsCount m d v)
      (loaded : Carries unchanged m b) where
    pub found_counted : HasCountedDone b d v
    found_counted = counted_after d v m b (found_holds.locked ∙ ap Some at_m) is finds loaded

    at_b : b.at ≡ sem_head d
    at_b = loaded.at ∙ at_m

    pub loaded_holds : IsHolding b
    loaded_holds = holding_on m b loaded.head loaded.hold loaded.at
        (ap (λ (k : Known). k.book.differs) is) found_holds

    starts : (n : CountPoint) → (if is_full v then counting.Unlock false else counting.Store) ≡ n
        → Runs (up_program old.view.number d) old b (next.Go (at.Select selecting.Lock)) (next.Go (at.Count n))
    starts n by =
        let me = old.view.number in
        let g = up_program me d in
        subst (λ (p : CountPoint). Runs g old b (next.Go (at.Select selecting.Lock)) (next.Go (at.Count p))) by
        (runs_on g old f.locked b (next.Go (at.Select selecting.Lock)) (next.Go (at.Select (selecting.Next 0))) _
        (up_locks me d old f.locked f.took.locked)
        (runs_on g f.locked m b (next.Go (at.Select (selecting.Next 0))) (next.Go (at.Select (selecting.Next 0))) _
        (runs_looks g f.locked m (next.Go (at.Select (selecting.Next 0)))
        (subst (OnlyLooks f.locked) (sym f.looked.selects)
        (looks_only (simple_aim f.locked.at) f.locked f.looked.seen f.looked.looks)))
        (up_loads me d m b v f.whole f.nobody is)))

    -- it is full
    module _ (many : FULL ≤ v) where
      full_may : MayEndHold d old b
      full_may = hold_made d old f.locked b (sem_head d) refl f.took.locked
          (λ n. owed d (step.Load (watch.Done d) v) (n - 0))
          (inside_join d f.locked m b (λ n. n - 0) (owed d (step.Load (watch.Done d) v))
          (selection_inside d f.locked m 1 0 f.looked) (inside_step d m b (step.Load (watch.Done d) v) tt is)) at_b
          (loaded.number ∙ (look.number ∙ f.took.carries.number)) (none_held old f.told f.free)
          (inr (nobody (done_head d) b (whole_on m b (book_load m b d v is) f.whole)
          (nobody_on m b (book_load m b d v is) f.nobody)))

      pub full_owes : OwesNoPermit b
      full_owes = ends_owing_none d old b full_may f.left

      module _ (new : Known) (gave : new ≡ unlocked_with b b.at false) where
        full_carried : Carries (set_change (watch.Done d) mode.Normal new.at) old new
        full_carried = ended_carried d old f.locked b new false f.free f.told f.took.carries
            (looked_first (publish_change (watch.Done d)) f.locked m b look (as_publish (watch.Done d) m b loaded))
            (unlock_carried b new false gave) (simple_loaded m b (watch.Done d) v is f.simple)
            at_b (inr (whole_on m b (book_load m b d v is) f.whole, nobody_on m b (book_load m b d v is) f.nobody)) gave

        has_refused : HasRaised old new d (Err (record { count = v }))
        has_refused =
            let full : is_full v ≡ true = grind (arith, nat_tests, many) in
            let g = up_program old.view.number d in record {
              runs = runs_on g old b new (next.Go (at.Select selecting.Lock))
                  (next.Go (at.Count (counting.Unlock false)))
                  (next.Ends full_answer)
                  (starts (counting.Unlock false) (ap (λ (z : Bool). if z then counting.Unlock false else
                  counting.Store)
                  full)) (up_refuses old.view.number d b new at_b gave);
              cause = record {
                many = many;
                ends = (
                  history_of m,
                  unlocked_history b new gave
                      ∙ (ap (λ (h : ℕ). history_of b ++ step.Unlock h false ∷ []) at_b
                      ∙ (ap (λ (es : _). es ++ step.Unlock (sem_head d) false ∷ []) (history_after m b _ is)
                      ∙ append_assoc (history_of m) (step.Load (watch.Done d) v ∷ [])
                      (step.Unlock (sem_head d) false ∷ []))),
                );
              };
            }

        pub full_by : RaisedBy old new d (Err (record { count = v }))
        full_by = record {
          raised = has_refused;
          carries = full_carried;
          off = ends_off d old b new false full_may gave;
        }

    -- it is raised
    module _ (below : v < FULL) (c : Known) (made : StoresCount b c d (v + 1)) where
      abbrev kept : SameBook m c
      kept = book_on m b c (book_load m b d v is) (book_store b c d (v + 1) made.found made.is)

      at_c : c.at ≡ sem_head d
      at_c = made.publishes.at ∙ at_b

      pub raised_holds : IsHolding c
      raised_holds = holding_on b c made.publishes.head made.publishes.hold made.publishes.at
          (stored_agreed b c d (v + 1) made.found made.is) loaded_holds

      raised_may : MayEndHold d old c
      raised_may = hold_made d old f.locked c (sem_head d) refl f.took.locked
          (λ n. owed d (set_step (watch.Done d) (v + 1) made.found) (owed d (step.Load (watch.Done d) v) (n - 0)))
          (inside_join d f.locked b c (λ n. owed d (step.Load (watch.Done d) v) (n - 0))
          (owed d (set_step (watch.Done d) (v + 1) made.found))
          (inside_join d f.locked m b (λ n. n - 0) (owed d (step.Load (watch.Done d) v))
          (selection_inside d f.locked m 1 0 f.looked) (inside_step d m b (step.Load (watch.Done d) v) tt is))
          (inside_step d b c (set_step (watch.Done d) (v + 1) made.found) (store_inside d (v + 1) made.found) made.is))
          at_c (made.publishes.number ∙ (loaded.number ∙ (look.number ∙ f.took.carries.number)))
          (none_held old f.told f.free)
          (inr (nobody (done_head d) c (whole_on m c kept f.whole) (nobody_on m c kept f.nobody)))

      pub raised_owes : OwesNoPermit c
      raised_owes = ends_owing_none d old c raised_may f.left

      store_runs : Runs (up_program old.view.number d) b c (next.Go (at.Count counting.Store))
          (next.Go (at.Count (counting.Unlock true)))
      store_runs = (quiet_store (up_program old.view.number d) (at.Count counting.Store) b c (with_value v) d (v + 1)
          made.found _ (v + 1) _ refl refl refl refl (sym (made.finds.1 found_counted.held v found_counted.loaded)) tt
          tt
          tt b (only_none b) made.is).0

      published : Carries (publish_change (watch.Done d)) m c
      published = unchanged_first (publish_change (watch.Done d)) m b c loaded made.publishes

      module _ (new : Known) (gave : new ≡ unlocked_with c c.at false) where
        raised_carried : Carries (set_change (watch.Done d) mode.Normal new.at) old new
        raised_carried = ended_carried d old f.locked c new false f.free f.told f.took.carries
            (looked_first (publish_change (watch.Done d)) f.locked m c look published)
            (unlock_carried c new false gave)
            (simple_stored b c d (v + 1) made.found made.is (simple_loaded m b (watch.Done d) v is f.simple)) at_c
            (inr (whole_on m c kept f.whole, nobody_on m c kept f.nobody)) gave

        has_raised : HasRaised old new d (Ok tt)
        has_raised =
            let full : is_full v ≡ false = grind (arith, nat_tests, below) in
            let g = up_program old.view.number d in record {
              runs = runs_on g old b new (next.Go (at.Select selecting.Lock)) (next.Go (at.Count counting.Store))
                  (next.Ends zero_answer)
                  (starts counting.Store (ap (λ (z : Bool). if z then counting.Unlock false else counting.Store) full))
                  (runs_on g b c new (next.Go (at.Count counting.Store)) (next.Go (at.Count (counting.Unlock true)))
                  (next.Ends zero_answer) store_runs (up_unlocks old.view.number d c new at_c gave));
              cause = tt;
            }

        pub raised_by : RaisedBy old new d (Ok tt)
        raised_by = record {
          raised = has_raised;
          carries = raised_carried;
          off = ends_off d old c new false raised_may gave;
        }

-- for the code: a lock that was taken, and a selection that found nobody
pub took_of : (d h : ℕ) (old a : Known) → h ≡ sem_head d → IsUp a → HasLocked old a h (walk_of_hold h None)
    → IsHolding a → Stays no_entries old a → StaysOwing old a → Carries (lock_change h) old a
    → (FIRST_SIMPLE_HEAD ≤ h → IsSimpleHold a) → TookLock old a (sem_head d)
took_of d h old a same up locked held stays settled carries simple = subst (λ (i : ℕ). TookLock old a i) same (record {
  locked = locked;
  up = up;
  held = held;
  stays = stays;
  settled = settled;
  carries = carries;
  simple = simple;
})

pub found_nobody : (d n : ℕ) (old a m : Known) → IsFree old → IsTold old → LeftOff d old → IsUp old
    → TookLock old a (sem_head d) → HasSelected a m 1 n → (n ≡ 1 → ⊥) → KeepsHold a m
    → (IsSimpleHold a → IsSimpleHold m) → FoundNobody old m d
found_nobody d n old a m free told left up took s other k simple = elim s.ends [
  | inl all ↦ absurd (other all.1)
  | inr none ↦
      let few : n < 1 = none.1 (λ z. absurd (cc)) in
      let zero : n ≡ 0 = omega (arith, few) in record {
        free = free;
        told = told;
        left = left;
        up = up;
        locked = a;
        took = took;
        looked = subst (λ (i : ℕ). HasSelected a m 1 i) zero s;
        keeps = k;
        simple = simple (took.simple (done_simple d));
        whole = s.whole;
        nobody = none.0;
      }
]

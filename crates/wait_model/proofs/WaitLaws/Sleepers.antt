-- Whoever is asleep in a wait sleeps on the watch of its call, whatever it waits for.
use Rattle.std.proofs.lemmas.Bool.{both_ways}
use Rattle.std.proofs.lemmas.Bool.Decides.{nat_tests}
use Rattle.std.proofs.Common.{refl, sym, ◌∙◌, ap, subst, arith}
use Rattle.std.specs.Prelude.{ℕ, ◌≡◌, ◌≢◌, ◌≤◌, Bool, true, false, Option, Some, None, List}
use Rattle.wait_model.specs.{declared.layout.TheConstants.EVENTS, declared.watches.Watch.Watch}
use Rattle.wait_model.specs.{declared.watches.Kind.Kind, declared.watches.Entry.Entry, declared.steps.Step.Step}
use Rattle.wait_model.specs.{declared.calls.Call.Call, declared.calls.Ran.Ran, declared.points.Point.Point}
use Rattle.wait_model.specs.{declared.points.Progress.Progress, Views.View, Fold.view_of, Histories.Since}
use Rattle.wait_model.specs.{Selections.is_page_lock, Wakes.Sleeps, Findings.is_waiting}
use Rattle.wait_model.specs.Watches.{same, bare, kind_for, is_done, is_woken, is_page}
use Rattle.wait_model.specs.Points.{call_watch, is_await, is_bit_wait}
use Rattle.wait_model.specs.Runs.{State, own, IsRun, state_of, made_in}
use Rattle.wait_model.specs.Reached.{HomeAt, IsFitted, IsSoundCall, IsSound}
use Rattle.wait_model.specs.Readings.{FailedBy, finds_set, queues}
use Rattle.wait_model.specs.Waiters.{WaitsFor, IsSafe, NoRunLosesWaiter}
use Rattle.wait_model.specs.declared.watches.Watch.TheVariants as watch
use Rattle.wait_model.specs.declared.watches.Kind.TheVariants as kind
use Rattle.wait_model.specs.declared.calls.Call.TheVariants as calls
use Rattle.wait_model.specs.declared.points.Point.TheVariants as at
use Rattle.wait_model.specs.declared.points.PreparePoint.TheVariants as preparing
use Rattle.wait_model.specs.declared.points.WokenPoint.TheVariants as hearing
use Rattle.wait_model.specs.declared.points.AwaitPoint.TheVariants as awaiting
use Rattle.wait_model.specs.declared.points.BitPoint.TheVariants as biting
use Rattle.wait_model.specs.declared.points.Progress.TheVariants as now
use Rattle.wait_model.proofs.{WordLaws.DecodedWords.owner_own, Sameness.each_kind, RunLaws.EveryRun.sound_of}
use Rattle.wait_model.proofs.{HistoryLaws.ViewsTold.views_told, HistoryLaws.NoLostWake.no_run_loses_wake}
use Rattle.wait_model.proofs.{HistoryLaws.NoLostWake.tas_told, HistoryLaws.ZeroLoads.zero_told}
use Rattle.wait_model.proofs.{WaitLaws.Waiters.IsDownInWait, WaitLaws.Waiters.down_of, WaitLaws.PageWaiters.told_of}
use Rattle.wait_model.proofs.RunLaws.PagesHanded.{kind_plain}
use Rattle.wait_model.proofs.WaitLaws.WaitStages.{dozing, stage, IsTested, IsListening}
use Rattle.wait_model.proofs.WaitLaws.PageTurns.{ArePagesTold, FoundSet, IsPaged, is_paging, is_turning}
use Rattle.wait_model.proofs.WaitLaws.ZeroCounts.{IsZero, ZeroAt, zero_of}
use Rattle.wait_model.specs.declared.points.PagePoint.TheVariants as paging

-- the call of a task that waits
waits_in : (q : Progress) (c : Watch) → WaitsFor q c
    → (call : Call) × (p : Point) × (q ≡ now.Open call p) × (is_waiting call ≡ true) × (c ≡ call_watch call)
waits_in (now.Open call p) c w = (call, p, refl, w.0, w.1)
waits_in now.Idle c w = absurd w
waits_in now.Fresh c w = absurd w

not_listening : (call : Call) → is_waiting call ≡ true → is_page_lock call ≡ false → IsListening call → ⊥
not_listening (calls.Woken st) w o l = cc
not_listening (calls.LockPage i st) w o l = cc
not_listening calls.Remove w o l = l
not_listening call w o l = l

-- of those only the wait for a completion waits for one
done_await : (call : Call) → is_waiting call ≡ true → is_done (call_watch call) ≡ is_await call
done_await (calls.Wait c how) w = refl
done_await (calls.SimpleWait c st) w = refl
done_await (calls.WaitFor d st) w = refl
done_await (calls.WaitBit i b st) w = refl
done_await (calls.LockBit i b st) w = refl
done_await (calls.LockPage i st) w = refl
done_await (calls.WaitVar v old st) w = refl
done_await call w = absurd (cc)

not_both : (call : Call) {A : Type 0} → is_bit_wait call ≡ true → is_await call ≡ true → A
not_both (calls.WaitFor d st) b a = absurd (cc)
not_both call b a = absurd (cc)

pub never_woken : (c : Watch) → is_woken (kind_for c) ≡ false
never_woken c = each_kind (λ k. is_woken k ≡ false) refl refl refl refl c

pub same_bare : (c : Watch) → same c (bare c) ≡ true
same_bare (watch.Plain c) = grind (arith, nat_tests)
same_bare (watch.Done d) = grind (arith, nat_tests)
same_bare (watch.Bit w b) = grind (arith, nat_tests)
same_bare (watch.Var v o) = grind (arith, nat_tests)

-- after its sleep a wait for a completion has found the count 0
module _ (call : Call) (v : View) (x : ℕ) (w : is_await call ≡ true) where
  abbrev Failed : Type 0
  Failed = (n : ℕ) × (v.checks.zero_failed x (call_watch call) ≡ Some n)

  dozing_zero : (p : Point) → stage p ≡ dozing → IsFitted call p → IsZero call p v x → Failed
  dozing_zero (at.Prepare preparing.Lock) g f h = absurd (both_ways false refl (sym f ∙ w))
  dozing_zero (at.Prepare preparing.Look) g f h = absurd (cc)
  dozing_zero (at.Prepare preparing.Queue) g f h = absurd (cc)
  dozing_zero (at.Prepare preparing.State) g f h = absurd (cc)
  dozing_zero (at.Prepare preparing.Unlock) g f h = absurd (cc)
  dozing_zero (at.Bit biting.Look) g f h = not_both call f w
  dozing_zero (at.Bit (biting.Again hit)) g f h = not_both call f w
  dozing_zero (at.Bit p) g f h = absurd (cc)
  dozing_zero (at.Await (awaiting.Lock true)) g f h = h w
  dozing_zero (at.Await (awaiting.Lock false)) g f h = absurd (cc)
  dozing_zero (at.Await p) g f h = absurd (cc)
  dozing_zero (at.Woken hearing.State) g f h = absurd (cc)
  dozing_zero (at.Woken hearing.Flag) g f h = absurd (cc)
  dozing_zero (at.Woken hearing.Sleep) g f h = absurd (cc)
  dozing_zero (at.Woken hearing.Run) g f h = absurd (cc)
  dozing_zero (at.Woken hearing.Clear) g f h = absurd (cc)
  dozing_zero (at.Page paging.First) g f h = absurd (cc)
  dozing_zero (at.Page p) g f h = absurd (cc)
  dozing_zero p g f h = absurd (cc)

-- the failed load of a task that is asleep
module _ (call : Call) (es : List Step) (x : ℕ) (e : Entry) (wait : is_waiting call ≡ true)
    (kind : e.kind ≡ kind_for (call_watch call)) where
  unwoken : is_woken e.kind ≡ false
  unwoken = ap (λ k. is_woken k) kind ∙ never_woken (call_watch call)

  unpaged : is_page e.kind ≡ false
  unpaged = ap (λ k. is_page k) kind ∙ kind_plain (call_watch call)

  load_by : (b : Bool) → is_await call ≡ b → FailedBy false false b es x (call_watch call)
      → FailedBy (is_woken e.kind) (is_page e.kind) (is_done (call_watch call)) es x (call_watch call)
  load_by b a l = rw (unwoken, unpaged, done_await call wait, a) l

  failed_load : (v : View) (p : Point) → v ≡ view_of es → stage p ≡ dozing → IsFitted call p → IsZero call p v x
      → IsTested call es x → (b : Bool) → is_await call ≡ b
      → FailedBy (is_woken e.kind) (is_page e.kind) (is_done (call_watch call)) es x (call_watch call)
  failed_load v p told g f z tested true a =
      let k = dozing_zero call v x a p g f z in
      load_by true a ((zero_told es x (call_watch call)).0 k.0
      (sym (ap (λ (u : View). u.checks.zero_failed x (call_watch call)) told) ∙ k.1)).0
  failed_load v p told g f z tested false a = load_by false a (tested a)

-- the task of a wait that is down sleeps
module _ (run : List Ran) (r : IsRun run) (few : made_in run ≤ EVENTS) (t : ℕ) where
  abbrev s : State
  s = state_of run

  load : (call : Call) (p : Point) → s.progress t ≡ now.Open call p → is_waiting call ≡ true
      → (k : IsDownInWait s t call p)
      → FailedBy (is_woken k.entry.kind) (is_page k.entry.kind) (is_done (call_watch call)) (s.table.history t)
      (own t) (call_watch call)
  load call p is wait k = failed_load call (s.table.history t) (own t) k.entry wait k.kind (s.table.view t) p
      (views_told run t) k.dozes
      (subst (IsSoundCall (made_in run)) is ((sound_of run r few).calls t)).fitted
      (subst (λ (q : Progress). ZeroAt q (s.table.view t) (own t)) is (zero_of run r few t)) k.tested
      (is_await call) refl

  sleeps : (call : Call) (p : Point) → s.progress t ≡ now.Open call p → is_waiting call ≡ true
      → (k : IsDownInWait s t call p) → Sleeps s.table (own t) k.entry (call_watch call)
  sleeps call p is wait k = record {
    queued = k.stands;
    watches = rw k.watch (same_bare (call_watch call));
    down = subst (λ (i : ℕ). (s.table.task i).state ≢ 0) (sym (owner_own t)) k.state;
    failed = subst (λ (i : ℕ). FailedBy (is_woken k.entry.kind) (is_page k.entry.kind) (is_done (call_watch call))
        (s.table.history i)
        (own t) (call_watch call)) (sym (owner_own t)) (load call p is wait k);
  }

  safe : (call : Call) (p : Point) → s.progress t ≡ now.Open call p → is_waiting call ≡ true → IsDownInWait s t call p
      → IsSafe s t (call_watch call)
  safe call p is wait k = record {
    entry = k.entry;
    sleeps = sleeps call p is wait k;
    woken = no_run_loses_wake run r few (own t) k.entry (call_watch call) (sleeps call p is wait k);
  }

-- the task of a wait for a page that is down sleeps
lock_pages : (call : Call) (p : Point) → is_page_lock call ≡ true → IsPaged (now.Open call p)
    → is_paging (now.Open call p) ≡ true
lock_pages (calls.LockPage w st) (at.Page p) l g = refl
lock_pages (calls.LockPage w st) p l g = absurd g
lock_pages call p l g = absurd (cc)

turning_home : (call : Call) (p : Point) (e : Entry) → is_turning (now.Open call p) ≡ true
    → HomeAt (now.Open call p) (Some e) → (e.watch ≡ bare (call_watch call)) × (e.kind ≡ kind.Page)
turning_home call (at.Page (paging.Unlock false)) e t h = h
turning_home call (at.Page paging.State) e t h = h
turning_home call (at.Page paging.Flag) e t h = h
turning_home call (at.Page paging.Look) e t h = h
turning_home call (at.Page paging.Sleep) e t h = h
turning_home call (at.Page (paging.Unlock true)) e t h = absurd (cc)
turning_home call p e t h = absurd (cc)

page_failed : (k : Kind) (d : Bool) (es : List Step) (x : ℕ) (c : Watch) → k ≡ kind.Page
    → Since (finds_set c) (queues x) es → FailedBy (is_woken k) (is_page k) d es x c
page_failed k d es x c is l = rw is l

module _ (run : List Ran) (r : IsRun run) (few : made_in run ≤ EVENTS) (t : ℕ) (call : Call) (p : Point)
    (is : (state_of run).progress t ≡ now.Open call p) (lock : is_page_lock call ≡ true)
    (down : ((state_of run).table.task t).runnable ≡ false) where
  told : ArePagesTold (state_of run)
  told = told_of run r few

  sound : IsSound (state_of run) (made_in run)
  sound = sound_of run r few

  turns : (b : Bool) → is_turning (now.Open call p) ≡ b → is_turning (now.Open call p) ≡ true
  turns true q = q
  turns false q = absurd (both_ways true (sym (told.awake t (ap is_paging is
      ∙ lock_pages call p lock (subst IsPaged is (told.paged t))) (ap is_turning is ∙ q)) ∙ down) refl)

  turning : is_turning (now.Open call p) ≡ true
  turning = turns (is_turning (now.Open call p)) refl

  low : ((state_of run).table.task t).state ≡ 0 → ⊥
  low z = absurd (both_ways true (sym ((sound.lawful t).runnable z) ∙ down) refl)

  found : ((state_of run).table.view t).checks.tas_failed (own t) (call_watch call) ≡ true
  found = subst (λ (q : Progress). FoundSet q ((state_of run).table.view t) t) is (told.found t) turning

  failed : Since (finds_set (call_watch call)) (queues (own t)) ((state_of run).table.history t)
  failed = tas_told ((state_of run).table.history t) (own t) (call_watch call)
      (sym (ap (λ (v : View). v.checks.tas_failed (own t) (call_watch call)) (views_told run t)) ∙ found)

  asleep : (e : Entry) → (state_of run).table.entry (own t) ≡ Some e
      → Sleeps (state_of run).table (own t) e (call_watch call)
  asleep e st =
      let home = turning_home call p e turning (subst (λ (q : Progress). HomeAt q (Some e)) is
      (subst (HomeAt ((state_of run).progress t)) st (sound.placed t).home)) in
      record {
        queued = st;
        watches = rw home.0 (same_bare (call_watch call));
        down = subst (λ (i : ℕ). ((state_of run).table.task i).state ≢ 0) (sym (owner_own t)) low;
        failed = subst (λ (i : ℕ). FailedBy (is_woken e.kind) (is_page e.kind) (is_done (call_watch call))
            ((state_of run).table.history i) (own t) (call_watch call)) (sym (owner_own t))
            (page_failed e.kind (is_done (call_watch call)) ((state_of run).table.history t) (own t) (call_watch call)
            home.1 failed);
      }

  page_safe : (o : Option Entry) → (state_of run).table.entry (own t) ≡ o → IsSafe (state_of run) t (call_watch call)
  page_safe None st = absurd (both_ways true (sym (told.off t (ap is_turning is ∙ turning) st).1.0 ∙ down) refl)
  page_safe (Some e) st = record {
    entry = e;
    sleeps = asleep e st;
    woken = no_run_loses_wake run r few (own t) e (call_watch call) (asleep e st);
  }

pub no_run_loses_waiter : NoRunLosesWaiter
no_run_loses_waiter run r few t c a = by (waits_in ((state_of run).progress t) c a.waits)
  where
    by : (call : Call) × (p : Point) × ((state_of run).progress t ≡ now.Open call p) × (is_waiting call ≡ true)
        × (c ≡ call_watch call) → IsSafe (state_of run) t c
    by w = subst (IsSafe (state_of run) t) (sym w.4) (which (is_page_lock w.0) refl)
      where
        which : (b : Bool) → is_page_lock w.0 ≡ b → IsSafe (state_of run) t (call_watch w.0)
        which true l = page_safe run r few t w.0 w.1 w.2 l a.down ((state_of run).table.entry (own t)) refl
        which false l = safe run r few t w.0 w.1 w.2 w.3
            (down_of run r few t w.0 w.1 w.2 (not_listening w.0 w.3 l) a.down)

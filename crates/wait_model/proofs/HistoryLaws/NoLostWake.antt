-- No wakeup is lost, in the words of histories.
use Rattle.std.proofs.lemmas.Bool.{both_ways}
use Rattle.std.proofs.Common.{refl, sym, ◌∙◌, ap, subst, arith, inl, inr}
use Rattle.std.specs.Prelude.{ℕ, ◌≡◌, ◌<◌, ◌⊎◌, ◌-◌, ◌^◌, Some, None, Bool, true, false, cond, ◌==◌, List, [], ◌∷◌}
use Rattle.std.specs.Prelude.{◌||◌, ◌&&◌, not}
use Rattle.wait_model.specs.{declared.watches.Watch.Watch, declared.watches.Entry.Entry, declared.steps.Step.Step}
use Rattle.wait_model.specs.{Functions.put, Words.spent_of, Tables.Table, Tables.met, Runs.state_of}
use Rattle.wait_model.specs.Watches.{same, head_of, is_done, is_woken, owner, counted, is_page, is_bit, was_clear}
use Rattle.wait_model.specs.Views.{View, Checks, blank, checked, covers}
use Rattle.wait_model.specs.Fold.{after, after_all, view_of}
use Rattle.wait_model.specs.Laws.{Waits, Covered, Spent, TryingBy, Trying, Tried, NoLostWake}
use Rattle.wait_model.specs.Readings.{fails, clears_flag, reads_no, outdates, HasTestedUnheard, ZeroLoad, FailedBy}
use Rattle.wait_model.specs.Readings.{finds_set, queues, before_load}
use Rattle.wait_model.specs.Histories.{Lacks, Since, takes_lock, spent_found, LockFound, LastFound}
use Rattle.wait_model.specs.Wakes.{Sleeps, IsCovered, UsedUp, IsTried, NoWakeIsLost, NoRunLosesWake}
use Rattle.wait_model.specs.declared.watches.Watch.TheVariants as watch
use Rattle.wait_model.specs.declared.steps.Step.TheVariants as step
use Rattle.wait_model.proofs.{HistoryLaws.CalledEntries.view_at, Functions.put_same, HistoryLaws.HoldLooks.IsLookTold}
use Rattle.wait_model.proofs.{HistoryLaws.HoldLooks.after_snoc, StepLaws.UnlockSteps.unlock_checks}
use Rattle.wait_model.proofs.{HistoryLaws.PlainReadings.failed_told, HistoryLaws.ViewsTold.views_told}
use Rattle.wait_model.proofs.{HistoryLaws.ZeroLoads.zero_told, BitLaws.Tryings.trying_told}
use Rattle.wait_model.proofs.{HistoryLaws.Coverings.covering_told, RunLaws.EveryRun.no_lost_wake}
use Rattle.wait_model.proofs.HistoryLaws.Stretches.{IsSetBy, seen_in, set_at, kept_so}
use Rattle.wait_model.proofs.Sameness.{same_head, same_counted, same_bit, same_bit_is, bit_not_counted}

-- the spent count found at the last lock of a head
found_after : (e : Step) (v : View) (h : ℕ) → (takes_lock h e ≡ true)
    × ((after e v).checks.found h ≡ spent_found e) ⊎ ((takes_lock h e ≡ false)
    × ((after e v).checks.found h ≡ v.checks.found h))
found_after (step.Lock i aim w) v h = by (h == i) refl
  where
    by : (b : Bool) → (h == i) ≡ b
        → (((h == i) ≡ true) × (put v.checks.found i (spent_of w) h ≡ spent_of w))
        ⊎ (((h == i) ≡ false) × (put v.checks.found i (spent_of w) h ≡ v.checks.found h))
    by true p = inl (p, rw p refl)
    by false p = inr (p, rw p refl)
found_after (step.Unlock i sp) v h = inr (refl, ap (λ (k : Checks). k.found h) (unlock_checks v v.walk sp))
found_after e v h = inr (refl, refl)

found_in : (es : List Step) (v : View) (h : ℕ) → LockFound es h ((after_all v es).checks.found h)
    ⊎ (Lacks (takes_lock h) es × ((after_all v es).checks.found h ≡ v.checks.found h))
found_in [] v h = inr (tt, refl)
found_in (e ∷ es) v h = by (found_in es (after e v) h) (found_after e v h)
  where
    by : LockFound es h ((after_all (after e v) es).checks.found h)
        ⊎ (Lacks (takes_lock h) es × ((after_all (after e v) es).checks.found h ≡ (after e v).checks.found h))
        → (((takes_lock h e ≡ true) × ((after e v).checks.found h ≡ spent_found e))
        ⊎ ((takes_lock h e ≡ false) × ((after e v).checks.found h ≡ v.checks.found h)))
        → LockFound (e ∷ es) h ((after_all (after e v) es).checks.found h)
        ⊎ (Lacks (takes_lock h) (e ∷ es) × ((after_all (after e v) es).checks.found h ≡ v.checks.found h))
    by (inl k) f = inl (record {
      lock = record {
        earlier = e ∷ k.lock.earlier;
        it = k.lock.it;
        later = k.lock.later;
        split = ap (λ (t : List Step). e ∷ t) k.lock.split;
        passes = k.lock.passes;
        none_since = k.lock.none_since;
      };
      count = k.count;
    })
    by (inr k) (inl f) = inl (record {
      lock = record { earlier = []; it = e; later = es; split = refl; passes = f.0; none_since = k.0 };
      count = k.1 ∙ f.1;
    })
    by (inr k) (inr f) = inr ((f.0, k.0), k.1 ∙ f.1)

last_found : (es : List Step) (h : ℕ) → LastFound es h ((view_of es).checks.found h)
last_found es h = by (found_in es blank h)
  where
    by : LockFound es h ((view_of es).checks.found h)
        ⊎ (Lacks (takes_lock h) es × ((view_of es).checks.found h ≡ 0))
        → LastFound es h ((view_of es).checks.found h)
    by k = k

-- what a step does to the failed load of a Woken entry, and to the last reading of its flag
low_after : (e : Step) (v : View) (x : ℕ) (c : Watch)
    → (after e v).checks.low x c ≡ cond (clears_flag x e) None
    (cond (fails e c) (Some (v.checks.found (head_of c))) (v.checks.low x c))
low_after (step.Queue y d) v x c = grind arith
low_after (step.Unflag y o) v x c = grind arith
low_after (step.Unlock h sp) v x c = ap (λ (k : Checks). k.low x c) (unlock_checks v v.walk sp)
low_after e v x c = refl

low_stays : (es : List Step) (v : View) (x : ℕ) (c : Watch) → Lacks (clears_flag x) es
    → Lacks (λ e. fails e c) es
    → (after_all v es).checks.low x c ≡ v.checks.low x c
low_stays [] v x c l m = refl
low_stays (e ∷ es) v x c l m = low_stays es (after e v) x c l.1 m.1 ∙ low_after e v x c ∙ rw (l.0, m.0) refl

load_clears_none : (e : Step) (x : ℕ) (c : Watch) → fails e c ≡ true → clears_flag x e ≡ false
load_clears_none (step.Load l r) x c h = refl
load_clears_none e x c h = absurd (cc)

low_found : (es : List Step) (x : ℕ) (c : Watch) (l : HasTestedUnheard es x c)
    → (view_of es).checks.low x c ≡ Some ((view_of l.before).checks.found (head_of c))
low_found es x c l = ap (λ (v : View). v.checks.low x c) (view_at es l.before l.load l.later l.split)
    ∙ low_stays l.later (after l.load (view_of l.before)) x c l.uncleared l.is_last
    ∙ low_after l.load (view_of l.before) x c
    ∙ rw (load_clears_none l.load x c l.is_load, l.is_load) refl

flag_no : ℕ → View → Bool
flag_no x v = v.checks.flag_no x

flag_no_by : (x : ℕ) → IsSetBy (flag_no x) (λ e v. reads_no x e) (outdates x)
unfolding flag_no
flag_no_by x (step.State σ) v = grind arith
flag_no_by x (step.Flag y w) v = grind arith
flag_no_by x (step.Unlock h sp) v = ap (λ (k : Checks). k.flag_no x) (unlock_checks v v.walk sp)
    ∙ kept_so (v.checks.flag_no x)
flag_no_by x e v = kept_so (v.checks.flag_no x)

flag_read : (es : List Step) (x : ℕ) → Since (reads_no x) (outdates x) es
    → (view_of es).checks.flag_no x ≡ true
unfolding flag_no
flag_read es x s = subst (λ (t : List Step). (view_of t).checks.flag_no x ≡ true) (sym s.split)
    (set_at (flag_no x) (λ e v. reads_no x e) (outdates x) (flag_no_by x) s.earlier s.it s.later blank
    s.passes
    s.none_since)

-- a test-and-set that found the bit set, since the entry was queued
tas_failed : ℕ → Watch → View → Bool
tas_failed x c v = v.checks.tas_failed x c

bool_flip : (t u : Bool) → (t || u) ≡ (u || (t && not false))
bool_flip t u = grind arith

tas_failed_by : (x : ℕ) (c : Watch) → IsSetBy (tas_failed x c) (λ e v. finds_set c e) (queues x)
unfolding tas_failed
tas_failed_by x c (step.Queue y d) v = grind arith
tas_failed_by x c (step.Consume d n r) v =
    bool_flip (v.checks.tas_failed x c) (is_bit d && (same c d && not (was_clear d r)))
tas_failed_by x c (step.Unlock h sp) v = ap (λ (k : Checks). k.tas_failed x c) (unlock_checks v v.walk sp)
    ∙ kept_so (v.checks.tas_failed x c)
tas_failed_by x c e v = kept_so (v.checks.tas_failed x c)

tas_read : (es : List Step) (x : ℕ) (c : Watch) → Since (finds_set c) (queues x) es
    → (view_of es).checks.tas_failed x c ≡ true
unfolding tas_failed
tas_read es x c s = subst (λ (t : List Step). (view_of t).checks.tas_failed x c ≡ true) (sym s.split)
    (set_at (tas_failed x c) (λ e v. finds_set c e) (queues x) (tas_failed_by x c) s.earlier s.it s.later blank
    s.passes s.none_since)

-- and the other way round
pub tas_told : (es : List Step) (x : ℕ) (c : Watch) → (view_of es).checks.tas_failed x c ≡ true
    → Since (finds_set c) (queues x) es
unfolding tas_failed
tas_told es x c h = elim (seen_in (tas_failed x c) (λ e v. finds_set c e) (queues x) (tas_failed_by x c) es blank h) [
  | inl k ↦ record {
    earlier = k.earlier;
    it = k.it;
    later = k.later;
    split = k.split;
    passes = k.sets;
    none_since = k.none_since;
  }
  | inr k ↦ absurd (both_ways false refl k.0)
]

-- the spent count that the last lock of the head before the load found; for a page, whose walks spend none, 0
count_before : (woken page done : Bool) (es : List Step) (x : ℕ) (c : Watch) → FailedBy woken page done es x c → ℕ
count_before true page done es x c l = (view_of l.0.before).checks.found (head_of c)
count_before false true done es x c l = 0
count_before false false done es x c l = (view_of (before_load false false done es x c l)).checks.found (head_of c)

zero_count : (es : List Step) (x : ℕ) (c : Watch) (l : ZeroLoad es x c)
    → spent_of l.word ≡ count_before false false true es x c l
unfolding count_before
zero_count es x c l = sym (ap (λ (v : View). v.checks.found (head_of c))
    (after_snoc blank l.earlier (step.Lock (head_of c) l.aim l.word))
    ∙ put_same (view_of l.earlier).checks.found (head_of c) (spent_of l.word))

-- a sleeper's failed load, as its view has it
view_failed : (v : View) (es : List Step) (x : ℕ) (e : Entry) (c : Watch) (k j d : Bool) → is_woken e.kind ≡ k
    → is_page e.kind ≡ j → is_done c ≡ d → v ≡ view_of es → (l : FailedBy k j d es x c)
    → checked v x e c ≡ Some (count_before k j d es x c l)
unfolding count_before
view_failed v es x e c false true d kind pg done is l =
    rw (kind, pg) (rw (ap (λ (u : View). u.checks.tas_failed x c) is ∙ tas_read es x c l) refl)
view_failed v es x e c true j d kind pg done is l =
    let f : v.checks.flag_no x ≡ true = ap (λ (u : View). u.checks.flag_no x) is ∙ flag_read es x l.1 in
    rw kind (rw f (ap (λ (u : View). u.checks.low x c) is ∙ low_found es x c l.0))
view_failed v es x e c false false true kind pg done is l =
    rw (kind, pg) (rw done (ap (λ (u : View). u.checks.zero_failed x c) is ∙ (zero_told es x c).1 l
    ∙ ap (λ (n : ℕ). Some n) (zero_count es x c l)))
view_failed v es x e c false false false kind pg done is l =
    rw (kind, pg) (rw done (ap (λ (u : View). u.checks.failed x c) is ∙ (failed_told es x c).1 l))

found_by : (s : Table) (x : ℕ) (e : Entry) (on : Watch) → Sleeps s x e on → ℕ
found_by s x e on k = count_before (is_woken e.kind) (is_page e.kind) (is_done on) (s.history (owner x)) x on k.failed

sleeper_waits : (s : Table) (x : ℕ) (e : Entry) (on : Watch) → IsLookTold s → (sleeps : Sleeps s x e on)
    → met s.words on ≡ true → Waits s x e on (found_by s x e on sleeps) (s.task (owner x)).state
unfolding found_by
sleeper_waits s x e on told sleeps set = record {
  stands = sleeps.queued;
  watches = sleeps.watches;
  down = λ np. (refl, sleeps.down);
  failed = view_failed (s.view (owner x)) (s.history (owner x)) x e on (is_woken e.kind) (is_page e.kind) (is_done on)
      refl refl refl
      (told (owner x)) sleeps.failed;
  is_set = set;
}

pub sleeper_found : (s : Table) (x : ℕ) (e : Entry) (on : Watch) → IsLookTold s → Sleeps s x e on
    → met s.words on ≡ true → (n : ℕ) × Waits s x e on n (s.task (owner x)).state
sleeper_found s x e on told sleeps set = (found_by s x e on sleeps, sleeper_waits s x e on told sleeps set)

-- what the law in terms of views finds, in the words of histories
covered_plainly : (s : Table) (x : ℕ) (e : Entry) → IsLookTold s → Covered s x e (s.task (owner x)).state
    → IsCovered s x e
covered_plainly s x e told k = (
  k.0,
  (covering_told (s.history k.0) x e (s.task (owner x)).state).0
      (ap (λ (v : View). covers v x e (s.task (owner x)).state) (sym (told k.0)) ∙ k.1),
)

-- a page is never excused by a spent count
set_uncounted : (c : Watch) (e : Step) → finds_set c e ≡ true → counted c ≡ true → ⊥
set_uncounted c (step.Consume d n r) h co =
    bit_not_counted c (same_bit c d (grind arith) (grind arith)) co
set_uncounted c e h co = absurd (cc)

found_at : (k j d : Bool) (es : List Step) (x : ℕ) (c : Watch) (l : FailedBy k j d es x c) → counted c ≡ true
    → LastFound (before_load k j d es x c l) (head_of c) (count_before k j d es x c l)
unfolding count_before
found_at true j d es x c l co = last_found l.0.before (head_of c)
found_at false true d es x c l co = absurd (set_uncounted c l.it l.passes co)
found_at false false d es x c l co = last_found (before_load false false d es x c l) (head_of c)

used_up : (s : Table) (x : ℕ) (e : Entry) (on : Watch) (sleeps : Sleeps s x e on)
    → Spent s e (found_by s x e on sleeps) → UsedUp s x e on sleeps
unfolding found_by
used_up s x e on sleeps k = record {
  counted = same_counted on e.watch sleeps.watches k.0;
  found = found_by s x e on sleeps;
  is_found = found_at (is_woken e.kind) (is_page e.kind) (is_done on) (s.history (owner x)) x on sleeps.failed
      (same_counted on e.watch sleeps.watches k.0);
  risen = subst (λ (h : ℕ). (found_by s x e on sleeps < s.spent h) ⊎ (s.spent h ≡ 2 ^ 62 - 1))
      (sym (same_head on e.watch sleeps.watches)) k.1;
}

tried_plainly : (s : Table) (d on : Watch) → IsLookTold s → same on d ≡ true → Tried s d → IsTried s on
tried_plainly s d (watch.Bit w b) told h t = (
  t.0,
  (trying_told s.entry t.0 (s.history t.0) w b).0
      (subst (λ (v : View). TryingBy s.entry t.0 v (watch.Bit w b)) (told t.0)
      (subst (λ (c : Watch). Trying s t.0 c) (sym (same_bit_is (watch.Bit w b) d refl h)) t.1)),
)
tried_plainly s d (watch.Plain c) told h t = absurd (both_ways false refl (same_bit (watch.Plain c) d h t.1.0))
tried_plainly s d (watch.Done c) told h t = absurd (both_ways false refl (same_bit (watch.Done c) d h t.1.0))
tried_plainly s d (watch.Var v o) told h t =
    absurd (both_ways false refl (same_bit (watch.Var v o) d h t.1.0))

-- a table in which each view is that of its history and no wake is lost loses none in plain words
pub no_wake_is_lost : (s : Table) → IsLookTold s → NoLostWake s → NoWakeIsLost s
no_wake_is_lost s told law x e on sleeps set =
    by (law x e on (found_by s x e on sleeps) (s.task (owner x)).state (sleeper_waits s x e on told sleeps set))
  where
    by : Covered s x e (s.task (owner x)).state ⊎ (Spent s e (found_by s x e on sleeps) ⊎ Tried s e.watch)
        → IsCovered s x e ⊎ (UsedUp s x e on sleeps ⊎ IsTried s on)
    by (inl k) = inl (covered_plainly s x e told k)
    by (inr (inl k)) = inr (inl (used_up s x e on sleeps k))
    by (inr (inr k)) = inr (inr (tried_plainly s e.watch on told sleeps.watches k))

pub no_run_loses_wake : NoRunLosesWake
no_run_loses_wake run r few = no_wake_is_lost (state_of run).table (views_told run) (no_lost_wake run r few)

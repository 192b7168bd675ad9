-- Whoever such a wait has put asleep sleeps on its watch.
use Rattle.std.proofs.Common.{refl, sym, ◌∙◌, ap, subst, arith}
use Rattle.std.specs.Prelude.{ℕ, ◌≡◌, ◌≢◌, Bool, true, false, Option, Some, None, List}
use Rattle.wait_model.specs.{declared.calls.Call.Call, declared.calls.Event.Event, declared.points.Planned.Planned}
use Rattle.wait_model.specs.{declared.points.Point.Point, declared.points.Given.Given, declared.steps.Step.Step}
use Rattle.wait_model.specs.{declared.points.Seen.Seen, declared.tasks.Sleep.Sleep}
use Rattle.wait_model.specs.{declared.tasks.SleepState.SleepState, declared.watches.Entry.Entry}
use Rattle.wait_model.specs.{declared.watches.Kind.Kind, declared.watches.Watch.Watch, Calls.call_watch}
use Rattle.wait_model.specs.{Calls.program_start, Facts.Kept, Fold.after, Fold.view_of, Points.is_bit_wait}
use Rattle.wait_model.specs.{Programs.program, Readings.FailedBy, Tables.Table, Tasks.sleep_of, Views.View}
use Rattle.wait_model.specs.{Findings.is_waiting, Wakes.NoWakeIsLost, Wakes.Sleeps}
use Rattle.wait_model.specs.Watches.{is_done, is_page, is_woken, kind_for, owner, page}
use Rattle.wait_model.specs.declared.calls.Call.TheVariants as calls
use Rattle.wait_model.specs.declared.calls.Event.TheVariants as event
use Rattle.wait_model.specs.declared.points.Next.TheVariants as next
use Rattle.wait_model.specs.declared.points.PagePoint.TheVariants as paging
use Rattle.wait_model.specs.declared.points.Point.TheVariants as at
use Rattle.wait_model.specs.declared.steps.Step.TheVariants as step
use Rattle.wait_model.specs.declared.watches.Kind.TheVariants as kind
use Rattle.wait_model.specs.declared.watches.Watch.TheVariants as watch
use Rattle.wait_model.proofs.{HistoryLaws.HoldLooks.IsLookTold, HistoryLaws.NoLostWake.no_wake_is_lost}
use Rattle.wait_model.proofs.{HistoryLaws.NoLostWake.tas_told, HistoryLaws.PlainReadings.failed_told}
use Rattle.wait_model.proofs.{HistoryLaws.ZeroLoads.zero_told, RunLaws.PagesHanded.kind_plain}
use Rattle.wait_model.proofs.{WaitLaws.Sleepers.never_woken, WaitLaws.Sleepers.same_bare}
use Rattle.wait_rule.specs.{Interleavings.table_of, Items.steps_of, Known.Known, Queues.index, Says.history_of}
use Rattle.wait_rule.specs.Says.{told_of}
use Rattle.wait_rule.specs.Transitions.{IsMadeFor, IsStepFor, Program, StepOrLook, after_step_or_look, after_transition}
use Rattle.wait_rule.specs.Transitions.{by_look, by_step, call_program}
use Rattle.wait_rule.proofs.{KnownLaws.Moments.kept_of, KnownLaws.Moments.views_of, TableSteps.MemberMoves.own_index}
use Rattle.order_laws.specs.SafeSleep.{SleepsSafely}
use Rattle.waiter_laws.specs.Asleep.{EndsAsleep, IsKept, SleepersAreKept, sleep_point}
use Rattle.waiter_laws.proofs.PointRuns.{HasOwn, Here, IsLed, IsOwnEntry, all, looked, step_told}
use Rattle.waiter_laws.proofs.TestedWaits.{HasFailed, TestedAt, is_tested, starts, tested_led}
use Rattle.waiter_laws.proofs.AwaitedCounts.{AwaitedAt, HasZeroFailed, awaited_led}
use Rattle.waiter_laws.proofs.TriedPages.{HasTried, TriedAt, tried_led}

-- a sleep tells nothing
sleep_tells : (e : Step) (k : Known) (own : Option ℕ) (g : Given) (a : Sleep) → IsStepFor k own g (event.Sleep a) e
    → (v : View) → after e v ≡ v
sleep_tells (step.Sleep w) k own g a made v = refl
sleep_tells e k own g a made v = absurd made

slept_told : (k : Known) (own : Option ℕ) (g : Given) (a : Sleep) (s : StepOrLook)
    → IsMadeFor k own g (event.Sleep a) s → told_of (after_step_or_look s k) ≡ told_of k
slept_told k own g a (by_step e) made = step_told k e ∙ sleep_tells e k own g a made (told_of k)
slept_told k own g a (by_look xs) made = absurd made

-- what the point of the sleep says is so behind it
module _ (call : Call) (At : Point → Bool → View → Type 0) (d : Kind) (old new : Known) (z : EndsAsleep call
    old new) where
  abbrev by_call : Program
  by_call = call_program old.view.number 0 call

  abbrev SleepsBy : Planned → Type 0
  SleepsBy u = (a : Sleep) × (u.event ≡ event.Sleep a)

  module _ (led : IsLed by_call At (call_watch call) d (index old.view.number 0)) (start : At
      (program_start call) old.book.awake (told_of old))
      (sleeping : SleepsBy (by_call.plan (sleep_point call) z.sleep.seen))
      (free : (b u : Bool) (v : View) → At (sleep_point call) b v → At (sleep_point call) u v) where
    begins : HasOwn (call_watch call) d (index old.view.number 0) (told_of old)
    begins = λ e is. absurd (let n : None ≡ Some e = sym z.out ∙ is in cc)

    comes : Here by_call At (call_watch call) d (index old.view.number 0) led (next.Go (sleep_point call)) z.came
    comes = all by_call At (call_watch call) d (index old.view.number 0) led z.before (next.Go (program_start call))
        (next.Go (sleep_point call)) old
        z.came z.comes (start, begins)

    knew : Here by_call At (call_watch call) d (index old.view.number 0) led (next.Go (sleep_point call)) z.sleep.knew
    knew = looked by_call At (call_watch call) d (index old.view.number 0) led (next.Go (sleep_point call)) z.came
        z.sleep.knew z.sleeps.looks comes

    same_told : told_of (after_transition z.sleep) ≡ told_of z.sleep.knew
    same_told = slept_told z.sleep.knew by_call.own (by_call.given (sleep_point call)) sleeping.0 z.sleep.did
        (subst (λ (v : Event). IsMadeFor z.sleep.knew by_call.own (by_call.given (sleep_point call)) v
        z.sleep.did) sleeping.1 z.sleeps.is)

    pub behind : Here by_call At (call_watch call) d (index old.view.number 0) led (next.Go (sleep_point call)) new
    behind = looked by_call At (call_watch call) d (index old.view.number 0) led (next.Go (sleep_point call))
        (after_transition z.sleep) new z.looked (
          subst (At (sleep_point call) (after_transition z.sleep).book.awake) (sym same_told)
              (free z.sleep.knew.book.awake (after_transition z.sleep).book.awake (told_of z.sleep.knew) knew.0),
          subst (HasOwn (call_watch call) d (index old.view.number 0)) (sym same_told) knew.1,
        )

plain_failed : (k : Kind) (b : Bool) (es : List Step) (x : ℕ) (c : Watch) → is_woken k ≡ false → is_page k ≡ false
    → is_done c ≡ b → FailedBy false false b es x c → FailedBy (is_woken k) (is_page k) (is_done c) es x c
plain_failed k b es x c woken paged done l = rw (woken, paged, done) l

-- a failed load of a task whose own entry is one of the call
abbrev FailsWith : Kind → List Step → ℕ → Watch → Type 0
FailsWith k es x c = FailedBy (is_woken k) (is_page k) (is_done c) es x c

tested_done : (call : Call) → is_tested call ≡ true → is_done (call_watch call) ≡ false
tested_done (calls.Wait c how) t = refl
tested_done (calls.SimpleWait c st) t = refl
tested_done (calls.WaitBit w b st) t = refl
tested_done (calls.LockBit w b st) t = refl
tested_done (calls.WaitVar v old st) t = refl
tested_done call t = absurd (cc)

-- what a task behind its sleep tells: its own entry is one of its call, and by that it has failed
pub record HasSlept (call : Call) (me : ℕ) (new : Known) : Type 0 where
  pub kind : Kind
  pub own : HasOwn (call_watch call) kind (index me 0) (told_of new)
  pub failed : FailsWith kind (history_of new) (index me 0) (call_watch call)

pub sleep_by : (t : ℕ) (call : Call) (seen : Seen) → (a : Sleep)
    × ((program t call (sleep_point call) seen).event ≡ event.Sleep a)
sleep_by t (calls.WaitBit w b st) seen = (sleep_of seen.own, refl)
sleep_by t (calls.LockBit w b st) seen = (sleep_of seen.own, refl)
sleep_by t (calls.LockPage w st) seen = (sleep_of seen.own, refl)
sleep_by t call seen = (sleep_of seen.own, refl)

tested_failed : (x : ℕ) (c : Watch) (b : Bool) (v : View) (call : Call) → is_tested call ≡ true
    → TestedAt (is_bit_wait call) x c (sleep_point call) b v → HasFailed x c v
tested_failed x c b v (calls.Wait i how) t h = h
tested_failed x c b v (calls.SimpleWait i st) t h = h
tested_failed x c b v (calls.WaitBit w n st) t h = h.1
tested_failed x c b v (calls.LockBit w n st) t h = h.1
tested_failed x c b v (calls.WaitVar i old st) t h = h
tested_failed x c b v call t h = absurd (cc)

tested_free : (x : ℕ) (c : Watch) (b u : Bool) (v : View) (call : Call) → is_tested call ≡ true
    → TestedAt (is_bit_wait call) x c (sleep_point call) b v → TestedAt (is_bit_wait call) x c (sleep_point call) u v
tested_free x c b u v (calls.Wait i how) t h = h
tested_free x c b u v (calls.SimpleWait i st) t h = h
tested_free x c b u v (calls.WaitBit w n st) t h = h
tested_free x c b u v (calls.LockBit w n st) t h = h
tested_free x c b u v (calls.WaitVar i old st) t h = h
tested_free x c b u v call t h = absurd (cc)

pub slept_by_load : (call : Call) (t : ℕ) (new : Known) → is_tested call ≡ true
    → HasOwn (call_watch call) (kind_for (call_watch call)) (index t 0) (told_of new)
    → HasFailed (index t 0) (call_watch call) (told_of new) → HasSlept call t new
slept_by_load call t new tests own found = record {
  kind = kind_for (call_watch call);
  own = own;
  failed = plain_failed (kind_for (call_watch call)) false (history_of new) (index t 0) (call_watch call)
      (never_woken (call_watch call)) (kind_plain (call_watch call)) (tested_done call tests)
      (((failed_told (history_of new) (index t 0) (call_watch call)).0 found.0 found.1).0);
}

pub slept_by_count : (d : ℕ) (st : SleepState) (t : ℕ) (new : Known)
    → HasOwn (watch.Done d) kind.Simple (index t 0) (told_of new)
    → HasZeroFailed (index t 0) (watch.Done d) (told_of new) → HasSlept (calls.WaitFor d st) t new
slept_by_count d st t new own found = record {
  kind = kind.Simple;
  own = own;
  failed = ((zero_told (history_of new) (index t 0) (watch.Done d)).0 found.0 found.1).0;
}

pub slept_by_try : (w : ℕ) (st : SleepState) (t : ℕ) (new : Known)
    → HasOwn (page w) kind.Page (index t 0) (told_of new) → HasTried (index t 0) (page w) (told_of new)
    → HasSlept (calls.LockPage w st) t new
slept_by_try w st t new own found = record {
  kind = kind.Page;
  own = own;
  failed = tas_told (history_of new) (index t 0) (page w) found;
}

module _ (old new : Known) where
  abbrev who : ℕ
  who = old.view.number

  abbrev slot : ℕ
  slot = index who 0

  by_tested : (call : Call) → is_tested call ≡ true → EndsAsleep call old new → HasSlept call who new
  by_tested call t z = slept_by_load call who new t here.1 found
    where
      here : Here (call_program who 0 call) (TestedAt (is_bit_wait call) slot (call_watch call)) (call_watch call)
          (kind_for (call_watch call)) slot (tested_led who call t)
          (next.Go (sleep_point call)) new
      here = behind call (TestedAt (is_bit_wait call) slot (call_watch call)) (kind_for (call_watch call)) old new z
          (tested_led who call t) (subst (λ (b : Bool). TestedAt (is_bit_wait call) slot (call_watch call)
          (program_start call) b (told_of old)) (sym z.up) (starts who call t (told_of old)))
          (sleep_by who call z.sleep.seen)
          (λ b u v h. tested_free slot (call_watch call) b u v call t h)

      found : HasFailed slot (call_watch call) (told_of new)
      found = tested_failed slot (call_watch call) new.book.awake (told_of new) call t here.0

  by_count : (d : ℕ) (st : SleepState) → EndsAsleep (calls.WaitFor d st) old new
      → HasSlept (calls.WaitFor d st) who new
  by_count d st z = slept_by_count d st who new here.1 here.0
    where
      here : Here (call_program who 0 (calls.WaitFor d st)) (λ p b v. AwaitedAt slot (watch.Done d) p v)
          (watch.Done d) kind.Simple slot
          (awaited_led who d st) (next.Go at.Sleep) new
      here = behind (calls.WaitFor d st) (λ p b v. AwaitedAt slot (watch.Done d) p v) kind.Simple old new z
          (awaited_led who d st) tt
          (sleep_by who (calls.WaitFor d st) z.sleep.seen) (λ b u v h. h)

  by_page : (w : ℕ) (st : SleepState) → EndsAsleep (calls.LockPage w st) old new
      → HasSlept (calls.LockPage w st) who new
  by_page w st z = slept_by_try w st who new here.1 here.0
    where
      here : Here (call_program who 0 (calls.LockPage w st)) (λ p b v. TriedAt slot (page w) p v)
          (page w) kind.Page slot
          (tried_led who w st) (next.Go (at.Page paging.Sleep)) new
      here = behind (calls.LockPage w st) (λ p b v. TriedAt slot (page w) p v) kind.Page old new z
          (tried_led who w st) tt
          (sleep_by who (calls.LockPage w st) z.sleep.seen) (λ b u v h. h)

  pub has_slept : (call : Call) → is_waiting call ≡ true → EndsAsleep call old new → HasSlept call who new
  has_slept (calls.Wait c how) w z = by_tested (calls.Wait c how) refl z
  has_slept (calls.SimpleWait c st) w z = by_tested (calls.SimpleWait c st) refl z
  has_slept (calls.WaitFor d st) w z = by_count d st z
  has_slept (calls.WaitBit i b st) w z = by_tested (calls.WaitBit i b st) refl z
  has_slept (calls.LockBit i b st) w z = by_tested (calls.LockBit i b st) refl z
  has_slept (calls.LockPage i st) w z = by_page i st z
  has_slept (calls.WaitVar v o st) w z = by_tested (calls.WaitVar v o st) refl z
  has_slept call w z = absurd (cc)

-- in a table with its history, where its entry stands and its state is not RUNNING, it sleeps
module _ (s : Table) (told : IsLookTold s) (kept : Kept s) (none : NoWakeIsLost s) (call : Call) (t : ℕ) (new : Known)
    (k : HasSlept call t new) (history : s.history t ≡ history_of new) (down : (s.task t).state ≢ 0) (e : Entry)
    (stands : s.entry (index t 0) ≡ Some e) where
  abbrev mine : ℕ
  mine = index t 0

  abbrev watched : Watch
  watched = call_watch call

  own_is : owner mine ≡ t
  own_is = own_index t 0 (omega arith)

  view_is : s.view (owner mine) ≡ told_of new
  view_is = ap (λ (i : ℕ). s.view i) own_is ∙ (told t ∙ ap view_of history)

  own : IsOwnEntry watched k.kind e
  own = k.own e (ap (λ (v : View). v.bits.stored mine) (sym view_is) ∙ kept.bits.stored_is mine e stands)

  sleeps : Sleeps s mine e watched
  sleeps = record {
    queued = stands;
    watches = rw own.watch (same_bare watched);
    down = subst (λ (i : ℕ). (s.task i).state ≢ 0) (sym own_is) down;
    failed = subst (λ (i : ℕ). FailsWith e.kind (s.history i) mine watched) (sym own_is)
        (subst (λ (es : List Step). FailsWith e.kind es mine watched) (sym history)
        (subst (λ (d : Kind). FailsWith d (history_of new) mine watched) (sym own.kind) k.failed));
  }

  pub safe : SleepsSafely s mine e watched
  safe = record { sleeps = sleeps; woken = none mine e watched sleeps }

pub kept_by : (call : Call) (old new : Known) → HasSlept call old.view.number new → IsKept call old new
kept_by call old new k = record {
  rule = λ s items ruled list down e stands. safe s ruled.whole.told ruled.whole.kept
      (no_wake_is_lost s ruled.whole.told ruled.whole.kept.no_lost_wake) call old.view.number new k
      (ruled.histories old.view.number ∙ ap steps_of list)
      (λ low. let t : (s.task old.view.number).runnable ≡ true = (ruled.lawful.tasks old.view.number).runnable low
      in cc)
      e stands;
  steps = λ xs may history down e stands. safe (table_of xs) (views_of xs) (kept_of xs may)
      (no_wake_is_lost (table_of xs) (views_of xs) (kept_of xs may).no_lost_wake) call old.view.number new k history
      down e stands;
}

pub sleepers_are_kept : SleepersAreKept
sleepers_are_kept call wait old new z = kept_by call old new (has_slept old new call wait z)

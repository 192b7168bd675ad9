-- Whoever stretches of a wait have put asleep has slept in its call.
use Rattle.std.proofs.Common.{refl, sym, ◌∙◌, subst}
use Rattle.std.specs.Prelude.{ℕ, ◌≡◌, Bool, true, false, None, Some}
use Rattle.wait_model.specs.{declared.calls.Call.Call, declared.points.Point.Point, declared.tasks.How.How}
use Rattle.wait_model.specs.{declared.watches.Kind.Kind, declared.watches.Watch.Watch, Calls.call_watch}
use Rattle.wait_model.specs.{Points.is_bit_wait, Views.View, Watches.kind_for, Watches.page}
use Rattle.wait_model.specs.declared.points.AwaitPoint.TheVariants as awaiting
use Rattle.wait_model.specs.declared.points.Next.TheVariants as next
use Rattle.wait_model.specs.declared.points.PagePoint.TheVariants as paging
use Rattle.wait_model.specs.declared.points.Point.TheVariants as at
use Rattle.wait_model.specs.declared.points.PreparePoint.TheVariants as preparing
use Rattle.wait_model.specs.declared.watches.Kind.TheVariants as kind
use Rattle.wait_model.specs.declared.watches.Watch.TheVariants as watch
use Rattle.wait_rule.specs.{Known.Known, Queues.index, Says.told_of, Transitions.Program, Transitions.call_program}
use Rattle.wait_class.specs.{declared.stages.Run.Run, Laws.IsLawfulCallTable, Posts.IsOut, Posts.Runs}
use Rattle.wait_class.specs.Tables.{CallTable, next_in, plan_program}
use Rattle.wait_class.specs.declared.stages.Turn.TheVariants as turn
use Rattle.wait_class.proofs.Turns.{advances_on}
use Rattle.wait_event.specs.{declared.waits.WaitCall.WaitCall, declared.waits.WaitStage.WaitStage, WaitPlans.call_for}
use Rattle.wait_event.specs.Waits.{is_slept, wait_point_at, wait_table}
use Rattle.wait_event.specs.declared.waits.WaitStage.TheVariants as wait_stage
use Rattle.wait_event.proofs.Plans.{runs_program}
use Rattle.completion_cell.specs.{declared.awaits.AwaitCall.AwaitCall, declared.awaits.AwaitStage.AwaitStage}
use Rattle.completion_cell.specs.Awaits.{await_call, await_table, is_await_slept, await_point_at}
use Rattle.completion_cell.specs.declared.awaits.AwaitStage.TheVariants as await_stage
use Rattle.bit_wait.specs.BitTables.{bit_table, wait_bit_call as bit_call}
use Rattle.bit_wait.specs.LockTables.{lock_bit_call as lock_call, lock_table}
use Rattle.page_lock.specs.{declared.waits.LockPage.LockPage, declared.waits.PageStage.PageStage}
use Rattle.page_lock.specs.PageTables.{is_behind_sleep, page_call, page_table, page_point_at}
use Rattle.page_lock.specs.declared.waits.PageStage.TheVariants as page_stage
use Rattle.waiter_laws.specs.Stretches.{AwaitersAreKept, BitLockersAreKept, BitWaitersAreKept, PageWaitersAreKept}
use Rattle.waiter_laws.specs.Stretches.{SleepIsLastOfAll, StretchesAreOne, WaitersAreKept, WasPutAsleep}
use Rattle.waiter_laws.proofs.{BitSleeps.bit_stays, BitSleeps.is_biting, LastSleeps.ends_asleep, LastSleeps.last_behind}
use Rattle.waiter_laws.proofs.{AwaitedCounts.AwaitedAt, AwaitedCounts.awaited_led, TriedPages.TriedAt}
use Rattle.waiter_laws.proofs.TriedPages.{tried_led}
use Rattle.waiter_laws.proofs.PointRuns.{Here, IsLed, all}
use Rattle.waiter_laws.proofs.Sleepers.{HasSlept, kept_by, sleepers_are_kept, slept_by_count, slept_by_load}
use Rattle.waiter_laws.proofs.Sleepers.{slept_by_try}
use Rattle.waiter_laws.proofs.TestedWaits.{TestedAt, is_tested, tested_led}

pub stretches_are_one : {C S O : Type 0} (t : CallTable C S O) → IsLawfulCallTable t → StretchesAreOne t
stretches_are_one t lawful old mid new r q w s n u one two =
    advances_on t lawful old mid new r q w s n u one.same one.went two

-- a run of a call from its first point
module _ (f : Program) (At : Point → Bool → View → Type 0) (c : Watch) (d : Kind) (old new : Known) (p q : Point) where
  pub comes : (led : IsLed f At c d (index old.view.number 0)) → IsOut old → At p old.book.awake (told_of old)
      → Runs f old new (next.Go p) (next.Go q) → Here f At c d (index old.view.number 0) led (next.Go q) new
  comes led out start x = all f At c d (index old.view.number 0) led x.transitions (next.Go p) (next.Go q) old new
      x.goes (start, λ e is. absurd (let n : None ≡ Some e = sym out ∙ is in cc))

-- a wait for a plain condition or a variable
tested_for : (w : Watch) (how : How) → is_tested (call_for w how) ≡ true
tested_for (watch.Var v old) how = refl
tested_for (watch.Plain c) how = refl
tested_for w how = refl

plain_for : (w : Watch) (how : How) → is_bit_wait (call_for w how) ≡ false
plain_for (watch.Var v old) how = refl
plain_for (watch.Plain c) how = refl
plain_for w how = refl

slept_place : (s : WaitStage) → is_slept s ≡ true → wait_point_at s ≡ at.Prepare preparing.Lock
slept_place wait_stage.PrepareLock is = refl
slept_place s is = absurd (cc)

module _ (old new : Known) (r q : Run WaitCall)
    (z : WasPutAsleep wait_table wait_stage.First old new r q) where
  abbrev who : ℕ
  who = old.view.number

  abbrev call : Call
  call = call_for r.of.watch r.of.how

  tests : is_tested call ≡ true
  tests = tested_for r.of.watch r.of.how

  runs : Runs (call_program who 0 call) old new (next.Go at.First) (next.Go (at.Prepare preparing.Lock))
  runs = subst (λ (p : Point). Runs (call_program who 0 call) old new (next.Go at.First) (next.Go p))
      (slept_place z.place z.advances.lands.place)
      (runs_program r.of who old new (next.Go at.First) (next.Go (wait_point_at z.place)) z.began.fits
      z.advances.went.runs)

  here : Here (call_program who 0 call) (TestedAt (is_bit_wait call) (index who 0) (call_watch call)) (call_watch call)
      (kind_for (call_watch call)) (index who 0) (tested_led who call tests) (next.Go (at.Prepare preparing.Lock)) new
  here = comes (call_program who 0 call) (TestedAt (is_bit_wait call) (index who 0) (call_watch call))
      (call_watch call) (kind_for (call_watch call)) old new at.First (at.Prepare preparing.Lock)
      (tested_led who call tests) z.out z.began.up runs

  waiter_slept : HasSlept call who new
  waiter_slept = slept_by_load call who new tests here.1
      (here.0 (plain_for r.of.watch r.of.how) z.advances.lands.down)

pub waiters_are_kept : WaitersAreKept
waiters_are_kept old new r q z = kept_by (call_for r.of.watch r.of.how) old new (waiter_slept old new r q z)

-- a wait for a completion
await_place : (s : AwaitStage) → is_await_slept s ≡ true → await_point_at s ≡ at.Await (awaiting.Lock true)
await_place await_stage.Again is = refl
await_place s is = absurd (cc)

module _ (old new : Known) (r q : Run AwaitCall) (z : WasPutAsleep await_table await_stage.First old new r q) where
  abbrev waits_in : Program
  waits_in = call_program old.view.number 0 (await_call r.of)

  await_runs : Runs waits_in old new (next.Go (at.Await (awaiting.Lock false))) (next.Go (at.Await
      (awaiting.Lock true)))
  await_runs = subst (λ (p : Point). Runs waits_in old new (next.Go (at.Await (awaiting.Lock false))) (next.Go p))
      (await_place z.place z.advances.lands.place) z.advances.went.runs

  await_here : Here waits_in (λ p b v. AwaitedAt (index old.view.number 0) (watch.Done r.of.cell) p v)
      (watch.Done r.of.cell) kind.Simple (index old.view.number 0) (awaited_led old.view.number r.of.cell r.of.state)
      (next.Go (at.Await (awaiting.Lock true))) new
  await_here = comes waits_in (λ p b v. AwaitedAt (index old.view.number 0) (watch.Done r.of.cell) p v)
      (watch.Done r.of.cell) kind.Simple old new (at.Await (awaiting.Lock false)) (at.Await (awaiting.Lock true))
      (awaited_led old.view.number r.of.cell r.of.state) z.out tt await_runs

pub awaiters_are_kept : AwaitersAreKept
awaiters_are_kept old new r q z = kept_by (await_call r.of) old new
    (slept_by_count r.of.cell r.of.state old.view.number new (await_here old new r q z).1 (await_here old new r q z).0)

-- a wait for a page
page_place : (s : PageStage) → is_behind_sleep s ≡ true → page_point_at s ≡ at.Page paging.State
page_place page_stage.State is = refl
page_place s is = absurd (cc)

module _ (old new : Known) (r q : Run LockPage) (z : WasPutAsleep page_table page_stage.First old new r q) where
  abbrev locks_by : Program
  locks_by = call_program old.view.number 0 (page_call r.of)

  page_runs : Runs locks_by old new (next.Go (at.Page paging.First)) (next.Go (at.Page paging.State))
  page_runs = subst (λ (p : Point). Runs locks_by old new (next.Go (at.Page paging.First)) (next.Go p))
      (page_place z.place z.advances.lands.place) z.advances.went.runs

  page_here : Here locks_by (λ p b v. TriedAt (index old.view.number 0) (page r.of.page) p v) (page r.of.page) kind.Page
      (index old.view.number 0) (tried_led old.view.number r.of.page r.of.state) (next.Go (at.Page paging.State)) new
  page_here = comes locks_by (λ p b v. TriedAt (index old.view.number 0) (page r.of.page) p v) (page r.of.page)
      kind.Page old new (at.Page paging.First) (at.Page paging.State)
      (tried_led old.view.number r.of.page r.of.state) z.out tt page_runs

pub page_waiters_are_kept : PageWaitersAreKept
page_waiters_are_kept old new r q z = kept_by (page_call r.of) old new
    (slept_by_try r.of.page r.of.state old.view.number new (page_here old new r q z).1 (page_here old new r q z).0)

-- a wait until a bit is clear, and one to take it
pub bit_waiters_are_kept : BitWaitersAreKept
bit_waiters_are_kept old new r q z last = sleepers_are_kept (bit_call r.of.wait) refl old new
    (ends_asleep (bit_call r.of.wait) is_biting old new (bit_stays old.view.number (bit_call r.of.wait) refl) refl
    z.began.up z.out (next_in bit_table (turn.Asleep z.place)) z.advances.went.runs last)

pub bit_lockers_are_kept : BitLockersAreKept
bit_lockers_are_kept old new r q z last = sleepers_are_kept (lock_call r.of.wait) refl old new
    (ends_asleep (lock_call r.of.wait) is_biting old new (bit_stays old.view.number (lock_call r.of.wait) refl) refl
    z.began.up z.out (next_in lock_table (turn.Asleep z.place)) z.advances.went.runs last)

pub sleep_is_last_of_all : {C S O : Type 0} (t : CallTable C S O) → SleepIsLastOfAll t
sleep_is_last_of_all t old mid new r q s n a last = last_behind (plan_program old.view.number 0 (t.plan_of r.of)) old
    mid new (next.Go (t.point_of s)) (next.Go (t.point_of n)) a.went.runs last

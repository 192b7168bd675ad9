-- A wait for a page that its task leaves.
use Rattle.std.proofs.Common.{◌∙◌, ap, refl, subst, inl, inr}
use Rattle.std.specs.Prelude.{ℕ, ◌≡◌, Bool, true, false, is_some, MatchBool, None, Result, [], ◌∷◌}
use Rattle.wait_model.specs.declared.points.FinishPoint.TheVariants as finishing
use Rattle.wait_model.specs.declared.points.PagePoint.TheVariants as paging
use Rattle.wait_model.specs.{declared.points.Point.Point, declared.points.Seen.Seen}
use Rattle.wait_model.specs.{declared.tasks.SleepState.SleepState, declared.watches.Watch.Watch, Watches.page}
use Rattle.wait_model.specs.declared.points.Point.TheVariants as at
use Rattle.wait_model.specs.declared.steps.Step.TheVariants as step
use Rattle.wait_model.specs.declared.watches.Watch.TheVariants as watch
use Rattle.wait_rule.specs.{Known.Known, Queues.IsIdle}
use Rattle.wait_rule.specs.Says.{AsksNoPage, IsClean, IsUp, told_of}
use Rattle.wait_class.specs.{Posts.IsOut, Posts.own_of, declared.stages.Run.Run, Laws.Calm, Laws.TurnTrail}
use Rattle.wait_class.specs.{Tables.IsEnded, Tables.Plan}
use Rattle.wait_class.specs.declared.stages.Doing.TheVariants as doing
use Rattle.wait_class.specs.declared.stages.Turn.TheVariants as turn
use Rattle.wait_class.proofs.Histories.{unmoved_by}
use Rattle.wait_leave.specs.{declared.exits.Until.Until, ExitLaws.AreLawfulExits, ExitLaws.AwakeOn, Leaves.with_asked}
use Rattle.wait_leave.specs.{OnTheWay.IsOnWay, OnTheWay.OnTheWay}
use Rattle.wait_leave.proofs.ExitForms.{AskLaw, LawAt, awake_exits, either_awake, if_asked, lawful_exits, out_at_once}
use Rattle.wait_leave.proofs.ExitForms.{stays_out}
use Rattle.wait_leave.proofs.Ways.{awake_since, way_asked, way_keeps, way_lands, way_plan}
use Rattle.bit_wait.specs.{Holders.IsHolder, declared.wait_calls.BitEnd.BitEnd}
use Rattle.page_lock.specs.{PageStays.PageKeeps, PageStays.TakesPage, declared.waits.LockPage.LockPage}
use Rattle.page_lock.specs.{declared.waits.PageOutcome.PageOutcome, declared.waits.PageStage.PageStage}
use Rattle.page_lock.specs.PageLeaves.{EndsPageUntil, IsLeftFor, IsPageUntil, LeavesPage, page_awake, page_exit}
use Rattle.page_lock.specs.PageLeaves.{page_exits, page_failed, page_until, takes_page_until}
use Rattle.page_lock.specs.PageTables.{IsFreshPageWait, IsWaitingForPage, PageCauseIn, PageWaitTrail, WhyPageFailed}
use Rattle.page_lock.specs.PageTables.{is_page_over, page_in, page_table, page_took}
use Rattle.page_lock.specs.declared.waits.PageOutcome.TheVariants as outcome
use Rattle.page_lock.specs.declared.waits.PageStage.TheVariants as stage
use Rattle.page_lock.proofs.{PageGround.unasked_asks, PageLaws.page_lawful, PageTrails.still_by}
use Rattle.page_lock.proofs.PageEndings.{idle_by, locks_clean, out_by, takes_by}

-- who waits waits on, asked or not
waits_asked : (k : Known) (r : LockPage) → IsWaitingForPage k r → IsWaitingForPage k (page_exits.asks r)
waits_asked k r w = record {
  asks = w.asks;
  quiet = w.quiet;
  found = record {
    before = w.found.before;
    entry = w.found.entry;
    more = w.found.more;
    ends = w.found.ends;
    set = w.found.set;
    calm = w.found.calm;
  };
}

-- the exits: out by the finish, or over at once, with no entry
asks_law : AskLaw page_table page_exits
asks_law = record { same = λ r. refl; fits = λ r f. f }

finishes : (r : LockPage) (s : PageStage) → ((k : Known) → PageWaitTrail k r s → IsWaitingForPage k r)
    → (old new : Known) → Calm [] old new → PageWaitTrail old r s
    → TurnTrail page_table new (page_exits.asks r) (turn.Again stage.FinishState)
finishes r s waits old new calm u =
    (waits_asked new r (waits new (still_by old new r (unmoved_by old new calm) s u)), tt)

exit_law : (r : LockPage) (s : PageStage) → LawAt page_table page_exits r s
exit_law r stage.Unflag = out_at_once asks_law refl tt (λ σ s. s) (λ o h. h) (λ old new calm w.
    let u = still_by old new r (unmoved_by old new calm) stage.Unflag w in record {
      cause = inl (record { more = []; tried = u.1.tried; clears = inl refl; set = u.1.set });
      keeps = λ no. absurd (cc);
      asks = u.0;
    })
exit_law r stage.QueueLock = out_at_once asks_law refl tt (λ σ s. s) (λ o h. h) (λ old new calm w.
    let u = still_by old new r (unmoved_by old new calm) stage.QueueLock w in record {
      cause = inl (record {
        more = step.Unflag (own_of new) None ∷ [];
        tried = u.1.tried;
        clears = inr refl;
        set = u.1.set;
      });
      keeps = λ no. absurd (cc);
      asks = u.0.0;
    })
exit_law r stage.State = out_at_once asks_law refl refl (λ σ s. inl s) (λ o h. h) (finishes r stage.State (λ k u. u))
exit_law r stage.Flag = out_at_once asks_law refl refl (λ σ s. s) (λ o h. h) (finishes r stage.Flag (λ k u. u))
exit_law r stage.Look = out_at_once asks_law refl refl (λ σ s. s) (λ o h. h) (finishes r stage.Look (λ k u. u))
exit_law r stage.Sleep = out_at_once asks_law refl refl (λ σ s. s) (λ o h. h) (finishes r stage.Sleep (λ k u. u))
exit_law r s = tt

-- each leads to the finish, or ends the wait
exits_awake : (r : LockPage) (s : PageStage) → stays_out page_table page_exits (page_exit s) ≡ true
exits_awake r stage.Unflag = refl
exits_awake r s = refl

-- the program sleeps no more from there on
awake_on : (r : LockPage) (me : ℕ) (p : Point) (seen : Seen) → page_awake p ≡ true
    → AwakeOn page_awake ((page_table.plan_of r).makes me p seen)
awake_on r me (at.Page (paging.Finish finishing.State)) seen is = (refl, refl)
awake_on r me (at.Page (paging.Finish finishing.Look)) seen is =
    either_awake page_awake (is_some seen.entry) _ _ (refl, refl) (refl, refl)
awake_on r me (at.Page (paging.Finish finishing.Lock)) seen is = (refl, refl)
awake_on r me (at.Page (paging.Finish finishing.Queue)) seen is =
    either_awake page_awake (is_some seen.entry) _ _ (refl, refl) (refl, refl)
awake_on r me (at.Page (paging.Finish finishing.Unlock)) seen is = (refl, refl)
awake_on r me (at.Page paging.Last) seen is = either_awake page_awake seen.flag _ _ (refl, refl) (refl, refl)
awake_on r me (at.Page paging.Clear) seen is = (refl, refl)
awake_on r me p seen is = absurd (cc)

sleeps_out : (r : LockPage) (s : PageStage) → page_table.doing s ≡ doing.Sleep → page_exit s ≡ None → ⊥
sleeps_out r stage.Sleep here none = absurd (cc)
sleeps_out r s here none = absurd (cc)

pub page_may_leave : AreLawfulExits page_table page_exits
page_may_leave = lawful_exits page_table page_exits exit_law sleeps_out awake_on

-- the answer and its cause
caused : (k : Known) (e : LockPage) (b : Bool) → WhyPageFailed b k e → IsPageUntil k e.page e.state (page_failed b e)
caused k e true x = x
caused k e false x = x

cause_of : (k : Known) (e : LockPage) (o : PageOutcome) → PageCauseIn k e o
    → IsPageUntil k e.page e.state (page_until e o)
cause_of k e outcome.Over x = tt
cause_of k e outcome.Interrupted x = caused k e e.asked x
cause_of k e outcome.Worn x = x

abbrev CauseFor : Known → Plan → Until (Result (Unit {0}) BitEnd) → Type 0
CauseFor k p x = CauseAt p.watch
  where
    CauseAt : Watch → Type 0
    CauseAt (watch.Bit w b) = IsPageUntil k w p.state x
    CauseAt _ = ⊥

failed_taken : (b : Bool) (e : LockPage) → false ≡ takes_page_until (page_failed b e)
failed_taken true e = refl
failed_taken false e = refl

until_taken : (e : LockPage) (o : PageOutcome) → is_page_over o ≡ takes_page_until (page_until e o)
until_taken e outcome.Over = refl
until_taken e outcome.Interrupted = failed_taken e.asked e
until_taken e outcome.Worn = refl

left_for : (A : Type 0) (e : LockPage) (o : PageOutcome) → (e.asked ≡ true → A) → IsLeftFor A (page_until e o)
left_for A e outcome.Over asked = tt
left_for A e outcome.Interrupted asked = if_asked (λ b. IsLeftFor A (page_failed b e)) e.asked asked tt
left_for A e outcome.Worn asked = tt

module _ (A : Type 0) (old new : Known) (r q : Run LockPage) (s : PageStage) (o : PageOutcome)
    (w : OnTheWay A page_table page_exits old r s new q (turn.Done o)) where
  lands : IsEnded page_table new q o
  lands = way_lands A page_table page_exits page_may_leave page_lawful old r s new q (turn.Done o) w

  kept : PageKeeps (own_of old) (page_in r.of) (page_took s) (is_page_over o) old new
  kept = way_keeps A page_table page_exits page_may_leave page_lawful old r s new q (turn.Done o) w

  same_plan : with_asked false (page_table.plan_of q.of) ≡ with_asked false (page_table.plan_of r.of)
  same_plan = way_plan A page_table page_exits page_may_leave page_lawful old r s new q (turn.Done o) w

  same_page : page_in q.of ≡ page_in r.of
  same_page = ap (λ (p : Plan). p.watch) same_plan

  pub left_up : IsUp new
  left_up = lands.up

  pub left_asks : AsksNoPage new
  left_asks = unasked_asks new lands.trail.asks

  pub left_out : IsOut new
  left_out = out_by old new r q s o same_page lands kept

  pub left_idle : (told_of old).mark ≡ None → IsIdle new
  left_idle = idle_by old new r q s o same_page lands kept

  pub left_kept : PageKeeps (own_of old) (page_in r.of) (page_took s) (takes_page_until (page_until q.of o)) old new
  left_kept = subst (λ (g : Bool). PageKeeps (own_of old) (page_in r.of) (page_took s) g old new) (until_taken q.of o)
      kept

  pub left_takes : page_took s ≡ false → (p : ℕ) → page_in r.of ≡ page p → IsUp old → IsIdle old → IsOut old
      → (told_of old).hold.head ≡ None → TakesPage old new p (takes_page_until (page_until q.of o))
  left_takes nothing p begun = takes_by old new r q s o same_page lands kept nothing p begun
      (takes_page_until (page_until q.of o)) (until_taken q.of o)

  pub leaves_page : LeavesPage A old new r s (page_until q.of o)
  leaves_page = record {
    at = q;
    outcome = o;
    came = w;
    awake = awake_since page_table page_exits (awake_exits page_table page_exits exits_awake) old r s new q
        (turn.Done o) w;
    answer = refl;
    cause = subst (λ (p : Plan). CauseFor new p (page_until q.of o)) same_plan (cause_of new q.of o lands.trail.cause);
  }

  pub left_asked : r.of.asked ≡ false → IsLeftFor A (page_until q.of o)
  left_asked unasked = left_for A q.of o
      (way_asked A page_table page_exits page_may_leave page_lawful old r s new q (turn.Done o) w unasked)

-- a whole call
pub ends_until : (A : Type 0) (old new : Known) (r q : Run LockPage) (p : ℕ) (st : SleepState) → IsFreshPageWait r.of p st
    → (o : PageOutcome) → OnTheWay A page_table page_exits old r stage.First new q (turn.Done o)
    → EndsPageUntil A old new p st (page_until q.of o)
ends_until A old new r q p st fresh o w = record {
  first = r;
  fresh = fresh;
  leaves = leaves_page A old new r q stage.First o w;
  asked = left_asked A old new r q stage.First o w fresh.unasked;
}

-- of a call that went on by stretches, and whose task owed nothing
pub way_clean : (A : Type 0) (c : Plan) (k : Known) (q : Run LockPage) (o : PageOutcome)
    → IsOnWay A page_table page_exits c k q (turn.Done o)
    → MatchBool (takes_page_until (page_until q.of o)) (IsHolder k c.watch) (IsClean k)
way_clean A c k q o i =
    let r = i.began in
    let p = r.of.page in
    let g = takes_page_until (page_until q.of o) in
    let was : IsIdle i.old = record {
      running = i.clean.running;
      free = i.clean.free;
      unmarked = i.clean.settled.unmarked;
    } in
    let out : IsOut i.old = i.clean.settled.unqueued (own_of i.old) in
    subst (λ (v : Watch). MatchBool g (IsHolder k v) (IsClean k)) (ap (λ (x : Plan). x.watch) i.plan)
    (locks_clean i.old k p i.clean (left_up A i.old k r q i.start o i.came)
    (left_idle A i.old k r q i.start o i.came was.unmarked) g
    (left_takes A i.old k r q i.start o i.came i.nothing p refl i.clean.up was out (i.told.head ∙ i.clean.free.head)))

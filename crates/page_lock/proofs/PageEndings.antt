-- Whole waits for a page: how they begin, and what they say at their end.
use Rattle.std.proofs.Common.{◌∙◌, ap, sym, refl, subst, inl, inr}
use Rattle.std.proofs.lemmas.Bool.Decides.{eqb_tells}
use Rattle.std.specs.Prelude.{ℕ, ◌≡◌, ◌≢◌, ◌<◌, ◌⊎◌, ◌==◌, Bool, true, false, MatchBool, None, Result, Some}
use Rattle.wait_model.specs.{declared.layout.TheConstants.SLOTS, declared.tasks.SleepState.SleepState}
use Rattle.wait_model.specs.{declared.watches.Entry.Entry, declared.watches.Watch.Watch, Watches.page}
use Rattle.wait_model.specs.declared.calls.Call.TheVariants as calls
use Rattle.wait_model.specs.declared.watches.Watch.TheVariants as watch
use Rattle.wait_rule.specs.{Asked.nothing_asked, Bits.StaysBeside, Bits.taken_bits, Known.Known, Members.IsOwnKind}
use Rattle.wait_rule.specs.Queues.{IsIdle, IsTold, index}
use Rattle.wait_rule.specs.Says.{AsksNoPage, IsClean, IsUp, asks_for, no_excuse, told_of}
use Rattle.wait_rule.proofs.KnownLaws.AskedPages.{asks_no_page}
use Rattle.wait_class.specs.{Posts.IsOut, Posts.own_of, declared.stages.Run.Run, UnderWay.IsUnderWay}
use Rattle.wait_class.specs.Tables.{Advances, IsAt, IsEnded, Plan, call_plan}
use Rattle.wait_class.specs.declared.stages.Turn.TheVariants as turn
use Rattle.wait_class.proofs.Wholes.{begins, ended_runs, none_of}
use Rattle.bit_wait.specs.{BitEnds.answer_of_bit_end, Holders.IsHolder, declared.wait_calls.BitEnd.BitEnd}
use Rattle.bit_wait.proofs.Holders.{none_taken}
use Rattle.page_lock.specs.{PageStays.PageKeeps, PageStays.TakesPage, declared.waits.LockPage.LockPage}
use Rattle.page_lock.specs.{declared.waits.PageOutcome.PageOutcome, declared.waits.PageStage.PageStage}
use Rattle.page_lock.specs.PageEnds.{EndsPageLock, IsPageCause, page_end_in, has_taken_page as given}
use Rattle.page_lock.specs.PageTables.{IsFreshPageWait, IsRunningPageWait, PageCauseIn, WhyPageFailed, answer_to_page}
use Rattle.page_lock.specs.PageTables.{is_page_over, page_in, page_table, page_took}
use Rattle.wait_leave.specs.Leaves.{with_asked}
use Rattle.page_lock.specs.declared.waits.PageOutcome.TheVariants as outcome
use Rattle.page_lock.specs.declared.waits.PageStage.TheVariants as stage
use Rattle.page_lock.proofs.PageGround.{amid_from, amid_to, unasked_asks}

-- a task that is idle, with its entry off, and that asks for no page, may begin
pub begins_at : (k : Known) (r : Run LockPage) → IsRunningPageWait r.of → IsTold k → IsUp k → IsIdle k → IsOut k → AsksNoPage k
    → IsAt page_table k r stage.First
begins_at k r runs told up idle out asks = begins page_table k r stage.First runs refl refl refl refl
    (asks_no_page k asks) told up idle out

-- by the parts that a whole call leaves, whatever it answers
module _ (old new : Known) (p : ℕ) (g : Bool) (k : PageKeeps (own_of old) (page p) false g old new) (up : IsUp old)
    (idle : IsIdle old) (out : IsOut old) (held : (told_of old).hold.head ≡ None) (up_new : IsUp new)
    (idle_new : IsIdle new) (held_new : (told_of new).hold.head ≡ None)
    (out_new : (told_of new).bits.stored (own_of old) ≡ None) (none : asks_for new ≡ nothing_asked)
    (kept : g ≡ true → (told_of new).bits.keeps (page p) ≡ true) where
  abbrev i : ℕ
  i = own_of old

  none_stored : (y : ℕ) → (told_of old).bits.stored y ≡ None → (told_of new).bits.stored y ≡ None
  none_stored y is = by (eqb_tells y i)
    where
      by : (((y == i) ≡ true) × (y ≡ i)) ⊎ (((y == i) ≡ false) × (y ≢ i)) → (told_of new).bits.stored y ≡ None
      by (inl q) = ap (told_of new).bits.stored q.1 ∙ out_new
      by (inr q) = k.out y q.0 is

  stands_on : (slot : ℕ) → slot < SLOTS → (e : Entry)
      → (told_of old).bits.stored (index old.view.number slot) ≡ Some e → IsOwnKind e.kind
      → (told_of new).bits.stored (index old.view.number slot) ≡ Some e
  stands_on slot few e is own = by (eqb_tells (index old.view.number slot) i)
    where
      by : (((index old.view.number slot == i) ≡ true) × (index old.view.number slot ≡ i))
          ⊎ (((index old.view.number slot == i) ≡ false) × (index old.view.number slot ≢ i))
          → (told_of new).bits.stored (index old.view.number slot) ≡ Some e
      by (inl q) = absurd (let no : None ≡ Some e = sym (ap (told_of old).bits.stored q.1 ∙ out) ∙ is in cc)
      by (inr q) = k.stands slot few q.0 e is own

  stays : StaysBeside (taken_bits (page p) g) old new
  stays = record {
    domain = k.domain;
    number = k.number;
    awake = up_new ∙ sym up;
    state = idle_new.running ∙ sym idle.running;
    head = idle_new.free.head ∙ sym idle.free.head;
    ticket = idle_new.free.ticket ∙ sym idle.free.ticket;
    hold = held_new ∙ sym held;
    mark = k.mark;
    out = none_stored;
    stands = stands_on;
    keeps = k.keeps;
  }

  pub takes_page : TakesPage old new p g
  takes_page = record {
    stays = stays;
    keeps = kept;
    asks = unasked_asks new none;
    fewer = k.fewer;
    owes = λ x o. amid_to i (page p) g x new out_new none (k.owes x (amid_from i (page p) x old o));
  }

-- the cause of an answer, by the call
abbrev CauseOf : Known → Watch → SleepState → Result (Unit {0}) BitEnd → Type 0
CauseOf k (watch.Bit p b) st x = IsPageCause k p st x
CauseOf k _ st x = ⊥

answer_is : (e : LockPage) (o : PageOutcome) → answer_to_page o ≡ answer_of_bit_end (page_end_in e o)
answer_is e outcome.Over = refl
answer_is e outcome.Interrupted = refl
answer_is e outcome.Worn = refl

pub taken_is : (e : LockPage) (o : PageOutcome) → is_page_over o ≡ given (page_end_in e o)
taken_is e outcome.Over = refl
taken_is e outcome.Interrupted = refl
taken_is e outcome.Worn = refl

-- a wait that was not asked to leave
cause_is : (k : Known) (e : LockPage) (o : PageOutcome) → e.asked ≡ false → PageCauseIn k e o
    → IsPageCause k e.page e.state (page_end_in e o)
cause_is k e outcome.Over none x = tt
cause_is k e outcome.Interrupted none x = subst (λ (b : Bool). WhyPageFailed b k e) none x
cause_is k e outcome.Worn none x = x

-- A call that ended; it was asked to leave on its way or not.
module _ (old new : Known) (r q : Run LockPage) (s : PageStage) (o : PageOutcome)
    (same : page_in q.of ≡ page_in r.of) (ended : IsEnded page_table new q o)
    (keeps : PageKeeps (own_of old) (page_in r.of) (page_took s) (is_page_over o) old new) where
  pub out_by : IsOut new
  out_by = none_of (page_in q.of) ((told_of new).bits.stored (own_of new)) ended.stands.home

  -- it is idle again
  pub idle_by : (told_of old).mark ≡ None → IsIdle new
  idle_by unmarked = record {
    running = ended.stands.state;
    free = record { head = ended.stands.head; ticket = ended.stands.ticket };
    unmarked = keeps.mark ∙ unmarked;
  }

  -- and keeps the page or not that had not taken it
  pub takes_by : page_took s ≡ false → (p : ℕ) → page_in r.of ≡ page p → (g : Bool) → is_page_over o ≡ g → IsUp old → IsIdle old → IsOut old
      → (told_of old).hold.head ≡ None → TakesPage old new p g
  takes_by nothing p begun g is up idle out held = takes_page old new p g
      (subst (λ (h : Bool). PageKeeps (own_of old) (page p) false h old new) is
      (subst (λ (c : Watch). PageKeeps (own_of old) c false (is_page_over o) old new) begun
      (subst (λ (had : Bool). PageKeeps (own_of old) (page_in r.of) had (is_page_over o) old new) nothing keeps)))
      up idle out held ended.up (idle_by idle.unmarked) ended.stands.told
      (ap (λ (n : ℕ). (told_of new).bits.stored (index n 0)) (sym keeps.number) ∙ out_by) ended.trail.asks
      (λ yes. ap (told_of new).bits.keeps (sym (same ∙ begun)) ∙ ended.trail.keeps (is ∙ yes))

pub page_is : (r : LockPage) (p : ℕ) → r.page ≡ p → page_in r ≡ page p
page_is r p is = ap page is

-- from its first stage
module _ (old new : Known) (r q : Run LockPage) (p : ℕ) (st : SleepState) (fresh : IsFreshPageWait r.of p st) (o : PageOutcome)
    (a : Advances page_table old new r q stage.First (turn.Done o)) where
  same_page : page_in q.of ≡ page_in r.of
  same_page = ap (λ (x : Plan). x.watch) a.same

  pub ends_up : IsUp new
  ends_up = a.lands.up

  pub ends_out : IsOut new
  ends_out = out_by old new r q stage.First o same_page a.lands a.went.keeps

  pub ends_idle : (told_of old).mark ≡ None → IsIdle new
  ends_idle = idle_by old new r q stage.First o same_page a.lands a.went.keeps

  pub ends_takes : IsUp old → IsIdle old → IsOut old → (told_of old).hold.head ≡ None
      → TakesPage old new p (given (page_end_in q.of o))
  ends_takes = takes_by old new r q stage.First o same_page a.lands a.went.keeps refl p (page_is r.of p fresh.page)
      (given (page_end_in q.of o)) (taken_is q.of o)

  began : page_table.plan_of r.of ≡ call_plan (calls.LockPage p st)
  began i = with_asked (fresh.unasked i) (call_plan (calls.LockPage (fresh.page i) (fresh.state i)))

  -- what it says at its end
  pub ends_wait : EndsPageLock old new p st (page_end_in q.of o)
  ends_wait = record {
    runs = ended_runs page_table old new r q stage.First o a (call_plan (calls.LockPage p st)) began
        (answer_of_bit_end (page_end_in q.of o)) (answer_is q.of o);
    cause = subst (λ (x : Plan). CauseOf new x.watch x.state (page_end_in q.of o)) (a.same ∙ began)
        (cause_is new q.of o (ap (λ (x : Plan). x.asked) (a.same ∙ began)) a.lands.trail.cause);
  }

-- who owed nothing
pub locks_clean : (old new : Known) (p : ℕ) → IsClean old → IsUp new → IsIdle new → (g : Bool)
    → TakesPage old new p g → MatchBool g (IsHolder new (page p)) (IsClean new)
locks_clean old new p clean up idle true t = record {
  up = up;
  idle = idle;
  keeps = t.keeps refl;
  owes = t.owes no_excuse clean.settled;
}
locks_clean old new p clean up idle false t = record {
  up = up;
  running = idle.running;
  free = idle.free;
  settled = none_taken (page p) new (t.owes no_excuse clean.settled);
}

-- of a call that went on by stretches
pub under_clean : (c : Plan) (k : Known) (q : Run LockPage) (o : PageOutcome)
    → IsUnderWay page_table c k q (turn.Done o)
    → MatchBool (given (page_end_in q.of o)) (IsHolder k c.watch) (IsClean k)
under_clean c k q o i =
    let r = i.began in
    let p = r.of.page in
    let same = ap (λ (x : Plan). x.watch) i.came.same in
    let was : IsIdle i.old = record {
      running = i.clean.running;
      free = i.clean.free;
      unmarked = i.clean.settled.unmarked;
    } in
    let out : IsOut i.old = i.clean.settled.unqueued (own_of i.old) in
    subst (λ (w : Watch). MatchBool (given (page_end_in q.of o)) (IsHolder k w) (IsClean k))
    (ap (λ (x : Plan). x.watch) i.plan)
    (locks_clean i.old k p i.clean i.came.lands.up
    (idle_by i.old k r q i.start o same i.came.lands i.came.went.keeps was.unmarked) (given (page_end_in q.of o))
    (takes_by i.old k r q i.start o same i.came.lands i.came.went.keeps i.nothing p refl (given (page_end_in q.of o))
    (taken_is q.of o) i.clean.up was out (i.told.head ∙ i.clean.free.head)))

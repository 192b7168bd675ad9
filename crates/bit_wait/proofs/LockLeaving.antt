-- A wait to take a bit that its task leaves.
use Rattle.std.proofs.Common.{◌∙◌, ap, sym, refl, subst, inl}
use Rattle.std.specs.Prelude.{ℕ, ◌≡◌, Bool, true, false, None, Result, MatchBool}
use Rattle.wait_model.specs.declared.points.BitPoint.TheVariants as biting
use Rattle.wait_model.specs.{declared.points.Point.Point, declared.points.Seen.Seen}
use Rattle.wait_model.specs.{declared.tasks.SleepState.SleepState, declared.watches.Watch.Watch, Tasks.state_mask}
use Rattle.wait_model.specs.declared.points.Point.TheVariants as at
use Rattle.wait_model.specs.declared.steps.Step.TheVariants as step
use Rattle.wait_model.specs.declared.watches.Watch.TheVariants as watch
use Rattle.wait_rule.specs.{Known.Known, Queues.IsIdle, Queues.index}
use Rattle.wait_rule.specs.Says.{IsClean, IsUp, told_of}
use Rattle.wait_class.specs.{Posts.IsOut, declared.frame_stages.Framed.Framed, declared.frame_stages.Stage.Stage}
use Rattle.wait_class.specs.{declared.stages.Run.Run, Laws.IsLawfulCallTable, Wholes.HasRested}
use Rattle.wait_class.specs.Tables.{IsEnded, Plan, next_in}
use Rattle.wait_class.specs.declared.stages.Doing.TheVariants as doing
use Rattle.wait_class.specs.declared.frame_stages.Stage.TheVariants as stage
use Rattle.wait_class.specs.declared.stages.Turn.TheVariants as turn
use Rattle.wait_class.proofs.{Framing.framed_lawful, Ground.Standing.home_waits}
use Rattle.wait_class.proofs.Wholes.{Rested, rested_idle, rested_out, rests}
use Rattle.wait_event.proofs.Behind.{StandsOver}
use Rattle.wait_leave.specs.{declared.exits.Until.Until, Leaves.with_asked, OnTheWay.IsOnWay, OnTheWay.OnTheWay}
use Rattle.wait_leave.specs.ExitLaws.{AreLawfulExits, AwakeOn, is_awake}
use Rattle.wait_leave.proofs.ExitForms.{AskLaw, LawAt, awake_exits, finish_awake, if_asked, lawful_exits, out_at_once}
use Rattle.wait_leave.proofs.ExitForms.{stays_out}
use Rattle.wait_leave.proofs.Ways.{awake_since, way_asked, way_domain, way_keeps, way_lands, way_plan}
use Rattle.bit_wait.specs.{Holders.IsHolder, LockStays.LockKeeps, LockStays.TakesBit, declared.wait_calls.BitEnd.BitEnd}
use Rattle.bit_wait.specs.{declared.lock_runs.LockBit.LockBit, declared.lock_runs.LockOutcome.LockOutcome}
use Rattle.bit_wait.specs.declared.lock_runs.LockTest.{LockTest}
use Rattle.bit_wait.specs.LockLeaves.{EndsBitLockUntil, IsAskedFor, IsUntilCause, LeavesBitLock, failed_in, lock_awake}
use Rattle.bit_wait.specs.LockLeaves.{lock_exit, lock_exits, takes_until, until_in}
use Rattle.bit_wait.specs.LockTables.{CauseIn, IsFreshLock, WhyFailed, lock_bit_in, lock_end_post, is_lock_over}
use Rattle.bit_wait.specs.LockTables.{lock_frame, lock_table}
use Rattle.bit_wait.specs.declared.lock_runs.LockOutcome.TheVariants as outcome
use Rattle.bit_wait.specs.declared.lock_runs.LockTest.TheVariants as test
use Rattle.bit_wait.proofs.{Holders.clean_idle, Holders.clean_out, LockKinds.locks_clean, LockKinds.takes_bit}
use Rattle.bit_wait.proofs.LockLaws.{lock_lawful}
use Rattle.bit_wait.proofs.LockGround.{lock_keeps_none, lock_keeps_on, lock_keeps_step}

-- the exits
asks_law : AskLaw lock_table lock_exits
asks_law = record { same = λ r. refl; fits = λ r f. record { word = f.word; bit = f.bit } }

exit_law : (r : Framed LockBit) (s : Stage LockTest) → LawAt lock_table lock_exits r s
exit_law r (stage.Test test.First) = out_at_once asks_law refl refl (λ σ s. inl s) (home_waits (lock_bit_in r.wait))
    (λ old new calm u. tt)
exit_law r (stage.Test test.Load) = out_at_once asks_law refl refl (λ σ s. s) (λ o h. h) (λ old new calm u. tt)
exit_law r (stage.Test test.Again) = out_at_once asks_law refl refl (λ σ s. s) (λ o h. h) (λ old new calm u. tt)
exit_law r stage.PrepareLock = out_at_once asks_law refl refl (λ σ s. s) (λ o h. h) (λ old new calm u. tt)
exit_law r stage.Sleep = out_at_once asks_law refl refl (λ σ s. s) (λ o h. h) (λ old new calm u. tt)
exit_law r stage.Look = out_at_once asks_law refl refl (λ σ s. inl s) (λ o h. h) (λ old new calm u. tt)
exit_law r s = tt

-- each leads to the finish
exits_awake : (r : Framed LockBit) (s : Stage LockTest) → stays_out lock_table lock_exits (lock_exit s) ≡ true
exits_awake r (stage.Test test.First) = refl
exits_awake r s = refl

-- the program sleeps no more from there on
over_awake : (r : LockBit) (b : Bool) → is_awake lock_awake (next_in lock_table (lock_frame.finished r b)) ≡ true
over_awake r true = refl
over_awake r false = refl

awake_on : (r : Framed LockBit) (me : ℕ) (p : Point) (seen : Seen) → lock_awake p ≡ true
    → AwakeOn lock_awake ((lock_table.plan_of r).makes me p seen)
awake_on r me (at.Finish y b) seen is = finish_awake lock_frame lock_lawful lock_awake (λ y b. refl) r.wait
    (over_awake r.wait) me seen y b
awake_on r me (at.Bit biting.Last) seen is = (refl, refl)
awake_on r me p seen is = absurd (cc)

sleeps_out : (r : Framed LockBit) (s : Stage LockTest) → lock_table.doing s ≡ doing.Sleep → lock_exit s ≡ None → ⊥
sleeps_out r stage.Sleep here none = absurd (cc)
sleeps_out r s here none = absurd (cc)

pub lock_may_leave : AreLawfulExits lock_table lock_exits
lock_may_leave = lawful_exits lock_table lock_exits exit_law sleeps_out awake_on

-- the answer and its cause
caused : (k : Known) (e : LockBit) (b : Bool) → WhyFailed b k e → IsUntilCause k e.word e.bit e.state (failed_in b e)
caused k e true x = x
caused k e false x = x

cause_of : (k : Known) (e : LockBit) (o : LockOutcome) → CauseIn k e o
    → IsUntilCause k e.word e.bit e.state (until_in e o)
cause_of k e outcome.Over x = tt
cause_of k e outcome.Interrupted x = caused k e e.asked x
cause_of k e outcome.Worn x = x

abbrev CauseAt : Known → Watch → SleepState → Until (Result (Unit {0}) BitEnd) → Type 0
CauseAt k (watch.Bit w b) st x = IsUntilCause k w b st x
CauseAt k _ st x = ⊥

failed_taken : (b : Bool) (e : LockBit) → false ≡ takes_until (failed_in b e)
failed_taken true e = refl
failed_taken false e = refl

taken_is : (e : LockBit) (o : LockOutcome) → is_lock_over o ≡ takes_until (until_in e o)
taken_is e outcome.Over = refl
taken_is e outcome.Interrupted = failed_taken e.asked e
taken_is e outcome.Worn = refl

rest_keeps : (i : ℕ) (c : Watch) (g b : Bool) (old new : Known) → HasRested old new b → LockKeeps i c g g old new
rest_keeps i c g false old new is = subst (LockKeeps i c g g old) (sym is) (lock_keeps_none i c g old)
rest_keeps i c g true old new is = lock_keeps_step i c g old new (step.State 0) is (λ v. refl) refl (λ v. refl)
    (λ v. refl) (λ v d none. none)

-- how the task stands at its end
module _ (A : Type 0) (old ended : Known) (r q : Run (Framed LockBit)) (s : Stage LockTest) (o : LockOutcome)
    (came : OnTheWay A lock_table lock_exits old r s ended q (turn.Done o)) where
  pub left_domain : ended.domain ≡ old.domain
  left_domain = way_domain A lock_table lock_exits lock_may_leave (framed_lawful lock_frame lock_lawful) old r s ended q
      (turn.Done o) came

  pub left_ended : IsEnded lock_table ended q o
  left_ended = way_lands A lock_table lock_exits lock_may_leave (framed_lawful lock_frame lock_lawful) old r s ended q
      (turn.Done o) came

module _ (A : Type 0) (old ended new : Known) (r q : Run (Framed LockBit)) (s : Stage LockTest) (o : LockOutcome)
    (came : OnTheWay A lock_table lock_exits old r s ended q (turn.Done o)) (h : HasRested ended new q.of.wait.worn) where
  abbrev e : LockBit
  e = q.of.wait

  lawful : IsLawfulCallTable lock_table
  lawful = framed_lawful lock_frame lock_lawful

  at_end : IsEnded lock_table ended q o
  at_end = way_lands A lock_table lock_exits lock_may_leave lawful old r s ended q (turn.Done o) came

  same : with_asked false (lock_frame.plan_of e) ≡ with_asked false (lock_frame.plan_of r.of.wait)
  same = way_plan A lock_table lock_exits lock_may_leave lawful old r s ended q (turn.Done o) came

  bit_is : lock_bit_in e ≡ lock_bit_in r.of.wait
  bit_is = ap (λ (p : Plan). p.watch) same

  rested : Rested ended new
  rested = rests ended new e.worn (state_mask e.state) h at_end.stands.state

  pub left_up : IsUp new
  left_up = rested.awake ∙ at_end.up

  kept : LockKeeps (index old.view.number 0) (lock_bit_in r.of.wait) (lock_table.took s) (is_lock_over o) old ended
  kept = way_keeps A lock_table lock_exits lock_may_leave lawful old r s ended q (turn.Done o) came

  pub left_idle : (told_of old).mark ≡ None → IsIdle new
  left_idle unmarked = rested_idle ended new (lock_end_post e o) at_end.stands refl refl rested (kept.mark ∙ unmarked)

  pub left_over : StandsOver old new
  left_over = record {
    up = left_up;
    idle = left_idle;
    out = rested_out ended new (lock_end_post e o) at_end.stands refl rested;
  }

  pub left_tries : (told_of new).bits.pending (lock_bit_in r.of.wait) ≡ false
  left_tries = ap (told_of new).bits.pending (sym bit_is) ∙ (rested.pending (lock_bit_in e) ∙ at_end.trail.tries)

  pub left_kept : LockKeeps (index old.view.number 0) (lock_bit_in r.of.wait) (lock_table.took s)
      (takes_until (until_in e o)) old new
  left_kept = subst (λ (g : Bool). LockKeeps (index old.view.number 0) (lock_bit_in r.of.wait) (lock_table.took s) g old new)
      (taken_is e o)
      (lock_keeps_on (index old.view.number 0) (lock_bit_in r.of.wait) (lock_table.took s) (is_lock_over o) (is_lock_over o) old ended
      new kept (rest_keeps (index old.view.number 0) (lock_bit_in r.of.wait) (is_lock_over o) e.worn ended new h))

  -- the whole call, by a bit of these numbers
  pub left_takes : (w b : ℕ) → lock_bit_in r.of.wait ≡ watch.Bit w b → lock_table.took s ≡ false → IsUp old → IsIdle old
      → IsOut old → (told_of old).hold.head ≡ None → TakesBit old new (watch.Bit w b) (takes_until (until_in e o))
  left_takes w b is fresh up idle out held = takes_bit old ended new w b (takes_until (until_in e o))
      (subst (λ (g : Bool). LockKeeps (index old.view.number 0) (watch.Bit w b) false g old ended) (taken_is e o)
      (subst (λ (c : Watch). LockKeeps (index old.view.number 0) c false (is_lock_over o) old ended) is
      (subst (λ (g : Bool). LockKeeps (index old.view.number 0) (lock_bit_in r.of.wait) g (is_lock_over o) old ended) fresh kept)))
      rested up idle out held left_up (left_idle idle.unmarked) (rested.hold ∙ at_end.stands.told)
      (ap (λ (n : ℕ). (told_of new).bits.stored (index n 0)) (sym (rested.number ∙ kept.number)) ∙ left_over.out)
      (ap (told_of new).bits.pending (sym is) ∙ left_tries)
      (λ took. ap (told_of new).bits.keeps (sym is) ∙ (ap (told_of new).bits.keeps (sym bit_is)
      ∙ (rested.keeps (lock_bit_in e) ∙ at_end.trail.keeps (taken_is e o ∙ took))))

  pub left_lock : LeavesBitLock A old new r s (until_in e o)
  left_lock = record {
    ended = ended;
    at = q;
    outcome = o;
    came = came;
    awake = awake_since lock_table lock_exits (awake_exits lock_table lock_exits exits_awake) old r s ended q
        (turn.Done o) came;
    answer = refl;
    cause = subst (λ (p : Plan). CauseAt ended p.watch p.state (until_in e o)) same (cause_of ended e o at_end.trail.cause);
    rests = h;
  }

  -- Left for nobody who was not asked
  asked_by : (p : LockOutcome) → r.of.wait.asked ≡ false → IsAskedFor A (until_in e p)
  asked_by outcome.Over unasked = tt
  asked_by outcome.Worn unasked = tt
  asked_by outcome.Interrupted unasked = if_asked (λ b. IsAskedFor A (failed_in b e)) e.asked
      (way_asked A lock_table lock_exits lock_may_leave lawful old r s ended q (turn.Done o) came unasked) tt

  pub left_asked : r.of.wait.asked ≡ false → IsAskedFor A (until_in e o)
  left_asked = asked_by o

pub ends_until : (A : Type 0) (old ended new : Known) (r q : Run (Framed LockBit)) (o : LockOutcome)
    → OnTheWay A lock_table lock_exits old r (stage.Test test.First) ended q (turn.Done o)
    → HasRested ended new q.of.wait.worn → (w b : ℕ) (st : SleepState) → IsFreshLock r.of.wait w b st
    → r.of.wait.asked ≡ false → EndsBitLockUntil A old new w b st (until_in q.of.wait o)
ends_until A old ended new r q o came h w b st fresh unasked = record {
  first = r;
  fresh = fresh;
  unasked = unasked;
  leaves = left_lock A old ended new r q (stage.Test test.First) o came h;
  asked = left_asked A old ended new r q (stage.Test test.First) o came h unasked;
}

-- of a call that went on by stretches
pub left_clean : (A : Type 0) (c : Plan) (ended new : Known) (q : Run (Framed LockBit)) (o : LockOutcome)
    → IsOnWay A lock_table lock_exits c ended q (turn.Done o) → HasRested ended new q.of.wait.worn
    → MatchBool (takes_until (until_in q.of.wait o)) (IsHolder new c.watch) (IsClean new)
left_clean A c ended new q o i h =
    let r = i.began in
    let was = clean_idle i.old i.clean in
    let out = clean_out i.old i.clean in
    subst (λ (d : Watch). MatchBool (takes_until (until_in q.of.wait o)) (IsHolder new d) (IsClean new))
    (ap (λ (x : Plan). x.watch) i.plan)
    (locks_clean i.old new (lock_bit_in r.of.wait) i.clean (left_up A i.old ended new r q i.start o i.came h)
    (left_idle A i.old ended new r q i.start o i.came h was.unmarked) (takes_until (until_in q.of.wait o))
    (left_takes A i.old ended new r q i.start o i.came h r.of.wait.word r.of.wait.bit refl i.nothing i.clean.up was out
    (i.told.head ∙ i.clean.free.head)))

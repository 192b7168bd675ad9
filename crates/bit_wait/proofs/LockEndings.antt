-- Whole waits: how they begin, and what they say at their end.
use Rattle.std.proofs.Common.{◌∙◌, ap, sym, refl, subst}
use Rattle.std.specs.Prelude.{ℕ, ◌≡◌, Bool, false, MatchBool, Result, None}
use Rattle.wait_model.specs.{declared.tasks.SleepState.SleepState, declared.watches.Watch.Watch, Tasks.state_mask}
use Rattle.wait_model.specs.declared.calls.Call.TheVariants as calls
use Rattle.wait_model.specs.declared.watches.Watch.TheVariants as watch
use Rattle.wait_rule.specs.Known.{Known}
use Rattle.wait_rule.specs.Says.{IsClean, IsUp, told_of}
use Rattle.wait_rule.specs.Queues.{IsIdle, IsTold, index}
use Rattle.wait_class.specs.{Posts.IsOut, declared.frame_stages.Framed.Framed, declared.frame_stages.Stage.Stage}
use Rattle.wait_class.specs.{declared.stages.Run.Run, UnderWay.IsUnderWay}
use Rattle.wait_class.specs.Tables.{Advances, IsAt, Plan, call_plan}
use Rattle.bit_wait.specs.{BitEnds.answer_of_bit_end, LockStays.LockKeeps, LockStays.TakesBit}
use Rattle.bit_wait.specs.{declared.lock_runs.LockBit.LockBit, declared.wait_calls.BitEnd.BitEnd}
use Rattle.bit_wait.specs.{declared.lock_runs.LockOutcome.LockOutcome, declared.lock_runs.LockTest.LockTest}
use Rattle.bit_wait.specs.Holders.{IsHolder}
use Rattle.bit_wait.specs.LockTables.{CauseIn, IsFreshLock, IsRunningLock, WhyFailed, answer_to_lock, lock_end_post}
use Rattle.bit_wait.specs.LockTables.{lock_bit_in, is_lock_over, lock_frame, lock_table}
use Rattle.bit_wait.specs.LockEnds.{ComesBehindWorn, EndsBitLock, HasRested, IsLockCause, lock_end_in}
use Rattle.bit_wait.specs.LockEnds.{has_taken_lock as given}
use Rattle.bit_wait.specs.declared.lock_runs.LockOutcome.TheVariants as outcome
use Rattle.bit_wait.specs.declared.lock_runs.LockTest.TheVariants as test
use Rattle.wait_class.specs.declared.frame_stages.Stage.TheVariants as stage
use Rattle.wait_class.specs.declared.stages.Turn.TheVariants as turn
use Rattle.wait_event.proofs.Behind.{StandsOver}
use Rattle.wait_leave.specs.Leaves.{with_asked}
use Rattle.wait_class.proofs.Wholes.{Rested, begins, ended_runs, rested_idle, rested_out, rests}
use Rattle.bit_wait.proofs.{Holders.clean_idle, Holders.clean_out, LockKinds.locks_clean, LockKinds.takes_bit}

-- a task that is idle, with its entry off, may begin
pub begins_at : (k : Known) (r : Run (Framed LockBit)) → IsRunningLock r.of.wait → IsTold k → IsUp k → IsIdle k → IsOut k
    → IsAt lock_table k r (stage.Test test.First)
begins_at k r runs = begins lock_table k r (stage.Test test.First) runs refl refl refl refl tt

-- the cause of an answer, by the call
abbrev CauseOf : Known → Watch → SleepState → Result (Unit {0}) BitEnd → Type 0
CauseOf k (watch.Bit w b) st x = IsLockCause k w b st x
CauseOf k _ st x = ⊥

-- and whether it came behind a hold that found no place
abbrev BehindOf : Known → Watch → Result (Unit {0}) BitEnd → Bool → Type 0
BehindOf k (watch.Bit w b) x worn = ComesBehindWorn k w b x worn
BehindOf k _ x worn = ⊥

-- a wait that was not asked to leave
cause_is : (k : Known) (e : LockBit) (o : LockOutcome) → e.asked ≡ false → CauseIn k e o
    → IsLockCause k e.word e.bit e.state (lock_end_in e o)
cause_is k e outcome.Over none x = tt
cause_is k e outcome.Interrupted none x = subst (λ (b : Bool). WhyFailed b k e) none x
cause_is k e outcome.Worn none x = x

answer_is : (e : LockBit) (o : LockOutcome) → answer_to_lock o ≡ answer_of_bit_end (lock_end_in e o)
answer_is e outcome.Over = refl
answer_is e outcome.Interrupted = refl
answer_is e outcome.Worn = refl

taken_is : (e : LockBit) (o : LockOutcome) → is_lock_over o ≡ given (lock_end_in e o)
taken_is e outcome.Over = refl
taken_is e outcome.Interrupted = refl
taken_is e outcome.Worn = refl

-- a call that ended, from a stage at which it had not taken the bit, and what the task did then
module _ (old ended new : Known) (r q : Run (Framed LockBit)) (w b : ℕ) (st : SleepState)
    (fresh : IsFreshLock r.of.wait w b st) (s : Stage LockTest) (nothing : lock_table.took s ≡ false) (o : LockOutcome)
    (a : Advances lock_table old ended r q s (turn.Done o)) (h : HasRested ended new q.of.wait.worn) where
  abbrev e : LockBit
  e = q.of.wait

  rested : Rested ended new
  rested = rests ended new e.worn (state_mask e.state) h a.lands.stands.state

  up_by : IsUp new
  up_by = rested.awake ∙ a.lands.up

  out_by : IsOut new
  out_by = rested_out ended new (lock_end_post e o) a.lands.stands refl rested

  idle_by : (told_of old).mark ≡ None → IsIdle new
  idle_by unmarked = rested_idle ended new (lock_end_post e o) a.lands.stands refl refl rested
      (a.went.keeps.mark ∙ unmarked)

  began : lock_frame.plan_of r.of.wait ≡ with_asked r.of.wait.asked (call_plan (calls.LockBit w b st))
  began i = with_asked r.of.wait.asked (call_plan (calls.LockBit (fresh.word i) (fresh.bit i) (fresh.state i)))

  bit_is : lock_bit_in e ≡ watch.Bit w b
  bit_is = ap (λ (p : Plan). p.watch) (a.same ∙ began)

  kept : LockKeeps (index old.view.number 0) (watch.Bit w b) false (given (lock_end_in e o)) old ended
  kept = subst (λ (g : Bool). LockKeeps (index old.view.number 0) (watch.Bit w b) false g old ended) (taken_is e o)
      (subst (λ (c : Watch). LockKeeps (index old.view.number 0) c false (is_lock_over o) old ended) (ap (λ (p : Plan). p.watch) began)
      (subst (λ (had : Bool). LockKeeps (index old.view.number 0) (lock_bit_in r.of.wait) had (is_lock_over o) old ended) nothing
      a.went.keeps))

  takes_by : IsUp old → IsIdle old → IsOut old → (told_of old).hold.head ≡ None
      → TakesBit old new (watch.Bit w b) (given (lock_end_in e o))
  takes_by up idle out held = takes_bit old ended new w b (given (lock_end_in e o)) kept rested up idle out held up_by
      (idle_by idle.unmarked) (rested.hold ∙ a.lands.stands.told)
      (ap (λ (n : ℕ). (told_of new).bits.stored (index n 0)) (sym (rested.number ∙ a.went.keeps.number)) ∙ out_by)
      (ap (told_of new).bits.pending (sym bit_is) ∙ (rested.pending (lock_bit_in e) ∙ a.lands.trail.tries))
      (λ is. ap (told_of new).bits.keeps (sym bit_is)
      ∙ (rested.keeps (lock_bit_in e) ∙ a.lands.trail.keeps (taken_is e o ∙ is)))

-- from its first stage
module _ (old ended new : Known) (r q : Run (Framed LockBit)) (w b : ℕ) (st : SleepState)
    (fresh : IsFreshLock r.of.wait w b st) (o : LockOutcome)
    (a : Advances lock_table old ended r q (stage.Test test.First) (turn.Done o))
    (h : HasRested ended new q.of.wait.worn) where
  abbrev first : Stage LockTest
  first = stage.Test test.First

  pub ends_over : StandsOver old new
  ends_over = record {
    up = up_by old ended new r q w b st fresh first refl o a h;
    idle = idle_by old ended new r q w b st fresh first refl o a h;
    out = out_by old ended new r q w b st fresh first refl o a h;
  }

  pub ends_takes : IsUp old → IsIdle old → IsOut old → (told_of old).hold.head ≡ None
      → TakesBit old new (watch.Bit w b) (given (lock_end_in q.of.wait o))
  ends_takes = takes_by old ended new r q w b st fresh first refl o a h

  -- what it says at its end
  pub ends_wait : r.of.wait.asked ≡ false → EndsBitLock old new w b st (lock_end_in q.of.wait o)
  ends_wait unasked =
      let is = began old ended new r q w b st fresh first refl o a h in record {
        ended = ended;
        runs = ended_runs lock_table old ended r q first o a (with_asked r.of.wait.asked (call_plan (calls.LockBit w b st))) is
            (answer_of_bit_end (lock_end_in q.of.wait o)) (answer_is q.of.wait o);
        cause = subst (λ (p : Plan). CauseOf ended p.watch p.state (lock_end_in q.of.wait o)) (a.same ∙ is)
            (cause_is ended q.of.wait o (ap (λ (p : Plan). p.asked) a.same ∙ unasked) a.lands.trail.cause);
        worn = q.of.wait.worn;
        behind = subst (λ (p : Plan). BehindOf ended p.watch (lock_end_in q.of.wait o) q.of.wait.worn) (a.same ∙ is)
            a.lands.trail.behind;
        rests = h;
      }

-- of a call that went on by stretches
pub under_clean : (c : Plan) (ended new : Known) (q : Run (Framed LockBit)) (o : LockOutcome)
    → IsUnderWay lock_table c ended q (turn.Done o) → HasRested ended new q.of.wait.worn
    → MatchBool (given (lock_end_in q.of.wait o)) (IsHolder new c.watch) (IsClean new)
under_clean c ended new q o i h =
    let r = i.began in
    let w = r.of.wait.word in
    let b = r.of.wait.bit in
    let st = r.of.wait.state in
    let fresh : IsFreshLock r.of.wait w b st = record { word = refl; bit = refl; state = refl } in
    let was = clean_idle i.old i.clean in
    let out = clean_out i.old i.clean in
    subst (λ (d : Watch). MatchBool (given (lock_end_in q.of.wait o)) (IsHolder new d) (IsClean new))
    (ap (λ (x : Plan). x.watch) i.plan)
    (locks_clean i.old new (watch.Bit w b) i.clean (up_by i.old ended new r q w b st fresh i.start i.nothing o i.came h)
    (idle_by i.old ended new r q w b st fresh i.start i.nothing o i.came h was.unmarked) (given (lock_end_in q.of.wait o))
    (takes_by i.old ended new r q w b st fresh i.start i.nothing o i.came h i.clean.up was out
    (i.told.head ∙ i.clean.free.head)))

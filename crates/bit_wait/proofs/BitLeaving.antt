-- A wait until a bit is clear that its task leaves.
use Rattle.std.proofs.Common.{refl, subst, inl}
use Rattle.std.specs.Prelude.{ℕ, ◌≡◌, ◌&&◌, Bool, true, false, if◌then◌else◌, None, Result, Ok}
use Rattle.wait_model.specs.declared.points.BitPoint.TheVariants as biting
use Rattle.wait_model.specs.declared.points.FinishPoint.TheVariants as finishing
use Rattle.wait_model.specs.{declared.points.Point.Point, declared.points.Seen.Seen}
use Rattle.wait_model.specs.{declared.tasks.SleepState.SleepState, declared.watches.Watch.Watch, Programs.call_fails}
use Rattle.wait_model.specs.Words.{bit_at}
use Rattle.wait_model.specs.declared.points.Point.TheVariants as at
use Rattle.wait_model.specs.declared.points.PreparePoint.TheVariants as preparing
use Rattle.wait_model.specs.declared.watches.Watch.TheVariants as watch
use Rattle.wait_rule.specs.{Known.Known, Queues.IsIdle, Queues.index, Stays.Carries}
use Rattle.wait_rule.specs.Says.{IsClean, IsUp, told_of}
use Rattle.wait_class.specs.{Posts.Keeps, declared.frame_stages.Framed.Framed, declared.frame_stages.Stage.Stage}
use Rattle.wait_class.specs.{declared.stages.Run.Run, Laws.IsLawfulCallTable, Wholes.HasRested}
use Rattle.wait_class.specs.Tables.{IsEnded, Plan, next_in}
use Rattle.wait_class.specs.declared.stages.Doing.TheVariants as doing
use Rattle.wait_class.specs.declared.frame_stages.Stage.TheVariants as stage
use Rattle.wait_class.specs.declared.stages.Turn.TheVariants as turn
use Rattle.wait_class.proofs.{Framing.framed_lawful, Ground.Standing.home_waits}
use Rattle.wait_event.specs.Ends.{wait_change}
use Rattle.wait_event.proofs.Behind.{StandsOver}
use Rattle.wait_leave.specs.{declared.exits.Until.Until, Leaves.with_asked, OnTheWay.IsOnWay, OnTheWay.OnTheWay}
use Rattle.wait_leave.specs.ExitLaws.{AreLawfulExits, AwakeOn, is_awake}
use Rattle.wait_leave.specs.declared.exits.Until.TheVariants as until
use Rattle.wait_leave.proofs.ExitForms.{AskLaw, LawAt, awake_exits, finish_awake, if_asked, lawful_exits, out_at_once}
use Rattle.wait_leave.proofs.ExitForms.{stays_out}
use Rattle.wait_leave.proofs.Ways.{awake_since, way_asked, way_domain, way_keeps, way_lands, way_plan}
use Rattle.bit_wait.specs.{BitEnds.HasLoadedBit, LockLeaves.IsAskedFor, declared.wait_calls.BitEnd.BitEnd}
use Rattle.bit_wait.specs.{declared.waits.BitOutcome.BitOutcome, declared.waits.BitTest.BitTest}
use Rattle.bit_wait.specs.declared.waits.WaitBit.{WaitBit}
use Rattle.bit_wait.specs.BitLeaves.{EndsBitWaitUntil, IsBitUntilCause, LeavesBitWait, bit_awake, bit_exit, bit_exits}
use Rattle.bit_wait.specs.BitLeaves.{bit_failed_in, bit_until_in}
use Rattle.bit_wait.specs.BitTables.{BitCauseIn, BitWhyFailed, IsFreshBitWait, bit_frame, wait_bit_in, bit_table}
use Rattle.bit_wait.specs.BitTables.{wait_bit_call, is_bit_worn}
use Rattle.bit_wait.specs.declared.waits.BitOutcome.TheVariants as outcome
use Rattle.bit_wait.specs.declared.waits.BitTest.TheVariants as test
use Rattle.bit_wait.proofs.BitLaws.{bit_lawful, ends_carried, ends_clean, ends_kept, ends_over}

-- the exits
asks_law : AskLaw bit_table bit_exits
asks_law = record { same = λ r. refl; fits = λ r f. record { word = f.word; bit = f.bit } }

exit_law : (r : Framed WaitBit) (s : Stage BitTest) → LawAt bit_table bit_exits r s
exit_law r (stage.Test test.First) = out_at_once asks_law refl refl (λ σ s. inl s) (home_waits (wait_bit_in r.wait))
    (λ old new calm u. tt)
exit_law r (stage.Test test.Load) = out_at_once asks_law refl refl (λ σ s. s) (λ o h. h) (λ old new calm u. tt)
exit_law r (stage.Test (test.Again false)) = out_at_once asks_law refl refl (λ σ s. s) (λ o h. h) (λ old new calm u. tt)
exit_law r stage.PrepareLock = out_at_once asks_law refl refl (λ σ s. s) (λ o h. h) (λ old new calm u. tt)
exit_law r stage.Sleep = out_at_once asks_law refl refl (λ σ s. s) (λ o h. h) (λ old new calm u. tt)
exit_law r stage.Look = out_at_once asks_law refl refl (λ σ s. inl s) (λ o h. h) (λ old new calm u. tt)
exit_law r s = tt

-- each leads to that load
exits_awake : (r : Framed WaitBit) (s : Stage BitTest) → stays_out bit_table bit_exits (bit_exit s) ≡ true
exits_awake r (stage.Test (test.Again true)) = refl
exits_awake r s = refl

-- the program sleeps no more from there on
over_awake : (r : WaitBit) (b : Bool) → is_awake bit_awake (next_in bit_table (bit_frame.finished r b)) ≡ true
over_awake r true = refl
over_awake r false = refl

loads_awake : (c : Bool) → bit_awake (if c && false then at.Prepare preparing.Lock else at.Finish finishing.State true) ≡ true
loads_awake true = refl
loads_awake false = refl

awake_on : (r : Framed WaitBit) (me : ℕ) (p : Point) (seen : Seen) → bit_awake p ≡ true
    → AwakeOn bit_awake ((bit_table.plan_of r).makes me p seen)
awake_on r me (at.Finish y b) seen is = finish_awake bit_frame bit_lawful bit_awake (λ y b. refl) r.wait
    (over_awake r.wait) me seen y b
awake_on r me (at.Bit (biting.Again true)) seen is = (refl, loads_awake (call_fails (wait_bit_call r.wait) seen))
awake_on r me p seen is = absurd (cc)

sleeps_out : (r : Framed WaitBit) (s : Stage BitTest) → bit_table.doing s ≡ doing.Sleep → bit_exit s ≡ None → ⊥
sleeps_out r stage.Sleep here none = absurd (cc)
sleeps_out r s here none = absurd (cc)

pub bit_may_leave : AreLawfulExits bit_table bit_exits
bit_may_leave = lawful_exits bit_table bit_exits exit_law sleeps_out awake_on

-- the answer and its cause
abbrev CauseOf : Known → WaitBit → BitOutcome → Until (Result (Unit {0}) BitEnd) → Type 0
CauseOf k e o x = IsBitUntilCause k e.word e.bit e.state o x

left_by : (k : Known) (e : WaitBit) (set : Bool) → bit_at e.last e.bit ≡ set → HasLoadedBit k e.word e.bit e.last
    → CauseOf k e outcome.Interrupted (if set then until.Left e.last else until.Over (Ok tt))
left_by k e true is x = (x, is)
left_by k e false is x = (e.last, (x, is))

caused : (k : Known) (e : WaitBit) (b : Bool) → BitWhyFailed b k e → CauseOf k e outcome.Interrupted (bit_failed_in b e)
caused k e true x = left_by k e (bit_at e.last e.bit) refl x
caused k e false x = x

cause_of : (k : Known) (e : WaitBit) (o : BitOutcome) → BitCauseIn k e o → CauseOf k e o (bit_until_in e o)
cause_of k e outcome.Over x = tt
cause_of k e outcome.Interrupted x = caused k e e.asked x
cause_of k e outcome.Worn x = x

abbrev CauseAt : Known → Watch → SleepState → BitOutcome → Until (Result (Unit {0}) BitEnd) → Type 0
CauseAt k (watch.Bit w b) st o x = IsBitUntilCause k w b st o x
CauseAt k _ st o x = ⊥

lawful : IsLawfulCallTable bit_table
lawful = framed_lawful bit_frame bit_lawful

-- how the task stands at its end
module _ (A : Type 0) (old ended : Known) (r q : Run (Framed WaitBit)) (s : Stage BitTest) (o : BitOutcome)
    (came : OnTheWay A bit_table bit_exits old r s ended q (turn.Done o)) where
  pub left_domain : ended.domain ≡ old.domain
  left_domain = way_domain A bit_table bit_exits bit_may_leave lawful old r s ended q (turn.Done o) came

  pub left_ended : IsEnded bit_table ended q o
  left_ended = way_lands A bit_table bit_exits bit_may_leave lawful old r s ended q (turn.Done o) came

  kept : Keeps (index old.view.number 0) old ended
  kept = way_keeps A bit_table bit_exits bit_may_leave lawful old r s ended q (turn.Done o) came

  same : with_asked false (bit_frame.plan_of q.of.wait) ≡ with_asked false (bit_frame.plan_of r.of.wait)
  same = way_plan A bit_table bit_exits bit_may_leave lawful old r s ended q (turn.Done o) came

module _ (A : Type 0) (old ended new : Known) (r q : Run (Framed WaitBit)) (s : Stage BitTest) (o : BitOutcome)
    (came : OnTheWay A bit_table bit_exits old r s ended q (turn.Done o)) (h : HasRested ended new (is_bit_worn o)) where
  pub left_over : StandsOver old new
  left_over = ends_over old ended q o (kept A old ended r q s o came) (left_ended A old ended r q s o came) new h

  pub left_up : IsUp new
  left_up = left_over.up

  pub left_idle : (told_of old).mark ≡ None → IsIdle new
  left_idle = left_over.idle

  pub left_kept : Keeps (index old.view.number 0) old new
  left_kept = ends_kept old ended q o (kept A old ended r q s o came) (left_ended A old ended r q s o came) new h

  pub left_carried : IsUp old → IsIdle old → (told_of old).hold.head ≡ None
      → Carries (wait_change (index old.view.number 0) new.at) old new
  left_carried = ends_carried old ended q o (kept A old ended r q s o came) (left_ended A old ended r q s o came) new h

  pub left_clean_from : IsClean old → IsClean new
  left_clean_from = ends_clean old ended q o (kept A old ended r q s o came) (left_ended A old ended r q s o came) new h

  pub left_wait : LeavesBitWait A old new r s (bit_until_in q.of.wait o)
  left_wait = record {
    ended = ended;
    at = q;
    outcome = o;
    came = came;
    awake = awake_since bit_table bit_exits (awake_exits bit_table bit_exits exits_awake) old r s ended q
        (turn.Done o) came;
    answer = refl;
    cause = subst (λ (p : Plan). CauseAt ended p.watch p.state o (bit_until_in q.of.wait o))
        (same A old ended r q s o came) (cause_of ended q.of.wait o (left_ended A old ended r q s o came).trail);
    rests = h;
  }

  -- Left for nobody who was not asked
  set_asked : (set : Bool) → A → IsAskedFor A (if set then until.Left q.of.wait.last else until.Over (Ok tt))
  set_asked true cause = cause
  set_asked false cause = tt

  asked_by : (p : BitOutcome) → r.of.wait.asked ≡ false → IsAskedFor A (bit_until_in q.of.wait p)
  asked_by outcome.Over unasked = tt
  asked_by outcome.Worn unasked = tt
  asked_by outcome.Interrupted unasked = if_asked (λ b. IsAskedFor A (bit_failed_in b q.of.wait)) q.of.wait.asked
      (λ now. set_asked (bit_at q.of.wait.last q.of.wait.bit)
      (way_asked A bit_table bit_exits bit_may_leave lawful old r s ended q (turn.Done o) came unasked now)) tt

  pub left_asked : r.of.wait.asked ≡ false → IsAskedFor A (bit_until_in q.of.wait o)
  left_asked = asked_by o

pub ends_until : (A : Type 0) (old ended new : Known) (r q : Run (Framed WaitBit)) (o : BitOutcome)
    → OnTheWay A bit_table bit_exits old r (stage.Test test.First) ended q (turn.Done o)
    → HasRested ended new (is_bit_worn o) → (w b : ℕ) (st : SleepState) → IsFreshBitWait r.of.wait w b st
    → EndsBitWaitUntil A old new w b st (bit_until_in q.of.wait o)
ends_until A old ended new r q o came h w b st fresh = record {
  first = r;
  fresh = fresh;
  leaves = left_wait A old ended new r q (stage.Test test.First) o came h;
  asked = left_asked A old ended new r q (stage.Test test.First) o came h fresh.unasked;
}

-- of a call that went on by stretches
pub left_clean : (A : Type 0) (c : Plan) (ended new : Known) (q : Run (Framed WaitBit)) (o : BitOutcome)
    → IsOnWay A bit_table bit_exits c ended q (turn.Done o) → HasRested ended new (is_bit_worn o) → IsClean new
left_clean A c ended new q o i h = left_clean_from A i.old ended new i.began q i.start o i.came h i.clean

-- A wait for a plain condition or a variable that its task leaves.
use Rattle.std.proofs.Common.{◌∙◌, ap, sym, refl, subst}
use Rattle.std.specs.Prelude.{ℕ, ◌≡◌, ◌||◌, ◌&&◌, not, Bool, true, false, is_some, None}
use Rattle.wait_model.specs.declared.points.FinishPoint.TheVariants as finishing
use Rattle.wait_model.specs.declared.points.LeavePoint.TheVariants as leaving
use Rattle.wait_model.specs.{declared.points.Point.Point, declared.points.Seen.Seen, declared.tasks.How.How}
use Rattle.wait_model.specs.{declared.watches.Watch.Watch, Watches.misses}
use Rattle.wait_model.specs.declared.points.Point.TheVariants as at
use Rattle.wait_rule.specs.{Known.Known, Stays.Carries}
use Rattle.wait_rule.specs.Queues.{IsIdle, IsTold, index}
use Rattle.wait_rule.specs.Says.{IsClean, IsUp, told_of}
use Rattle.wait_class.specs.{Posts.Keeps, declared.stages.Run.Run, declared.stages.Turn.Turn, Tables.IsEnded}
use Rattle.wait_class.specs.Tables.{Plan}
use Rattle.wait_class.specs.declared.stages.Doing.TheVariants as doing
use Rattle.wait_class.specs.declared.stages.Turn.TheVariants as turn
use Rattle.wait_leave.specs.{ExitLaws.AreLawfulExits, ExitLaws.AwakeOn, Leaves.GoesOut, Leaves.stays_awake}
use Rattle.wait_leave.specs.OnTheWay.{IsOnWay, OnTheWay, left_at, straight}
use Rattle.wait_leave.proofs.ExitForms.{AskLaw, LawAt, either_awake, if_asked, lawful_exits, out_at_once, out_rested}
use Rattle.wait_leave.proofs.Ways.{way_asked, way_keeps, way_lands, way_stays}
use Rattle.wait_event.specs.{Ends.wait_change, declared.waits.WaitCall.WaitCall, declared.waits.WaitOutcome.WaitOutcome}
use Rattle.wait_event.specs.declared.waits.WaitStage.{WaitStage}
use Rattle.wait_event.specs.WaitLeaves.{EndsWaitUntil, IsAskedWait, IsAwakeOff, IsWaitCause, LeavesWait, out_queues}
use Rattle.wait_event.specs.WaitLeaves.{parted_in, wait_awake, wait_exit, wait_exits, wait_until_in, way_queues}
use Rattle.wait_event.specs.Waits.{IsFreshWait, IsUnset, LeftSo, SameCall, WaitTrailEnd, last_load, wait_table}
use Rattle.wait_event.specs.declared.waits.WaitOutcome.TheVariants as outcome
use Rattle.wait_event.specs.declared.waits.WaitStage.TheVariants as stage
use Rattle.wait_event.proofs.{Endings.wait_behind, Tellings.or_assoc, Tellings.or_none, WaitLaws.wait_lawful}
use Rattle.wait_event.proofs.Behind.{IsBehind, StandsOver, carried_behind, clean_behind, idle_behind, over_behind}
use Rattle.wait_event.proofs.Behind.{owes_behind}

-- the exits: in the hold of the prepare, and before it
asks_law : AskLaw wait_table wait_exits
asks_law = record { same = λ r. refl; fits = λ r f. record { there = f.there; suits = f.suits } }

exit_law : (r : WaitCall) (s : WaitStage) → LawAt wait_table wait_exits r s
exit_law r stage.PrepareLook = out_at_once asks_law refl refl (λ σ s. s) (λ o h. h) (λ old new calm u. tt)
exit_law r stage.PrepareQueue = out_at_once asks_law refl refl (λ σ s. s) (λ o h. h) (λ old new calm u. tt)
exit_law r stage.Test = out_rested asks_law refl refl refl (λ o h. h) (λ old new calm u. tt)
exit_law r stage.Sleep = out_rested asks_law refl refl refl (λ o h. h) (λ old new calm u. tt)
exit_law r s = tt

-- from where it leaves its queue on the program sleeps no more
awake_on : (r : WaitCall) (me : ℕ) (p : Point) (seen : Seen) → wait_awake p ≡ true
    → AwakeOn wait_awake ((wait_table.plan_of r).makes me p seen)
awake_on r me (at.Leave leaving.Queue) seen is =
    either_awake wait_awake (is_some seen.entry) _ _ (refl, refl) (refl, refl)
awake_on r me (at.Leave leaving.Unlock) seen is = (refl, refl)
awake_on r me (at.Leave leaving.Load) seen is =
    either_awake wait_awake (misses r.watch seen.value) _ _ (refl, refl) (refl, refl)
awake_on r me (at.Finish finishing.State false) seen is = (refl, refl)
awake_on r me (at.Finish finishing.Look false) seen is =
    either_awake wait_awake (is_some seen.entry) _ _ (refl, refl) (refl, refl)
awake_on r me (at.Finish finishing.Lock false) seen is = (refl, refl)
awake_on r me (at.Finish finishing.Queue false) seen is =
    either_awake wait_awake (is_some seen.entry) _ _ (refl, refl) (refl, refl)
awake_on r me (at.Finish finishing.Unlock false) seen is = (refl, refl)
awake_on r me p seen is = absurd (cc)

sleeps_out : (r : WaitCall) (s : WaitStage) → wait_table.doing s ≡ doing.Sleep → wait_exit s ≡ None → ⊥
sleeps_out r stage.Sleep here none = absurd (cc)
sleeps_out r s here none = absurd (cc)

pub wait_may_leave : AreLawfulExits wait_table wait_exits
wait_may_leave = lawful_exits wait_table wait_exits exit_law sleeps_out awake_on

-- the cause of an answer
parted : (k : Known) (e : WaitCall) (found : Bool) (b : Bool) → LeftSo b k e found (last_load e) → IsUnset e.watch e.seen
    → IsWaitCause k e.watch e.how e.seen e.queued (parted_in b e found)
parted k e found true l unset = record {
  entry = l.entry;
  ends = l.ends;
  unset = unset;
  selects = ap (λ (b : Bool). e.queued && not b) l.found;
}
parted k e found false l unset = record {
  look = l.look;
  entry = l.entry;
  showed = l.showed;
  ends = l.ends;
  unset = unset;
  selects = ap (λ (b : Bool). e.queued && not b) l.found;
}

cause_of : (k : Known) (e : WaitCall) (o : WaitOutcome) → WaitTrailEnd k e o
    → IsWaitCause k e.watch e.how e.seen e.queued (wait_until_in e o)
cause_of k e outcome.Over set = set
cause_of k e (outcome.Signalled found) u = parted k e found e.asked u.0 u.1
cause_of k e outcome.Worn u = record {
  head = refl;
  noted = u.0.noted;
  seen = e.seen;
  ends = u.0.ends;
  unset = u.1;
}

-- it is the same call, and tells whether it has queued its entry
abbrev asks : Run WaitCall → Run WaitCall
asks m = record m { of = wait_exits.asks m.of }

out_tells : (e u : Turn WaitStage WaitOutcome) (old new : Known) (m q : Run WaitCall)
    → (a : GoesOut wait_table old new (asks m) q e u)
    → q.of.queued ≡ (m.of.queued || out_queues e u old new (asks m) q a)
out_tells (turn.Again s) u old new m q a = a.went.tells.queued
out_tells (turn.Asleep s) u old new m q a = absurd a
out_tells (turn.Locked s) u old new m q a = absurd a
out_tells (turn.Done o) u old new m q a = ap (λ (r : Run WaitCall). r.of.queued) a.same ∙ sym (or_none m.of.queued)

module _ {A : Type 0} {old : Known} {r : Run WaitCall} {s : WaitStage} where
  way_same : (new : Known) (q : Run WaitCall) (u : Turn WaitStage WaitOutcome)
      → OnTheWay A wait_table wait_exits old r s new q u → SameCall r.of q.of
  way_same new q u w = record {
    watch_is = way_stays A wait_table wait_exits (λ (c : WaitCall). c.watch) (λ c n e is. refl)
        (λ k j m p n v a. a.went.tells.same.watch_is) new q u w;
    how = way_stays A wait_table wait_exits (λ (c : WaitCall). c.how) (λ c n e is. refl)
        (λ k j m p n v a. a.went.tells.same.how) new q u w;
  }

  way_tells : (new : Known) (q : Run WaitCall) (u : Turn WaitStage WaitOutcome)
      → (w : OnTheWay A wait_table wait_exits old r s new q u) → q.of.queued ≡ (r.of.queued || way_queues new q u w)
  way_tells _ _ _ (straight new q u a) = a.went.tells.queued
  way_tells _ _ _ (left_at mid m n new q u cause w l) = out_tells l.exit.to u l.rested new m q l.on
      ∙ (ap (λ (b : Bool). b || out_queues l.exit.to u l.rested new (asks m) q l.on)
      (way_tells mid m (turn.Again n) w)
      ∙ or_assoc r.of.queued (way_queues mid m (turn.Again n) w)
      (out_queues l.exit.to u l.rested new (asks m) q l.on))

  way_awake : (new : Known) (q : Run WaitCall) (u : Turn WaitStage WaitOutcome)
      → (w : OnTheWay A wait_table wait_exits old r s new q u) → IsAwakeOff new q u w
  way_awake _ _ _ (straight new q u a) = tt
  way_awake _ _ _ (left_at mid m n new q u cause w l) =
      λ to. l.awake (ap (stays_awake wait_table wait_exits) to)

-- whoever came to the end of such a wait
module _ (A : Type 0) (old new : Known) (r q : Run WaitCall) (s : WaitStage) (o : WaitOutcome)
    (came : OnTheWay A wait_table wait_exits old r s new q (turn.Done o)) where
  over : IsEnded wait_table new q o
  over = way_lands A wait_table wait_exits wait_may_leave wait_lawful old r s new q (turn.Done o) came

  pub left_kept : Keeps (index old.view.number 0) old new
  left_kept = way_keeps A wait_table wait_exits wait_may_leave wait_lawful old r s new q (turn.Done o) came

  behind : IsBehind (λ x. x) old new
  behind = wait_behind old new q o over left_kept

  pub left_over : StandsOver old new
  left_over = over_behind old new behind

  pub left_up : IsUp new
  left_up = over.up

  pub left_idle : (told_of old).mark ≡ None → IsIdle new
  left_idle = idle_behind old new behind

  pub left_carried : IsUp old → IsIdle old → (told_of old).hold.head ≡ None
      → Carries (wait_change (index old.view.number 0) new.at) old new
  left_carried = carried_behind old new behind (owes_behind old new behind)

  pub left_clean : IsClean old → IsTold old → IsClean new
  left_clean clean told = clean_behind old new behind (owes_behind old new behind) clean

  pub left_wait : LeavesWait A old new r s (wait_until_in q.of o)
  left_wait =
      let same = way_same new q (turn.Done o) came in record {
        at = q;
        outcome = o;
        came = came;
        awake = way_awake new q (turn.Done o) came;
        answer = refl;
        same = same;
        tells = way_tells new q (turn.Done o) came;
        cause = subst (λ (h : How). IsWaitCause new r.of.watch h q.of.seen q.of.queued (wait_until_in q.of o)) same.how
            (subst (λ (w : Watch). IsWaitCause new w q.of.how q.of.seen q.of.queued (wait_until_in q.of o))
            same.watch_is (cause_of new q.of o over.trail));
      }

  -- Left for nobody who was not asked
  asked_by : (p : WaitOutcome) → r.of.asked ≡ false → IsAskedWait A (wait_until_in q.of p)
  asked_by outcome.Over unasked = tt
  asked_by outcome.Worn unasked = tt
  asked_by (outcome.Signalled found) unasked = if_asked (λ b. IsAskedWait A (parted_in b q.of found)) q.of.asked
      (way_asked A wait_table wait_exits wait_may_leave wait_lawful old r s new q (turn.Done o) came unasked) tt

  pub left_asked : r.of.asked ≡ false → IsAskedWait A (wait_until_in q.of o)
  left_asked = asked_by o

pub ends_until : (A : Type 0) (old new : Known) (r q : Run WaitCall) (o : WaitOutcome) (w : Watch) (how : How)
    → IsFreshWait r.of w how → OnTheWay A wait_table wait_exits old r stage.First new q (turn.Done o)
    → EndsWaitUntil A old new w how (wait_until_in q.of o)
ends_until A old new r q o w how fresh came = record {
  first = r;
  fresh = fresh;
  leaves = left_wait A old new r q stage.First o came;
  asked = left_asked A old new r q stage.First o came fresh.unasked;
}

pub ends_seen : (A : Type 0) (old new : Known) (r q : Run WaitCall) (o : WaitOutcome) (w : Watch) (how : How)
    (fresh : IsFreshWait r.of w how) (came : OnTheWay A wait_table wait_exits old r stage.First new q (turn.Done o))
    → (ends_until A old new r q o w how fresh came).leaves.at.of.seen ≡ q.of.seen
unfolding ends_until left_wait
ends_seen A old new r q o w how fresh came = refl

-- and whoever had begun owing nothing
pub way_clean : (A : Type 0) (c : Plan) (k : Known) (q : Run WaitCall) (o : WaitOutcome)
    → IsOnWay A wait_table wait_exits c k q (turn.Done o) → IsClean k
way_clean A c k q o i = left_clean A i.old k i.began q i.start o i.came i.clean i.told

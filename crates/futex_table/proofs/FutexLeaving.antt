-- A wait on a futex that its task leaves.
use Rattle.std.proofs.Common.{◌∙◌, ap, refl, subst}
use Rattle.std.specs.Prelude.{ℕ, ◌≡◌, Bool, true, false, is_some, None, Result, [], ◌∷◌}
use Rattle.wait_model.specs.declared.points.FinishPoint.TheVariants as finishing
use Rattle.wait_model.specs.{declared.points.Point.Point, declared.points.Seen.Seen}
use Rattle.wait_model.specs.{declared.tasks.SleepState.SleepState, Tasks.state_mask}
use Rattle.wait_model.specs.declared.points.Point.TheVariants as at
use Rattle.wait_model.specs.declared.steps.Step.TheVariants as step
use Rattle.wait_rule.specs.{Known.Known, Stays.Carries}
use Rattle.wait_rule.specs.Queues.{IsIdle, IsTold, index}
use Rattle.wait_rule.specs.Says.{IsClean, IsUp, told_of}
use Rattle.wait_class.specs.{Posts.IsOut, Posts.Keeps, declared.stages.Run.Run, declared.stages.Turn.Turn}
use Rattle.wait_class.specs.{Tables.IsEnded, Tables.Plan, Wholes.HasRested}
use Rattle.wait_class.specs.declared.stages.Doing.TheVariants as doing
use Rattle.wait_class.specs.declared.stages.Turn.TheVariants as turn
use Rattle.wait_event.specs.Ends.{wait_change}
use Rattle.wait_leave.specs.{declared.exits.Until.Until, ExitLaws.AreLawfulExits, ExitLaws.AwakeOn, Leaves.stays_awake}
use Rattle.wait_leave.specs.Leaves.{with_asked}
use Rattle.wait_leave.specs.OnTheWay.{IsOnWay, OnTheWay, left_at, straight}
use Rattle.wait_leave.specs.declared.exits.Until.TheVariants as until
use Rattle.wait_leave.proofs.ExitForms.{AskLaw, LawAt, either_awake, lawful_exits, out_at_once, out_rested}
use Rattle.wait_leave.proofs.Ways.{way_as, way_asked, way_keeps, way_lands, way_makes, way_plan}
use Rattle.futex_table.specs.{declared.futexes.FutexEnd.FutexEnd, declared.waits.FutexOutcome.FutexOutcome}
use Rattle.futex_table.specs.{declared.waits.FutexStage.FutexStage, declared.waits.FutexWait.FutexWait}
use Rattle.futex_table.specs.{Holding.StayHeld, Holding.holds_mutex}
use Rattle.futex_table.specs.FutexLeaves.{EndsFutexUntil, IsFutexAwake, IsFutexLeftFor, IsFutexUntil, LeavesFutex}
use Rattle.futex_table.specs.FutexLeaves.{futex_awake, futex_exit, futex_exits, futex_until_in}
use Rattle.futex_table.specs.FutexTables.{FutexTrailEnd, HasLeftFutex, IsFreshFutexWait, futex_head, futex_table}
use Rattle.futex_table.specs.declared.waits.FutexOutcome.TheVariants as outcome
use Rattle.futex_table.specs.declared.waits.FutexStage.TheVariants as stage
use Rattle.wait_event.proofs.Behind.{IsBehind, carried_behind, clean_behind, idle_behind, owes_behind}
use Rattle.futex_table.proofs.{FutexLaws.futex_lawful, Mutexing.one_holds, WordSteps.futex_holds}
use Rattle.futex_table.proofs.FutexEndings.{cause, first_is, over_behind, plain_is}
use Rattle.futex_table.proofs.FutexTrails.{loaded_more, stands_from, stands_more}

-- the exits: in the hold of its load, before its sleep, and in the hold that takes its entry off
asks_law : AskLaw futex_table futex_exits
asks_law = record { same = λ r. refl; fits = λ r f. f }

exit_law : (r : FutexWait) (s : FutexStage) → LawAt futex_table futex_exits r s
exit_law r stage.Queue = out_at_once asks_law refl refl (λ σ s. s) (λ o h. h)
    (λ old new calm u. (refl, loaded_more old new r.futex r.expected [] calm u.1))
exit_law r stage.Sleep = out_rested asks_law refl refl refl (λ o h. h) (λ old new calm u. stands_from old new
    (futex_exits.asks r) (step.State (state_mask r.state) ∷ step.Unlock (futex_head r.futex) false ∷ []) _ calm
    (refl, (refl, (refl, tt))) u)
exit_law r (stage.Off false) = out_at_once asks_law refl refl (λ σ s. s) (λ o h. h) (λ old new calm u.
    let v = stands_more old new r [] calm tt u in
    (refl, record { since = v.since; queued = v.queued; unloaded = v.unloaded }))
exit_law r s = tt

-- the program sleeps no more from there on
awake_on : (r : FutexWait) (me : ℕ) (p : Point) (seen : Seen) → futex_awake p ≡ true
    → AwakeOn futex_awake ((futex_table.plan_of r).makes me p seen)
awake_on r me (at.Finish finishing.Queue true) seen is = either_awake futex_awake (is_some seen.entry) _ _
    (refl, refl) (refl, refl)
awake_on r me (at.Finish finishing.Unlock true) seen is = (refl, refl)
awake_on r me p seen is = absurd (cc)

sleeps_out : (r : FutexWait) (s : FutexStage) → futex_table.doing s ≡ doing.Sleep → futex_exit s ≡ None → ⊥
sleeps_out r stage.Sleep here none = absurd (cc)
sleeps_out r s here none = absurd (cc)

pub futex_may_leave : AreLawfulExits futex_table futex_exits
futex_may_leave = lawful_exits futex_table futex_exits exit_law sleeps_out awake_on

-- the answer and its cause
module _ (new : Known) (q : FutexWait) (f v : ℕ) (st : SleepState) (futex : q.futex ≡ f) (expected : q.expected ≡ v)
    (state : q.state ≡ st) where
  until_cause : (o : FutexOutcome) → FutexTrailEnd new q o → IsFutexUntil new f v st (futex_until_in q o)
  until_cause (outcome.Left off) u = record {
    same = expected;
    left = subst (HasLeftFutex new f) expected (subst (λ (n : ℕ). HasLeftFutex new n q.expected) futex u.1);
  }
  until_cause outcome.Over u = cause new q f v st futex expected state outcome.Over (λ off left. absurd (cc)) u
  until_cause outcome.Again u = cause new q f v st futex expected state outcome.Again (λ off left. absurd (cc)) u
  until_cause outcome.Interrupted u =
      cause new q f v st futex expected state outcome.Interrupted (λ off left. absurd (cc)) u
  until_cause outcome.Worn u = cause new q f v st futex expected state outcome.Worn (λ off left. absurd (cc)) u

left_for : (A : Type 0) (k : Known) (q : FutexWait) (o : FutexOutcome) → FutexTrailEnd k q o → (q.asked ≡ true → A)
    → IsFutexLeftFor A (futex_until_in q o)
left_for A k q (outcome.Left off) u asked = asked u.0
left_for A k q outcome.Over u asked = tt
left_for A k q outcome.Again u asked = tt
left_for A k q outcome.Interrupted u asked = tt
left_for A k q outcome.Worn u asked = tt

-- It takes and gives back no mutex.
rest_holds : (old new : Known) (b : Bool) → HasRested old new b → StayHeld old new
rest_holds old new false is m = ap (λ (k : Known). holds_mutex k m) is
rest_holds old new true is m = one_holds m old new (step.State 0) is

way_holds : (A : Type 0) (old : Known) (r : Run FutexWait) (s : FutexStage) (new : Known) (q : Run FutexWait)
    (u : Turn FutexStage FutexOutcome) → OnTheWay A futex_table futex_exits old r s new q u → StayHeld old new
way_holds A old r s = way_makes A futex_table futex_exits futex_may_leave futex_lawful old r s StayHeld
    (λ a b c one more m. more m ∙ one m) rest_holds (λ k new m q n u same a.
    futex_holds m.of.futex m.of.expected m.of.state k.view.number k new _ _ a.went.runs)

-- it does not sleep behind such a hold
pub way_awake : {A : Type 0} {old : Known} {r : Run FutexWait} {s : FutexStage} (new : Known) (q : Run FutexWait)
    (u : Turn FutexStage FutexOutcome) (w : OnTheWay A futex_table futex_exits old r s new q u) → IsFutexAwake new q u w
way_awake _ _ _ (straight new q u a) = tt
way_awake _ _ _ (left_at mid m n new q u why w l) = λ fresh to.
    l.awake (ap (stays_awake futex_table futex_exits) to)

-- for another cause, which comes of this one
asked_as : {A B : Type 0} → (A → B) → (x : Until (Result (Unit {0}) FutexEnd)) → IsFutexLeftFor A x
    → IsFutexLeftFor B x
asked_as f (until.Over end) u = tt
asked_as f (until.Left seen) u = f u

pub until_as : {A B : Type 0} → (A → B) → (old new : Known) (f v : ℕ) (st : SleepState)
    (x : Until (Result (Unit {0}) FutexEnd)) → EndsFutexUntil A old new f v st x → EndsFutexUntil B old new f v st x
until_as by old new f v st x u =
    let l = u.leaves in
    let came = way_as by new l.at (turn.Done l.outcome) l.came in
    record {
      first = u.first;
      fresh = u.fresh;
      leaves = record {
        at = l.at;
        outcome = l.outcome;
        came = came;
        awake = way_awake new l.at (turn.Done l.outcome) came;
        answer = l.answer;
        cause = l.cause;
      };
      asked = asked_as by x u.asked;
    }

module _ {A : Type 0} {old new : Known} {r q : Run FutexWait} {s : FutexStage} {o : FutexOutcome}
    (w : OnTheWay A futex_table futex_exits old r s new q (turn.Done o)) where
  over : IsEnded futex_table new q o
  over = way_lands A futex_table futex_exits futex_may_leave futex_lawful old r s new q (turn.Done o) w

  pub left_kept : Keeps (index old.view.number 0) old new
  left_kept = way_keeps A futex_table futex_exits futex_may_leave futex_lawful old r s new q (turn.Done o) w

  same_plan : with_asked false (futex_table.plan_of q.of) ≡ with_asked false (futex_table.plan_of r.of)
  same_plan = way_plan A futex_table futex_exits futex_may_leave futex_lawful old r s new q (turn.Done o) w

  behind : IsBehind (λ x. x) old new
  behind = over_behind old new q o over left_kept

  pub left_up : IsUp new
  left_up = over.up

  pub left_out : IsOut new
  left_out = behind.out

  pub left_idle : (told_of old).mark ≡ None → IsIdle new
  left_idle = idle_behind old new behind

  pub left_carried : IsUp old → IsIdle old → (told_of old).hold.head ≡ None
      → Carries (wait_change (index old.view.number 0) new.at) old new
  left_carried = carried_behind old new behind (owes_behind old new behind)

  pub left_clean : IsClean old → IsTold old → IsClean new
  left_clean clean told = clean_behind old new behind (owes_behind old new behind) clean

  pub left_held : StayHeld old new
  left_held = way_holds A old r s new q (turn.Done o) w

  pub leaves_futex : LeavesFutex A old new r s (futex_until_in q.of o)
  leaves_futex = record {
    at = q;
    outcome = o;
    came = w;
    awake = way_awake new q (turn.Done o) w;
    answer = refl;
    cause = until_cause new q.of r.of.futex r.of.expected r.of.state
        (plain_is q.of.futex r.of.futex (ap (λ (p : Plan). p.watch) same_plan))
        (first_is q.of.expected r.of.expected (ap (λ (p : Plan). p.numbers) same_plan))
        (ap (λ (p : Plan). p.state) same_plan) o over.trail;
  }

  pub left_asked : r.of.asked ≡ false → IsFutexLeftFor A (futex_until_in q.of o)
  left_asked unasked = left_for A new q.of o over.trail
      (way_asked A futex_table futex_exits futex_may_leave futex_lawful old r s new q (turn.Done o) w unasked)

-- a whole call
pub ends_until : {A : Type 0} {old new : Known} {r q : Run FutexWait} {f v : ℕ} {st : SleepState} {o : FutexOutcome}
    → IsFreshFutexWait r.of f v st → OnTheWay A futex_table futex_exits old r stage.First new q (turn.Done o)
    → EndsFutexUntil A old new f v st (futex_until_in q.of o)
ends_until fresh w = record {
  first = _;
  fresh = fresh;
  leaves = leaves_futex w;
  asked = left_asked w fresh.unasked;
}

-- and whoever had begun owing nothing
pub way_clean : {A : Type 0} {c : Plan} {k : Known} {q : Run FutexWait} {o : FutexOutcome}
    → IsOnWay A futex_table futex_exits c k q (turn.Done o) → IsClean k
way_clean i = left_clean i.came i.clean i.told

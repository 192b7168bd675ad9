-- The program of a wait point by point is that of its call in the model.
use Rattle.std.proofs.Common.{◌∙◌, ap, refl, subst}
use Rattle.std.specs.Prelude.{ℕ, ◌≡◌, Bool, true, false, if◌then◌else◌, is_some, Some}
use Rattle.wait_model.specs.declared.calls.Event.TheVariants as event
use Rattle.wait_model.specs.declared.points.FinishPoint.TheVariants as finishing
use Rattle.wait_model.specs.declared.points.LeavePoint.TheVariants as leaving
use Rattle.wait_model.specs.{declared.points.Next.Next, declared.points.Planned.Planned, declared.points.Point.Point}
use Rattle.wait_model.specs.{declared.points.Seen.Seen, declared.queues.Form.Form, declared.tasks.How.How}
use Rattle.wait_model.specs.{declared.watches.Watch.Watch, Points.given_at, Programs.go, Programs.program}
use Rattle.wait_model.specs.{Tasks.state_mask, Watches.head_of, Watches.kind_for}
use Rattle.wait_model.specs.declared.points.Next.TheVariants as next
use Rattle.wait_model.specs.declared.points.Point.TheVariants as at
use Rattle.wait_model.specs.declared.points.PreparePoint.TheVariants as preparing
use Rattle.wait_model.specs.declared.queues.Form.TheVariants as forms
use Rattle.wait_model.specs.declared.watches.Watch.TheVariants as watch
use Rattle.wait_rule.specs.{Known.Known, Queues.index}
use Rattle.wait_rule.specs.Transitions.{Goes, Program, call_program}
use Rattle.wait_class.specs.{Posts.Runs, Queueing.wait_form, Tables.plan_program}
use Rattle.wait_event.specs.WaitPlans.{IsWaitFor, planned_as_asked, call_for, gives_lock_back, kind_for_point, plan, wait_plan}
use Rattle.wait_event.specs.Waits.{IsRunningWait}
use Rattle.wait_event.specs.declared.waits.WaitCall.{WaitCall}

-- a wait asks for signals
asked_true : (p : Point) (e : Planned) → planned_as_asked true p e ≡ e
asked_true (at.Prepare preparing.Lock) e = refl
asked_true p e = refl

-- for a plain condition
module _ (me c : ℕ) (how : How) where
  plain_plan : (p : Point) (seen : Seen) → plan me (watch.Plain c) how p seen
      ≡ program me (call_for (watch.Plain c) how) p seen
  plain_plan (at.Prepare preparing.Lock) seen = refl
  plain_plan (at.Prepare preparing.Look) seen = refl
  plain_plan (at.Prepare preparing.Queue) seen = refl
  plain_plan (at.Prepare preparing.State) seen = refl
  plain_plan (at.Prepare preparing.Unlock) seen = refl
  plain_plan (at.Leave leaving.Queue) seen = refl
  plain_plan (at.Leave leaving.Unlock) seen = refl
  plain_plan (at.Leave leaving.Load) seen = refl
  plain_plan (at.Finish finishing.State false) seen = refl
  plain_plan (at.Finish finishing.Look false) seen = refl
  plain_plan (at.Finish finishing.Lock false) seen = refl
  plain_plan (at.Finish finishing.Queue false) seen = refl
  plain_plan (at.Finish finishing.Unlock false) seen = refl
  plain_plan p seen = refl

  plain_given : (p : Point) → record (given_at (call_for (watch.Plain c) how) p) {
    watch = watch.Plain c;
    kind = kind_for_point (kind_for (watch.Plain c)) p;
  } ≡ given_at (call_for (watch.Plain c) how) p
  plain_given p = refl

  pub plain_program : plan_program me 0 (wait_plan (watch.Plain c) how) ≡ call_program me 0 (call_for (watch.Plain c) how)
  plain_program i = record {
    plan = λ p seen. (ap (planned_as_asked true p) (plain_plan p seen) ∙ asked_true p (program me (call_for (watch.Plain c) how) p seen)) i;
    given = λ p. plain_given p i;
    own = Some (index me 0);
    form = Some (wait_form how);
  }

-- for a variable
module _ (me v old : ℕ) (how : How) where
  queues_at : Form → Seen → Planned
  queues_at form seen =
      if is_some seen.entry
      then go (event.State (state_mask how.state)) (at.Prepare preparing.Unlock)
      else if seen.worn
      then gives_lock_back (watch.Var v old) (next.Go at.Worn)
      else go (event.Queue (head_of (watch.Var v old)) form) (at.Prepare preparing.State)

  var_plan : (p : Point) (seen : Seen) → how.exclusive ≡ false → plan me (watch.Var v old) how p seen
      ≡ program me (call_for (watch.Var v old) how) p seen
  unfolding queues_at
  var_plan (at.Prepare preparing.Lock) seen front = refl
  var_plan (at.Prepare preparing.Look) seen front = refl
  var_plan (at.Prepare preparing.Queue) seen front = ap (λ (b : Bool). queues_at (if b then forms.Tail
      else forms.Front) seen) front
  var_plan (at.Prepare preparing.State) seen front = refl
  var_plan (at.Prepare preparing.Unlock) seen front = refl
  var_plan (at.Leave leaving.Queue) seen front = refl
  var_plan (at.Leave leaving.Unlock) seen front = refl
  var_plan (at.Leave leaving.Load) seen front = refl
  var_plan (at.Finish finishing.State false) seen front = refl
  var_plan (at.Finish finishing.Look false) seen front = refl
  var_plan (at.Finish finishing.Lock false) seen front = refl
  var_plan (at.Finish finishing.Queue false) seen front = refl
  var_plan (at.Finish finishing.Unlock false) seen front = refl
  var_plan p seen front = refl

  var_given : (p : Point) → record (given_at (call_for (watch.Var v old) how) p) {
    watch = watch.Var v old;
    kind = kind_for_point (kind_for (watch.Var v old)) p;
  } ≡ given_at (call_for (watch.Var v old) how) p
  var_given p = refl

  var_program : how.exclusive ≡ false → plan_program me 0 (wait_plan (watch.Var v old) how)
      ≡ call_program me 0 (call_for (watch.Var v old) how)
  var_program front i = record {
    plan = λ p seen. (ap (planned_as_asked true p) (var_plan p seen front)
        ∙ asked_true p (program me (call_for (watch.Var v old) how) p seen)) i;
    given = λ p. var_given p i;
    own = Some (index me 0);
    form = Some (if front i then forms.Tail else forms.Front);
  }

pub program_is : (me : ℕ) (w : Watch) (how : How) → IsWaitFor w how
    → plan_program me 0 (wait_plan w how) ≡ call_program me 0 (call_for w how)
program_is me (watch.Plain c) how suits = plain_program me c how
program_is me (watch.Var v old) how suits = var_program me v old how suits
program_is me w how suits = absurd suits

-- who went through the one went through the other, by the same events
abbrev pub runs_program : (r : WaitCall) (me : ℕ) (old new : Known) (from to : Next) → IsRunningWait r
    → Runs (plan_program me 0 (wait_plan r.watch r.how)) old new from to
    → Runs (call_program me 0 (call_for r.watch r.how)) old new from to
runs_program r me old new from to runs x = record {
  transitions = x.transitions;
  goes = subst (λ (f : Program). Goes f old from x.transitions new to)
      (program_is me r.watch r.how runs.suits) x.goes;
}

-- The program of a simple wait is that of a wait for its condition whose entry goes to the tail.
use Rattle.std.proofs.Common.{refl}
use Rattle.std.specs.Prelude.{ℕ, ◌≡◌, Bool, true, false, Some}
use Rattle.wait_model.specs.declared.calls.Call.TheVariants as calls
use Rattle.wait_model.specs.declared.points.AddPoint.TheVariants as adding
use Rattle.wait_model.specs.declared.points.AwaitPoint.TheVariants as awaiting
use Rattle.wait_model.specs.declared.points.BitPoint.TheVariants as biting
use Rattle.wait_model.specs.declared.points.CountPoint.TheVariants as counting
use Rattle.wait_model.specs.declared.points.FinishPoint.TheVariants as finishing
use Rattle.wait_model.specs.declared.points.LeavePoint.TheVariants as leaving
use Rattle.wait_model.specs.declared.points.PagePoint.TheVariants as paging
use Rattle.wait_model.specs.{declared.points.Point.Point, declared.points.Seen.Seen}
use Rattle.wait_model.specs.{declared.tasks.SleepState.SleepState, Points.given_at, Programs.active_event}
use Rattle.wait_model.specs.Programs.{program}
use Rattle.wait_model.specs.declared.points.Point.TheVariants as at
use Rattle.wait_model.specs.declared.points.PreparePoint.TheVariants as preparing
use Rattle.wait_model.specs.declared.points.SelectPoint.TheVariants as selecting
use Rattle.wait_model.specs.declared.points.WokenPoint.TheVariants as hearing
use Rattle.wait_model.specs.declared.queues.Form.TheVariants as forms
use Rattle.wait_rule.specs.{Queues.index, Transitions.call_program}
use Rattle.swait_queue.specs.SimpleWaits.{tail_in}

module _ (me c : ℕ) (st : SleepState) where
  same_active : (members : Bool) → active_event (calls.Wait c (tail_in st)) members
      ≡ active_event (calls.SimpleWait c st) members
  same_active true = refl
  same_active false = refl

  same_plan : (p : Point) (seen : Seen) → program me (calls.Wait c (tail_in st)) p seen
      ≡ program me (calls.SimpleWait c st) p seen
  same_plan (at.Prepare preparing.Lock) seen = refl
  same_plan (at.Prepare p) seen = refl
  same_plan (at.Leave leaving.Queue) seen = refl
  same_plan (at.Leave p) seen = refl
  same_plan (at.Finish finishing.State failed) seen = refl
  same_plan (at.Finish p failed) seen = refl
  same_plan (at.Bit biting.Try) seen = refl
  same_plan (at.Bit p) seen = refl
  same_plan (at.Page (paging.Finish finishing.State)) seen = refl
  same_plan (at.Page (paging.Finish p)) seen = refl
  same_plan (at.Page p) seen = refl
  same_plan (at.Add adding.Lock) seen = refl
  same_plan (at.Add p) seen = refl
  same_plan (at.Woken hearing.State) seen = refl
  same_plan (at.Woken p) seen = refl
  same_plan (at.Select selecting.Lock) seen = refl
  same_plan (at.Select p) seen = refl
  same_plan (at.Await (awaiting.Off true)) seen = refl
  same_plan (at.Await (awaiting.Off false)) seen = refl
  same_plan (at.Await (awaiting.Last true)) seen = refl
  same_plan (at.Await (awaiting.Last false)) seen = refl
  same_plan (at.Await p) seen = refl
  same_plan (at.Count counting.Peek) seen = refl
  same_plan (at.Count p) seen = refl
  same_plan at.Active seen = same_active seen.members
  same_plan p seen = refl

  same_given : (p : Point) → given_at (calls.Wait c (tail_in st)) p ≡ given_at (calls.SimpleWait c st) p
  same_given (at.Select selecting.Lock) = refl
  same_given (at.Select p) = refl
  same_given p = refl

  pub same_program : call_program me 0 (calls.Wait c (tail_in st)) ≡ call_program me 0 (calls.SimpleWait c st)
  same_program i = record {
    plan = λ p seen. same_plan p seen i;
    given = λ p. same_given p i;
    own = Some (index me 0);
    form = Some forms.Tail;
  }

-- The programs of the parts of a poll, from the points that they come to.
use Rattle.std.proofs.Common.{refl}
use Rattle.std.specs.Prelude.{ℕ, ◌≡◌, ◌<◌, Bool, true, false, if◌then◌else◌, is_some}
use Rattle.wait_model.specs.{declared.layout.TheConstants.FIRST_DONE_HEAD, declared.points.Next.Next}
use Rattle.wait_model.specs.{declared.points.Planned.Planned, declared.points.Point.Point, declared.points.Seen.Seen}
use Rattle.wait_model.specs.{declared.tasks.How.How, declared.watches.Kind.Kind, declared.watches.Watch.Watch}
use Rattle.wait_model.specs.{Tasks.state_mask, Watches.head_of}
use Rattle.wait_model.specs.Programs.{ends_with, go, zero_answer}
use Rattle.wait_model.specs.declared.calls.Answer.TheVariants as answer
use Rattle.wait_model.specs.declared.calls.Event.TheVariants as event
use Rattle.wait_model.specs.declared.points.FinishPoint.TheVariants as finishing
use Rattle.wait_model.specs.declared.points.Next.TheVariants as next
use Rattle.wait_model.specs.declared.points.Point.TheVariants as at
use Rattle.wait_model.specs.declared.points.PreparePoint.TheVariants as preparing
use Rattle.wait_model.specs.declared.queues.Form.TheVariants as forms
use Rattle.wait_rule.specs.Transitions.{Program}
use Rattle.wait_class.specs.Queueing.{wait_form}
use Rattle.wait_event.specs.Prepares.{finish_program, prepare_program}
use Rattle.wait_event.specs.WaitPlans.{gives_lock_back, prepares_alone}
use Rattle.poll_wait.specs.Seconds.{join_program, leave_program}
use Rattle.poll_wait.proofs.Near.{IsNear}

-- of a prepare without a look for a signal, and of the add of the second entry
abbrev pub OnPrepare : Next → Type 0
OnPrepare (next.Go (at.Prepare preparing.Look)) = ⊥
OnPrepare (next.Go (at.Prepare p)) = Unit {0}
OnPrepare (next.Go p) = ⊥
OnPrepare (next.Ends a) = Unit {0}

-- the events where the entry is looked at, by whether it is queued and whether a place is left
abbrev prepare_queue : Watch → How → Bool → Bool → Planned
prepare_queue w how b c = if b
    then go (event.State (state_mask how.state)) (at.Prepare preparing.Unlock)
    else if c
    then gives_lock_back w (next.Go at.Worn)
    else go (event.Queue (head_of w) (wait_form how)) (at.Prepare preparing.State)

abbrev join_queue : Watch → Bool → Bool → Planned
join_queue w b c = if b
    then gives_lock_back w (next.Ends zero_answer)
    else if c
    then gives_lock_back w (next.Ends answer.Worn)
    else go (event.Queue (head_of w) forms.Front) (at.Prepare preparing.Unlock)

module _ (me : ℕ) (w : Watch) (low : head_of w < FIRST_DONE_HEAD) where
  pub prepare_near : (k : Kind) (how : How) (p : Point) → OnPrepare (next.Go p) → (seen : Seen)
      → IsNear ((prepare_program false me w k how).given p) ((prepare_program false me w k how).plan p seen).event
      × OnPrepare ((prepare_program false me w k how).plan p seen).next
  prepare_near k how (at.Prepare preparing.Lock) on seen = (tt, tt)
  prepare_near k how (at.Prepare preparing.Look) on seen = absurd on
  prepare_near k how (at.Prepare preparing.Queue) on seen = by (is_some seen.entry) seen.worn
    where
      by : (b c : Bool) → IsNear ((prepare_program false me w k how).given (at.Prepare preparing.Queue))
          (prepares_alone (prepare_queue w how b c)).event × OnPrepare (prepares_alone (prepare_queue w how b c)).next
      by true c = (tt, tt)
      by false true = (tt, tt)
      by false false = (low, tt)
  prepare_near k how (at.Prepare preparing.State) on seen = (tt, tt)
  prepare_near k how (at.Prepare preparing.Unlock) on seen = (tt, tt)
  prepare_near k how p on seen = absurd on

  pub join_near : (p : Point) → OnPrepare (next.Go p) → (seen : Seen)
      → IsNear ((join_program me w).given p) ((join_program me w).plan p seen).event
      × OnPrepare ((join_program me w).plan p seen).next
  join_near (at.Prepare preparing.Lock) on seen = (tt, tt)
  join_near (at.Prepare preparing.Look) on seen = absurd on
  join_near (at.Prepare preparing.Queue) on seen = by (is_some seen.entry) seen.worn
    where
      by : (b c : Bool) → IsNear ((join_program me w).given (at.Prepare preparing.Queue)) (join_queue w b c).event
          × OnPrepare (join_queue w b c).next
      by true c = (tt, tt)
      by false true = (tt, tt)
      by false false = (low, tt)
  join_near (at.Prepare preparing.State) on seen = (tt, tt)
  join_near (at.Prepare preparing.Unlock) on seen = (tt, tt)
  join_near p on seen = absurd on

-- of a finish
abbrev pub OnFinish : Next → Type 0
OnFinish (next.Go (at.Finish p false)) = Unit {0}
OnFinish (next.Go p) = ⊥
OnFinish (next.Ends a) = Unit {0}

module _ (me : ℕ) (w : Watch) where
  finish_plan_near : (f : Program) → f.plan ≡ (finish_program me w).plan → (p : Point) → OnFinish (next.Go p)
      → (seen : Seen) → IsNear (f.given p) ((finish_program me w).plan p seen).event
      × OnFinish ((finish_program me w).plan p seen).next
  finish_plan_near f is (at.Finish finishing.State false) on seen = (tt, tt)
  finish_plan_near f is (at.Finish finishing.Look false) on seen = by (is_some seen.entry)
    where
      by : (b : Bool) → IsNear (f.given (at.Finish finishing.Look false)) (if b
          then go (event.Queued true) (at.Finish finishing.Lock false)
          else ends_with (event.Queued false) zero_answer).event
          × OnFinish (if b
          then go (event.Queued true) (at.Finish finishing.Lock false)
          else ends_with (event.Queued false) zero_answer).next
      by true = (tt, tt)
      by false = (tt, tt)
  finish_plan_near f is (at.Finish finishing.Lock false) on seen = (tt, tt)
  finish_plan_near f is (at.Finish finishing.Queue false) on seen = by (is_some seen.entry)
    where
      by : (b : Bool) → IsNear (f.given (at.Finish finishing.Queue false)) (if b
          then go (event.Unqueue me) (at.Finish finishing.Unlock false)
          else gives_lock_back w (next.Ends zero_answer)).event
          × OnFinish (if b
          then go (event.Unqueue me) (at.Finish finishing.Unlock false)
          else gives_lock_back w (next.Ends zero_answer)).next
      by true = (tt, tt)
      by false = (tt, tt)
  finish_plan_near f is (at.Finish finishing.Unlock false) on seen = (tt, tt)
  finish_plan_near f is p on seen = absurd on

  pub finish_near : (p : Point) → OnFinish (next.Go p) → (seen : Seen)
      → IsNear ((finish_program me w).given p) ((finish_program me w).plan p seen).event
      × OnFinish ((finish_program me w).plan p seen).next
  finish_near = finish_plan_near (finish_program me w) refl

  pub leave_near : (p : Point) → OnFinish (next.Go p) → (seen : Seen)
      → IsNear ((leave_program me w).given p) ((leave_program me w).plan p seen).event
      × OnFinish ((leave_program me w).plan p seen).next
  leave_near = finish_plan_near (leave_program me w) refl

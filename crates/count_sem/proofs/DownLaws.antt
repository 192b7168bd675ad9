-- The table of a `down` keeps its laws.
use Rattle.std.proofs.Common.{◌∙◌, ap, sym, refl, arith, append_assoc}
use Rattle.std.specs.Prelude.{ℕ, ◌≡◌, ◌≤◌, ◌||◌, Bool, true, false, if◌then◌else◌, Some, None, [], ◌∷◌, ◌++◌}
use Rattle.wait_model.specs.declared.points.FinishPoint.TheVariants as finishing
use Rattle.wait_model.specs.declared.points.Next.TheVariants as next
use Rattle.wait_model.specs.declared.points.Point.TheVariants as at
use Rattle.wait_model.specs.declared.points.PreparePoint.TheVariants as preparing
use Rattle.wait_model.specs.declared.steps.Step.TheVariants as step
use Rattle.wait_model.specs.Tasks.{state_mask}
use Rattle.wait_rule.specs.{Known.Known, Queues.walk_of_hold, Says.history_of, Stays.with_left_entry}
use Rattle.wait_rule.specs.{Transitions.StepOrLook, Transitions.Transition}
use Rattle.wait_class.specs.Posts.{own_of}
use Rattle.wait_class.specs.Laws.{Calm, IsLawfulCallTable, LawOf, LookLaw, PareLaw, QueueLaw}
use Rattle.wait_class.specs.declared.stages.Turn.TheVariants as turn
use Rattle.wait_class.proofs.{Histories.unmoved_by, Stays.stays_but}
use Rattle.wait_class.proofs.Holds.{draw_by, give_by, lock_by, pare_by, queue_by, state_by, unlock_by}
use Rattle.wait_class.proofs.Ways.{look_by, sleep_by, way}
use Rattle.wait_event.specs.Waits.{is_queue, has_queued_in}
use Rattle.wait_event.proofs.Tellings.{or_none, queues_append, quiet_queues}
use Rattle.completion_cell.proofs.{AwaitAdds.QueuesAtCell, AwaitLaws.joined_knows, AwaitLaws.or_yes}
use Rattle.completion_cell.proofs.WaitFronts.{waits_may_end}
use Rattle.completion_cell.proofs.AwaitTrails.{first_begun, knows_look, knows_looks, knows_none, knows_off, knows_saw}
use Rattle.completion_cell.proofs.AwaitTrails.{knows_state, knows_stayed}
use Rattle.completion_cell.proofs.Ground.{count_after_step, head_there, looked_count}
use Rattle.count_sem.specs.{declared.downs.DownCall.DownCall, declared.downs.DownStage.DownStage}
use Rattle.count_sem.specs.Downs.{DownTells, GaveBack, down_depth, down_doing, down_head, down_table}
use Rattle.count_sem.specs.declared.downs.DownStage.TheVariants as stage
use Rattle.count_sem.proofs.DownTrails.{gave_back, left_given, left_none, left_taken, lock_walk, out_signal, still_down}
use Rattle.count_sem.proofs.DownTrails.{zero_on}

-- what the run tells
pub told_by : (r q : DownCall) (x : Transition) → q.cell ≡ r.cell → q.state ≡ r.state → q.queued ≡ r.queued
    → is_queue x.did ≡ false → DownTells r q (x ∷ [])
told_by r q x cell state queued none = record {
  cell = cell;
  state = state;
  queued = queued ∙ sym (ap (λ (b : Bool). r.queued || (b || false)) none ∙ or_none r.queued);
}

-- its entry is queued at the tail of the semaphore's head
pub down_queues : (r : DownCall) → QueuesAtCell down_table r stage.Queue r.cell
down_queues r = record { form = refl; entry = λ place. refl; about = refl; keeps = λ old new k. k }

module _ (r : DownCall) where
  -- a hold that found 0
  look_law : (hit : Bool) → LookLaw down_table r stage.Look hit
  look_law true = look_by down_table r stage.Look refl true
      (way down_table r stage.Look r (turn.Again stage.LeaveQueue) refl refl refl refl refl (λ σ s. s) (λ o h. h))
      (λ w me is. ap (λ (c : Bool). next.Go (if c then at.Finish finishing.Queue true else at.Prepare preparing.Queue))
      is)
      (λ w me k. tt) (λ w me k. (refl, tt, tt)) (λ old new w is c u. (
        knows_look r.cell old new 0 w c u.0,
        out_signal r.asked new r w is (zero_on old new r [] (step.Look w ∷ []) c u.1),
      ))
  look_law false = look_by down_table r stage.Look refl false
      (way down_table r stage.Look r (turn.Again stage.Queue) refl refl refl refl refl (λ σ s. s) (λ o h. h))
      (λ w me is. ap (λ (c : Bool). next.Go (if c then at.Finish finishing.Queue true else at.Prepare preparing.Queue))
      is)
      (λ w me k. tt) (λ w me k. (refl, tt, tt)) (λ old new w is c u. (
        knows_look r.cell old new 0 w c u.0,
        record { look = Some w; zero = zero_on old new r [] (step.Look w ∷ []) c u.1 },
      ))

  queue_law : QueueLaw down_table r stage.Queue
  queue_law = queue_by down_table r stage.Queue refl refl refl refl refl (λ e me. refl) (λ o h. h)
      (λ old new w c queued u. knows_stayed r.cell old new 0 (own_of old) w (state_mask r.state) c u.0) refl refl
      (λ me. refl) refl (λ f. f) (λ σ s. s) (λ e h. h) (λ x i e did. record {
        cell = refl;
        state = refl;
        queued = sym (ap (λ (d : StepOrLook). r.queued || (is_queue d || false)) did ∙ or_yes r.queued);
      }) (λ old mid new looks x u. joined_knows down_table r stage.Queue r.cell old mid new looks x u.0) tt (λ me. refl) (λ p. refl) (λ p σ s. s)
      (λ p. tt) (λ old last fits looks at u. knows_none r.cell last at (knows_looks r.cell old last 0 looks u.0))
      (λ old last new p looks noted is u. (
        (history_of last, is),
        record {
          noted = noted;
          zero = count_after_step r.cell last new (step.Unlock (down_head r) false) is
              ∙ (looked_count r.cell old last looks ∙ u.0.counts.0);
        },
      ))

  -- a hold that found a signal, or that it was asked to leave
  pare_leave : PareLaw down_table r stage.LeaveQueue
  pare_leave = pare_by down_table r stage.LeaveQueue refl refl refl refl (λ e me. refl) (λ me k e ok. (tt, ok, refl))
      (λ σ s. s) tt
      (λ old new w c queued u. (knows_off r.cell old new 0 w c u.0, left_taken old new r w u.1 c queued))
      (give_by down_table r stage.LeaveQueue tt refl (λ me. refl) (λ me k shows. (tt, shows, tt)) (λ σ s. s) tt
      (λ old mid w c fits at u. knows_none r.cell mid at (knows_saw r.cell old mid 0 (own_of old) w c u.0))
      (λ old new w c none u. (ends_with_unlock old new w c, left_none old new r w u.1 c none)))
    where
      ends_with_unlock : (old new : Known) (w : ℕ)
          → Calm (step.Saw (own_of old) w ∷ step.Unlock (down_head r) false ∷ []) old new → GaveBack new r
      ends_with_unlock old new w c = (
        history_of old ++ step.Saw (own_of old) w ∷ [],
        c.history ∙ sym (append_assoc (history_of old) (step.Saw (own_of old) w ∷ [])
            (step.Unlock (down_head r) false ∷ [])),
      )

  laws_at : (s : DownStage) → LawOf (down_doing s) down_table r s
  laws_at stage.First = draw_by down_table r stage.First refl (λ k u. u)
  laws_at stage.FirstTurn = lock_by down_table r stage.FirstTurn refl refl refl (λ me. refl) (λ me k x. (tt, tt, tt))
      (λ σ s. s) (λ o h. h)
      (λ old new x c u. (first_begun r.cell old new (walk_of_hold (down_head r) None) x c u.0, u.1))
  laws_at stage.FirstLoad = tt
  laws_at stage.Again = draw_by down_table r stage.Again refl (λ k u. u)
  laws_at stage.AgainTurn = lock_by down_table r stage.AgainTurn refl refl refl (λ me. refl) (λ me k x. (tt, tt, tt))
      (λ σ s. s) (λ o h. h) (λ old new x c u. (
        (walk_of_hold (down_head r) None, x, (history_of old, c.history)),
        lock_walk old new r.cell x c,
      ))
  laws_at stage.AgainLoad = tt
  laws_at stage.Look = λ hit. look_law hit
  laws_at stage.Queue = queue_law
  laws_at stage.State = state_by down_table r stage.State refl refl refl refl (λ me. refl) (λ me k. (tt, tt, tt))
      (λ o h. h) (λ old new c u. knows_state r.cell old new 0 (state_mask r.state) c u)
  laws_at stage.Unlock = unlock_by down_table r stage.Unlock refl refl refl (λ me. refl) (λ me k. (tt, tt, tt))
      (λ σ s. s) (λ o h. h) (λ old new c u. tt) (λ k fits at u. knows_none r.cell k at u)
  laws_at stage.Sleep = sleep_by down_table r stage.Sleep refl stage.Again refl refl refl refl refl refl (λ o h. h)
      (λ w me. refl) (λ w me k. tt) (λ w me k. (refl, tt, tt)) (λ old new w c u. tt)
  laws_at stage.LeaveQueue = pare_leave
  laws_at stage.LeaveUnlock = unlock_by down_table r stage.LeaveUnlock refl tt refl (λ me. refl) (λ me k. (tt, tt, tt))
      (λ σ s. s) (λ o h. h) (λ old new c u. (gave_back old new r c, left_given old new r c u.1))
      (λ k fits at u. knows_none r.cell k at u.0)
  laws_at stage.TakeQueue = tt
  laws_at stage.TakeStore = tt
  laws_at stage.TakeUnlock = unlock_by down_table r stage.TakeUnlock refl tt refl (λ me. refl) (λ me k. (tt, tt, tt))
      (λ σ s. s) (λ o h. h) (λ old new c u. gave_back old new r c) (λ k fits at u. waits_may_end r.cell k u.0 at u.1)

depth_most : (s : DownStage) → down_depth s ≤ 6
depth_most stage.Look = omega arith
depth_most s = omega arith

pub down_lawful : IsLawfulCallTable down_table
down_lawful = record {
  keeps = stays_but with_left_entry;
  tells = record {
    none = λ r. record { cell = refl; state = refl; queued = sym (or_none r.queued) };
    on = λ r q w ts us a b. record {
      cell = b.cell ∙ a.cell;
      state = b.state ∙ a.state;
      queued = b.queued ∙ (ap (λ (c : Bool). c || has_queued_in us) a.queued ∙ queues_append r.queued ts us);
    };
    quiet = λ r x quiet. told_by r r x refl refl refl (quiet_queues x.did quiet);
  };
  worn_tells = λ r p x quiet. told_by r (record r { place = p }) x refl refl refl (quiet_queues x.did quiet);
  at = laws_at;
  still = λ old new r s c u. still_down old new (unmoved_by old new c) r s u;
  rises = λ old new r s place still u. still_down old new still r s u;
  worn = λ r p. refl;
  worn_fits = λ r p fits. fits;
  there = λ r s fits. fits;
  few = λ r s fits. head_there r.cell fits;
  depth = depth_most;
}

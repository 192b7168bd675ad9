-- The table of a wait for a completion keeps its laws.
use Rattle.std.proofs.Common.{◌∙◌, ap, sym, refl, subst, arith}
use Rattle.std.specs.Prelude.{ℕ, ◌≡◌, ◌≤◌, ◌||◌, Bool, true, false, if◌then◌else◌, None, [], ◌∷◌}
use Rattle.wait_model.specs.declared.points.AwaitPoint.TheVariants as awaiting
use Rattle.wait_model.specs.declared.points.Next.TheVariants as next
use Rattle.wait_model.specs.declared.points.Point.TheVariants as at
use Rattle.wait_model.specs.declared.points.PreparePoint.TheVariants as preparing
use Rattle.wait_model.specs.declared.steps.Step.TheVariants as step
use Rattle.wait_model.specs.declared.watches.Watch.TheVariants as watch
use Rattle.wait_model.specs.{Runs.own, Tasks.state_mask}
use Rattle.wait_rule.specs.{Known.Known, Queues.index, Queues.walk_of_hold, Says.history_of, Stays.with_left_entry}
use Rattle.wait_rule.specs.Transitions.{OnlyLooks, StepOrLook, Transition}
use Rattle.wait_rule.proofs.KnownLaws.Transitions.{only_looked}
use Rattle.wait_class.specs.{Posts.own_of, Tables.CallTable}
use Rattle.wait_class.specs.Laws.{HasJoined, IsLawfulCallTable, LawOf, LookLaw, QueueLaw}
use Rattle.wait_class.specs.declared.stages.Turn.TheVariants as turn
use Rattle.wait_class.proofs.Histories.{ends_calm, stored_history, unmoved_by}
use Rattle.wait_class.proofs.Holds.{draw_by, lock_by, queue_by, running_by, state_by, unlock_by}
use Rattle.wait_class.proofs.Stays.{stays_but}
use Rattle.wait_class.proofs.Ways.{look_by, sleep_by, way}
use Rattle.wait_event.specs.Waits.{is_queue, has_queued_in}
use Rattle.wait_event.proofs.Tellings.{or_none, queues_append, quiet_queues}
use Rattle.completion_cell.specs.{HeldPermits.Knows, LoadedCounts.InRange, declared.awaits.AwaitCall.AwaitCall}
use Rattle.completion_cell.specs.declared.awaits.AwaitStage.{AwaitStage}
use Rattle.completion_cell.specs.Awaits.{AwaitTells, await_head, await_table, await_depth, await_doing}
use Rattle.completion_cell.specs.declared.awaits.AwaitStage.TheVariants as stage
use Rattle.completion_cell.proofs.{RangedLoads.quiet_ranged, RangedLoads.ranged_on, WaitFronts.waits_may_end}
use Rattle.completion_cell.proofs.AwaitTrails.{first_begun, gives_back, knows_by, knows_look, knows_looks, knows_none}
use Rattle.completion_cell.proofs.AwaitTrails.{knows_state, knows_stayed, knows_for, leaves_calm, leaves_for, still_by}
use Rattle.completion_cell.proofs.Ground.{count_after_step, head_there, looked_count}

-- what the run tells
pub told_by : (r q : AwaitCall) (x : Transition) → q.cell ≡ r.cell → q.state ≡ r.state → q.queued ≡ r.queued
    → is_queue x.did ≡ false → InRange x.did → AwaitTells r q (x ∷ [])
told_by r q x cell state queued none ranged = record {
  cell = cell;
  state = state;
  queued = queued ∙ sym (ap (λ (b : Bool). r.queued || (b || false)) none ∙ or_none r.queued);
  ranged = (ranged, tt);
}

pub or_yes : (b : Bool) → (b || (true || false)) ≡ true
or_yes true = refl
or_yes false = refl

-- the own entry is queued, where the count is known to be 0
pub joined_knows : {C S O : Type 0} (t : CallTable C S O) (r : C) (s : S) (d : ℕ) (old mid new : Known) → OnlyLooks old mid
    → HasJoined t r s mid new → Knows old d 0 → Knows new d 0
joined_knows t r s d old mid new looks x u =
    let known = knows_looks d mid x.seen 0 (only_looked mid x.seen x.looks.items x.looks.same x.looks.looks x.looks.is)
    (knows_looks d old mid 0 looks u) in
    let same : index mid.view.number 0 ≡ own x.seen.view.number =
    ap (λ (k : Known). index k.view.number 0) (sym x.looks.is) ∙ omega arith in
    knows_by d x.seen new 0 (step.Queue (index mid.view.number 0) x.entry ∷ [])
    (stored_history x.seen new (step.Queue (index mid.view.number 0) x.entry) x.is)
    (ap (λ (k : Known). k.view.number) x.is) (λ k. ((same, refl), (refl, refl))) refl known

module _ (r : AwaitCall) where
  -- a hold that found 0
  look_law : (hit : Bool) → LookLaw await_table r stage.Look hit
  look_law true = look_by await_table r stage.Look refl true
      (way await_table r stage.Look r (turn.Again stage.LeaveState) refl refl refl refl refl (λ σ s. s) (λ o h. h))
      (λ w me is. ap (λ (c : Bool). next.Go (if c then at.Await (awaiting.Run true) else at.Prepare preparing.Queue))
      is)
      (λ w me k. tt) (λ w me k. (refl, tt, tt)) (λ old new w is c u. leaves_for new r [] (record {
        word = w;
        pends = is;
        ends = ends_calm old new (step.Load (watch.Done r.cell) 0 ∷ []) (step.Look w ∷ []) c u.1;
        knows = knows_look r.cell old new 0 w c u.0;
      }) r.asked)
  look_law false = look_by await_table r stage.Look refl false
      (way await_table r stage.Look r (turn.Again stage.Queue) refl refl refl refl refl (λ σ s. s) (λ o h. h))
      (λ w me is. ap (λ (c : Bool). next.Go (if c then at.Await (awaiting.Run true) else at.Prepare preparing.Queue))
      is)
      (λ w me k. tt) (λ w me k. (refl, tt, tt)) (λ old new w is c u. knows_look r.cell old new 0 w c u.0)

  queue_law : QueueLaw await_table r stage.Queue
  queue_law = queue_by await_table r stage.Queue refl refl refl refl refl (λ e me. refl) (λ o h. h)
      (λ old new w c queued u. knows_stayed r.cell old new 0 (own_of old) w (state_mask r.state) c u) refl refl
      (λ me. refl) refl (λ f. f) (λ σ s. s) (λ e h. h) (λ x i e did. record {
        cell = refl;
        state = refl;
        queued = sym (ap (λ (d : StepOrLook). r.queued || (is_queue d || false)) did ∙ or_yes r.queued);
        ranged = (subst InRange (sym did) tt, tt);
      }) (joined_knows await_table r stage.Queue r.cell) tt (λ me. refl) (λ p. refl) (λ p σ s. s) (λ p. tt)
      (λ old last fits looks at u. knows_none r.cell last at (knows_looks r.cell old last 0 looks u))
      (λ old last new p looks noted is u. (
        (history_of last, is),
        record {
          noted = noted;
          zero = count_after_step r.cell last new (step.Unlock (await_head r) false) is
              ∙ (looked_count r.cell old last looks ∙ u.counts.0);
        },
      ))

  laws_at : (s : AwaitStage) → LawOf (await_doing s) await_table r s
  laws_at stage.First = draw_by await_table r stage.First refl (λ k u. u)
  laws_at stage.FirstTurn = lock_by await_table r stage.FirstTurn refl refl refl (λ me. refl) (λ me k x. (tt, tt, tt))
      (λ σ s. s) (λ o h. h) (λ old new x c u. first_begun r.cell old new (walk_of_hold (await_head r) None) x c u)
  laws_at stage.FirstLoad = tt
  laws_at stage.Again = draw_by await_table r stage.Again refl (λ k u. u)
  laws_at stage.AgainTurn = lock_by await_table r stage.AgainTurn refl refl refl (λ me. refl) (λ me k x. (tt, tt, tt))
      (λ σ s. s) (λ o h. h) (λ old new x c u. (walk_of_hold (await_head r) None, x, (history_of old, c.history)))
  laws_at stage.AgainLoad = tt
  laws_at stage.Look = λ hit. look_law hit
  laws_at stage.Queue = queue_law
  laws_at stage.State = state_by await_table r stage.State refl refl refl refl (λ me. refl) (λ me k. (tt, tt, tt))
      (λ o h. h) (λ old new c u. knows_state r.cell old new 0 (state_mask r.state) c u)
  laws_at stage.Unlock = unlock_by await_table r stage.Unlock refl refl refl (λ me. refl) (λ me k. (tt, tt, tt))
      (λ σ s. s) (λ o h. h) (λ old new c u. tt) (λ k fits at u. knows_none r.cell k at u)
  laws_at stage.Sleep = sleep_by await_table r stage.Sleep refl stage.Again refl refl refl refl refl refl (λ o h. h)
      (λ w me. refl) (λ w me k. tt) (λ w me k. (refl, tt, tt)) (λ old new w c u. tt)
  laws_at stage.LeaveState = running_by await_table r stage.LeaveState refl refl refl (λ me. refl)
      (λ me k. (tt, tt, tt)) (λ o h. h) (λ old new c u. leaves_calm old new r [] (step.State 0 ∷ []) r.asked c
      (knows_state r.cell old new 0 0 c (knows_for old r [] r.asked u)) u)
  laws_at stage.LeaveQueue = tt
  laws_at stage.LeaveUnlock = tt
  laws_at stage.TakeState = running_by await_table r stage.TakeState refl refl refl (λ me. refl) (λ me k. (tt, tt, tt))
      (λ o h. h) (λ old new c u. (knows_state r.cell old new r.count 0 c u.0, u.1))
  laws_at stage.TakeQueue = tt
  laws_at stage.TakeStore = tt
  laws_at stage.TakeUnlock = unlock_by await_table r stage.TakeUnlock refl tt refl (λ me. refl) (λ me k. (tt, tt, tt))
      (λ σ s. s) (λ o h. h) (λ old new c u. gives_back old new r c)
      (λ k fits at u. waits_may_end r.cell k u.0 at u.1)

depth_most : (s : AwaitStage) → await_depth s ≤ 6
depth_most stage.Look = omega arith
depth_most s = omega arith

pub await_lawful : IsLawfulCallTable await_table
await_lawful = record {
  keeps = stays_but with_left_entry;
  tells = record {
    none = λ r. record { cell = refl; state = refl; queued = sym (or_none r.queued); ranged = tt };
    on = λ r q w ts us a b. record {
      cell = b.cell ∙ a.cell;
      state = b.state ∙ a.state;
      queued = b.queued ∙ (ap (λ (c : Bool). c || has_queued_in us) a.queued ∙ queues_append r.queued ts us);
      ranged = ranged_on ts us a.ranged b.ranged;
    };
    quiet = λ r x quiet. told_by r r x refl refl refl (quiet_queues x.did quiet) (quiet_ranged x.did quiet);
  };
  worn_tells = λ r p x quiet. told_by r (record r { place = p }) x refl refl refl (quiet_queues x.did quiet)
      (quiet_ranged x.did quiet);
  at = laws_at;
  still = λ old new r s c u. still_by old new (unmoved_by old new c) r s u;
  rises = λ old new r s place still u. still_by old new still r s u;
  worn = λ r p. refl;
  worn_fits = λ r p fits. fits;
  there = λ r s fits. fits;
  few = λ r s fits. head_there r.cell fits;
  depth = depth_most;
}

-- The table of a wait keeps the laws.
use Rattle.std.proofs.Common.{◌∙◌, ap, refl, inl, arith}
use Rattle.std.specs.Prelude.{ℕ, ◌≡◌, ◌≤◌, Bool, true, false, if◌then◌else◌, is_some, Option, Some, None}
use Rattle.wait_model.specs.declared.calls.Answer.TheVariants as answer
use Rattle.wait_model.specs.{declared.calls.Event.Event, declared.watches.Entry.Entry, Tasks.looks_in}
use Rattle.wait_model.specs.Programs.{ends_with, go, signalled, zero_answer}
use Rattle.wait_model.specs.Watches.{head_of, misses, number_of}
use Rattle.wait_model.specs.declared.calls.Event.TheVariants as event
use Rattle.wait_model.specs.declared.points.FinishPoint.TheVariants as finishing
use Rattle.wait_model.specs.declared.points.LeavePoint.TheVariants as leaving
use Rattle.wait_model.specs.declared.points.Next.TheVariants as next
use Rattle.wait_model.specs.declared.points.Point.TheVariants as at
use Rattle.wait_model.specs.declared.points.PreparePoint.TheVariants as preparing
use Rattle.wait_rule.specs.{HandedPermits.OwesNoPermit, Known.Known, Queues.index, Says.history_of, Says.told_of}
use Rattle.wq_head.proofs.PermitHeads.{owes_low}
use Rattle.wait_class.specs.declared.stages.Turn.TheVariants as turn
use Rattle.wait_class.specs.Laws.{IsLawfulCallTable, LawOf, LoadLaw, LockLaw, LookLaw, PeekLaw, QueueLaw}
use Rattle.wait_class.proofs.{Ground.Standing.home_waits, Stays.wait_stays, Histories.found_calm}
use Rattle.wait_class.proofs.Holds.{LockWay, draw_by, give_by, lock_by, lock_to, lock_way, pare_by, peek_by, queue_by}
use Rattle.wait_class.proofs.Holds.{running_by, state_by, unlock_by}
use Rattle.wait_class.proofs.Ways.{go_if, load_fork, look_by, sleep_by, way}
use Rattle.wait_event.specs.{declared.waits.WaitCall.WaitCall, declared.waits.WaitStage.WaitStage}
use Rattle.wait_event.specs.Waits.{IsRunningWait, depth, wait_doing, looks_first, wait_loaded_to, wait_table, last_load}
use Rattle.wait_event.specs.declared.waits.WaitOutcome.TheVariants as outcome
use Rattle.wait_event.specs.declared.waits.WaitStage.TheVariants as stage
use Rattle.wait_event.proofs.PermitHeads.{run_low}
use Rattle.wait_event.proofs.Tellings.{joined_told, loaded_told, quiet_told, wait_told}
use Rattle.wait_event.proofs.WaitTrails.{finds_off, gives_back, left_loads, signal_seen, takes_entry, trail_rises}
use Rattle.wait_event.proofs.WaitTrails.{trail_still, unset_by}

module _ (r : WaitCall) where
  low : (k : Known) → IsRunningWait r → k.at ≡ head_of r.watch → OwesNoPermit k
  low k runs at = owes_low k (head_of r.watch) at (run_low r runs)

  -- the loads
  module _ (v : ℕ) where
    abbrev e : Event
    e = event.Load (number_of r.watch) v

    abbrev q : WaitCall
    q = record r { seen = v }

    abbrev b : Bool
    b = misses r.watch v

    pub first_law : LoadLaw wait_table r stage.First v q (wait_loaded_to r stage.First v)
    first_law = load_fork wait_table r stage.First refl v q b (turn.Again stage.PrepareLock) (turn.Done outcome.Over)
        (go e (at.Prepare preparing.Lock)) (ends_with e zero_answer) e refl
        (λ f. record { there = f.there; suits = f.suits }) (loaded_told r v) (λ me. refl) (refl, refl) (refl, refl)
        (λ k me. refl) (λ me k. (refl, tt, tt))
        (way wait_table r stage.First q (turn.Again stage.PrepareLock) refl refl refl refl refl (λ σ s. s)
        (home_waits r.watch))
        (way wait_table r stage.First q (turn.Done outcome.Over) tt refl refl refl refl (λ σ s. s) (λ o h. h))
        (λ old new is calm u. tt) (λ old new is calm u. is)

    test_law : LoadLaw wait_table r stage.Test v q (wait_loaded_to r stage.Test v)
    test_law = load_fork wait_table r stage.Test refl v q b (turn.Again stage.Sleep) (turn.Again stage.FinishState)
        (go e at.Sleep) (go e (at.Finish finishing.State false)) e refl
        (λ f. record { there = f.there; suits = f.suits }) (loaded_told r v)
        (λ me. go_if b e at.Sleep (at.Finish finishing.State false)) (refl, refl) (refl, refl) (λ k me. refl)
        (λ me k. (refl, tt, tt))
        (way wait_table r stage.Test q (turn.Again stage.Sleep) refl refl refl refl refl (λ σ s. s) (λ o h. h))
        (way wait_table r stage.Test q (turn.Again stage.FinishState) refl refl refl refl refl (λ σ s. s) (λ o h. h))
        (λ old new is calm u. tt) (λ old new is calm u. is)

    worn_law : LoadLaw wait_table r stage.Worn v q (wait_loaded_to r stage.Worn v)
    worn_law = load_fork wait_table r stage.Worn refl v q b (turn.Done outcome.Worn) (turn.Again stage.FinishState)
        (ends_with e answer.Worn) (go e (at.Finish finishing.State false)) e refl
        (λ f. record { there = f.there; suits = f.suits }) (loaded_told r v) (λ me. refl) (refl, refl) (refl, refl)
        (λ k me. refl) (λ me k. (refl, tt, tt))
        (way wait_table r stage.Worn q (turn.Done outcome.Worn) tt refl refl refl refl (λ σ s. s) (λ o h. h))
        (way wait_table r stage.Worn q (turn.Again stage.FinishState) refl refl refl refl refl (λ σ s. inl s)
        (home_waits r.watch))
        (λ old new is calm u. (
          found_calm old new (last_load q) (head_of r.watch) r.place calm u,
          unset_by r.watch v is,
        ))
        (λ old new is calm u. is)

    leave_law : (found : Bool)
        → LoadLaw wait_table r (stage.LeaveLoad found) v q (wait_loaded_to r (stage.LeaveLoad found) v)
    leave_law found = load_fork wait_table r (stage.LeaveLoad found) refl v q b (turn.Done (outcome.Signalled found))
        (turn.Again stage.FinishState) (ends_with e signalled) (go e (at.Finish finishing.State false)) e refl
        (λ f. record { there = f.there; suits = f.suits }) (loaded_told r v) (λ me. refl) (refl, refl) (refl, refl)
        (λ k me. refl) (λ me k. (refl, tt, tt))
        (way wait_table r (stage.LeaveLoad found) q (turn.Done (outcome.Signalled found)) tt refl refl refl refl
        (λ σ s. s) (λ o h. h))
        (way wait_table r (stage.LeaveLoad found) q (turn.Again stage.FinishState) refl refl refl refl refl
        (λ σ s. inl s) (home_waits r.watch))
        (λ old new is calm u. (left_loads old new r v calm r.asked found u, unset_by r.watch v is))
        (λ old new is calm u. is)

  -- behind the lock of a prepare: whether it looks for a signal
  locks : (looks : Bool) → LockWay wait_table r stage.PrepareTurn
      (next.Go (at.Prepare (if looks then preparing.Look else preparing.Queue))) (looks_first looks)
  locks true = lock_way wait_table r stage.PrepareTurn (next.Go (at.Prepare preparing.Look))
      (turn.Again stage.PrepareLook) refl refl refl (λ σ s. s) (λ o h. h) (λ old new x calm u. tt)
  locks false = lock_way wait_table r stage.PrepareTurn (next.Go (at.Prepare preparing.Queue))
      (turn.Again stage.PrepareQueue) refl refl refl (λ σ s. s) (λ o h. h) (λ old new x calm u. tt)

  lock_prepare : LockLaw wait_table r stage.PrepareTurn
  lock_prepare = lock_to wait_table r stage.PrepareTurn
      (next.Go (at.Prepare (if looks_in r.how.state then preparing.Look else preparing.Queue)))
      (locks (looks_in r.how.state)) refl (λ me. refl) (λ me k x. (tt, tt, tt))

  look_prepare : (hit : Bool) → LookLaw wait_table r stage.PrepareLook hit
  look_prepare true = look_by wait_table r stage.PrepareLook refl true
      (way wait_table r stage.PrepareLook r (turn.Again stage.LeaveQueue) refl refl refl refl refl (λ σ s. s)
      (λ o h. h))
      (λ w me is. ap (λ (c : Bool). next.Go (if c then at.Leave leaving.Queue else at.Prepare preparing.Queue)) is)
      (λ w me k. tt) (λ w me k. (refl, tt, tt))
      (λ old new w is calm u. signal_seen r.asked new r w is (history_of old, calm.history))
  look_prepare false = look_by wait_table r stage.PrepareLook refl false
      (way wait_table r stage.PrepareLook r (turn.Again stage.PrepareQueue) refl refl refl refl refl (λ σ s. s)
      (λ o h. h))
      (λ w me is. ap (λ (c : Bool). next.Go (if c then at.Leave leaving.Queue else at.Prepare preparing.Queue)) is)
      (λ w me k. tt) (λ w me k. (refl, tt, tt)) (λ old new w is calm u. tt)

  queue_prepare : QueueLaw wait_table r stage.PrepareQueue
  queue_prepare = queue_by wait_table r stage.PrepareQueue refl refl refl refl refl (λ e me. refl) (λ o h. h)
      (λ old new w calm queued u. record { queued = queued; state = calm.state refl }) refl refl (λ me. refl) refl
      (λ f. record { there = f.there; suits = f.suits }) (λ σ s. s) (λ e h. h) (joined_told r)
      (λ old mid new looks x u. ap (λ (n : ℕ). is_some ((told_of new).bits.stored (index n 0)))
      (ap (λ (k : Known). k.view.number) x.is ∙ ap (λ (k : Known). k.view.number) x.looks.is) ∙ ap is_some x.queued)
      refl (λ me. refl) (λ p. refl) (λ p σ s. s) (λ p. tt) (λ old last runs looks at u. low last runs at)
      (λ old last new p looks noted ends u. record { noted = noted; ends = (history_of last, ends) })

  pub peek_finish : (o : Option Entry) → PeekLaw wait_table r stage.FinishLook o
  peek_finish (Some e) = peek_by wait_table r stage.FinishLook (Some e) refl refl refl refl (λ me. refl)
      (λ me k w ok. (ok, tt, tt)) (λ σ s. s) (λ h. h) (λ old new w calm shows u. u)
  peek_finish None = peek_by wait_table r stage.FinishLook None refl refl tt refl (λ me. refl)
      (λ me k w ok. (ok, tt, tt)) (λ σ s. s) (λ h. tt) (λ old new w calm shows u. u)

  laws_at : (s : WaitStage) → LawOf (wait_doing s) wait_table r s
  laws_at stage.First = tt
  laws_at stage.PrepareLock = draw_by wait_table r stage.PrepareLock refl (λ k x. x)
  laws_at stage.PrepareTurn = lock_prepare
  laws_at stage.PrepareLook = look_prepare
  laws_at stage.PrepareQueue = queue_prepare
  laws_at stage.PrepareState = state_by wait_table r stage.PrepareState refl refl refl refl (λ me. refl)
      (λ me k. (tt, tt, tt)) (λ o h. h) (λ old new calm u. record {
        queued = ap (λ (o : Option Entry). is_some o) (calm.stored refl) ∙ u;
        state = calm.state refl;
      })
  laws_at stage.PrepareUnlock = unlock_by wait_table r stage.PrepareUnlock refl refl refl (λ me. refl)
      (λ me k. (tt, tt, tt)) (λ σ s. s) (λ o h. h) (λ old new calm u. record {
        queued = ap (λ (o : Option Entry). is_some o) (calm.stored refl) ∙ u.queued;
        state = calm.state refl ∙ u.state;
      }) (λ k runs at u. low k runs at)
  laws_at stage.Test = test_law
  laws_at stage.Sleep = sleep_by wait_table r stage.Sleep refl stage.PrepareLock refl refl refl refl refl refl
      (λ o h. h) (λ w me. refl) (λ w me k. tt) (λ w me k. (refl, tt, tt)) (λ old new w calm u. tt)
  laws_at stage.Worn = worn_law
  laws_at stage.LeaveQueue = pare_by wait_table r stage.LeaveQueue refl refl refl refl (λ e me. refl)
      (λ me k e ok. (tt, ok, refl)) (λ σ s. s) tt
      (λ old new w calm shows u. takes_entry old new r r.asked w calm shows u)
      (give_by wait_table r stage.LeaveQueue refl refl (λ me. refl) (λ me k shows. (tt, shows, tt)) (λ σ s. s) tt
      (λ old mid w calm runs at u. low mid runs at)
      (λ old new w calm shows u. finds_off old new r r.asked w calm shows u))
  laws_at stage.LeaveUnlock = unlock_by wait_table r stage.LeaveUnlock refl refl refl (λ me. refl)
      (λ me k. (tt, tt, tt)) (λ σ s. s) (λ o h. h) (λ old new calm u. gives_back old new r r.asked calm u)
      (λ k runs at u. low k runs at)
  laws_at (stage.LeaveLoad found) = λ v. leave_law v found
  laws_at stage.FinishState = running_by wait_table r stage.FinishState refl refl refl (λ me. refl)
      (λ me k. (tt, tt, tt)) (λ o h. h) (λ old new calm u. u)
  laws_at stage.FinishLook = peek_finish
  laws_at stage.FinishLock = draw_by wait_table r stage.FinishLock refl (λ k x. x)
  laws_at stage.FinishTurn = lock_by wait_table r stage.FinishTurn refl refl refl (λ me. refl)
      (λ me k x. (tt, tt, tt)) (λ σ s. s) (λ o h. h) (λ old new x calm u. u)
  laws_at stage.FinishQueue = pare_by wait_table r stage.FinishQueue refl refl refl refl (λ e me. refl)
      (λ me k e ok. (tt, ok, refl)) (λ σ s. s) tt (λ old new w calm shows u. u)
      (give_by wait_table r stage.FinishQueue tt refl (λ me. refl) (λ me k shows. (tt, shows, tt)) (λ σ s. s) tt
      (λ old mid w calm runs at u. low mid runs at) (λ old new w calm shows u. u))
  laws_at stage.FinishUnlock = unlock_by wait_table r stage.FinishUnlock refl tt refl (λ me. refl)
      (λ me k. (tt, tt, tt)) (λ σ s. s) (λ o h. h) (λ old new calm u. u) (λ k runs at u. low k runs at)

depth_most : (s : WaitStage) → depth s ≤ 6
depth_most stage.PrepareLook = omega arith
depth_most s = omega arith

pub wait_lawful : IsLawfulCallTable wait_table
wait_lawful = record {
  keeps = wait_stays;
  tells = wait_told;
  worn_tells = λ r p x quiet. quiet_told r (record r { place = p }) x quiet
      (record { watch_is = refl; how = refl }) refl refl;
  at = laws_at;
  still = trail_still;
  rises = trail_rises;
  worn = λ r p. refl;
  worn_fits = λ r p f. record { there = f.there; suits = f.suits };
  there = λ r s f. f.there;
  few = λ r s f. let low = run_low r f in omega (arith, low);
  depth = depth_most;
}

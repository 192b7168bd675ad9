-- The table of a wait on a futex keeps the laws.
use Rattle.std.proofs.Common.{ap, refl, inl, inr, subst, arith}
use Rattle.std.proofs.lemmas.Bool.Decides.{nat_tests}
use Rattle.std.specs.Prelude.{ℕ, ◌≡◌, ◌≤◌, ◌==◌, Bool, true, false, if◌then◌else◌, is_some, Option, Some, None, [], ◌∷◌}
use Rattle.wait_model.specs.declared.points.FinishPoint.TheVariants as finishing
use Rattle.wait_model.specs.declared.points.LeavePoint.TheVariants as leaving
use Rattle.wait_model.specs.declared.points.Next.TheVariants as next
use Rattle.wait_model.specs.declared.points.Point.TheVariants as at
use Rattle.wait_model.specs.declared.points.PreparePoint.TheVariants as preparing
use Rattle.wait_model.specs.{declared.calls.Event.Event, declared.watches.Entry.Entry, Programs.go, Watches.number_of}
use Rattle.wait_model.specs.Words.{entry_of}
use Rattle.wait_model.specs.Tasks.{looks_in, pending, state_mask, task_of}
use Rattle.wait_model.specs.declared.calls.Event.TheVariants as event
use Rattle.wait_model.specs.declared.steps.Step.TheVariants as step
use Rattle.wait_rule.specs.{HandedPermits.OwesNoPermit, Known.Known, Queues.index, Says.history_of}
use Rattle.wq_head.proofs.PermitHeads.{owes_low}
use Rattle.wait_class.specs.declared.stages.Turn.TheVariants as turn
use Rattle.wait_class.specs.Laws.{Calm, GiveLaw, HeedLaw, IsLawfulCallTable, LawOf, LoadLaw, LockLaw, PareLaw, PeekLaw}
use Rattle.wait_class.specs.Laws.{QueueLaw, UnlockLaw, mask_in}
use Rattle.wait_class.proofs.{Ground.Standing.home_waits, Stays.wait_stays}
use Rattle.wait_class.proofs.Holds.{LockWay, draw_by, give_by, lock_by, lock_to, lock_way, pare_by, peek_by, queue_by}
use Rattle.wait_class.proofs.Holds.{state_by, unlock_by}
use Rattle.wait_class.proofs.Ways.{go_if, load_fork, sleep_by, way}
use Rattle.futex_table.specs.{declared.waits.FutexStage.FutexStage, declared.waits.FutexWait.FutexWait}
use Rattle.futex_table.specs.FutexTables.{FutexTrail, FutexTrailEnd, IsFutex, futex_depth, futex_doing, futex_head}
use Rattle.futex_table.specs.FutexTables.{futex_loaded, futex_table, futex_word, leaves_first, slept_steps}
use Rattle.futex_table.specs.declared.waits.FutexOutcome.TheVariants as outcome
use Rattle.futex_table.specs.declared.waits.FutexStage.TheVariants as stage
use Rattle.futex_table.proofs.FutexHeads.{futex_low}
use Rattle.futex_table.proofs.FutexTrails.{ends_snoc, futex_rises, futex_still, gives_at_once, held_off, joins}
use Rattle.futex_table.proofs.FutexTrails.{leaves_entry, left_by_more, left_more, loaded_more, loads, never_stays}
use Rattle.futex_table.proofs.FutexTrails.{off_at_once, out_calm, peeked_off, queued_more, stands_from, stands_more}
use Rattle.futex_table.proofs.FutexTrails.{taken_out, takes_at_once, takes_entry}

same_value : (v w : ℕ) → (v == w) ≡ true → v ≡ w
same_value v w is = grind (arith, nat_tests)

module _ (r : FutexWait) where
  low : (k : Known) → IsFutex r → k.at ≡ futex_head r.futex → OwesNoPermit k
  low k fits at = owes_low k (futex_head r.futex) at (futex_low r.futex fits)

  pub load_law : (v : ℕ) → LoadLaw futex_table r stage.Load v (record r { seen = v }) (futex_loaded r stage.Load v)
  load_law v =
      let e : Event = event.Load (number_of (futex_word r.futex)) v in
      let q : FutexWait = record r { seen = v } in
      load_fork futex_table r stage.Load refl v q (v == r.expected) (turn.Again stage.Queue) (turn.Again stage.Again)
      (go e (at.Prepare preparing.Queue)) (go e (at.Leave leaving.Unlock)) e refl (λ f. f) (λ x is. tt)
      (λ me. go_if (v == r.expected) e (at.Prepare preparing.Queue) (at.Leave leaving.Unlock)) (refl, refl)
      (refl, refl) (λ k me. refl) (λ me k. (refl, tt, tt))
      (way futex_table r stage.Load q (turn.Again stage.Queue) refl refl refl refl refl (λ σ s. s)
      (home_waits (futex_word r.futex)))
      (way futex_table r stage.Load q (turn.Again stage.Again) refl refl refl refl refl (λ σ s. s) (λ o h. h))
      (λ old new is calm u. (
        out_calm old new _ calm refl u.0,
        loads old new r.futex r.expected (subst (λ (n : ℕ). Calm (step.Load (futex_word r.futex) n ∷ []) old new)
            (same_value v r.expected is) calm) u.1,
      ))
      (λ old new is calm u. (loads old new r.futex v calm u.1, is))

  queue_law : QueueLaw futex_table r stage.Queue
  queue_law = queue_by futex_table r stage.Queue refl refl refl refl refl (λ e me. refl) (λ o h. h)
      (λ old new w calm queued u. never_stays old new w (state_mask r.state) calm u.0 queued) refl refl (λ me. refl)
      refl (λ f. f) (λ σ s. s) (λ e h. h) (λ x i e is. tt) (λ old mid new looks x u. joins old mid new r looks x u.1)
      tt (λ me. refl) (λ p. refl) (λ p σ s. s) (λ p. tt) (λ old last fits looks at u. low last fits at)
      (λ old last new p looks noted ends u. record { noted = noted; ends = (history_of last, ends) })

  -- behind the sleep
  peek_law : (o : Option Entry) → PeekLaw futex_table r stage.Queued o
  peek_law (Some e) = peek_by futex_table r stage.Queued (Some e) refl refl refl refl (λ me. refl)
      (λ me k w ok. (ok, tt, tt)) (λ σ s. s) (λ h. h) (λ old new w calm shows u. stands_from old new r
      (slept_steps r u.found) _ calm (refl, (refl, (refl, (refl, tt)))) u.queued)
  peek_law None = peek_by futex_table r stage.Queued None refl refl tt refl (λ me. refl) (λ me k w ok. (ok, tt, tt))
      (λ σ s. s) (λ h. tt) (λ old new w calm shows u. peeked_off old new r.futex w calm shows)

  -- behind the second lock: whether it looks for a signal
  leaves : (looks : Bool) → LockWay futex_table r stage.OffTurn
      (next.Go (if looks then at.Leave leaving.Queue else at.Finish finishing.Queue false)) (leaves_first looks)
  leaves true = lock_way futex_table r stage.OffTurn (next.Go (at.Leave leaving.Queue)) (leaves_first true) refl refl
      refl (λ σ s. s) (λ o h. h) (λ old new x calm u. stands_more old new r _ calm (refl, tt) u)
  leaves false = lock_way futex_table r stage.OffTurn (next.Go (at.Finish finishing.Queue false)) (leaves_first false)
      refl refl refl (λ σ s. s) (λ o h. h) (λ old new x calm u. stands_more old new r _ calm (refl, tt) u)

  lock_off : LockLaw futex_table r stage.OffTurn
  lock_off = lock_to futex_table r stage.OffTurn
      (next.Go (if looks_in r.state then at.Leave leaving.Queue else at.Finish finishing.Queue false))
      (leaves (looks_in r.state)) refl (λ me. refl) (λ me k x. (tt, tt, tt))

  heed_law : HeedLaw futex_table r stage.OffLook
  heed_law = record {
    held = record { holds = refl; head = refl };
    opens = record { fresh = refl; zone = refl };
    gives = give_by futex_table r stage.OffLook tt refl (λ me. refl) (λ me k shows. (tt, shows, tt)) (λ σ s. s) tt
        (λ old mid w calm fits at u. low mid fits at)
        (λ old new w calm shows u. held_off old new r.futex w calm shows);
    looks = λ hit e w is. record {
      plain = refl;
      falls = refl;
      took = refl;
      goes = λ me. ap (λ (b : Bool). next.Go (at.Finish finishing.Queue b)) is;
      is = λ me k x ok. tt;
      finds = λ me k x ok. (refl, ok, tt);
    };
    leaves = λ hit. record { head = refl; ticket = refl };
    state = λ hit σ s. s;
    home = λ hit o h. h;
    trail = heeded;
  }
    where
      heeded : (hit : Bool) (old new : Known) (v w : ℕ)
          → pending (mask_in futex_table r) (task_of w) ≡ hit
          → Calm (step.Saw (index old.view.number 0) v ∷ step.Look w ∷ []) old new → FutexTrail old r stage.OffLook
          → FutexTrail new r (stage.Off hit)
      heeded true old new v w is calm u = (
        w,
        is,
        ends_snoc old new (step.Saw (index old.view.number 0) v) (step.Look w) calm.history,
      )
      heeded false old new v w is calm u = stands_more old new r _ calm (refl, (refl, tt)) u

  pare_law : (hit : Bool) → PareLaw futex_table r (stage.Off hit)
  pare_law hit = pare_by futex_table r (stage.Off hit) refl refl refl refl (λ e me. refl) (λ me k e ok. (tt, ok, refl))
      (λ σ s. s) tt (taken_at hit) (give_by futex_table r (stage.Off hit) tt refl (λ me. refl)
      (λ me k shows. (tt, shows, tt)) (λ σ s. s) tt (λ old mid w calm fits at u. low mid fits at)
      (λ old new w calm shows u. held_off old new r.futex w calm shows))
    where
      taken_at : (hit : Bool) (old new : Known) (w : ℕ)
          → Calm (step.Saw (index old.view.number 0) w ∷ step.Unqueue (index old.view.number 0) ∷ []) old new
          → is_some (entry_of w) ≡ true → FutexTrail old r (stage.Off hit) → FutexTrail new r (stage.OffUnlock hit)
      taken_at true old new w calm shows u = takes_entry old new r w calm shows u
      taken_at false old new w calm shows u = taken_out old new w calm

  unlock_off : (hit : Bool) → UnlockLaw futex_table r (stage.OffUnlock hit)
  unlock_off true = unlock_by futex_table r (stage.OffUnlock true) refl tt refl (λ me. refl) (λ me k. (tt, tt, tt))
      (λ σ s. s) (λ o h. h) (λ old new calm u. left_more old new r _ calm u) (λ k fits at u. low k fits at)
  unlock_off false = unlock_by futex_table r (stage.OffUnlock false) refl refl refl (λ me. refl) (λ me k. (tt, tt, tt))
      (λ σ s. s) (λ o h. h) (λ old new calm u. out_calm old new _ calm refl u) (λ k fits at u. low k fits at)

  -- a wait that is left
  leave_gives : (fresh : Bool) → GiveLaw futex_table r (stage.Leave fresh)
  leave_gives true = give_by futex_table r (stage.Leave true) tt refl (λ me. refl) (λ me k shows. (tt, shows, tt))
      (λ σ s. s) tt (λ old mid w calm fits at u. low mid fits at)
      (λ old new w calm shows u. (u.0, inl (off_at_once old new r.futex r.expected w calm shows u.1)))
  leave_gives false = give_by futex_table r (stage.Leave false) tt refl (λ me. refl) (λ me k shows. (tt, shows, tt))
      (λ σ s. s) tt (λ old mid w calm fits at u. low mid fits at)
      (λ old new w calm shows u. held_off old new r.futex w calm shows)

  leave_law : (b : Bool) → PareLaw futex_table r (stage.Leave b)
  leave_law b = pare_by futex_table r (stage.Leave b) refl refl refl refl (λ e me. refl) (λ me k e ok. (tt, ok, refl))
      (λ σ s. s) tt (left_at b) (leave_gives b)
    where
      left_at : (fresh : Bool) (old new : Known) (w : ℕ)
          → Calm (step.Saw (index old.view.number 0) w ∷ step.Unqueue (index old.view.number 0) ∷ []) old new
          → is_some (entry_of w) ≡ true → FutexTrail old r (stage.Leave fresh)
          → FutexTrail new r (stage.LeaveUnlock fresh)
      left_at true old new w calm shows u = (u.0, takes_at_once old new r.futex r.expected w calm shows u.1)
      left_at false old new w calm shows u = (u.0, leaves_entry old new r w calm shows u.1)

  leave_unlock : (b : Bool) → UnlockLaw futex_table r (stage.LeaveUnlock b)
  leave_unlock b = unlock_by futex_table r (stage.LeaveUnlock b) refl tt refl (λ me. refl) (λ me k. (tt, tt, tt))
      (λ σ s. s) (λ o h. h) (left_behind b) (λ k fits at u. low k fits at)
    where
      left_behind : (fresh : Bool) (old new : Known) → Calm (step.Unlock (futex_head r.futex) false ∷ []) old new
          → FutexTrail old r (stage.LeaveUnlock fresh) → FutexTrailEnd new r (outcome.Left false)
      left_behind true old new calm u = (u.0, inl (gives_at_once old new r.futex r.expected calm u.1))
      left_behind false old new calm u = (u.0, inr (left_by_more old new r [] _ calm u.1))

  laws_at : (s : FutexStage) → LawOf (futex_doing s) futex_table r s
  laws_at stage.First = draw_by futex_table r stage.First refl (λ k x. x)
  laws_at stage.Turn = lock_by futex_table r stage.Turn refl refl refl (λ me. refl) (λ me k x. (tt, tt, tt)) (λ σ s. s)
      (λ o h. h) (λ old new x calm u. (out_calm old new _ calm refl u, (_, x, (history_of old, calm.history))))
  laws_at stage.Load = tt
  laws_at stage.Again = unlock_by futex_table r stage.Again refl tt refl (λ me. refl) (λ me k. (tt, tt, tt)) (λ σ s. s)
      (λ o h. h) (λ old new calm u. (loaded_more old new r.futex r.seen _ calm u.0, u.1)) (λ k fits at u. low k fits at)
  laws_at stage.Queue = queue_law
  laws_at stage.State = state_by futex_table r stage.State refl refl refl refl (λ me. refl) (λ me k. (tt, tt, tt))
      (λ o h. h) (λ old new calm u. queued_more old new r [] _ calm u)
  laws_at stage.Unlock = unlock_by futex_table r stage.Unlock refl refl refl (λ me. refl) (λ me k. (tt, tt, tt))
      (λ σ s. s) (λ o h. h) (λ old new calm u. queued_more old new r (step.State (state_mask r.state) ∷ []) _ calm u)
      (λ k fits at u. low k fits at)
  laws_at stage.Sleep = sleep_by futex_table r stage.Sleep refl stage.Queued refl refl refl refl refl refl (λ o h. h)
      (λ w me. refl) (λ w me k. tt) (λ w me k. (refl, tt, tt)) (λ old new w calm u. record {
        found = w;
        queued = queued_more old new r (step.State (state_mask r.state) ∷ step.Unlock (futex_head r.futex) false ∷ []) _
            calm u;
      })
  laws_at stage.Queued = peek_law
  laws_at stage.OffLock = draw_by futex_table r stage.OffLock refl (λ k x. x)
  laws_at stage.OffTurn = lock_off
  laws_at stage.OffLook = heed_law
  laws_at (stage.Off hit) = pare_law hit
  laws_at (stage.OffUnlock hit) = unlock_off hit
  laws_at (stage.Leave fresh) = leave_law fresh
  laws_at (stage.LeaveUnlock fresh) = leave_unlock fresh

depth_most : (s : FutexStage) → futex_depth s ≤ 6
depth_most stage.Load = omega arith
depth_most s = omega arith

pub futex_lawful : IsLawfulCallTable futex_table
futex_lawful = record {
  keeps = wait_stays;
  tells = record { none = λ r. tt; on = λ r q w ts us a b. tt; quiet = λ r x is. tt };
  worn_tells = λ r p x is. tt;
  at = laws_at;
  still = λ old new r s calm u. futex_still old new r calm s u;
  rises = futex_rises;
  worn = λ r p. refl;
  worn_fits = λ r p f. f;
  there = λ r s f. omega (arith, f);
  few = λ r s f. let small = futex_low r.futex f in omega (arith, small);
  depth = depth_most;
}

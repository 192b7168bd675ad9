-- The table of a wait for a page keeps its laws.
use Rattle.std.proofs.Common.{◌∙◌, ap, refl, inr, arith}
use Rattle.std.specs.Prelude.{◌≤◌, Bool, true, false, if◌then◌else◌, Option, Some, None, [], ◌∷◌}
use Rattle.wait_model.specs.declared.points.FinishPoint.TheVariants as finishing
use Rattle.wait_model.specs.declared.points.Next.TheVariants as next
use Rattle.wait_model.specs.declared.points.PagePoint.TheVariants as paging
use Rattle.wait_model.specs.declared.points.Point.TheVariants as at
use Rattle.wait_model.specs.declared.steps.Step.TheVariants as step
use Rattle.wait_model.specs.{declared.watches.Entry.Entry, Tasks.state_mask}
use Rattle.wq_head.proofs.PermitHeads.{owes_low, page_low}
use Rattle.wait_class.proofs.Histories.{unmoved_by}
use Rattle.wait_class.proofs.Holds.{draw_by, give_by, lock_by, pare_by, peek_by, running_by, state_by, unlock_by}
use Rattle.wait_class.proofs.Ways.{look_by, sleep_by, way}
use Rattle.wait_class.specs.declared.stages.Turn.TheVariants as turn
use Rattle.wait_class.specs.Laws.{IsLawfulCallTable, LawOf, LookLaw, PeekLaw, UnlockLaw}
use Rattle.page_lock.specs.{declared.waits.LockPage.LockPage, declared.waits.PageStage.PageStage}
use Rattle.page_lock.specs.PageTables.{page_depth, page_doing, page_head_in, page_in, page_table}
use Rattle.page_lock.specs.declared.waits.PageStage.TheVariants as stage
use Rattle.page_lock.proofs.PageGround.{page_stays}
use Rattle.page_lock.proofs.PageTrails.{asks_calm, left_calm, off_calm, over_end, pared_none, pared_some, peeked_none}
use Rattle.page_lock.proofs.PageTrails.{peeked_some, quiet_calm, signalled, still_by, waits_calm, why_out}

module _ (r : LockPage) where
  -- the hold in which the entry was queued is given back
  unlock_queue : (got : Bool) → UnlockLaw page_table r (stage.QueueUnlock got)
  unlock_queue true = unlock_by page_table r (stage.QueueUnlock true) refl tt refl (λ me. refl) (λ me k. (tt, tt, tt))
      (λ σ s. s) (λ o h. h) (λ old new c u. over_end new r (c.keeps (page_in r) ∙ u.1)
      (asks_calm old new r (step.Unlock _ false ∷ []) c refl (λ k. refl) u.0))
      (λ k fits at u. owes_low k (page_head_in r) at (page_low r.page))
  unlock_queue false = unlock_by page_table r (stage.QueueUnlock false) refl refl refl (λ me. refl)
      (λ me k. (tt, tt, tt)) (λ σ s. s) (λ o h. h)
      (λ old new c u. waits_calm old new r (step.Unlock _ false ∷ []) c refl (λ k. refl) u)
      (λ k fits at u. owes_low k (page_head_in r) at (page_low r.page))

  look_law : (hit : Bool) → LookLaw page_table r stage.Look hit
  look_law true = look_by page_table r stage.Look refl true
      (way page_table r stage.Look r (turn.Again stage.FinishState) refl refl refl refl refl (λ σ s. s) (λ o h. h))
      (λ w me is. ap (λ (c : Bool). next.Go (at.Page (if c then paging.Finish finishing.State else paging.Sleep))) is)
      (λ w me k. tt) (λ w me k. (refl, tt, tt)) (λ old new w is c u. (
        waits_calm old new r (step.Look w ∷ []) c refl (λ k. refl) u,
        why_out new r (inr (signalled old new r w c u is)) r.asked,
      ))
  look_law false = look_by page_table r stage.Look refl false
      (way page_table r stage.Look r (turn.Again stage.Sleep) refl refl refl refl refl (λ σ s. s) (λ o h. h))
      (λ w me is. ap (λ (c : Bool). next.Go (at.Page (if c then paging.Finish finishing.State else paging.Sleep))) is)
      (λ w me k. tt) (λ w me k. (refl, tt, tt))
      (λ old new w is c u. waits_calm old new r (step.Look w ∷ []) c refl (λ k. refl) u)

  peek_finish : (o : Option Entry) → PeekLaw page_table r stage.FinishLook o
  peek_finish (Some e) = peek_by page_table r stage.FinishLook (Some e) refl refl refl refl (λ me. refl)
      (λ me k w ok. (ok, tt, tt)) (λ σ s. s) (λ h. h) (λ old new w c shows u. peeked_some old new r w c shows u)
  peek_finish None = peek_by page_table r stage.FinishLook None refl refl refl refl (λ me. refl)
      (λ me k w ok. (ok, tt, tt)) (λ σ s. s) (λ h. tt) (λ old new w c shows u. peeked_none old new r w c shows u)

  laws_at : (s : PageStage) → LawOf (page_doing s) page_table r s
  laws_at stage.First = tt
  laws_at stage.Unflag = tt
  laws_at stage.QueueLock = draw_by page_table r stage.QueueLock refl (λ k u. u.0)
  laws_at stage.QueueTurn = lock_by page_table r stage.QueueTurn refl refl refl (λ me. refl) (λ me k x. (tt, tt, tt))
      (λ σ s. s) (λ o h. h) (λ old new x c u. (
        asks_calm old new r (step.Lock _ _ x ∷ []) c refl (λ k. refl) u.0,
        quiet_calm old new r (step.Lock _ _ x ∷ []) c refl u.1,
      ))
  laws_at stage.Queue = tt
  laws_at stage.Try = tt
  laws_at stage.Off = tt
  laws_at (stage.QueueUnlock got) = unlock_queue got
  laws_at stage.Worn = tt
  laws_at stage.State = state_by page_table r stage.State refl refl refl refl (λ me. refl) (λ me k. (tt, tt, tt))
      (λ o h. h) (λ old new c u. waits_calm old new r (step.State (state_mask r.state) ∷ []) c refl (λ k. refl) u)
  laws_at stage.Flag = tt
  laws_at stage.Look = λ hit. look_law hit
  laws_at stage.Sleep = sleep_by page_table r stage.Sleep refl stage.State refl refl refl refl refl refl (λ o h. h)
      (λ w me. refl) (λ w me k. tt) (λ w me k. (refl, tt, tt))
      (λ old new w c u. waits_calm old new r (step.Sleep w ∷ []) c refl (λ k. refl) u)
  laws_at stage.FinishState = running_by page_table r stage.FinishState refl refl refl (λ me. refl)
      (λ me k. (tt, tt, tt)) (λ o h. h) (λ old new c u. (
        waits_calm old new r (step.State 0 ∷ []) c refl (λ k. refl) u.0,
        left_calm old new r (step.State 0 ∷ []) c refl refl u.1,
      ))
  laws_at stage.FinishLook = λ o. peek_finish o
  laws_at stage.FinishLock = draw_by page_table r stage.FinishLock refl (λ k u. u)
  laws_at stage.FinishTurn = lock_by page_table r stage.FinishTurn refl refl refl (λ me. refl) (λ me k x. (tt, tt, tt))
      (λ σ s. s) (λ o h. h) (λ old new x c u. (
        waits_calm old new r (step.Lock _ _ x ∷ []) c refl (λ k. refl) u.0,
        left_calm old new r (step.Lock _ _ x ∷ []) c refl refl u.1,
      ))
  laws_at stage.FinishQueue = pare_by page_table r stage.FinishQueue refl refl refl refl (λ e me. refl)
      (λ me k e ok. (tt, ok, refl)) (λ σ s. s) tt (λ old new w c shows u. pared_some old new r w c shows u)
      (give_by page_table r stage.FinishQueue refl refl (λ me. refl) (λ me k shows. (tt, shows, tt)) (λ σ s. s) tt
      (λ old mid w c fits at u. owes_low mid (page_head_in r) at (page_low r.page))
      (λ old new w c shows u. pared_none old new r w (page_head_in r) c shows u))
  laws_at stage.FinishUnlock = unlock_by page_table r stage.FinishUnlock refl refl refl (λ me. refl)
      (λ me k. (tt, tt, tt)) (λ σ s. s) (λ o h. h) (λ old new c u. (
        off_calm old new r (step.Unlock _ false ∷ []) c refl (λ k. refl) u.0,
        left_calm old new r (step.Unlock _ false ∷ []) c refl refl u.1,
      )) (λ k fits at u. owes_low k (page_head_in r) at (page_low r.page))
  laws_at stage.Last = tt
  laws_at stage.Clear = tt

depth_most : (s : PageStage) → page_depth s ≤ 6
depth_most stage.Try = omega arith
depth_most s = omega arith

pub page_lawful : IsLawfulCallTable page_table
page_lawful = record {
  keeps = page_stays;
  tells = record { none = λ r. tt; on = λ r q w ts us a b. tt; quiet = λ r x quiet. tt };
  worn_tells = λ r p x quiet. tt;
  at = laws_at;
  still = λ old new r s c u. still_by old new r (unmoved_by old new c) s u;
  rises = λ old new r s place still u. still_by old new r still s u;
  worn = λ r p. refl;
  worn_fits = λ r p fits. fits;
  there = λ r s fits. (fits, omega arith);
  few = λ r s fits. let low = page_low r.page in omega (arith, low);
  depth = depth_most;
}

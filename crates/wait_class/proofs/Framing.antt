-- Calls that prepare and finish as all waits do keep the laws of a table.
use Rattle.std.proofs.Common.{ap, sym, refl, subst, arith}
use Rattle.std.specs.Prelude.{◌≡◌, ◌≤◌, ◌||◌, not, Bool, true, false}
use Rattle.std.specs.Prelude.{Option, Some, None, [], ◌∷◌}
use Rattle.wait_model.specs.declared.calls.Event.TheVariants as event
use Rattle.wait_model.specs.{declared.points.Next.Next, declared.watches.Entry.Entry, Tasks.state_mask, Watches.head_of}
use Rattle.wait_model.specs.PointFacts.{Zone, IsHome, holds}
use Rattle.wait_model.specs.declared.steps.Step.TheVariants as step
use Rattle.wait_rule.specs.{Known.Known, Says.history_of, Queues.index, HandedPermits.OwesNoPermit}
use Rattle.wait_class.specs.{Posts.IsStateFor, declared.frame_stages.Framed.Framed, declared.frame_stages.Stage.Stage}
use Rattle.wait_class.specs.FrameLaws.{FinishLaw, IsLawfulFrame, framed_plan}
use Rattle.wait_class.specs.Frames.{FrameTable, depth_at, frame_doing, framed, is_outside}
use Rattle.wait_class.specs.Laws.{IsLawfulCallTable, LawOf, PeekLaw, QueueLaw, UnlockLaw, Calm, Unmoved}
use Rattle.wait_class.specs.Tables.{Plan, CallTable, next_in}
use Rattle.wait_class.specs.declared.frame_stages.Stage.TheVariants as stage
use Rattle.wait_class.proofs.{Histories.unmoved_by, Entries.none_in}
use Rattle.wait_class.proofs.Holds.{draw_by, give_by, lock_by, pare_by, peek_by, queue_by, running_by, state_by}
use Rattle.wait_class.proofs.Holds.{unlock_by}
use Rattle.wait_class.proofs.Turns.{free_head, free_ticket, zero_for}
use Rattle.wq_head.proofs.PermitHeads.{owes_low}

free_falls : (b : Bool) → b ≡ false → (not b || false) ≡ true
free_falls b is = ap (λ (x : Bool). not x || false) is

-- the table of a frame whose program is written out
abbrev stood : {W T O : Type 0} → FrameTable W T O → (W → Bool → Next) → FrameTable W T O
stood e ends = record e { plan_of = λ r. framed_plan e (ends r) (e.plan_of r) }

module _ {W T O : Type 0} (e : FrameTable W T O) (ends : W → Bool → Next)
    (goes : (r : W) (failed : Bool) → ends r failed ≡ next_in (framed (stood e ends)) (e.finished r failed))
    (law : IsLawfulFrame (stood e ends)) (r : Framed W) where
  abbrev f : FrameTable W T O
  f = stood e ends

  abbrev t : CallTable (Framed W) (Stage T) O
  t = framed f

  abbrev plan : Plan
  plan = e.plan_of r.wait

  low : (k : Known) → f.Fits r.wait → k.at ≡ head_of plan.watch → OwesNoPermit k
  low k fits at = owes_low k (head_of plan.watch) at (law.low r.wait fits)

  queue_prepare : QueueLaw t r stage.PrepareQueue
  queue_prepare = queue_by t r stage.PrepareQueue refl refl refl refl refl (λ e me. refl) (λ o h. h)
      (λ old new w calm queued u. tt) refl refl (λ me. refl) refl (λ fits. fits) (λ σ s. s) (λ e h. h) (λ x i e did. tt)
      (λ old mid new looks x u. tt) refl (λ me. refl) (λ p i. (
        free_falls (holds (f.test_point f.worn_to)) (law.test_free f.worn_to) i,
        sym law.worn_took i,
        free_head None (f.plan_of (f.worn_at r.wait p)) (f.test_point f.worn_to) (law.test_free f.worn_to) i,
        free_ticket None (f.plan_of (f.worn_at r.wait p)) (f.test_point f.worn_to) (law.test_free f.worn_to) i,
      ))
      (λ p σ s. subst (λ (c : Plan). IsStateFor (c.stirs (f.test_point f.worn_to)) (state_mask c.state) σ)
      (sym (law.worn r.wait p))
      (subst (λ (b : Bool). IsStateFor b (state_mask plan.state) σ) (sym (law.worn_stirs r.wait)) s))
      (λ p. subst (λ (z : Zone). IsHome z (f.plan_of (f.worn_at r.wait p)).watch None) (sym law.worn_zone) tt)
      (λ old last fits looks at u. low last fits at)
      (λ old last new p looks noted ends u. law.worn_trail new r.wait p noted (history_of last, ends))

  unlock_prepare : UnlockLaw t r stage.PrepareUnlock
  unlock_prepare = unlock_by t r stage.PrepareUnlock refl refl (λ i. (
    free_falls (holds (f.test_point f.prepared)) (law.test_free f.prepared) i,
    sym law.prepared_took i,
    free_head None (f.plan_of r.wait) (f.test_point f.prepared) (law.test_free f.prepared) i,
    free_ticket None (f.plan_of r.wait) (f.test_point f.prepared) (law.test_free f.prepared) i,
  )) (λ me. refl) (λ me k. (tt, tt, tt))
      (λ σ s. subst (λ (b : Bool). IsStateFor b (state_mask plan.state) σ) (sym (law.prepared_stirs r.wait)) s)
      (λ o h. subst (λ (z : Zone). IsHome z plan.watch o) (sym law.prepared_zone) h)
      (λ old new calm u. law.prepared_trail old new r.wait calm) (λ k fits at u. low k fits at)

  finish : (b : Bool) → FinishLaw f r.wait b
  finish b = law.finishes r.wait b

  peek_finish : (b : Bool) (o : Option Entry) → PeekLaw t r (stage.FinishLook b) o
  peek_finish b (Some e) = peek_by t r (stage.FinishLook b) (Some e) refl refl refl refl (λ me. refl)
      (λ me k w ok. (ok, tt, tt)) (λ σ s. s) (λ h. h)
      (λ old new w calm shows u. law.calm old new r.wait b (step.Peek (index old.view.number 0) w ∷ []) refl calm u)
  peek_finish b None = peek_by t r (stage.FinishLook b) None refl refl (finish b).plain
      (λ i. ((finish b).falls (stage.FinishLook b) i, (finish b).took i, (finish b).head i, (finish b).ticket i))
      (λ me i. record { event = event.Queued false; next = goes r.wait b i }) (λ me k w ok. (ok, tt, tt))
      (λ σ s. zero_for _ _ σ s) (λ h. (finish b).home) (λ old new w calm shows u. (finish b).trail new
      (law.calm old new r.wait b (step.Peek (index old.view.number 0) w ∷ []) refl calm u))

  laws_at : (s : Stage T) → LawOf (frame_doing f s) t r s
  laws_at (stage.Test x) = tt
  laws_at stage.PrepareLock = draw_by t r stage.PrepareLock refl (λ k x. tt)
  laws_at stage.PrepareTurn = lock_by t r stage.PrepareTurn refl refl refl (λ me. refl) (λ me k x. (tt, tt, tt))
      (λ σ s. s) (λ o h. h) (λ old new x calm u. tt)
  laws_at stage.PrepareQueue = queue_prepare
  laws_at stage.PrepareState = state_by t r stage.PrepareState refl refl refl refl (λ me. refl) (λ me k. (tt, tt, tt))
      (λ o h. h) (λ old new calm u. tt)
  laws_at stage.PrepareUnlock = unlock_prepare
  laws_at stage.Sleep = law.sleeps r.wait
  laws_at stage.Look = λ hit. law.looks r.wait hit
  laws_at (stage.FinishState b) = running_by t r (stage.FinishState b) refl refl refl (λ me. refl)
      (λ me k. (tt, tt, tt)) (λ o h. h) (λ old new calm u. law.calm old new r.wait b (step.State 0 ∷ []) refl calm u)
  laws_at (stage.FinishLook b) = λ o. peek_finish b o
  laws_at (stage.FinishLock b) = draw_by t r (stage.FinishLock b) refl (λ k x. x)
  laws_at (stage.FinishTurn b) = lock_by t r (stage.FinishTurn b) refl refl refl (λ me. refl) (λ me k x. (tt, tt, tt))
      (λ σ s. s) (λ o h. h) (λ old new x calm u. law.calm old new r.wait b (step.Lock _ _ x ∷ []) refl calm u)
  laws_at (stage.FinishQueue b) = pare_by t r (stage.FinishQueue b) refl refl refl refl (λ e me. refl)
      (λ me k e ok. (tt, ok, refl)) (λ σ s. s) tt (λ old new w calm shows u. law.calm old new r.wait b
      (step.Saw (index old.view.number 0) w ∷ step.Unqueue (index old.view.number 0) ∷ []) refl calm u)
      (give_by t r (stage.FinishQueue b) (finish b).plain
      (λ i. ((finish b).falls (stage.FinishQueue b) i, (finish b).took i, (finish b).head i, (finish b).ticket i))
      (λ me i. record { event = event.Unlock (head_of plan.watch) false; next = goes r.wait b i })
      (λ me k shows. (tt, shows, tt)) (λ σ s. zero_for _ _ σ s) (finish b).home
      (λ old mid w calm fits at u. low mid fits at) (λ old new w calm shows u. (finish b).trail new
      (law.calm old new r.wait b (step.Saw (index old.view.number 0) w ∷ step.Unlock _ false ∷ []) refl calm u)))
  laws_at (stage.FinishUnlock b) = unlock_by t r (stage.FinishUnlock b) refl (finish b).plain
      (λ i. ((finish b).falls (stage.FinishUnlock b) i, (finish b).took i, (finish b).head i, (finish b).ticket i))
      (λ me i. record { event = event.Unlock (head_of plan.watch) false; next = goes r.wait b i })
      (λ me k. (tt, tt, tt)) (λ σ s. zero_for _ _ σ s) (none_in _ plan.watch _ (finish b).home)
      (λ old new calm u. (finish b).trail new (law.calm old new r.wait b (step.Unlock _ false ∷ []) refl calm u))
      (λ k fits at u. low k fits at)

  still_at : (old new : Known) (s : Stage T) → Calm [] old new → t.Trail old r s → t.Trail new r s
  still_at old new (stage.Test x) calm u = law.test_still old new r.wait x (unmoved_by old new calm) u
  still_at old new stage.Sleep calm u = law.sleep_still old new r.wait (unmoved_by old new calm) u
  still_at old new stage.Look calm u = law.look_still old new r.wait (unmoved_by old new calm) u
  still_at old new (stage.FinishState b) calm u = law.calm old new r.wait b [] refl calm u
  still_at old new (stage.FinishLook b) calm u = law.calm old new r.wait b [] refl calm u
  still_at old new (stage.FinishLock b) calm u = law.calm old new r.wait b [] refl calm u
  still_at old new (stage.FinishTurn b) calm u = law.calm old new r.wait b [] refl calm u
  still_at old new (stage.FinishQueue b) calm u = law.calm old new r.wait b [] refl calm u
  still_at old new (stage.FinishUnlock b) calm u = law.calm old new r.wait b [] refl calm u
  still_at old new s calm u = tt

  rises_at : (old new : Known) (s : Stage T) → is_outside s ≡ true → Unmoved old new → t.Trail old r s → t.Trail new r s
  rises_at old new (stage.Test x) out still u = law.test_still old new r.wait x still u
  rises_at old new stage.Sleep out still u = law.sleep_still old new r.wait still u
  rises_at old new stage.Look out still u = law.look_still old new r.wait still u
  rises_at old new s out still u = grind arith

depth_most : {T : Type 0} (s : Stage T) → depth_at s ≤ 6
depth_most (stage.Test x) = omega arith
depth_most s = omega arith

module _ {W T O : Type 0} (e : FrameTable W T O) (ends : W → Bool → Next)
    (goes : (r : W) (failed : Bool) → ends r failed ≡ next_in (framed (stood e ends)) (e.finished r failed))
    (law : IsLawfulFrame (stood e ends)) where
  stood_lawful : IsLawfulCallTable (framed (stood e ends))
  stood_lawful = record {
    keeps = law.keeps;
    at = λ r s. laws_at e ends goes law r s;
    still = λ old new r s. still_at e ends goes law r old new s;
    rises = λ old new r s. rises_at e ends goes law r old new s;
    tells = record { none = λ r. tt; on = λ r q w ts us a b. tt; quiet = λ r x quiet. tt };
    worn_tells = λ r p x quiet. tt;
    worn = λ r p. law.worn r.wait p;
    worn_fits = λ r p. law.worn_fits r.wait p;
    there = λ r s. law.there r.wait;
    few = λ r s fits. let low = law.low r.wait fits in omega (arith, low);
    depth = depth_most;
  }

pub framed_lawful : {W T O : Type 0} (f : FrameTable W T O) → IsLawfulFrame f → IsLawfulCallTable (framed f)
framed_lawful {W} f law =
    let same : f.plan_of ≡ (λ r. framed_plan f (law.ends r) (f.plan_of r)) = λ j r. law.stands r j in
    let there : IsLawfulFrame (stood f law.ends) =
    subst (λ (g : W → Plan). IsLawfulFrame (record f { plan_of = g })) same law in
    let goes : (r : W) (failed : Bool) → law.ends r failed ≡ next_in (framed (stood f law.ends)) (f.finished r failed) =
    subst (λ (g : W → Plan). (r : W) (failed : Bool) → law.ends r failed
    ≡ next_in (framed (record f { plan_of = g })) (f.finished r failed)) same law.goes in
    subst (λ (g : W → Plan). IsLawfulCallTable (framed (record f { plan_of = g }))) (sym same)
    (stood_lawful f law.ends goes there)

-- A `down` takes its own entry off, and one of the count.
use Rattle.std.proofs.Common.{◌∙◌, ap, sym, refl, subst, arith, inl}
use Rattle.std.proofs.lemmas.Bool.Decides.{nat_tests}
use Rattle.std.specs.Prelude.{ℕ, ◌≡◌, ◌<◌, ◌≤◌, ◌-◌, ◌==◌, if◌then◌else◌, Bool, true, false, Some, [], ◌∷◌}
use Rattle.wait_model.specs.{declared.layout.TheConstants.ALL_DONE, declared.points.Next.Next, declared.steps.Step.Step}
use Rattle.wait_model.specs.{PointFacts.IsHome, PointFacts.absent, Runs.is_publishing, Runs.own, Views.Look}
use Rattle.wait_model.specs.declared.points.AwaitPoint.TheVariants as awaiting
use Rattle.wait_model.specs.declared.points.Next.TheVariants as next
use Rattle.wait_model.specs.declared.points.Point.TheVariants as at
use Rattle.wait_model.specs.declared.steps.Step.TheVariants as step
use Rattle.wait_model.specs.declared.watches.Watch.TheVariants as watch
use Rattle.wait_rule.specs.declared.journal.Item.TheVariants as item
use Rattle.wait_rule.specs.{Counts.StoresCount, Known.Known, Queues.MayUnqueue, Queues.index, Transitions.IsSeenAs}
use Rattle.wait_rule.specs.Transitions.{OnlyLooks}
use Rattle.wait_rule.specs.Says.{added, stored_with, told_of}
use Rattle.wait_rule.specs.Stays.{Carries, take_off_change, unchanged}
use Rattle.wait_rule.proofs.{KnownLaws.MemberBits.bit_looks, KnownLaws.Transitions.only_none}
use Rattle.wq_head.specs.{Adds.HasRemoved, Holds.IsHolding}
use Rattle.wait_class.specs.{Findings.saw_nothing, Findings.with_value, declared.stages.Run.Run}
use Rattle.wait_class.specs.Posts.{Post, Stands, own_of}
use Rattle.wait_class.specs.Tables.{IsAt, Turned, next_in, post_of}
use Rattle.wait_class.specs.Laws.{Calm, IsPlainTurn, TurnTrail, turn_post}
use Rattle.wait_class.specs.declared.stages.Turn.TheVariants as turn
use Rattle.wait_class.proofs.{CalmSteps.calm_removed, Ground.Keeping.keeps_taken, Ground.Standing.carried_stands}
use Rattle.wait_class.proofs.{Ground.Standing.owner_own, OwnSteps.own_goes, Turns.GoesOn, Turns.advance_by}
use Rattle.wait_event.specs.Waits.{is_queue}
use Rattle.completion_cell.specs.{Asks.HasCountedDone, HeldPermits.Knows, HeldPermits.WaitsIn}
use Rattle.completion_cell.proofs.{AwaitCounts.keeps_unchanged, AwaitCounts.still_stands_at, AwaitTakes.waits_less}
use Rattle.completion_cell.proofs.{AwaitTrails.knows_by, Completing.stored_agreed, Ground.step_behind}
use Rattle.count_sem.specs.{declared.downs.DownCall.DownCall, declared.downs.DownStage.DownStage}
use Rattle.count_sem.specs.Downs.{down_head, down_table, takes_by, takes_to}
use Rattle.count_sem.specs.declared.downs.DownStage.TheVariants as stage
use Rattle.count_sem.proofs.{DownCounts.at_end, DownCounts.end_is, DownLaws.told_by}

takes_next : (ends : Bool) → ◌≡◌ {A = Next} (next.Go (at.Await (if ends then awaiting.Unlock else awaiting.Last false)))
    (next_in down_table (turn.Again (takes_by ends)))
takes_next true = refl
takes_next false = refl

takes_plain : (ends : Bool) → IsPlainTurn down_table (turn.Again (takes_by ends))
takes_plain true = refl
takes_plain false = refl

-- the own entry, which the hold has seen, is taken off
module _ (old : Known) (run : Run DownCall) (a : IsAt down_table old run stage.TakeQueue) where
  abbrev c : DownCall
  c = run.of

  abbrev x : ℕ
  x = own_of old

  abbrev hd : ℕ
  hd = down_head c

  abbrev z : Post
  z = post_of down_table c stage.TakeQueue

  at_old : old.at ≡ hd
  at_old = a.stands.at hd refl

  pub off_holds : IsHolding old
  off_holds = record {
    locked = a.stands.head ∙ ap Some (sym at_old);
    agreed = a.stands.agreed hd refl;
    told = a.stands.told ∙ ap Some (sym at_old);
  }

  pub off_may : (me : ℕ) → me ≡ old.view.number → MayUnqueue old me 0
  off_may me mine = record {
    entry = a.trail.1.0;
    shows = ap (λ (m : ℕ). (told_of old).hold.book (index m 0)) mine ∙ a.trail.1.1;
    may = inl mine;
  }

  module _ (new : Known) (me : ℕ) (mine : me ≡ old.view.number) (removes : HasRemoved old new me 0)
      (holds : IsHolding new) where
    removed : new ≡ stored_with old (step.Unqueue x)
    removed = removes.is ∙ ap (λ (m : ℕ). stored_with old (step.Unqueue (index m 0))) mine

    taken : Carries (take_off_change x) old new
    taken = subst (λ (m : ℕ). Carries (take_off_change (index m 0)) old new) mine removes.carries

    calm : Calm (step.Unqueue x ∷ []) old new
    calm = calm_removed old new x removed

    knows : Knows new c.cell c.count
    knows =
        let same : x ≡ own old.view.number = omega arith in
        knows_by c.cell old new c.count (step.Unqueue x ∷ []) calm.history calm.number
        (λ k. (same, (refl, refl))) refl a.trail.0.knows

    trail : (ends : Bool) → (c.count == ALL_DONE) ≡ ends → TurnTrail down_table new c (turn.Again (takes_by ends))
    trail true end = (
      Some c.count,
      subst (λ (n : ℕ). WaitsIn c.cell new (Some c.count) n) (knows.loaded.settled.1 (end_is c.count end))
          knows.loaded.waits,
    )
    trail false end = (record { knows = knows; some = a.trail.0.some }, end)

    out : IsHome absent z.watch ((told_of new).bits.stored (index old.view.number 0))
    out = subst (IsHome absent z.watch) (sym (ap (λ (m : ℕ). (told_of new).bits.stored (index m 0)) (sym mine)
        ∙ removes.out)) tt

    stood : (ends : Bool) → Stands new (turn_post down_table c (turn.Again (takes_by ends)))
    stood true = carried_stands (take_off_change x) old new z (post_of down_table c stage.TakeUnlock) taken a.stands
        (λ j at. holds.agreed) refl a.stands.at refl a.stands.state out
    stood false = carried_stands (take_off_change x) old new z (post_of down_table c stage.TakeStore) taken a.stands
        (λ j at. holds.agreed) refl a.stands.at refl a.stands.state out

    goes : GoesOn down_table old new c c stage.TakeQueue (turn.Again (takes_to c))
    goes = own_goes down_table old old new c c stage.TakeQueue (turn.Again (takes_to c)) (step.Unqueue x)
        (record saw_nothing { entry = Some a.trail.1.0; value = c.count }) (only_none old)
        (subst (OnlyLooks (added old (item.Made (step.Unqueue x)))) (sym removed) (bit_looks old (step.Unqueue x)))
        (λ y did. told_by c c y refl refl refl (ap is_queue did)) (keeps_taken x old new taken)
        (ap (λ (b : Bool). next.Go (at.Await (if b then awaiting.Unlock else awaiting.Last false)))
        (at_end c.count a.trail.0.knows.counts.1) ∙ takes_next (c.count == ALL_DONE)) (owner_own old.view.number) (
          tt,
          (subst (λ (l : Look). IsSeenAs l (Some a.trail.1.0)) (sym a.trail.1.1) refl, a.trail.0.knows.counts.0),
          refl,
        )
        (taken.awake ∙ a.up) (stood (c.count == ALL_DONE)) (trail (c.count == ALL_DONE) refl)

    pub off_turned : (u : DownStage) → u ≡ takes_to c
        → Turned down_table old new run run stage.TakeQueue (turn.Again u)
    off_turned u to = subst (λ (s : DownStage). Turned down_table old new run run stage.TakeQueue (turn.Again s))
        (sym to)
        (advance_by down_table old new run run stage.TakeQueue (turn.Again (takes_to c)) refl a.fits
        (takes_plain (c.count == ALL_DONE)) goes)

-- a count that is lowered makes no permit
pub lowers_none : (d n found : ℕ) → (n == 0) ≡ false → n ≤ ALL_DONE → found ≡ n
    → is_publishing (watch.Done d) found (n - 1) ≡ false
lowers_none d n found some small same = grind (arith, nat_tests, same, small, some)

-- one is taken of the count
module _ (old : Known) (run : Run DownCall) (a : IsAt down_table old run stage.TakeStore) where
  abbrev r : DownCall
  r = run.of

  abbrev d : ℕ
  d = r.cell

  abbrev n : ℕ
  n = r.count

  abbrev p : Post
  p = post_of down_table r stage.TakeStore

  abbrev known : Knows old d n
  known = a.trail.0.knows

  pub take_counted : HasCountedDone old d n
  take_counted = record { held = a.stands.head; loaded = known.counts.0; small = known.counts.1 }

  pub take_some : 0 < n
  take_some = let s = a.trail.0.some in grind (arith, nat_tests, s)

  module _ (new : Known) (made : StoresCount old new d (n - 1)) where
    same : made.found ≡ n
    same = made.finds.1 a.stands.head n known.counts.0

    lower : is_publishing (watch.Done d) made.found (n - 1) ≡ false
    lower = lowers_none d n made.found a.trail.0.some known.counts.1 same

    abbrev e : Step
    e = step.Consume (watch.Done d) (n - 1) made.found

    is : new ≡ added old (item.Made e)
    is = made.is ∙ ap (λ (b : Bool). added old (item.Made (if b then step.Publish (watch.Done d) (n - 1) made.found
        else e))) lower

    carries : Carries unchanged old new
    carries = made.consumes lower

    waits_new : WaitsIn d new (Some (n - 1)) 0
    waits_new = waits_less d n old new known made same carries.number

    take_goes : GoesOn down_table old new r r stage.TakeStore (turn.Again stage.TakeUnlock)
    take_goes = own_goes down_table old old new r r stage.TakeStore (turn.Again stage.TakeUnlock) e (with_value n)
        (only_none old) (step_behind old new e is) (λ x did. told_by r r x refl refl refl (ap is_queue did))
        (keeps_unchanged (own_of old) old new carries) refl (refl, refl, lower)
        (sym same, known.counts.0, tt) (carries.awake ∙ a.up)
        (still_stands_at old new carries (stored_agreed old new d (n - 1) made.found made.is) p _ a.stands refl refl
        refl
        refl (λ o h. h)) (Some (n - 1), waits_new)

    pub take_turned : Turned down_table old new run run stage.TakeStore (turn.Again stage.TakeUnlock)
    take_turned = advance_by down_table old new run run stage.TakeStore (turn.Again stage.TakeUnlock) refl a.fits refl
        take_goes

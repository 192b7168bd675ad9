-- Each step that meets its condition keeps the account of permits, and who accounts for them hands them on.
use Rattle.std.proofs.Common.{refl, ap, arith, inl, inr}
use Rattle.std.proofs.lemmas.Bool.Decides.{eqb_tells}
use Rattle.std.specs.Prelude.{ℕ, ◌≡◌, ◌<◌, Bool, true, false, ◌&&◌, Some, None}
use Rattle.wait_model.specs.{declared.layout.TheConstants.TASKS, declared.steps.Step.Step, Facts.Kept, Rows.Allowed}
use Rattle.wait_model.specs.{Runs.own, Tables.Table, Tables.next, Watches.stands_at, Words.flag}
use Rattle.wait_model.specs.Permits.{done_head, is_in, is_handed, is_seen, HandsOnOf, MayGiveBack}
use Rattle.wait_model.specs.PermitFacts.{AccountedAreHanded, AreViewsTold, IsExact, PermitsStartAccounted}
use Rattle.wait_model.specs.PermitFacts.{PermitsStayAccounted, dealt_in, is_settled, worth}
use Rattle.wait_model.specs.declared.steps.Step.TheVariants as step
use Rattle.wait_model.specs.declared.watches.Watch.TheVariants as watch
use Rattle.wait_model.proofs.{HistoryLaws.HoldLooks.told_next, HistoryLaws.StepTotals.sum_same}
use Rattle.wait_model.proofs.{PermitLaws.PermitQueues.queue_exact, PermitLaws.PermitQueues.unqueue_exact}
use Rattle.wait_model.proofs.PermitLaws.OwnTurns.{Turn, clash, in_is, nothing_known, turn_exact}
use Rattle.wait_model.proofs.PermitLaws.PermitTurns.{due, quiet, lock_turn, other_unlock, own_unlock, saw_turn}
use Rattle.wait_model.proofs.PermitLaws.PermitTurns.{load_turn, store_turn}

module _ (s : Table) (a : ℕ) (d : ℕ) (told : AreViewsTold s) (lt : a < TASKS) (k : Kept s) (x : IsExact s d) where
  turns : (e : Step) → Turn s a e d told → IsExact (next s a e) d
  turns e t = turn_exact s a e d told lt k x t

  unlock_exact : (i : ℕ) (sp : Bool) → (s.view a).hold.head ≡ Some i
      → (i ≡ done_head d → MayGiveBack d (own a) (s.view a) (dealt_in s d a)) → IsExact (next s a (step.Unlock i sp)) d
  unlock_exact i sp al on = turns (step.Unlock i sp) (elim (eqb_tells i (done_head d)) [
    | inl q ↦ own_unlock s a d told k x i sp al q.1 q.0 (on q.1)
    | inr q ↦ other_unlock s a d told k x i sp al q.0
  ])

  exact_step : (e : Step) → Allowed s a e → HandsOnOf d a (s.view a) (dealt_in s d a) e → IsExact (next s a e) d
  exact_step (step.Lock i aim f) al on = turns (step.Lock i aim f) (lock_turn s a d told k x i aim f al)
  exact_step (step.Unlock i sp) al on = unlock_exact i sp al.0 on
  exact_step (step.Saw y f) al on = turns (step.Saw y f) (saw_turn s a d told k x y f al)
  exact_step (step.Queue y e) al on = queue_exact s a d told lt k x y e al.0 al.2 al.3 on
  exact_step (step.Unqueue y) al on = unqueue_exact s a d told lt k x y al.0 al.1 al.2
  exact_step (step.Load (watch.Done c) r) al on = turns (step.Load (watch.Done c) r)
      (load_turn s a d told k x c r al)
  exact_step (step.Publish (watch.Done c) n r) al on = turns (step.Publish (watch.Done c) n r)
      (store_turn s a d told k x (step.Publish (watch.Done c) n r) c n r al.2 al.0 refl refl refl refl refl refl refl)
  exact_step (step.Consume (watch.Done c) n r) al on = turns (step.Consume (watch.Done c) n r)
      (store_turn s a d told k x (step.Consume (watch.Done c) n r) c n r al.2 al.1 refl refl refl refl refl refl refl)
  exact_step e al on = turns e (quiet s a d told k x e refl refl refl refl refl refl refl)

pub accounted_step : PermitsStayAccounted
accounted_step s a e lt k al on x = record {
  views = told_next s a e x.views;
  exact = λ d. exact_step s a d x.views lt k (x.exact d) e al (on d);
}

pub accounted_start : PermitsStartAccounted
accounted_start = record {
  views = λ a. refl;
  exact = λ d. record {
    bound = λ x st. omega arith;
    there = λ x st. absurd (clash false st refl);
    quiet = λ a out. (refl, refl);
    known = λ a n c. absurd (nothing_known None n refl c);
  };
}

-- at a free head each task accounts for the permit that was handed to it
pub accounted_handed : AccountedAreHanded
accounted_handed s k x d y free st =
    let b = (x.exact d).bound y st in
    let same = sum_same TASKS (λ a. flag (is_handed (dealt_in s d a) (stands_at (s.entry (own a)) (done_head d))))
    (worth s d) (λ a _. one a) in
    omega (arith, b, same)
  where
    out : (a : ℕ) → (t : Bool) → is_in d (s.view a) ≡ t → is_in d (s.view a) ≡ false
    out a false q = q
    out a true q = absurd (clash (s.holder (done_head d))
        ((k.facts.views a).hold.held (done_head d) (in_is (s.view a).hold.head (done_head d) q)) free)

    one : (a : ℕ) → worth s d a ≡ flag (is_handed (dealt_in s d a) (stands_at (s.entry (own a)) (done_head d)))
    one a =
        let away = out a (is_in d (s.view a)) refl in
        let z = ((x.exact d).quiet a away).0 in
        let f : due (dealt_in s d a).left (is_settled d (own a) (s.view a)) (stands_at (s.entry (own a)) (done_head d))
        ≡ flag (is_handed (dealt_in s d a) (stands_at (s.entry (own a)) (done_head d))) =
        ap (λ (b : Bool). due (dealt_in s d a).left (b && is_seen ((s.view a).hold.book (own a)))
        (stands_at (s.entry (own a)) (done_head d))) away in
        omega (arith, z, f)

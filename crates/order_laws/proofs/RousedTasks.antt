-- Whoever a hold has roused it has left RUNNING by a wake.
use Rattle.std.proofs.lemmas.Bool.Decides.{nat_tests}
use Rattle.std.proofs.Common.{refl, sym, ◌∙◌, ap, arith, inl, inr}
use Rattle.std.specs.Prelude.{ℕ, ◌≡◌, ◌⊎◌, ◌&&◌, ◌||◌, ◌==◌, not, Bool, true, false, List}
use Rattle.wait_model.specs.{declared.steps.Step.Step, Fold.met_task, Fold.view_of, Tasks.task_of}
use Rattle.wait_model.specs.Histories.{Lacks, Since, turns_lock}
use Rattle.wait_model.specs.Views.{Hold, View, blank}
use Rattle.wait_model.specs.declared.steps.Step.TheVariants as step
use Rattle.wait_model.proofs.HistoryLaws.Stretches.{IsSetBy, Seen, kept_so, seen_in}
use Rattle.wait_model.proofs.StepLaws.UnlockSteps.{unlock_hold}
use Rattle.wait_rule.specs.{Queues.MayTakeOff, Says.history_of}
use Rattle.order_laws.specs.TakenOff.{StepsTakeOffWoken, leaves_running}

roused : ℕ → View → Bool
roused u v = v.hold.roused u

-- the wake met the task
rouses : ℕ → Step → Bool
rouses u (step.Wake who mask w) = met_task mask w && (u == who)
rouses u _ = false

bool_flip : (t u : Bool) → (t || u) ≡ (u || (t && not false))
bool_flip t u = grind arith

bool_off : (t : Bool) → false ≡ (false || (t && not true))
bool_off t = grind arith

roused_by : (u : ℕ) → IsSetBy (roused u) (λ e v. rouses u e) turns_lock
unfolding roused rouses
roused_by u (step.Wake who mask w) v = bool_flip (v.hold.roused u) (met_task mask w && (u == who))
roused_by u (step.Lock h aim w) v = bool_off (v.hold.roused u)
roused_by u (step.Unlock h sp) v = ap (λ (k : Hold). k.roused u) (unlock_hold v v.walk sp) ∙ bool_off (v.hold.roused u)
roused_by u e v = kept_so (v.hold.roused u)

leaves : (u : ℕ) (e : Step) → rouses u e ≡ true → leaves_running u e ≡ true
unfolding rouses
leaves u (step.Wake who mask w) is = by (met_task mask w) ((task_of w).state == 0) (u == who) (who == u) turned is
  where
    turned : (u == who) ≡ true → (who == u) ≡ true
    turned q = grind (arith, nat_tests)

    by : (m z a b : Bool) → (a ≡ true → b ≡ true) → (m && a) ≡ true → (b && (m || z)) ≡ true
    by true z true b turn h = grind (arith, turn refl)
    by true z false b turn h = absurd (cc)
    by false z a b turn h = absurd (cc)
leaves u e is = absurd (cc)

roused_since : (es : List Step) (u : ℕ) → (view_of es).hold.roused u ≡ true
    → Since (leaves_running u) turns_lock es
unfolding roused
roused_since es u h = by (seen_in (roused u) (λ e v. rouses u e) turns_lock (roused_by u) es blank h)
  where
    by : Seen (λ e v. rouses u e) turns_lock blank es ⊎ ((roused u blank ≡ true) × Lacks turns_lock es)
        → Since (leaves_running u) turns_lock es
    by (inl k) = record {
      earlier = k.earlier;
      it = k.it;
      later = k.later;
      split = k.split;
      passes = leaves u k.it k.sets;
      none_since = k.none_since;
    }
    by (inr k) = absurd (let z : false ≡ true = k.0 in cc)

pub steps_take_off_woken : StepsTakeOffWoken
steps_take_off_woken k who slot may ne plain = by may.may
  where
    by : MayTakeOff k who may.entry → Since (leaves_running who) turns_lock (history_of k)
    by (inl own) = absurd (ne own)
    by (inr (_, inl met)) = roused_since (history_of k) who met
    by (inr (_, inr simple)) = absurd (let z : false ≡ true = sym plain ∙ simple.0 in cc)

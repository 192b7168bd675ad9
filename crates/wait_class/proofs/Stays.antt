-- What stays of a task over a call that takes nothing; and its add at the front.
use Rattle.std.proofs.Common.{◌∙◌, ap, sym, refl}
use Rattle.std.specs.Prelude.{Err, IfErr, IfOk, None, Ok, Result, Some, false, ℕ, ◌≡◌}
use Rattle.wait_model.specs.{declared.queues.Form.Form, declared.steps.Step.Step, declared.watches.Kind.Kind}
use Rattle.wait_model.specs.{declared.watches.Watch.Watch, Queues.place_for, PointFacts.IsHome, PointFacts.waits}
use Rattle.wait_model.specs.{Runs.entry_for, Views.View as Told}
use Rattle.wait_model.specs.declared.queues.Form.TheVariants as forms
use Rattle.wait_model.specs.declared.steps.Step.TheVariants as step
use Rattle.wait_rule.specs.declared.journal.Item.TheVariants as item
use Rattle.wait_rule.specs.{Ends.WasWorn, Known.Known, Says.Excuse, Says.added, Shown.shown_queue, Transitions.is_worn}
use Rattle.wait_rule.specs.Queues.{at_head, index, walk_of_hold, IsFrontPlace}
use Rattle.wait_rule.specs.Stays.{only_looks, state_change, unchanged, unlock_change, with_entry}
use Rattle.wait_rule.proofs.{KnownLaws.AfterSteps.told_added, KnownLaws.SettledTasks.owes_after}
use Rattle.wq_head.specs.{Holds.IsHolding, declared.adds.Worn.Worn}
use Rattle.wq_head.specs.Adds.{HasAdded, IsFrontWorn, front_entry}
use Rattle.wq_head.proofs.CarriedHolds.{looks_carried, unlock_carried}
use Rattle.wait_class.proofs.FormPlaces.{form_is, form_left, form_worn}
use Rattle.wait_class.proofs.Ground.Keeping.{own_keeps, keeps_none, keeps_of, keeps_on, keeps_queued, keeps_same}
use Rattle.wait_class.proofs.Ground.Keeping.{keeps_taken, keeps_told, placed_owing}
use Rattle.wait_class.specs.{Frames.KeepsAll, Posts.KeepsBut}
use Rattle.wait_class.specs.Laws.{AddsOwn, HasJoined, IsWornFor, KeepsLaws}
use Rattle.wait_class.specs.Tables.{CallTable, stage_watch, watch_in}

-- excused of more meanwhile
pub stays_but : (f : Excuse → Excuse) → KeepsLaws (λ i c g h old new. KeepsBut f i old new)
stays_but f = record {
  domain = λ i c g h old new k. k.domain;
  number = λ i c g h old new k. k.number;
  none = λ i c g k. keeps_none i k;
  on = λ i c f g h old mid new a b. keeps_on i old mid new a b;
  told = λ i c g old new domain number told debts. keeps_same {f = f} i old new domain number told debts;
  lock = λ i c g old h x.
      let e : Step = step.Lock h (walk_of_hold h None) x in
      let told = told_added old (item.Made e) in
      keeps_told {f = f} i old (at_head h (added old (item.Made e))) refl refl (ap (λ (v : Told). v.mark) told)
      (ap (λ (v : Told). v.duty.owes) told) (ap (λ (v : Told). v.bits.stored) told)
      (λ d. ap (λ (v : Told). v.bits.keeps d) told)
      (λ y o. placed_owing (added old (item.Made e)) (at_head h (added old (item.Made e))) refl y
      (owes_after old (added old (item.Made e)) e refl refl y o));
  unlock = λ i c g old new is.
      let carries = unlock_carried old new false is in
      keeps_of i unlock_change old new carries (λ w. refl) (λ x away. refl) (λ x. carries.owes (with_entry i (f x)));
  state = λ i c g old new σ is carries. keeps_of i (state_change σ) old new carries (λ w. refl) (λ x away. refl)
      (λ x. carries.owes (with_entry i (f x)));
  look = λ i c g old new w is carries. keeps_of i unchanged old new carries (λ w. refl) (λ x away. refl)
      (λ x. carries.owes (with_entry i (f x)));
  load = λ i c d g old new v is carries. keeps_of i unchanged old new carries (λ w. refl) (λ x away. refl)
      (λ x. carries.owes (with_entry i (f x)));
  own = λ c g old new o h. own_keeps old new o h;
  removed = λ i c g old new is carries. keeps_taken i old new carries;
  looks = λ i c g old new out l.
      let carries = looks_carried old new l in
      keeps_of i only_looks old new carries (λ w. refl) (λ x away. refl) (λ x. carries.owes (with_entry i (f x)));
}

pub wait_stays : KeepsLaws KeepsAll
wait_stays = stays_but (λ x. x)

-- An add at the front, where the form of the call is that.
module _ {C S O : Type 0} (t : CallTable C S O) (r : C) (s : S) (w : Watch) (k : Kind)
    (front : (t.plan_of r).form ≡ forms.Front)
    (given : (p : ℕ) → front_entry w k p ≡ entry_for ((t.plan_of r).given (t.point_of s)) forms.Front p)
    (home : (p : ℕ) → IsHome waits (stage_watch t r s) (Some (front_entry w k p)))
    (keeps : (old new : Known) → KeepsAll (index old.view.number 0) (watch_in t r) (t.took s) (t.took s) old new
    → t.Keeps (index old.view.number 0) (watch_in t r) (t.took s) (t.took s) old new) where
  joins_front : (old new : Known) → HasAdded IsFrontPlace old new 0 (front_entry w k)
      → HasJoined t r s old new
  joins_front old new x = record {
    seen = x.seen;
    entry = front_entry w k x.place;
    looks = x.looks;
    whole = x.whole;
    is_off = x.is_off;
    placed = given x.place ∙ (ap (entry_for ((t.plan_of r).given (t.point_of s)) forms.Front)
        (sym (form_is x.seen x.low forms.Front x.place x.sort))
        ∙ ap (λ (f : Form). entry_for ((t.plan_of r).given (t.point_of s)) f (place_for f (shown_queue x.seen)))
        (sym front));
    left = ap (λ (f : Form). is_worn f (shown_queue x.seen)) front ∙ form_left x.seen x.low forms.Front x.place x.sort;
    is = x.is;
    queued = x.queued;
    home = home x.place;
    keeps = keeps old new (keeps_queued (index old.view.number 0) old new x.carries);
  }

  wears_front : (old new : Known) (v : Worn) → IsFrontWorn old new v
      → WasWorn new.view.number new.view.items v.head v.place → IsWornFor t r old new v
  wears_front old new v worn noted =
      let x = form_worn forms.Front old new v worn in
      record {
        looks = x.looks;
        whole = x.whole;
        head = x.head;
        worn = ap (λ (f : Form). is_worn f (shown_queue new)) front ∙ x.worn;
        noted = noted;
      }

  pub adds_front : (old new : Known) (o : Result (Unit {0}) Worn)
      → IfOk o (λ _. HasAdded IsFrontPlace old new 0 (front_entry w k)) → IfErr o (λ v. IsFrontWorn old new v)
      → IfErr o (λ v. WasWorn new.view.number new.view.items v.head v.place) → IsHolding new → new.at ≡ old.at
      → AddsOwn t r s old new o
  adds_front old new (Ok u) queued worn noted held at = record {
    held = held;
    at = at;
    by = joins_front old new queued;
  }
  adds_front old new (Err v) queued worn noted held at = record {
    held = held;
    at = at;
    by = wears_front old new v worn noted;
  }

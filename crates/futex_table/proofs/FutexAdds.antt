-- The add of a wait's entry.
use Rattle.std.proofs.Common.{ap, sym, refl, subst, lt-ltb}
use Rattle.std.specs.Prelude.{ℕ, ◌≡◌, ◌<◌, Bool, if◌then◌else◌, Result, Ok, Err, IfOk, IfErr}
use Rattle.wait_model.specs.{declared.layout.TheConstants.FIRST_SIMPLE, declared.watches.Kind.Kind}
use Rattle.wait_model.specs.{declared.watches.Watch.Watch, Watches.kind_for}
use Rattle.wait_model.specs.declared.queues.Form.TheVariants as forms
use Rattle.wait_model.specs.declared.watches.Kind.TheVariants as kind
use Rattle.wait_rule.specs.{Ends.WasWorn, Known.Known, Queues.index}
use Rattle.wq_head.specs.{declared.adds.Worn.Worn, Holds.IsHolding}
use Rattle.wq_head.specs.Adds.{HasAdded, IsFormPlace, IsFormWorn}
use Rattle.wait_class.specs.declared.stages.Doing.TheVariants as doing
use Rattle.wait_class.specs.Laws.{AddsOwn, HasJoined, IsWornFor}
use Rattle.wait_class.specs.Queueing.{form_entry}
use Rattle.wait_class.proofs.FormPlaces.{form_is, form_left, form_worn}
use Rattle.wait_class.proofs.Ground.Keeping.{keeps_queued}
use Rattle.futex_table.specs.{declared.waits.FutexStage.FutexStage, declared.waits.FutexWait.FutexWait}
use Rattle.futex_table.specs.FutexTables.{futex_doing, futex_table, futex_word}
use Rattle.futex_table.specs.declared.waits.FutexStage.TheVariants as stage

queue_only : (s : FutexStage) → futex_doing s ≡ doing.Queue → s ≡ stage.Queue
queue_only stage.Queue here = refl
queue_only s here = absurd (cc)

-- the kind of its entry
pub kind_is : (f : ℕ) → f < FIRST_SIMPLE → kind_for (futex_word f) ≡ kind.Autoremove
kind_is f few = ap (λ (b : Bool). if b then kind.Autoremove else kind.Simple) (lt-ltb f FIRST_SIMPLE few)

module _ (r : FutexWait) (old new : Known) where
  joined : HasAdded (IsFormPlace forms.Tail) old new 0 (form_entry forms.Tail (futex_word r.futex)
      (kind_for (futex_word r.futex))) → HasJoined futex_table r stage.Queue old new
  joined x = record {
    seen = x.seen;
    entry = form_entry forms.Tail (futex_word r.futex) (kind_for (futex_word r.futex)) x.place;
    looks = x.looks;
    whole = x.whole;
    is_off = x.is_off;
    placed = ap (form_entry forms.Tail (futex_word r.futex) (kind_for (futex_word r.futex)))
        (sym (form_is x.seen x.low forms.Tail x.place x.sort));
    left = form_left x.seen x.low forms.Tail x.place x.sort;
    is = x.is;
    queued = x.queued;
    home = (refl, refl);
    keeps = keeps_queued (index old.view.number 0) old new x.carries;
  }

  -- with the numbers that the code names
  module _ (s : FutexStage) (here : futex_doing s ≡ doing.Queue) (c : Watch) (same : c ≡ futex_word r.futex) (k : Kind)
      (its : k ≡ kind_for c) where
    add_joins : HasAdded (IsFormPlace forms.Tail) old new 0 (form_entry forms.Tail c k)
        → HasJoined futex_table r s old new
    add_joins x = subst (λ (q : FutexStage). HasJoined futex_table r q old new) (sym (queue_only s here))
        (joined (subst (λ (d : Watch). HasAdded (IsFormPlace forms.Tail) old new 0
        (form_entry forms.Tail d (kind_for d))) same
        (subst (λ (l : Kind). HasAdded (IsFormPlace forms.Tail) old new 0 (form_entry forms.Tail c l)) its x)))

    add_wears : (w : Worn) → IsFormWorn forms.Tail old new w → WasWorn new.view.number new.view.items w.head w.place
        → IsWornFor futex_table r old new w
    add_wears w worn noted =
        let x = form_worn forms.Tail old new w worn in
        record { looks = x.looks; whole = x.whole; head = x.head; worn = x.worn; noted = noted }

    pub adds_own : (o : Result (Unit {0}) Worn)
        → IfOk o (λ _. HasAdded (IsFormPlace forms.Tail) old new 0 (form_entry forms.Tail c k))
        → IfErr o (λ w. IsFormWorn forms.Tail old new w)
        → IfErr o (λ w. WasWorn new.view.number new.view.items w.head w.place) → IsHolding new → new.at ≡ old.at
        → AddsOwn futex_table r s old new o
    adds_own (Ok u) queued worn noted held at = record { held = held; at = at; by = add_joins queued }
    adds_own (Err w) queued worn noted held at = record { held = held; at = at; by = add_wears w worn noted }

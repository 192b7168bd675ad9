-- The add of a wait's entry.
use Rattle.std.proofs.Common.{ap, sym, refl, subst}
use Rattle.std.specs.Prelude.{◌≡◌, Result, Ok, Err, IfOk, IfErr}
use Rattle.wait_model.specs.{declared.queues.Form.Form, declared.watches.Kind.Kind, declared.watches.Watch.Watch}
use Rattle.wait_model.specs.{Watches.bare, Watches.kind_for}
use Rattle.wait_model.specs.declared.watches.Watch.TheVariants as watch
use Rattle.wait_rule.specs.{Ends.WasWorn, Known.Known, Queues.index}
use Rattle.wq_head.specs.{declared.adds.Worn.Worn, Holds.IsHolding}
use Rattle.wq_head.specs.Adds.{HasAdded, IsFormPlace, IsFormWorn}
use Rattle.wait_class.specs.declared.stages.Doing.TheVariants as doing
use Rattle.wait_class.specs.Laws.{AddsOwn, HasJoined, IsWornFor}
use Rattle.wait_class.specs.Queueing.{form_entry, wait_form}
use Rattle.wait_class.proofs.FormPlaces.{form_is, form_left, form_worn}
use Rattle.wait_class.proofs.Ground.Keeping.{keeps_queued}
use Rattle.wait_event.specs.{Waits.wait_doing, Waits.wait_table, declared.waits.WaitCall.WaitCall}
use Rattle.wait_event.specs.declared.waits.WaitStage.{WaitStage}
use Rattle.wait_event.specs.declared.waits.WaitStage.TheVariants as stage

pub queue_only : (s : WaitStage) → wait_doing s ≡ doing.Queue → s ≡ stage.PrepareQueue
queue_only stage.PrepareQueue here = refl
queue_only s here = absurd (cc)

-- the old value of a variable does not matter to the kind
bare_kind : (w : Watch) → kind_for (bare w) ≡ kind_for w
bare_kind (watch.Plain c) = refl
bare_kind _ = refl

module _ (r : WaitCall) (old new : Known) where
  joins : HasAdded (IsFormPlace (wait_form r.how)) old new 0 (form_entry (wait_form r.how) (bare r.watch) (kind_for r.watch))
      → HasJoined wait_table r stage.PrepareQueue old new
  joins x =
      let form = wait_form r.how in
      record {
        seen = x.seen;
        entry = form_entry form (bare r.watch) (kind_for r.watch) x.place;
        looks = x.looks;
        whole = x.whole;
        is_off = x.is_off;
        placed = ap (form_entry form (bare r.watch) (kind_for r.watch)) (sym (form_is x.seen x.low form x.place x.sort));
        left = form_left x.seen x.low form x.place x.sort;
        is = x.is;
        queued = x.queued;
        home = (refl, refl);
        keeps = keeps_queued (index old.view.number 0) old new x.carries;
      }

  -- with the numbers that the code names
  module _ (s : WaitStage) (here : wait_doing s ≡ doing.Queue) (form : Form) (is : form ≡ wait_form r.how) (c : Watch)
      (same : c ≡ bare r.watch) (k : Kind) (its : k ≡ kind_for c) where
    add_joins : HasAdded (IsFormPlace form) old new 0 (form_entry form c k) → HasJoined wait_table r s old new
    add_joins x =
        subst (λ (q : WaitStage). HasJoined wait_table r q old new) (sym (queue_only s here))
        (joins
        (subst (λ (l : Kind). HasAdded (IsFormPlace (wait_form r.how)) old new 0
        (form_entry (wait_form r.how) (bare r.watch) l)) (bare_kind r.watch)
        (subst (λ (d : Watch). HasAdded (IsFormPlace (wait_form r.how)) old new 0
        (form_entry (wait_form r.how) d (kind_for d))) same
        (subst (λ (l : Kind). HasAdded (IsFormPlace (wait_form r.how)) old new 0 (form_entry (wait_form r.how) c l)) its
        (subst (λ (g : Form). HasAdded (IsFormPlace g) old new 0 (form_entry g c k)) is x)))))

    add_wears : (w : Worn) → IsFormWorn form old new w → WasWorn new.view.number new.view.items w.head w.place
        → IsWornFor wait_table r old new w
    add_wears w worn noted =
        let x = form_worn (wait_form r.how) old new w (subst (λ (g : Form). IsFormWorn g old new w) is worn) in
        record { looks = x.looks; whole = x.whole; head = x.head; worn = x.worn; noted = noted }

    pub adds_own : (o : Result (Unit {0}) Worn)
        → IfOk o (λ _. HasAdded (IsFormPlace form) old new 0 (form_entry form c k))
        → IfErr o (λ w. IsFormWorn form old new w)
        → IfErr o (λ w. WasWorn new.view.number new.view.items w.head w.place) → IsHolding new → new.at ≡ old.at
        → AddsOwn wait_table r s old new o
    adds_own (Ok u) queued worn noted held at = record { held = held; at = at; by = add_joins queued }
    adds_own (Err w) queued worn noted held at = record { held = held; at = at; by = add_wears w worn noted }

-- The own entry is queued at the tail of a completion's head, or no place is left for it: by the table of any call that
-- queues it there.
use Rattle.std.proofs.Common.{◌∙◌, ap, sym, refl, subst, inr}
use Rattle.std.specs.Prelude.{ℕ, ◌≡◌, true, false, Option, Some, None, Result, Ok, Err, IfOk, IfErr}
use Rattle.wait_model.specs.{declared.queues.Form.Form, declared.watches.Entry.Entry, declared.watches.Watch.Watch}
use Rattle.wait_model.specs.{PointFacts.IsHome, PointFacts.waits, Queues.place_for, Runs.entry_for, Watches.head_of}
use Rattle.wait_model.specs.declared.queues.Form.TheVariants as forms
use Rattle.wait_model.specs.declared.steps.Step.TheVariants as step
use Rattle.wait_model.specs.declared.watches.Kind.TheVariants as kind
use Rattle.wait_model.specs.declared.watches.Watch.TheVariants as watch
use Rattle.wait_rule.specs.declared.journal.Item.TheVariants as item
use Rattle.wait_rule.specs.{Ends.WasWorn, HandedPermits.FoundNoPermit, HeldValues.count_in, Known.Known, Queues.index}
use Rattle.wait_rule.specs.{Queues.saw, Says.added, Says.history_of, Shown.shown_queue, Transitions.is_worn}
use Rattle.wait_rule.specs.Stays.{Carries, queue_cell_change, with_entry, with_left_entry}
use Rattle.wait_rule.proofs.{KnownLaws.HandedPermits.cell_is, KnownLaws.TaskHistories.history_after}
use Rattle.wq_head.specs.{Holds.IsHolding, declared.adds.Worn.Worn}
use Rattle.wq_head.specs.Adds.{HasAddedForCell, IsTailWorn, tail_entry}
use Rattle.wait_class.specs.Laws.{AddsOwn, HasJoined, IsWornFor, MayAdd}
use Rattle.wait_class.specs.Tables.{CallTable, stage_watch, watch_in}
use Rattle.wait_class.specs.Posts.{HasSeenOwn, KeepsBut, own_of}
use Rattle.wait_class.proofs.FormPlaces.{form_is, form_left, form_worn}
use Rattle.wait_class.proofs.Ground.Keeping.{keeps_of, once}
use Rattle.completion_cell.specs.{Awaits.await_table, declared.awaits.AwaitCall.AwaitCall}
use Rattle.completion_cell.specs.declared.awaits.AwaitStage.TheVariants as stage
use Rattle.completion_cell.proofs.Ground.{count_after_step}

-- an entry that is queued at a completion, of which the task is excused meanwhile
keeps_left : (i : ℕ) (old new : Known) → Carries (queue_cell_change i) old new → KeepsBut with_left_entry i old new
unfolding with_entry with_left_entry
keeps_left i old new c = keeps_of i (queue_cell_change i) old new c (λ w. refl) (λ x away. away)
    (λ x o. once i (with_left_entry x) new (c.owes (with_entry i (with_left_entry x)) o))

-- a look at the own entry says nothing of the count
saw_count : (d : ℕ) (old new : Known) (o : Option Entry) → HasSeenOwn old new o
    → count_in d (history_of new) ≡ count_in d (history_of old)
saw_count d old new o h = ap (λ (k : Known). count_in d (history_of k)) h.is ∙ by old.book.head
  where
    by : (q : Option ℕ) → count_in d (history_of (added old (item.Made (saw q (index old.view.number 0) h.word))))
        ≡ count_in d (history_of old)
    by None =
        let e = step.Peek (index old.view.number 0) h.word in
        count_after_step d old (added old (item.Made e)) e (history_after old (added old (item.Made e)) e refl)
    by (Some i) =
        let e = step.Saw (index old.view.number 0) h.word in
        count_after_step d old (added old (item.Made e)) e (history_after old (added old (item.Made e)) e refl)

-- a call that queues its entry there at this stage
pub record QueuesAtCell {C S O : Type 0} (t : CallTable C S O) (r : C) (s : S) (d : ℕ) : Type 0 where
  pub form : (t.plan_of r).form ≡ forms.Tail
  pub entry : (place : ℕ) → entry_for ((t.plan_of r).given (t.point_of s)) forms.Tail place
      ≡ tail_entry false (watch.Done d) kind.Simple place
  pub about : stage_watch t r s ≡ watch.Done d
  pub keeps : (old new : Known) → KeepsBut with_left_entry (own_of old) old new
      → t.Keeps (own_of old) (watch_in t r) (t.took s) (t.took s) old new

-- its hold has found no permit where its count is known to be 0
pub add_permits : {C S O : Type 0} (t : CallTable C S O) (r : C) (s : S) (d : ℕ) → QueuesAtCell t r s d → (old : Known)
    → (m : MayAdd t r s old) → count_in d (history_of m.trail.0) ≡ Some 0 → FoundNoPermit old 0
add_permits t r s d q old m zero = inr (
  refl,
  subst (λ (e : ℕ). count_in e (history_of old) ≡ Some 0)
      (sym (cell_is old.at d (sym m.head ∙ ap head_of q.about)))
      (saw_count d m.trail.0 old None m.trail.1 ∙ zero),
)

module _ {C S O : Type 0} (t : CallTable C S O) (r : C) (s : S) (d : ℕ) (q : QueuesAtCell t r s d) (old new : Known) where
  abbrev at_tail : ℕ → Entry
  at_tail = tail_entry false (watch.Done d) kind.Simple

  joins : HasAddedForCell old new 0 at_tail → HasJoined t r s old new
  joins x = record {
    seen = x.seen;
    entry = at_tail x.place;
    looks = x.looks;
    whole = x.whole;
    is_off = x.is_off;
    placed = subst (λ (f : Form). at_tail x.place ≡ entry_for ((t.plan_of r).given (t.point_of s)) f
        (place_for f (shown_queue x.seen))) (sym q.form)
        (ap at_tail (sym (form_is x.seen x.low forms.Tail x.place x.sort))
        ∙ sym (q.entry (place_for forms.Tail (shown_queue x.seen))));
    left = subst (λ (f : Form). is_worn f (shown_queue x.seen) ≡ false) (sym q.form)
        (form_left x.seen x.low forms.Tail x.place x.sort);
    is = x.is;
    queued = x.queued;
    home = subst (λ (w : Watch). IsHome waits w (Some (at_tail x.place))) (sym q.about) (refl, refl);
    keeps = q.keeps old new (keeps_left (index old.view.number 0) old new x.carries);
  }

  wears : (w : Worn) → IsTailWorn old new w → WasWorn new.view.number new.view.items w.head w.place
      → IsWornFor t r old new w
  wears w worn noted =
      let x = form_worn forms.Tail old new w worn in
      record {
        looks = x.looks;
        whole = x.whole;
        head = x.head;
        worn = subst (λ (f : Form). is_worn f (shown_queue new) ≡ true) (sym q.form) x.worn;
        noted = noted;
      }

  pub adds_cell : (o : Result (Unit {0}) Worn)
      → IfOk o (λ _. HasAddedForCell old new 0 at_tail)
      → IfErr o (λ w. IsTailWorn old new w)
      → IfErr o (λ w. WasWorn new.view.number new.view.items w.head w.place) → IsHolding new → new.at ≡ old.at
      → AddsOwn t r s old new o
  adds_cell (Ok u) queued worn noted held at = record { held = held; at = at; by = joins queued }
  adds_cell (Err w) queued worn noted held at = record { held = held; at = at; by = wears w worn noted }

-- so a wait queues its own
pub wait_queues : (r : AwaitCall) → QueuesAtCell await_table r stage.Queue r.cell
wait_queues r = record { form = refl; entry = λ place. refl; about = refl; keeps = λ old new k. k }

-- To be believed.
-- The add of an entry in a hold, by its form.
use Rattle.std.specs.Prelude.{ℕ, ◌≡◌, ◌&&◌, not, Bool, true, false, if◌then◌else◌, List, [], ◌∷◌}
use Rattle.wait_model.specs.{declared.queues.Form.Form, declared.queues.Member.Member, declared.tasks.How.How}
use Rattle.wait_model.specs.{declared.watches.Entry.Entry, declared.watches.Kind.Kind, declared.watches.Watch.Watch}
use Rattle.wait_model.specs.{Queues.is_exclusive, Queues.is_priority, Watches.is_simple}
use Rattle.wait_model.specs.declared.queues.Form.TheVariants as forms
use Rattle.wait_rule.specs.{Known.Known, Queues.IsWholeBook, Shown.shown_queue}
use Rattle.wq_head.specs.Adds.{IsFor, IsForPlain, IsForTail}

-- the entry that an add of a form queues; a simple entry is not exclusive
abbrev pub form_entry : Form → Watch → Kind → ℕ → Entry
form_entry form w k place = record {
  watch = w;
  place = place;
  exclusive = is_exclusive form && not (is_simple k);
  priority = is_priority form;
  kind = k;
}

-- what an add of a form may queue: an entry for a simple head is added at the tail
abbrev pub IsForBy : Form → Watch → Kind → Type 0
IsForBy forms.Front w k = IsFor w k
IsForBy forms.Tail w k = IsForTail w k
IsForBy forms.Priority w k = IsForPlain w k

-- the form of a wait's entry
abbrev pub wait_form : How → Form
wait_form how = if how.exclusive then forms.Tail else forms.Front

-- whether a queue has no member
abbrev pub is_none : List Member → Bool
is_none [] = true
is_none (m ∷ ms) = false

-- where it was asked for, the hold has seen the whole queue, and tells whether it has no member
pub record TellsFirst (asked : Bool) (k : Known) (first : Bool) : Type 0 where
  pub tells : first ≡ (asked && is_none (shown_queue k))
  pub whole : asked ≡ true → IsWholeBook k

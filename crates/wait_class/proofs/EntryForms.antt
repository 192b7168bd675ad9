-- The kinds of entries that may be added by each form.
use Rattle.std.proofs.Common.{ap, sym, inl, inr}
use Rattle.std.specs.Prelude.{◌≡◌, not, true}
use Rattle.wait_model.specs.{declared.queues.Form.Form, declared.watches.Kind.Kind, declared.watches.Watch.Watch}
use Rattle.wait_model.specs.Watches.{is_simple}
use Rattle.wait_model.specs.declared.queues.Form.TheVariants as forms
use Rattle.wq_head.specs.Adds.{IsForPlain, IsFullKind}
use Rattle.wait_class.specs.Queueing.{IsForBy}

-- an entry for a full head may be added by each form
pub for_by : (form : Form) (w : Watch) (k : Kind) → IsForPlain w k → IsForBy form w k
for_by forms.Front w k is = inl is
for_by forms.Tail w k is = inl is
for_by forms.Priority w k is = is

pub for_flags : (w : Watch) (k : Kind) → IsForPlain w k → true ≡ not (is_simple k)
for_flags w k is = by is.3
  where
    by : IsFullKind k → true ≡ not (is_simple k)
    by (inl default) = sym (ap (λ (l : Kind). not (is_simple l)) default)
    by (inr (inl auto)) = sym (ap (λ (l : Kind). not (is_simple l)) auto)
    by (inr (inr woken)) = sym (ap (λ (l : Kind). not (is_simple l)) woken)

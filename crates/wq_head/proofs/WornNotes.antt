-- An add that found no place leaves a note of it in the task's list.
use Rattle.std.proofs.Common.{◌∙◌, ap, sym, inl, inr}
use Rattle.std.specs.Prelude.{ℕ, ◌≡◌, Some}
use Rattle.wait_model.specs.declared.queues.Form.{Form}
use Rattle.wait_model.specs.declared.queues.Form.TheVariants as forms
use Rattle.wait_rule.specs.{Ends.WasWorn, Known.Known, Says.told_of}
use Rattle.wait_rule.proofs.WornHeads.WornNotes.{holds_note}
use Rattle.wq_head.specs.{declared.adds.Worn.Worn, Holds.IsHolding, Looks.Looks, Adds.IsFormWorn}

holds_at : (old new : Known) (h : ℕ) → IsHolding new → Looks old new → h ≡ old.at → (told_of new).hold.head ≡ Some h
holds_at old new h held l at = held.told ∙ ap Some (ap (λ (k : Known). k.at) l.is ∙ sym at)

pub form_note : (f : Form) (old new : Known) (w : Worn) → IsHolding new → IsFormWorn f old new w
    → WasWorn new.view.number new.view.items w.head w.place
form_note forms.Front old new w held (l, whole, at, low, none, below) = holds_note new w.head w.place
    (holds_at old new w.head held l at) (inl (low.0, (low.0.above, low.0.below, inl none)))
form_note forms.Tail old new w held (l, whole, at, high, none, below) = holds_note new w.head w.place
    (holds_at old new w.head held l at) (inl (high.0, (high.0.above, high.0.below, inr none)))
form_note forms.Priority old new w held (l, whole, at, high, none, below) = holds_note new w.head w.place
    (holds_at old new w.head held l at) (inr (high.0, (high.0.below, none)))

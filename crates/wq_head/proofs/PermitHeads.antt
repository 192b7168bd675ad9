-- Heads that are none of a completion, at which nothing is asked of permits; and looks in a hold, after which a count
-- is known as before.
use Rattle.std.proofs.Common.{refl, ◌∙◌, ap, arith, inl, inr}
use Rattle.std.specs.Prelude.{ℕ, ◌≡◌, ◌+◌, ◌*◌, ◌<◌, ◌-◌, Option, None, List, [], ◌∷◌, ◌++◌}
use Rattle.wait_model.specs.{declared.steps.Step.Step, declared.watches.Kind.Kind}
use Rattle.wait_model.specs.{declared.watches.Watch.Watch, Watches.head_of, Watches.page}
use Rattle.wait_model.specs.declared.layout.TheConstants.{BIT_WORDS, WORD_BITS, FIRST_DONE_HEAD}
use Rattle.wait_model.specs.declared.watches.Watch.TheVariants as watch
use Rattle.wait_rule.specs.{declared.journal.Item.Item, HandedPermits.FoundNoPermit, HandedPermits.OwesNoPermit}
use Rattle.wait_rule.specs.{Items.steps_of, Known.Known, Says.history_of, Transitions.AreLooks}
use Rattle.wait_rule.specs.HeldValues.{count_in, value_after, value_from}
use Rattle.wait_rule.proofs.TableSteps.ItemLists.{steps_append}
use Rattle.wq_head.specs.{Looks.Looks, Walks.IsFull}
use Rattle.wq_head.specs.Adds.{IsFor, IsForBit, IsForPlain, IsForVar}
use Rattle.wq_head.proofs.{FullHeads.hashed_low, FullHeads.head_small, LookedItems.looks_by}

-- heads below those of completions
pub plain_low : (w : Watch) (k : Kind) → IsForPlain w k → head_of w < FIRST_DONE_HEAD
unfolding head_of
plain_low w k f =
    let few = f.2 in
    let is = ap head_of f.1 in
    omega (arith, few, is)

pub bit_low : (w : Watch) (k : Kind) → IsForBit w k → head_of w < FIRST_DONE_HEAD
unfolding head_of
bit_low w k f =
    let low = hashed_low (f.1.0 * WORD_BITS + f.1.1) in
    let is = ap head_of f.1.2 in
    omega (arith, low, is)

pub bits_low : (w b : ℕ) → head_of (watch.Bit w b) < FIRST_DONE_HEAD
unfolding head_of
bits_low w b = let low = hashed_low (w * WORD_BITS + b) in omega (arith, low)

pub page_low : (w : ℕ) → head_of (page w) < FIRST_DONE_HEAD
unfolding head_of
page_low w = let low = hashed_low (w * WORD_BITS + 0) in omega (arith, low)

pub var_low : (w : Watch) (k : Kind) → IsForVar w k → head_of w < FIRST_DONE_HEAD
unfolding head_of
var_low w k f =
    let low = hashed_low (BIT_WORDS + f.1.0) in
    let is = ap head_of f.1.1 in
    omega (arith, low, is)

pub front_low : (w : Watch) (k : Kind) → IsFor w k → head_of w < FIRST_DONE_HEAD
front_low w k f = elim f [
  | inl plain ↦ plain_low w k plain
  | inr hashed ↦ (elim hashed [ inl bit ↦ bit_low w k bit | inr var ↦ var_low w k var ])
]

pub full_low : (w : Watch) → IsFull w → head_of w < FIRST_DONE_HEAD
full_low w full = let small = head_small w full in omega (arith, small)

pub found_low : (k : Known) (slot h : ℕ) → k.at ≡ h → h < FIRST_DONE_HEAD → FoundNoPermit k slot
found_low k slot h at low = inl (omega (arith, at, low))

pub owes_low : (k : Known) (h : ℕ) → k.at ≡ h → h < FIRST_DONE_HEAD → OwesNoPermit k
owes_low k h at low = inl (omega (arith, at, low))

-- a walk's head
pub walk_owes : (w : Watch) (k : Known) → IsFull w → k.at ≡ head_of w → OwesNoPermit k
walk_owes w k full at = owes_low k (head_of w) at (full_low w full)

-- looks leave the count known
value_more : (c : Watch) (o : Option ℕ) (es fs : List Step)
    → value_from c o (es ++ fs) ≡ value_from c (value_from c o es) fs
value_more c o [] fs = refl
value_more c o (e ∷ es) fs = value_more c (value_after c e o) es fs

looks_value : (c : Watch) (o : Option ℕ) (xs : List Item) → AreLooks xs → value_from c o (steps_of xs) ≡ o
looks_value c o = looks_by (λ es. value_from c o es ≡ o) refl (λ y w es is. is)

looked_count : (d : ℕ) (old new : Known) → Looks old new → count_in d (history_of new) ≡ count_in d (history_of old)
looked_count d old new l =
    ap (count_in d) (ap history_of l.is ∙ steps_append old.view.items l.items)
    ∙ (value_more (watch.Done d) None (history_of old) (steps_of l.items)
    ∙ looks_value (watch.Done d) (count_in d (history_of old)) l.items l.looks)

pub looks_found : (old new : Known) (slot : ℕ) → Looks old new → FoundNoPermit old slot → FoundNoPermit new slot
looks_found old new slot l f =
    let same : new.at ≡ old.at = ap (λ (k : Known). k.at) l.is in
    elim f [
      | inl low ↦ found_low new slot old.at same low
      | inr zero ↦ inr (
        zero.0,
        ap (λ (h : ℕ). count_in (h - FIRST_DONE_HEAD) (history_of new)) same
            ∙ (looked_count (old.at - FIRST_DONE_HEAD) old new l ∙ zero.1),
      )
    ]

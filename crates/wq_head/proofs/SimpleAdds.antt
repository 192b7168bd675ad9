-- The entries of adds at the tail, also at simple heads.
use Rattle.std.proofs.Common.{refl, subst, sym, inl, inr, arith, ap}
use Rattle.std.proofs.lemmas.Bool.{and_right}
use Rattle.std.specs.Prelude.{ℕ, ◌≡◌, ◌<◌, not, Bool, false, Some}
use Rattle.wait_model.specs.declared.layout.TheConstants.{FIRST_DONE_HEAD}
use Rattle.wait_model.specs.{declared.layout.TheConstants.PLAIN_CONDITIONS, declared.watches.Entry.Entry}
use Rattle.wait_model.specs.{declared.watches.Watch.Watch, declared.watches.Kind.Kind, Watches.head_of, Watches.is_page}
use Rattle.wait_model.specs.Views.{is_trying_for}
use Rattle.wait_model.specs.declared.watches.Watch.TheVariants as watch
use Rattle.wait_model.specs.declared.watches.Kind.TheVariants as kind
use Rattle.wait_rule.specs.{Known.Known, Queues.IsTailPlace}
use Rattle.wq_head.specs.Adds.{HasAdded, HasAddedForCell, HasAddedTail, IsForTail, tail_entry}
use Rattle.wq_head.proofs.PermitHeads.{plain_low}
use Rattle.wq_head.proofs.AddedEntries.{TriesNo, plain_tries}

no_bit : (k : Kind) → k ≡ kind.Simple → k ≡ kind.Bit → ⊥
no_bit k simple bit = absurd (cc)

pub tail_tries : (w : Watch) (k : Kind) (b : Bool) (p : ℕ) → IsForTail w k → TriesNo (tail_entry b w k p)
tail_tries w k b p (inl full) = plain_tries w k b false p full
tail_tries w k b p (inr (simple, inl plain)) = (
  λ c. subst (λ (v : Watch). is_trying_for (Some (tail_entry b v k p)) c ≡ false) (sym plain.1) (and_right b false refl),
  ap (λ (q : Kind). not (is_page q)) simple,
)
tail_tries w k b p (inr (simple, inr done)) = (
  λ c. subst (λ (v : Watch). is_trying_for (Some (tail_entry b v k p)) c ≡ false) (sym done.1) (and_right b false refl),
  ap (λ (q : Kind). not (is_page q)) simple,
)

-- an entry for no completion stands at a head of none, and so the add is one or the other
abbrev pub IsNoCell : Watch → Type 0
IsNoCell (watch.Done d) = ⊥
IsNoCell _ = Unit {0}

cond_below : (c : ℕ) → c < PLAIN_CONDITIONS → head_of (watch.Plain c) < FIRST_DONE_HEAD
unfolding head_of
cond_below c few = omega (arith, few)

tail_low : (w : Watch) (k : Kind) → IsForTail w k → IsNoCell w → head_of w < FIRST_DONE_HEAD
tail_low w k (inl full) other = plain_low w k full
tail_low w k (inr (simple, inl plain)) other = subst (λ (v : Watch). head_of v < FIRST_DONE_HEAD) (sym plain.1)
    (cond_below plain.0 plain.3)
tail_low w k (inr (simple, inr done)) other = absurd (subst IsNoCell done.1 other)

pub added_tail : (w : Watch) (k : Kind) (old new : Known) (slot : ℕ) (entry : ℕ → Entry) → IsForTail w k
    → (head_of w < FIRST_DONE_HEAD → HasAdded IsTailPlace old new slot entry) → HasAddedForCell old new slot entry
    → HasAddedTail w old new slot entry
added_tail (watch.Done d) k old new slot entry suits low cell = cell
added_tail (watch.Plain c) k old new slot entry suits low cell = low (tail_low (watch.Plain c) k suits tt)
added_tail (watch.Bit n b) k old new slot entry suits low cell = low (tail_low (watch.Bit n b) k suits tt)
added_tail (watch.Var v o) k old new slot entry suits low cell = low (tail_low (watch.Var v o) k suits tt)

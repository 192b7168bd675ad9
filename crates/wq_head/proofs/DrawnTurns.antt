-- One try of the lock by a ticket that is drawn.
use Rattle.std.proofs.Common.{◌∙◌, ap, sym, refl, subst}
use Rattle.std.specs.Prelude.{ℕ, ◌≡◌, ◌≢◌, false, Option}
use Rattle.wait_model.specs.{declared.watches.Aim.Aim, Words.held_of}
use Rattle.wait_model.specs.declared.steps.Step.TheVariants as step
use Rattle.wait_rule.specs.declared.journal.Item.TheVariants as item
use Rattle.wait_rule.specs.{Known.Known, Says.IsUp, Says.added, Members.IsHeadWord}
use Rattle.wait_rule.specs.Queues.{IsTurn, Resumes, at_head}
use Rattle.wq_head.specs.Holds.{HasWaited, HasTurn, HasLocked}
use Rattle.wq_head.proofs.LockWaits.{waited_none, waited_more, turn_more, turn_known, turn_resumes, locked_by}

-- the draw
pub draws : (base new : Known) (h n : ℕ) → new ≡ added base (item.Drawn h n)
    → HasWaited (added base (item.Drawn h n)) new
draws base new h n is = subst (HasWaited (added base (item.Drawn h n))) (sym is) (waited_none
    (added base (item.Drawn h n)))

module _ (base now new : Known) (h n found : ℕ) (d : HasWaited (added base (item.Drawn h n)) now)
    (is : new ≡ added now (item.Serving h found)) where
  pub drawn_outside : now.book.head ≡ base.book.head
  drawn_outside = ap (λ (k : Known). k.book.head) d.is

  -- another number is served
  pub still_waits : found ≢ n → HasWaited (added base (item.Drawn h n)) new
  still_waits other = waited_more (added base (item.Drawn h n)) now new h n found refl d is other

  -- the ticket is served
  module _ (same : found ≡ n) where
    turn : HasTurn (added base (item.Drawn h n)) new h n
    turn = turn_more (added base (item.Drawn h n)) now new h n found d is same

    pub turn_is : IsTurn new h
    turn_is = turn_known (added base (item.Drawn h n)) new h n refl turn

    pub turn_up : IsUp base → IsUp new
    turn_up up = ap (λ (k : Known). k.book.awake) is ∙ (ap (λ (k : Known). k.book.awake) d.is ∙ up)

    pub turn_goes : (walk : Option Aim) → Resumes base h walk → Resumes new h walk
    turn_goes walk resumes = turn_resumes base (added base (item.Drawn h n)) new h n walk refl turn resumes

    pub turn_locked : (walk : Option Aim) (three : Known) → (word : ℕ) × IsHeadWord word × (held_of word ≡ false)
        × (three ≡ at_head h (added new (item.Made (step.Lock h walk word)))) → HasLocked base three h walk
    turn_locked walk three l = locked_by base (added base (item.Drawn h n)) new three h n walk refl turn l

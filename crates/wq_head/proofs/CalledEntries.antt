-- The entries that a hold has called.
use Rattle.std.proofs.Common.{◌∙◌, ap, arith}
use Rattle.std.specs.Prelude.{ℕ, ◌≡◌, ◌<◌, Bool, Some}
use Rattle.wait_model.specs.{declared.layout.TheConstants.ENTRIES, declared.watches.Entry.Entry}
use Rattle.wait_model.specs.declared.watches.Aim.{Aim}
use Rattle.wait_rule.specs.{Known.Known, Says.noted, Shown.shown_entry}
use Rattle.wq_head.specs.Walking.{AreCalled}

-- they stay, where the hold shows no others
pub called_less : (a : Aim) (k new : Known) (place : ℕ) → (noted new).from ≡ (noted k).from
    → (noted new).called ≡ (noted k).called
    → ((x : ℕ) (e : Entry) → x < ENTRIES → shown_entry new x ≡ Some e → shown_entry k x ≡ Some e)
    → AreCalled a k place → AreCalled a new place
called_less a k new place from called less c = record {
  from = let low = c.from in omega (arith, from, low);
  before = λ no_bit x e low is sought after_from before. ap (λ (f : ℕ → Bool). f x) called
      ∙ c.before no_bit x e low (less x e low is) sought (omega (arith, from, after_from)) before;
  ahead = λ x e low is later. ap (λ (f : ℕ → Bool). f x) called ∙ c.ahead x e low (less x e low is) later;
}

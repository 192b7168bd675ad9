-- A hold in which the tries of a wake failed: its head is held still.
use Rattle.std.proofs.Common.{◌∙◌, ◌≡◌, ℕ, ap}
use Rattle.std.specs.Prelude.{Option, Some}
use Rattle.wait_model.specs.declared.watches.Aim.{Aim}
use Rattle.wait_rule.specs.{declared.tries.FailedTries.FailedTries, Known.Known, Tried.IsStarved}
use Rattle.wq_head.specs.{Walking.IsCalling, Walks.HasStarved}

pub starves : (a : Aim) (k new : Known) (place : ℕ) (rest : Option Aim) (failed : FailedTries)
    → IsCalling a k place rest → IsStarved failed → new.book.head ≡ k.book.head → HasStarved a new failed
starves a k new place rest failed calling tries same = record {
  tries = tries;
  held = same ∙ (calling.walking.held.holding.locked ∙ ap Some calling.walking.held.at);
}

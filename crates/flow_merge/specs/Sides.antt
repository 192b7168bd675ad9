-- To be believed.
-- What a merger knows after it looked at its sides, or waited for them.
use Rattle.wait_rule.specs.{Ends.WasWorn, Known.Known}
use Rattle.wait_rule.specs.PipeSays.{KeepsEnd, reading, writing}
use Rattle.wait_pipe.specs.Pieces.{IsAtEnd}
use Rattle.copy_plan.specs.declared.stop.Stop.{Stop}
use Rattle.copy_plan.specs.declared.stop.Stop.TheVariants as stop
use Rattle.copy_turns.specs.Work.{SignalsStay, SumsStay, Works}
use Rattle.flow_merge.specs.{declared.sides.Side.Side, Passed.side_pipe}
use Rattle.flow_merge.specs.declared.TheConstants.{LEFT_PIPE, MERGED_PIPE, RIGHT_PIPE}

-- Of its three ends it may have seen more of the other ones, and all else of them stays.
pub record LookedAtSides (old new : Known) : Type 0 where
  pub works : Works old new
  pub taps : (s : Side) → KeepsEnd (reading (side_pipe s) old) (reading (side_pipe s) new)
  pub pen : KeepsEnd (writing MERGED_PIPE old) (writing MERGED_PIPE new)
  pub sums : SumsStay old new
  pub signals : SignalsStay old new

abbrev pub BothAtEnd : Known → Type 0
BothAtEnd new = IsAtEnd (reading LEFT_PIPE new) × IsAtEnd (reading RIGHT_PIPE new)

-- a hold of a head found no place, which stays in the task's list
abbrev pub IsWornStop : Known → Stop → Type 0
IsWornStop new (stop.Worn h p) = WasWorn new.view.number new.view.items h p
IsWornStop new _ = ⊥

-- To be believed.
-- What turns of a merger come to, and what it did from its first step to its last.
use Rattle.std.specs.Prelude.{ℕ, ◌≡◌, ◌≢◌, ◌+◌, ◌%◌, ◌^◌, ◌⊎◌, ◌++◌, true, [], length, Option}
use Rattle.wait_rule.specs.{Ends.WasWorn, Known.Known}
use Rattle.wait_rule.specs.Pipes.{moved_bytes, read_end, write_end}
use Rattle.wait_rule.specs.PipeSays.{end_at, reading, writing}
use Rattle.wait_pipe.specs.Pieces.{IsAtEnd, IsSettled}
use Rattle.copy_plan.specs.{declared.stop.Stop.Stop, declared.stop.WorkerEnd.WorkerEnd, Stops.IfFinished, Stops.IfTaken}
use Rattle.copy_plan.specs.declared.stop.Stop.TheVariants as stop
use Rattle.copy_turns.specs.Turns.{IfStopped, IfWhole}
use Rattle.copy_turns.specs.Work.{Counted, SignalsStay, TookKill, Works}
use Rattle.copy_ends.specs.Did.{Completes, Refused, Served}
use Rattle.flow_merge.specs.declared.TheConstants.{LEFT_PIPE, MERGED_PIPE, RIGHT_PIPE}
use Rattle.flow_merge.specs.declared.sides.Side.{Side}
use Rattle.flow_merge.specs.Passed.{Passed, merged_bytes, read_of, sent_of, side_pipe}

-- Why a merger stops. Finished: both pipes are at their ends.
abbrev pub IsMergerStop : Known → Known → Stop → Type 0
IsMergerStop old new stop.Finished = IsAtEnd (reading LEFT_PIPE new) × IsAtEnd (reading RIGHT_PIPE new)
IsMergerStop old new stop.Broken = (writing MERGED_PIPE new).ended ≡ true
IsMergerStop old new stop.Killed = TookKill old new
IsMergerStop old new (stop.Worn h p) = WasWorn new.view.number new.view.items h p
IsMergerStop old new _ = ⊥

-- Turns of a merger. What it read of each side, and what it put into the third pipe, are the pieces that it passed on
-- and a front of one more, of which there is nothing where it goes on or has finished; n bytes were counted.
pub record Merging (old new : Known) (moved_old moved_new : ℕ) (how : Option Stop) : Type 0 where
  pub works : Works old new
  pub passed : Passed
  pub taken : (s : Side) → moved_bytes (reading (side_pipe s) new)
      ≡ moved_bytes (reading (side_pipe s) old) ++ read_of s passed
  pub sent : moved_bytes (writing MERGED_PIPE new) ≡ moved_bytes (writing MERGED_PIPE old) ++ sent_of passed
  pub all : IfWhole how (passed.part.bytes ≡ [])
  pub taps : (s : Side) → IsSettled (reading (side_pipe s) new)
  pub pen : IsSettled (writing MERGED_PIPE new)
  pub n : ℕ
  pub counted : Counted n old new
  pub counts : IfWhole how (n ≡ length (merged_bytes passed.pieces))
  pub sum : moved_new ≡ (moved_old + n) % 2 ^ 64
  pub signals : SignalsStay old new
  pub cause : IfStopped how (IsMergerStop old new)

-- It has the read ends of its two sides and the write end of the third pipe; or one of them was refused.
pub record HasEnds (new : Known) : Type 0 where
  pub taps : (s : Side) → (reading (side_pipe s) new).mine ≡ true
  pub pen : (writing MERGED_PIPE new).mine ≡ true

abbrev pub LacksEnd : Known → Known → Type 0
LacksEnd old new =
    Refused (read_end LEFT_PIPE) old new
    ⊎ (Refused (read_end RIGHT_PIPE) old new ⊎ Refused (write_end MERGED_PIPE) old new)

-- A merger from its first step to its last. Where it finished it passed on all that it read, up to the ends of both
-- pipes, and counted each byte.
pub record MergerWorked (old new : Known) (ended : WorkerEnd) : Type 0 where
  pub served : Served old new
  pub claims : (k : ℕ) → k ≢ read_end LEFT_PIPE → k ≢ read_end RIGHT_PIPE → k ≢ write_end MERGED_PIPE
      → (end_at k new).mine ≡ (end_at k old).mine
  pub taken : IfTaken ended.stop (LacksEnd old new) (HasEnds new)
  pub passed : Passed
  pub got : IfTaken ended.stop (Unit {0}) ((s : Side) → moved_bytes (reading (side_pipe s) new) ≡ read_of s passed)
  pub sent : IfTaken ended.stop (Unit {0}) (moved_bytes (writing MERGED_PIPE new) ≡ sent_of passed)
  pub all : IfFinished ended.stop (passed.part.bytes ≡ [])
  pub n : ℕ
  pub counted : Counted n old new
  pub counts : IfFinished ended.stop (n ≡ length (merged_bytes passed.pieces))
  pub moved : ended.moved ≡ n % 2 ^ 64
  pub signals : SignalsStay old new
  pub cause : IfTaken ended.stop (Unit {0}) (IsMergerStop old new ended.stop)

-- and it completed the completion at its end
pub record MergerDid (old new : Known) (ended : WorkerEnd) : Type 0 where
  pub worked : MergerWorked old new ended
  pub completes : Completes old new

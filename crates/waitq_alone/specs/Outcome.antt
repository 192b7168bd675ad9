-- To be believed.
-- What becomes of an input.
use Rattle.std.specs.Prelude.{◌≡◌, ℕ, List, length, Option, Result, Ok, Err, nat_lt, if◌then◌else◌, sum_by}
use Rattle.std.specs.Io.KnownBytes.{append_known}
use Rattle.edge_io.specs.Text.{HoldsPrefix}
use Rattle.wait_model.specs.declared.layout.TheConstants.{EVENTS, INPUT_BYTES}
use Rattle.wait_script.specs.{declared.reason.Reason.Reason, Lines.VersionedLines, Lines.events_asked, Script.script_of}
use Rattle.wait_script.specs.Replay.{replay_text}
use Rattle.waitq_alone.specs.declared.fault.Fault.{Fault}
use Rattle.waitq_alone.specs.declared.fault.Fault.TheVariants as fault

-- too long, a script with a bad line and its why, or the text of its replay
pub data Verdict : Type 0 where
  TooLong : Verdict
  BadLine : ℕ → Reason → Verdict
  Text : List ℕ → Verdict

abbrev pub script_verdict : Result VersionedLines (ℕ × Reason) → Verdict
script_verdict (Ok script) = if nat_lt EVENTS (sum_by events_asked script.lines) then TooLong
    else Text (replay_text script.lines)
script_verdict (Err (line, why)) = BadLine line why

abbrev pub verdict_of : List ℕ → Verdict
verdict_of bytes = if nat_lt INPUT_BYTES (length bytes) then TooLong else script_verdict (script_of bytes)

-- What an answer says of the verdict, and of what a sink held before and holds now.
abbrev pub IsFaultOf : Verdict → Option (List ℕ) → Option (List ℕ) → Fault → Type 0
IsFaultOf verdict old new fault.Usage = new ≡ old
IsFaultOf verdict old new fault.Read = new ≡ old
IsFaultOf verdict old new (fault.NoFile name) = ⊥
IsFaultOf verdict old new fault.Killed = ⊥
IsFaultOf verdict old new (fault.Worn place) = ⊥
IsFaultOf (BadLine line why) old new (fault.Script l w) = (l ≡ line) × (w ≡ why) × (new ≡ old)
IsFaultOf TooLong old new (fault.Script l w) = ⊥
IsFaultOf (Text text) old new (fault.Script l w) = ⊥
IsFaultOf TooLong old new fault.Long = new ≡ old
IsFaultOf (BadLine line why) old new fault.Long = ⊥
IsFaultOf (Text text) old new fault.Long = ⊥
IsFaultOf (Text text) old new fault.Write = HoldsPrefix old new text
IsFaultOf TooLong old new fault.Write = ⊥
IsFaultOf (BadLine line why) old new fault.Write = ⊥
IsFaultOf (Text text) old new fault.Memory = HoldsPrefix old new text
IsFaultOf TooLong old new fault.Memory = new ≡ old
IsFaultOf (BadLine line why) old new fault.Memory = new ≡ old

abbrev pub Writes : Verdict → Option (List ℕ) → Option (List ℕ) → Type 0
Writes (Text text) old new = new ≡ append_known old text
Writes TooLong old new = ⊥
Writes (BadLine line why) old new = ⊥

abbrev pub Answers : Verdict → Option (List ℕ) → Option (List ℕ) → Result (Unit {0}) Fault → Type 0
Answers verdict old new (Ok x) = Writes verdict old new
Answers verdict old new (Err fault) = IsFaultOf verdict old new fault

-- Where words, a script or an input is refused, or the input can't be read, nothing was written.
abbrev pub LeavesUnwritten : Option (List ℕ) → Option (List ℕ) → Result (Unit {0}) Fault → Type 0
LeavesUnwritten old new (Ok x) = Unit {0}
LeavesUnwritten old new (Err fault.Usage) = new ≡ old
LeavesUnwritten old new (Err (fault.Script line why)) = new ≡ old
LeavesUnwritten old new (Err fault.Read) = new ≡ old
LeavesUnwritten old new (Err (fault.NoFile name)) = new ≡ old
LeavesUnwritten old new (Err fault.Killed) = new ≡ old
LeavesUnwritten old new (Err (fault.Worn place)) = new ≡ old
LeavesUnwritten old new (Err fault.Long) = new ≡ old
LeavesUnwritten old new (Err fault.Write) = Unit {0}
LeavesUnwritten old new (Err fault.Memory) = Unit {0}

-- the answers of other commands than a copy
abbrev pub IsNoCopyEnd : Result (Unit {0}) Fault → Type 0
IsNoCopyEnd (Ok x) = Unit {0}
IsNoCopyEnd (Err (fault.NoFile name)) = ⊥
IsNoCopyEnd (Err fault.Killed) = ⊥
IsNoCopyEnd (Err (fault.Worn place)) = ⊥
IsNoCopyEnd (Err _) = Unit {0}

abbrev pub IsBad : Verdict → Type 0
IsBad (BadLine line why) = Unit {0}
IsBad TooLong = ⊥
IsBad (Text text) = ⊥

abbrev pub IsLong : Verdict → Type 0
IsLong TooLong = Unit {0}
IsLong (BadLine line why) = ⊥
IsLong (Text text) = ⊥

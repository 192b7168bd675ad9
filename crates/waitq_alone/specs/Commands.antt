-- To be believed.
-- The commands: which words are one, what becomes of it, and with which statuses it ends.
use Rattle.std.specs.Prelude.{ℕ, List, [], ◌∷◌, Option, Some, None, Bool, true, false, ◌||◌, ◌&&◌, ◌==◌, ◌≤◌, length}
use Rattle.std.specs.Prelude.{not, nat_le, if◌then◌else◌, codes}
use Rattle.std.specs.Str.{bytes_eq}
use Rattle.wait_script.specs.Number.{numeral_value}
use Rattle.drill_gen.specs.declared.lines.TheConstants.{MOST_CALLS}
use Rattle.copy_plan.specs.{declared.TheConstants.SIGNALS, declared.plan.Planned.Planned}
use Rattle.waitq_alone.specs.{Drill.drill_text, Events.plan_of, declared.command.Command.Command}
use Rattle.waitq_alone.specs.Outcome.{Verdict, Text, verdict_of}
use Rattle.waitq_alone.specs.declared.command.Command.TheVariants as command

-- what words may ask for
pub data Request : Type 0 where
  Replay : Request
  Drill : ℕ → ℕ → Request
  Copy : List ℕ → List ℕ → List Planned → Request
  Merge : List ℕ → List ℕ → List ℕ → Request

-- what a command is asked
abbrev pub asked_by : Command → Request
asked_by command.Replay = Replay
asked_by (command.Drill seed count) = Drill seed count
asked_by (command.Copy src dst plan) = Copy src.now dst.now plan.items
asked_by (command.Merge first second dst) = Merge first.now second.now dst.now

-- `drill SEED COUNT`, by its numbers
abbrev pub drill_at : Option ℕ → Option ℕ → Option Request
drill_at (Some seed) (Some count) = if nat_le count MOST_CALLS then Some (Drill seed count) else None
drill_at (Some seed) None = None
drill_at None count = None

abbrev pub drill_of : List ℕ → List ℕ → List (List ℕ) → Option Request
drill_of seed count [] = drill_at (numeral_value seed) (numeral_value count)
drill_of seed count (word ∷ words) = None

-- a word that may name a file: it is not empty, and does not begin with `-`
abbrev pub is_name : List ℕ → Bool
is_name [] = false
is_name (c ∷ cs) = not (c == 45)

abbrev pub copy_with : List ℕ → List ℕ → Option (List Planned) → Option Request
copy_with src dst (Some plan) = Some (Copy src dst plan)
copy_with src dst None = None

-- `copy SRC DST [EVENT]...`: the names differ
abbrev pub copy_at : List ℕ → List ℕ → List (List ℕ) → Option Request
copy_at src dst events =
    if is_name src && is_name dst && not (bytes_eq src dst) then copy_with src dst (plan_of events) else None

-- `merge A B DST`: three names, no two of which are the same
abbrev pub merge_at : List ℕ → List ℕ → List ℕ → Option Request
merge_at a b dst =
    if is_name a && is_name b && is_name dst && not (bytes_eq a b) && not (bytes_eq a dst) && not (bytes_eq b dst)
    then Some (Merge a b dst) else None

abbrev pub merge_of : List ℕ → List ℕ → List (List ℕ) → Option Request
merge_of a b (dst ∷ []) = merge_at a b dst
merge_of a b words = None

abbrev pub command_of : List (List ℕ) → Option Request
command_of (name ∷ []) = if bytes_eq name (codes "replay") then Some Replay else None
command_of (name ∷ first ∷ second ∷ more) =
    if bytes_eq name (codes "drill") then drill_of first second more
    else if bytes_eq name (codes "copy") then copy_at first second more
    else if bytes_eq name (codes "merge") then merge_of first second more
    else None
command_of words = None

-- a drill has no more than so many calls, and a copy no more than so many signals
abbrev pub IsFitRequest : Request → Type 0
IsFitRequest Replay = Unit {0}
IsFitRequest (Drill seed count) = count ≤ MOST_CALLS
IsFitRequest (Copy src dst plan) = length plan ≤ SIGNALS
IsFitRequest (Merge a b dst) = Unit {0}

-- whether words ask for work on files: for a copy, or for a merge
abbrev pub takes_files : Option Request → Bool
takes_files (Some (Copy src dst plan)) = true
takes_files (Some (Merge a b dst)) = true
takes_files (Some Replay) = false
takes_files (Some (Drill seed count)) = false
takes_files None = false

-- what words ask of a program that has no files: those of a copy and of a merge are no command of it
abbrev pub without_files : Option Request → Option Request
without_files (Some (Copy src dst plan)) = None
without_files (Some (Merge a b dst)) = None
without_files (Some Replay) = Some Replay
without_files (Some (Drill seed count)) = Some (Drill seed count)
without_files None = None

-- whether a command reads its input, and none reads where the words are no command
abbrev pub reads_input : Option Request → Bool
reads_input (Some Replay) = true
reads_input (Some (Drill seed count)) = false
reads_input (Some (Copy src dst plan)) = false
reads_input (Some (Merge a b dst)) = false
reads_input None = false

-- what becomes of a command, where its input is known or is not read; of a copy and of a merge other
-- definitions speak
abbrev pub replay_verdict : Option (List ℕ) → Option Verdict
replay_verdict (Some bytes) = Some (verdict_of bytes)
replay_verdict None = None

abbrev pub verdict_at : Option Request → Option (List ℕ) → Option Verdict
verdict_at (Some Replay) input = replay_verdict input
verdict_at (Some (Drill seed count)) input = Some (Text (drill_text seed count))
verdict_at (Some (Copy src dst plan)) input = None
verdict_at (Some (Merge a b dst)) input = None
verdict_at None input = None

-- the statuses of each command, and of words that are none: memory may run out before they are known to be none
abbrev pub may_end_with : Option Request → ℕ → Bool
may_end_with (Some Replay) status =
    status == 0 || status == 3 || status == 4 || status == 5 || status == 7 || status == 8
may_end_with (Some (Drill seed count)) status = status == 0 || status == 5 || status == 7
may_end_with (Some (Copy src dst plan)) status =
    status == 0 || status == 4 || status == 5 || status == 6 || status == 7 || status == 8 || status == 9
may_end_with (Some (Merge a b dst)) status =
    status == 0 || status == 4 || status == 5 || status == 7 || status == 8 || status == 9
may_end_with None status = status == 2 || status == 7

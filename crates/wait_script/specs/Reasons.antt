-- To be believed.
-- The reasons why a line is bad: their numbers, and which of two comes first.
use Rattle.std.specs.Prelude.{ℕ, nat_le, if◌then◌else◌}
use Rattle.wait_script.specs.declared.reason.Reason.{Reason}
use Rattle.wait_script.specs.declared.reason.Reason.TheVariants.{CutLine, LongLine, BadByte, NoHeader, UnknownWord}
use Rattle.wait_script.specs.declared.reason.Reason.TheVariants.{WordCount, BadNumber, BadForm, BadCondition}

abbrev pub reason_number : Reason → ℕ
reason_number CutLine = 1
reason_number LongLine = 2
reason_number BadByte = 3
reason_number NoHeader = 4
reason_number UnknownWord = 5
reason_number WordCount = 6
reason_number BadNumber = 7
reason_number BadForm = 8
reason_number BadCondition = 9

abbrev pub first_reason : Reason → Reason → Reason
first_reason u v = if nat_le (reason_number u) (reason_number v) then u else v

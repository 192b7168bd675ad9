-- To be believed.
-- Statuses and their lines.
use Rattle.std.specs.Prelude.{ℕ, List, ◌++◌, codes, decimal}
use Rattle.edge_io.specs.{declared.sink.SinkFault.SinkFault, declared.whole.ReadFault.ReadFault}
use Rattle.edge_io.specs.declared.sink.SinkFault.TheVariants as sink
use Rattle.edge_io.specs.declared.whole.ReadFault.TheVariants as read
use Rattle.wait_script.specs.{declared.reason.Reason.Reason, declared.script.ReadScript.ReadScript}
use Rattle.wait_script.specs.declared.reason.Reason.TheVariants as reason
use Rattle.wait_script.specs.declared.script.ReadScript.TheVariants as script
use Rattle.waitq_alone.specs.declared.fault.Fault.{Fault}
use Rattle.waitq_alone.specs.declared.fault.Fault.TheVariants.{Usage, Script, Read, NoFile, Write, Killed, Memory, Long, Worn}

abbrev pub status_of : Fault → ℕ
status_of Usage = 2
status_of (Script line why) = 3
status_of Read = 4
status_of (NoFile name) = 4
status_of Write = 5
status_of Killed = 6
status_of Memory = 7
status_of Long = 8
status_of (Worn place) = 9

-- why a line is bad
abbrev pub why_text : Reason → List ℕ
why_text reason.CutLine = codes "cut line"
why_text reason.LongLine = codes "long line"
why_text reason.BadByte = codes "bad byte"
why_text reason.NoHeader = codes "no header"
why_text reason.UnknownWord = codes "unknown word"
why_text reason.WordCount = codes "word count"
why_text reason.BadNumber = codes "bad number"
why_text reason.BadForm = codes "bad form"
why_text reason.BadCondition = codes "bad condition"

abbrev pub fault_text : Fault → List ℕ
fault_text Usage =
    codes "waitq: usage: waitq replay | waitq copy SRC DST [EVENT]... | waitq drill SEED COUNT"
    ++ codes " | waitq merge A B DST\n"
fault_text (Script line why) = codes "waitq: line " ++ decimal line ++ codes ": " ++ why_text why
    ++ codes "\n"
fault_text Read = codes "waitq: read failed\n"
fault_text (NoFile name) = codes "waitq: no file " ++ name.now ++ codes "\n"
fault_text Write = codes "waitq: write failed\n"
fault_text Killed = codes "waitq: killed\n"
fault_text Memory = codes "waitq: out of memory\n"
fault_text Long = codes "waitq: input too long\n"
fault_text (Worn place) = codes "waitq: queue worn at place " ++ decimal place ++ codes "\n"

abbrev pub read_fault : ReadFault → Fault
read_fault read.Failed = Read
read_fault read.OutOfMemory = Memory
read_fault read.Long = Long

abbrev pub script_fault : ReadScript → Fault
script_fault (script.Bad line why) = Script line why
script_fault script.OutOfMemory = Memory

abbrev pub sink_fault : SinkFault → Fault
sink_fault sink.Failed = Write
sink_fault sink.OutOfMemory = Memory

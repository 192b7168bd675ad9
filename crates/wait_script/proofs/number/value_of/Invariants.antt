use Rattle.std.proofs.Common.{◌≡◌, ◌<◌, ◌^◌, drop}
use Rattle.wait_script.specs.Reading.{digits_of}
use Rattle.wait_script.proofs.ReadDigits.{reads_on}
use Rattle.wait_script.proofs.number.value_of.Given as goal

abbrev pub invariant-loop-b : goal.invariant-loop-b
invariant-loop-b l = record {
  same : reads_on l.value (drop l.b-index l.word) ≡ digits_of l.word;
  fits : l.value < 2 ^ 64;
}

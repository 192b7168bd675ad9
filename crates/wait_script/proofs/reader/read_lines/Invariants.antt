use Rattle.std.proofs.Common.{◌≡◌, ◌+◌, ◌≤◌, length}
use Rattle.wait_model.specs.declared.layout.TheConstants.{INPUT_BYTES}
use Rattle.wait_script.specs.Script.{parts_of, lines_from}
use Rattle.wait_script.proofs.CarriedLines.{carried}
use Rattle.wait_script.proofs.reader.read_lines.Given as goal

abbrev pub invariant-lines : goal.invariant-lines
invariant-lines l = record {
  same : carried l.lines.items (lines_from l.version l.number (parts_of l.rest))
      ≡ lines_from l.version 2 (parts_of l.bytes);
  few : l.number + length l.rest ≤ INPUT_BYTES + 2;
}

abbrev pub decreases-lines : goal.decreases-lines
decreases-lines l = length l.rest

use Rattle.std.proofs.Common.{◌≤◌, length}
use Rattle.wait_script.proofs.LineCuts.{IsSplit}
use Rattle.wait_script.proofs.words.split.Given as goal

abbrev pub invariant-words : goal.invariant-words
invariant-words l = record {
  cut : IsSplit l.line l.words.items l.rest;
  short : length l.rest ≤ length l.line;
}

abbrev pub decreases-words : goal.decreases-words
decreases-words l = length l.rest

use Rattle.wait_script.proofs.OnePass.{IsNumberSoFar}
use Rattle.wait_script.proofs.steps.number_before.Given as goal

abbrev pub invariant-loop-at : goal.invariant-loop-at
invariant-loop-at l = IsNumberSoFar l.bytes l.at l.value

use Rattle.wq_head.proofs.selects.select.Given as goal

-- a selection that starves does not return
abbrev pub invariant-loop : goal.invariant-loop
invariant-loop g l = Unit {0}

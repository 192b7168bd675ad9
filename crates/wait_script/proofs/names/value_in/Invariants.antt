use Rattle.std.proofs.Common.{◌≡◌, map, drop}
use Rattle.wait_script.specs.Names.{value_in}
use Rattle.wait_script.proofs.names.value_in.Given as goal

-- what stands before this place is another word
abbrev pub invariant-loop-spelled : goal.invariant-loop-spelled
invariant-loop-spelled g l =
    value_in (map (λ entry. (entry.0.now, entry.1)) (drop l.spelled-index l.table)) l.word
    ≡ value_in (map (λ entry. (entry.0.now, entry.1)) l.table) l.word

use Rattle.std.specs.Prelude.{◌≡◌}
use Rattle.futex_table.specs.LockStretches.{IsLockUnderWay}
use Rattle.futex_tests.proofs.lock_turns.play_two.Given as goal

abbrev pub invariant-loop : goal.invariant-loop
invariant-loop g l = (l.first.domain ≡ l.fn.domain) × (l.second.domain ≡ l.fn.domain)
    × IsLockUnderWay 6 l.first l.ats.0 × IsLockUnderWay 6 l.second l.ats.1

use Rattle.std.specs.Prelude.{◌≡◌, ◌<◌, ◌+◌, ◌-◌, ◌^◌, ℕ}
use Rattle.wait_model.specs.{declared.layout.TheConstants.BREAK, Runs.State, Runs.arrives_from, Watches.is_for}
use Rattle.wait_model.specs.{Queues.arrive, Queues.members_from, Locations.Shows, Reached.IsSound}
use Rattle.wait_core.proofs.arrivals.arrive.Given as goal

-- the walk goes on as from this rank on, after so many calls
abbrev pub invariant-loop-calls : goal.invariant-loop-calls
invariant-loop-calls l = record {
  goes_on : (s : State) (n : ℕ) → Shows l.words s.table → IsSound s n
      → arrives_from s.table.entry l.watch l.place l.called (s.queue l.head)
      ≡ arrive (λ m. is_for l.watch (s.table.entry m.at)) l.calls (members_from l.least (s.queue l.head));
  fits : l.called < 2 ^ 32 - 1 → l.calls < 2 ^ 32 - 1;
}

abbrev pub decreases-loop-calls : goal.decreases-loop-calls
decreases-loop-calls l = BREAK + 1 - l.calls

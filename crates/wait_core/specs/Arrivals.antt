-- For proofs alone.
-- Where a walk goes on, as the core has it.
use Rattle.std.specs.Prelude.{◌≡◌}
use Rattle.wait_model.specs.{Queues.Arrival, declared.calls.Call.Call, declared.calls.Event.Event}
use Rattle.wait_model.specs.{declared.points.Point.Point, Points.given_at, Runs.State, Runs.arrives_from}
use Rattle.wait_model.specs.declared.calls.Event.TheVariants as event
use Rattle.wait_core.specs.declared.arrivals.Arrived.{Arrived}

abbrev pub arrived : Arrival → Arrived
arrived r = record { calls = r.calls; member = r.member; breaks = r.breaks }

-- what goes before the member of an arrival is the bookmark that the event puts, where it puts one
abbrev pub IsMarkedBy : State → Call → Point → Event → Arrived → Type 0
IsMarkedBy s call p (event.Mark h) walk = walk.member ≡ (arrives_from s.table.entry (given_at call p).watch
    (given_at call p).from (given_at call p).calls (s.queue h)).member
IsMarkedBy s call p _ walk = Unit {0}

use Rattle.std.proofs.Common.{◌≡◌, map, length, drop}
use Rattle.waitq_alone.specs.Events.{events_of}
use Rattle.waitq_alone.proofs.Reading.{joined}
use Rattle.waitq_alone.proofs.events.read_plan.Given as goal

abbrev pub invariant-loop-event : goal.invariant-loop-event
invariant-loop-event l = record {
  same : joined l.plan.items (events_of (map (λ s. s.now) (drop l.event-index l.events)))
      ≡ events_of (map (λ s. s.now) l.events);
  each : length l.plan.items ≡ l.event-index;
}

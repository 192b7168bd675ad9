use Rattle.std.proofs.Common.{ℕ, List, sym, ap, ◌∙◌, arith}
use Rattle.std.specs.Borrow.{Bor}
use Rattle.std.proofs.lemmas.Grind.{common_steps}
use Rattle.waitq_alone.specs.Events.{event_of}
use Rattle.waitq_alone.proofs.Reading.{next}
use Rattle.waitq_alone.proofs.events.read_plan.Goals as goal

pub loop-event-preserved : goal.loop-event-preserved
loop-event-preserved c = record {
  same = rw c.push.ensures.items
      (sym (next (λ (s : Bor (List ℕ)). s.now) c.args.events.now c.loop-event.event-index _
      c.loop-event.plan.items c.in_ok-read_event.field-0 c.loop-event-test.true
      (ap event_of (sym c.as_bytes.ensures.value) ∙ sym c.read_event.ensures ∙ c.in_ok-read_event.was))
      ∙ c.loop-event.invariant.same);
  each = grind (arith, common_steps);
}

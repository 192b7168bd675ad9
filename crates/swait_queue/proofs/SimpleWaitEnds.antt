-- The end of a simple wait.
use Rattle.std.proofs.Common.{subst}
use Rattle.std.specs.Prelude.{ℕ, Result}
use Rattle.wait_model.specs.declared.points.Point.TheVariants as at
use Rattle.wait_model.specs.declared.points.Next.TheVariants as next
use Rattle.wait_model.specs.declared.tasks.SleepState.{SleepState}
use Rattle.wait_rule.specs.{Known.Known, Transitions.Goes, Transitions.Program}
use Rattle.wait_event.specs.{declared.wait_events.WaitEnd.WaitEnd, Ends.EndsWait, Ends.answer_of_end}
use Rattle.swait_queue.specs.SimpleWaits.{EndsSimpleWait, tail_in}
use Rattle.swait_queue.proofs.SimplePrograms.{same_program}

pub simple_wait : (old new : Known) (c : ℕ) (st : SleepState) (result : Result (Unit {0}) WaitEnd)
    → EndsWait old new c (tail_in st) result → EndsSimpleWait old new c st result
simple_wait old new c st result e = record {
  queued = e.queued;
  runs = record {
    transitions = e.waited.runs.transitions;
    goes = subst (λ (f : Program). Goes f old (next.Go at.First) e.waited.runs.transitions new
        (next.Ends (answer_of_end result))) (same_program old.view.number c st) e.waited.runs.goes;
  };
  tells = e.waited.tells;
  cause = e.cause;
}

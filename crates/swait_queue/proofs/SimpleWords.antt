-- What whole calls on simple queues make follows their sentences.
use Rattle.std.proofs.Common.{refl, arith}
use Rattle.std.specs.Prelude.{pos, []}
use Rattle.wait_model.specs.declared.calls.Answer.TheVariants as answer
use Rattle.wait_model.specs.declared.calls.Call.TheVariants as calls
use Rattle.wait_model.specs.declared.points.Point.TheVariants as at
use Rattle.wait_model.specs.declared.points.SelectPoint.TheVariants as selecting
use Rattle.wait_model.specs.declared.points.Next.TheVariants as next
use Rattle.wait_rule.specs.Transitions.{call_program}
use Rattle.wait_rule.proofs.{SaidEvents.Fronts.number_stays, SaidEvents.FollowedRuns.runs_follow}
use Rattle.wait_rule.proofs.SaidEvents.SignalledRuns.{runs_heed}
use Rattle.wait_event.specs.declared.wait_events.WaitEnd.TheVariants as wait_end
use Rattle.wait_event.specs.Ends.{answer_of_end}
use Rattle.wait_event.proofs.Words.{list_of}
use Rattle.swait_queue.specs.SimpleWords.{SimpleWaitsFollow, SimpleWaitsHeed, SimpleWakesFollow}

pub simple_waits_follow : SimpleWaitsFollow
simple_waits_follow old new c st result law out e =
    runs_follow law.table law.items law.ruled (calls.SimpleWait c st) 0 old new (answer_of_end result) []
    (list_of new.view law old.view.number (number_stays
    (call_program old.view.number 0 (calls.SimpleWait c st)) old new (next.Go at.First)
    (next.Ends (answer_of_end result)) e.runs.transitions e.runs.goes))
    (omega arith) refl refl (λ _. out) (record { transitions = e.runs.transitions; goes = e.runs.goes })

pub simple_wakes_follow : SimpleWakesFollow
simple_wakes_follow old new c all n law e =
    runs_follow law.table law.items law.ruled (calls.SimpleWake c all) 0 old new (answer.Number (pos n)) []
    (list_of new.view law old.view.number (number_stays
    (call_program old.view.number 0 (calls.SimpleWake c all)) old new (next.Go (at.Select selecting.Lock))
    (next.Ends (answer.Number (pos n))) e.runs.transitions e.runs.goes))
    (omega arith) refl refl (λ w. absurd (cc)) (record { transitions = e.runs.transitions; goes = e.runs.goes })

pub simple_waits_heed : SimpleWaitsHeed
simple_waits_heed old new c st (wait_end.Signal seen selected) ends is =
    runs_heed (calls.SimpleWait c st) 0 old new refl
    (record { transitions = ends.runs.transitions; goes = ends.runs.goes })
simple_waits_heed old new c st (wait_end.Worn h place) ends is = absurd (cc)

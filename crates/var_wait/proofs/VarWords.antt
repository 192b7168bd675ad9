-- What whole calls on variables make follows their sentences.
use Rattle.std.proofs.Common.{refl, arith}
use Rattle.std.specs.Prelude.{[]}
use Rattle.wait_model.specs.declared.calls.Answer.TheVariants as answer
use Rattle.wait_model.specs.declared.calls.Call.TheVariants as calls
use Rattle.wait_model.specs.declared.points.Point.TheVariants as at
use Rattle.wait_model.specs.declared.points.Next.TheVariants as next
use Rattle.wait_rule.specs.Transitions.{call_program}
use Rattle.wait_rule.proofs.{SaidEvents.Fronts.number_stays, SaidEvents.FollowedRuns.runs_follow}
use Rattle.wait_rule.proofs.{SaidEvents.FollowedWakes.wakes_follow, SaidEvents.SignalledRuns.runs_heed}
use Rattle.wait_event.specs.declared.wait_events.WaitEnd.TheVariants as wait_end
use Rattle.wait_event.proofs.Words.{list_of}
use Rattle.var_wait.specs.VarWaits.{answer_of_var_end}
use Rattle.var_wait.specs.VarWords.{PublishesFollow, VarWaitsFollow, VarWaitsHeed}

pub var_waits_follow : VarWaitsFollow
var_waits_follow before new v old st result law out e =
    runs_follow law.table law.items law.ruled (calls.WaitVar v old st) 0 before new (answer_of_var_end result) []
    (list_of new.view law before.view.number (number_stays
    (call_program before.view.number 0 (calls.WaitVar v old st)) before new (next.Go at.First)
    (next.Ends (answer_of_var_end result)) e.runs.transitions e.runs.goes))
    (omega arith) refl refl (λ _. out) (record { transitions = e.runs.transitions; goes = e.runs.goes })

pub publishes_follow : PublishesFollow
publishes_follow before new v value walked law h =
    wakes_follow law.table law.items law.ruled (calls.SetVar v value) 0 before new (answer.Walk h.real) []
    (list_of new.view law before.view.number (number_stays
    (call_program before.view.number 0 (calls.SetVar v value)) before new (next.Go at.Publish)
    (next.Ends (answer.Walk h.real)) h.runs.transitions h.runs.goes))
    refl tt (record { transitions = h.runs.transitions; goes = h.runs.goes })

pub var_waits_heed : VarWaitsHeed
var_waits_heed before new v old st (wait_end.Signal seen selected) ends is =
    runs_heed (calls.WaitVar v old st) 0 before new refl
    (record { transitions = ends.runs.transitions; goes = ends.runs.goes })
var_waits_heed before new v old st (wait_end.Worn h place) ends is = absurd (cc)

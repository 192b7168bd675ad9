-- What a wait for a page makes follows its sentence.
use Rattle.std.proofs.Common.{refl, arith}
use Rattle.std.specs.Prelude.{[]}
use Rattle.wait_model.specs.declared.calls.Call.TheVariants as calls
use Rattle.wait_model.specs.declared.points.PagePoint.TheVariants as paging
use Rattle.wait_model.specs.declared.points.Next.TheVariants as next
use Rattle.wait_model.specs.declared.points.Point.TheVariants as at
use Rattle.wait_rule.specs.Transitions.{call_program}
use Rattle.wait_rule.proofs.{SaidEvents.Fronts.number_stays, SaidEvents.FollowedRuns.runs_follow}
use Rattle.wait_event.proofs.Words.{list_of}
use Rattle.bit_wait.specs.BitEnds.{answer_of_bit_end}
use Rattle.page_lock.specs.PageWords.{PageLocksFollow}

pub locks_follow : PageLocksFollow
locks_follow old new p st result law out e =
    runs_follow law.table law.items law.ruled (calls.LockPage p st) 0 old new (answer_of_bit_end result) []
    (list_of new.view law old.view.number (number_stays
    (call_program old.view.number 0 (calls.LockPage p st)) old new (next.Go (at.Page paging.First))
    (next.Ends (answer_of_bit_end result)) e.runs.transitions e.runs.goes))
    (omega arith) refl refl (λ _. out) (record { transitions = e.runs.transitions; goes = e.runs.goes })

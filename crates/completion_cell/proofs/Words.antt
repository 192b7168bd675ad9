-- What whole calls on completions make follows their sentences.
use Rattle.std.proofs.Common.{refl}
use Rattle.std.specs.Prelude.{ℕ, ◌≡◌, true, List, []}
use Rattle.wait_model.specs.{declared.calls.Answer.Answer, declared.calls.Call.Call, Points.call_watch}
use Rattle.wait_model.specs.{Programs.program_start, Programs.zero_answer, Sentences.Follows, Watches.is_done}
use Rattle.wait_model.specs.declared.calls.Call.TheVariants as calls
use Rattle.wait_model.specs.declared.points.Next.TheVariants as next
use Rattle.wait_model.specs.declared.watches.Watch.TheVariants as watch
use Rattle.wait_rule.specs.{Known.Known, SaidEvents.MayOpen, Says.MeetsLaw}
use Rattle.wait_rule.specs.Transitions.{Goes, Transition, call_program}
use Rattle.wait_rule.proofs.SaidEvents.Fronts.{number_stays}
use Rattle.wait_event.specs.Words.{call_says}
use Rattle.wait_event.specs.declared.wait_events.WaitEnd.TheVariants as wait_end
use Rattle.wait_event.proofs.Words.{list_of}
use Rattle.completion_cell.specs.{AwaitEnds.answer_of_await, Asks.hit_answer, LoadedCounts.AreInRange}
use Rattle.completion_cell.specs.Words.{AllsFollow, AsksFollow, AwaitsFollow, AwaitsHeed, CompletesFollow, ResetsFollow}
use Rattle.completion_cell.specs.Words.{TryWaitsFollow}
use Rattle.completion_cell.proofs.{FollowedCells.cells_follow, StoppedAwaits.awaits_stop}

-- a call, in the table that a task sees after it
call_follows : (d : ℕ) (call : Call) → call_watch call ≡ watch.Done d → is_done (call_watch call) ≡ true
    → (old new : Known) (a : Answer) → MeetsLaw new.view → MayOpen call 0 old → (ts : List Transition) → AreInRange ts
    → Goes (call_program old.view.number 0 call) old (next.Go (program_start call)) ts new (next.Ends a)
    → Follows old.view.number call (call_says old.view.number call ts) a
call_follows d call about done old new a law begins ts ranged goes =
    cells_follow law.table law.items law.ruled d call about done old new a []
    (list_of new.view law old.view.number (number_stays (call_program old.view.number 0 call) old new
    (next.Go (program_start call)) (next.Ends a) ts goes)) begins ts ranged goes

pub completes_follow : CompletesFollow
completes_follow old new d law h = call_follows d (calls.Complete d) refl refl old new zero_answer law
    (λ w. absurd (cc)) h.transitions h.ranged h.goes

pub alls_follow : AllsFollow
alls_follow old new d law h = call_follows d (calls.CompleteAll d) refl refl old new zero_answer law
    (λ w. absurd (cc)) h.transitions h.ranged h.goes

pub tries_follow : TryWaitsFollow
tries_follow old new d hit law h = call_follows d (calls.TryWait d) refl refl old new (hit_answer hit) law
    (λ w. absurd (cc)) h.runs.transitions h.runs.ranged h.runs.goes

pub asks_follow : AsksFollow
asks_follow old new d hit law h = call_follows d (calls.IsDone d) refl refl old new (hit_answer hit) law
    (λ w. absurd (cc)) h.runs.transitions h.runs.ranged h.runs.goes

pub resets_follow : ResetsFollow
resets_follow old new d law h = call_follows d (calls.Reinit d) refl refl old new zero_answer law (λ w. absurd (cc))
    h.transitions h.ranged h.goes

pub awaits_follow : AwaitsFollow
awaits_follow old new d st result law out e = call_follows d (calls.WaitFor d st) refl refl old new (answer_of_await result)
    law (λ _. out) e.awaited.runs.transitions e.awaited.ranged e.awaited.runs.goes

pub awaits_heed : AwaitsHeed
awaits_heed old new d st (wait_end.Signal seen selected) ends is =
    awaits_stop d st old new ends.awaited.runs.transitions ends.awaited.runs.goes
awaits_heed old new d st (wait_end.Worn h place) ends is = absurd (cc)

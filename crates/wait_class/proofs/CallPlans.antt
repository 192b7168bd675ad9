-- Calls of scripts that prepare and finish as all waits do.
use Rattle.std.proofs.Common.{ap, refl}
use Rattle.std.specs.Prelude.{ℕ, ◌≡◌, Bool, true, false, is_some, if◌then◌else◌}
use Rattle.wait_model.specs.{declared.calls.Call.Call, declared.calls.Event.Event}
use Rattle.wait_model.specs.{declared.points.FinishPoint.FinishPoint, declared.points.Next.Next}
use Rattle.wait_model.specs.{declared.points.Planned.Planned, declared.points.Point.Point}
use Rattle.wait_model.specs.{declared.points.PreparePoint.PreparePoint, declared.points.Seen.Seen, PointFacts.stirs}
use Rattle.wait_model.specs.Tasks.{state_mask}
use Rattle.wait_model.specs.Points.{call_head, form_of, given_at, head_at, state_in}
use Rattle.wait_model.specs.Programs.{finished, go, prepared_at, prepares_from, program, worn_next}
use Rattle.wait_model.specs.declared.calls.Event.TheVariants as event
use Rattle.wait_model.specs.declared.points.FinishPoint.TheVariants as finishing
use Rattle.wait_model.specs.declared.points.Next.TheVariants as next
use Rattle.wait_model.specs.declared.points.Point.TheVariants as at
use Rattle.wait_model.specs.declared.points.PreparePoint.TheVariants as preparing
use Rattle.wait_class.specs.{Frames.FrameTable, Tables.call_plan}
use Rattle.wait_class.specs.FrameLaws.{frame_given, frame_head, frame_makes, frame_stirs, framed_plan}

module _ {W T O : Type 0} (f : FrameTable W T O) (ends : Bool → Next) (c : Call)
    (from : prepares_from c ≡ at.Prepare preparing.Queue) (to : prepared_at c ≡ f.test_point f.prepared)
    (worn : worn_next c ≡ next.Go (f.test_point f.worn_to))
    (behind : (b : Bool) (e : Event) → finished c b e ≡ record { event = e; next = ends b }) where
  prepares : (me : ℕ) (p : PreparePoint) (seen : Seen)
      → program me c (at.Prepare p) seen ≡ frame_makes f ends (call_plan c) me (at.Prepare p) seen
  prepares me preparing.Lock seen = ap (go (event.Lock (call_head c))) from
  prepares me preparing.Look seen = refl
  prepares me preparing.Queue seen = ap (λ (n : Next). if is_some seen.entry
      then go (event.State (state_mask (state_in c))) (at.Prepare preparing.Unlock)
      else if seen.worn
      then record { event = event.Unlock (call_head c) false; next = n }
      else go (event.Queue (call_head c) (form_of c)) (at.Prepare preparing.State)) worn
  prepares me preparing.State seen = refl
  prepares me preparing.Unlock seen = ap (go (event.Unlock (call_head c) false)) to

  finishes : (me : ℕ) (p : FinishPoint) (b : Bool) (seen : Seen)
      → program me c (at.Finish p b) seen ≡ frame_makes f ends (call_plan c) me (at.Finish p b) seen
  finishes me finishing.State b seen = refl
  finishes me finishing.Look b seen = ap (λ (x : Planned). if is_some seen.entry
      then go (event.Queued true) (at.Finish finishing.Lock b) else x) (behind b (event.Queued false))
  finishes me finishing.Lock b seen = refl
  finishes me finishing.Queue b seen = ap (λ (x : Planned). if is_some seen.entry
      then go (event.Unqueue me) (at.Finish finishing.Unlock b) else x) (behind b (event.Unlock (call_head c) false))
  finishes me finishing.Unlock b seen = behind b (event.Unlock (call_head c) false)

  makes : (me : ℕ) (p : Point) (seen : Seen) → program me c p seen ≡ frame_makes f ends (call_plan c) me p seen
  makes me (at.Prepare p) seen = prepares me p seen
  makes me (at.Finish p b) seen = finishes me p b seen
  makes me _ seen = refl

  gives : (p : Point) → given_at c p ≡ frame_given (call_plan c) p
  gives (at.Prepare x) = refl
  gives (at.Finish x b) = refl
  gives _ = refl

  heads : (p : Point) → head_at c p ≡ frame_head (call_plan c) p
  heads (at.Prepare x) = refl
  heads (at.Finish x b) = refl
  heads _ = refl

  stirs_so : (p : Point) → stirs c p ≡ frame_stirs (call_plan c) p
  stirs_so (at.Prepare preparing.Look) = refl
  stirs_so _ = refl

  pub call_stands : call_plan c ≡ framed_plan f ends (call_plan c)
  call_stands = λ j. record {
    makes = λ me p seen. makes me p seen j;
    given = λ p. gives p j;
    watch = (call_plan c).watch;
    state = (call_plan c).state;
    form = (call_plan c).form;
    numbers = (call_plan c).numbers;
    asked = (call_plan c).asked;
    watches = (call_plan c).watches;
    head = λ p. heads p j;
    stirs = λ p. stirs_so p j;
  }

-- Plans of calls that prepare and finish as the waits for bits do, asked to leave or not.
use Rattle.std.proofs.Common.{◌∙◌, ap, refl}
use Rattle.std.specs.Prelude.{ℕ, ◌≡◌, Bool}
use Rattle.wait_model.specs.{declared.points.Next.Next, declared.points.Point.Point, declared.points.Seen.Seen}
use Rattle.wait_model.specs.declared.points.Point.TheVariants as at
use Rattle.wait_model.specs.declared.points.PreparePoint.TheVariants as preparing
use Rattle.wait_class.specs.{Frames.FrameTable, Tables.Plan}
use Rattle.wait_class.specs.FrameLaws.{frame_given, frame_head, frame_makes, frame_stirs, framed_plan}
use Rattle.wait_leave.specs.Leaves.{with_asked}

module _ {W T O : Type 0} (f : FrameTable W T O) (ends : Bool → Next) (p : Plan) (a : Bool) where
  makes : (me : ℕ) (x : Point) (seen : Seen)
      → frame_makes f ends p me x seen ≡ frame_makes f ends (with_asked a p) me x seen
  makes me (at.Prepare preparing.Look) seen = refl
  makes me _ seen = refl

  gives : (x : Point) → frame_given p x ≡ frame_given (with_asked a p) x
  gives (at.Prepare y) = refl
  gives (at.Finish y b) = refl
  gives _ = refl

  heads : (x : Point) → frame_head p x ≡ frame_head (with_asked a p) x
  heads (at.Prepare y) = refl
  heads (at.Finish y b) = refl
  heads _ = refl

  stirs : (x : Point) → frame_stirs p x ≡ frame_stirs (with_asked a p) x
  stirs (at.Prepare preparing.Look) = refl
  stirs _ = refl

  pub asked_stands : p ≡ framed_plan f ends p → with_asked a p ≡ framed_plan f ends (with_asked a p)
  asked_stands is = λ j. record {
    makes = λ me x seen. (ap (λ (q : Plan). q.makes me x seen) is ∙ makes me x seen) j;
    given = λ x. (ap (λ (q : Plan). q.given x) is ∙ gives x) j;
    watch = p.watch;
    state = p.state;
    form = p.form;
    numbers = p.numbers;
    asked = a;
    watches = λ x. ap (λ (q : Plan). q.watches x) is j;
    head = λ x. (ap (λ (q : Plan). q.head x) is ∙ heads x) j;
    stirs = λ x. (ap (λ (q : Plan). q.stirs x) is ∙ stirs x) j;
  }

-- What a program is led to: facts about its latest events, point by point, up to an answer.
use Rattle.std.specs.Prelude.{◌≡◌, List, [], ◌∷◌}
use Rattle.wait_model.specs.{declared.calls.Answer.Answer, declared.calls.Event.Event, declared.points.Next.Next}
use Rattle.wait_model.specs.{declared.points.Planned.Planned, declared.points.Point.Point, declared.points.Seen.Seen}
use Rattle.wait_model.specs.declared.points.Next.TheVariants as next
use Rattle.wait_rule.specs.{Heeding.trail_of, Known.Known, SaidEvents.said}
use Rattle.wait_rule.specs.Transitions.{Goes, Program, Transition, after_transition}

-- `IsAt` is what the latest events are at a point, and `IsOver` what they are where the answer is `a`
module _ (a : Answer) (IsAt : Point → List Event → Type 0) (IsOver : List Event → Type 0) where
  abbrev pub LedTo : List Event → Next → Type 0
  LedTo trail (next.Go q) = IsAt q trail
  LedTo trail (next.Ends b) = b ≡ a → IsOver trail

  abbrev pub Led : List Event → Planned → Type 0
  Led trail x = LedTo (x.event ∷ trail) x.next

  module _ (f : Program) (leads : (p : Point) (seen : Seen) (trail : List Event) → IsAt p trail
      → Led trail (f.plan p seen)) where
    tail : (ts : List Transition) (j new : Known) (trail : List Event)
        → ((q : Point) → Goes f j (next.Go q) ts new (next.Ends a) → IsAt q trail
        → IsOver (trail_of trail (said f (next.Go q) ts)))
        → (n : Next) → Goes f j n ts new (next.Ends a) → LedTo trail n → IsOver (trail_of trail (said f n ts))
    tail ts j new trail rec (next.Go q) g led = rec q g led
    tail [] j new trail rec (next.Ends b) g led =
        led (let z : next.Ends a ≡ next.Ends b = g.1 in let y : b ≡ a = cc in y)
    tail (t ∷ ts) j new trail rec (next.Ends b) g led = absurd g

    -- a whole run that answers so
    pub run_led : (ts : List Transition) (p : Point) (old new : Known) (trail : List Event) → IsAt p trail
        → Goes f old (next.Go p) ts new (next.Ends a) → IsOver (trail_of trail (said f (next.Go p) ts))
    run_led [] p old new trail h g = absurd (let z : next.Ends a ≡ next.Go p = g.1 in cc)
    run_led (t ∷ ts) p old new trail h g = tail ts (after_transition t) new ((f.plan p t.seen).event ∷ trail)
        (λ q on led. run_led ts q (after_transition t) new ((f.plan p t.seen).event ∷ trail) led on)
        (f.plan p t.seen).next g.1 (leads p t.seen trail h)

-- For proofs alone.
-- What exits have to keep.
use Rattle.std.specs.Prelude.{ℕ, ◌≡◌, Bool, true, false, if◌then◌else◌, Some, None, List, [], ◌∷◌}
use Rattle.wait_model.specs.{declared.calls.Event.Event, declared.points.Next.Next, declared.points.Planned.Planned}
use Rattle.wait_model.specs.{declared.points.Point.Point, declared.points.Seen.Seen, declared.steps.Step.Step}
use Rattle.wait_model.specs.PointFacts.{holds}
use Rattle.wait_model.specs.declared.calls.Event.TheVariants as event
use Rattle.wait_model.specs.declared.points.Next.TheVariants as next
use Rattle.wait_model.specs.declared.steps.Step.TheVariants as step
use Rattle.wait_rule.specs.Known.{Known}
use Rattle.wait_class.specs.declared.stages.Doing.TheVariants as doing
use Rattle.wait_class.specs.Laws.{Calm, HomeGoes, IsPlainTurn, StateGoes, TurnTrail, turn_post}
use Rattle.wait_class.specs.Tables.{CallTable, falls, post_of, took_in}
use Rattle.wait_leave.specs.{Leaves.Exits, Leaves.with_asked, declared.exits.Exit.Exit}

-- the steps that a task makes between a stage and its exit
abbrev pub rest_steps : Bool → List Step
rest_steps b = if b then step.State 0 ∷ [] else []

-- An exit takes no ticket along. A head may be held there, as at the load of a completion's count, and then is held
-- where it goes on, with fewer events left; RUNNING is stored outside of holds alone.
pub record ExitLaw {C S O : Type 0} (t : CallTable C S O) (x : Exits C S O) (r : C) (s : S) (e : Exit S O) : Type 0
  where
    pub fresh : t.drawn s ≡ false
    pub plain : IsPlainTurn t e.to
    pub falls : falls t s e.to ≡ true
    pub free : e.rests ≡ true → holds (t.point_of s) ≡ false
    pub head : (turn_post t (x.asks r) e.to).head ≡ (post_of t r s).head
    pub ticket : (turn_post t (x.asks r) e.to).ticket ≡ (post_of t r s).ticket
    pub same : t.plan_of (x.asks r) ≡ with_asked true (t.plan_of r)
    pub fits : t.Fits r → t.Fits (x.asks r)
    pub took : t.took s ≡ took_in t e.to
    pub state : e.rests ≡ false → StateGoes t r s (x.asks r) e.to
    pub home : HomeGoes t r s (x.asks r) e.to
    pub trail : (old new : Known) → Calm (rest_steps e.rests) old new → t.Trail old r s
        → TurnTrail t new (x.asks r) e.to

-- an event that is no sleep, behind which the program sleeps no more
abbrev pub is_sleeping : Event → Bool
is_sleeping (event.Sleep a) = true
is_sleeping _ = false

abbrev pub is_awake : (Point → Bool) → Next → Bool
is_awake f (next.Go p) = f p
is_awake f (next.Ends a) = true

abbrev pub AwakeOn : (Point → Bool) → Planned → Type 0
AwakeOn f p = (is_sleeping p.event ≡ false) × (is_awake f p.next ≡ true)

-- A stage that sleeps has an exit.
pub record AreLawfulExits {C S O : Type 0} (t : CallTable C S O) (x : Exits C S O) : Type 0 where
  pub at : (r : C) (s : S) (e : Exit S O) → x.exit r s ≡ Some e → ExitLaw t x r s e
  pub sleeps : (r : C) (s : S) → t.doing s ≡ doing.Sleep → x.exit r s ≡ None → ⊥
  pub awake : (r : C) (me : ℕ) (p : Point) (seen : Seen) → x.awake p ≡ true
      → AwakeOn x.awake ((t.plan_of r).makes me p seen)

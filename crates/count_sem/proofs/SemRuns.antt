-- What a task has made of a program that changes a count as the law on permits asks for, by what holds of its history
-- at each point.
use Rattle.std.specs.Prelude.{ℕ, Option, List, [], ◌∷◌, ◌++◌}
use Rattle.wait_model.specs.{declared.calls.Event.Event, declared.points.Given.Given, declared.points.Next.Next}
use Rattle.wait_model.specs.{declared.points.Planned.Planned, declared.points.Point.Point, declared.points.Seen.Seen}
use Rattle.wait_model.specs.{declared.steps.Step.Step, Fold.view_of, Views.View, Views.blank}
use Rattle.wait_model.specs.declared.calls.Event.TheVariants as event
use Rattle.wait_model.specs.declared.points.Next.TheVariants as next
use Rattle.wait_model.specs.declared.steps.Step.TheVariants as step
use Rattle.wait_rule.specs.{declared.journal.Item.Item, Known.Known, LeftEntries.Order, Says.history_of}
use Rattle.wait_rule.specs.Transitions.{Finds, Goes, IsMadeFor, IsStepFor, Program, Transition, by_look, by_step}
use Rattle.wait_rule.proofs.KnownLaws.HandedSteps.{OrderStep}
use Rattle.count_sem.specs.SemPermits.{IsSemStep, UsesAsSemaphore}
use Rattle.count_sem.proofs.AnswerRuns.{LooksHold, PointsHold, run_holds}
use Rattle.count_sem.proofs.SemSums.{sem_more}

-- an event that changes no condition, and is no look for members
abbrev pub IsPlain : Event → Type 0
IsPlain (event.Set c v) = ⊥
IsPlain (event.Take c v) = ⊥
IsPlain (event.Tas i b v) = ⊥
IsPlain (event.Clear i b) = ⊥
IsPlain (event.Active h hit) = ⊥
IsPlain _ = Unit {0}

pub plain_step : (d : ℕ) (v : View) (k : Known) (own : Option ℕ) (g : Given) (ev : Event) (e : Step) → IsPlain ev
    → IsStepFor k own g ev e → IsSemStep d v e
plain_step d v k own g (event.Set c n) e plain made = absurd plain
plain_step d v k own g (event.Take c n) e plain made = absurd plain
plain_step d v k own g (event.Tas i t n) e plain made = absurd plain
plain_step d v k own g (event.Clear i t) e plain made = absurd plain
plain_step d v k own g ev (step.Publish l n r) plain made = absurd made
plain_step d v k own g ev (step.Consume l n r) plain made = absurd made
plain_step d v k own g ev e plain made = tt

pub plain_look : (k : Known) (own : Option ℕ) (g : Given) (ev : Event) (xs : List Item) → IsPlain ev
    → IsMadeFor k own g ev (by_look xs) → ⊥
plain_look k own g (event.Active h hit) xs plain made = absurd plain
plain_look k own g ev xs plain made = absurd made

module _ (d me : ℕ) (f : Program) (Q : Point → List Step → Type 0) where
  -- what holds where the program goes on
  abbrev pub QNext : Next → List Step → Type 0
  QNext (next.Go p) es = Q p es
  QNext (next.Ends a) es = Unit {0}

  -- one event at a point, and what holds behind it
  pub record Fine (k : Known) (p : Point) (seen : Seen) (x : Planned) : Type 0 where
    pub looks : (xs : List Item) → IsMadeFor k f.own (f.given p) x.event (by_look xs) → ⊥
    pub steps : (e : Step) → OrderStep me (history_of k) e → IsStepFor k f.own (f.given p) x.event e
        → Finds k f p (by_step e) seen
        → IsSemStep d (view_of (history_of k)) e × QNext x.next (history_of k ++ e ∷ [])

  abbrev pub LooksStay : Type 0
  LooksStay = (p : Point) (es : List Step) (y w : ℕ) → OrderStep me es (step.Saw y w) → Q p es
      → Q p (es ++ step.Saw y w ∷ [])

  abbrev pub PointsAreFine : Type 0
  PointsAreFine = (p : Point) (seen : Seen) (k : Known) → Q p (history_of k) → Fine k p seen (f.plan p seen)

  module _ (stay : LooksStay) (fine : PointsAreFine) where
    abbrev Is : Next → List Step → Type 0
    Is n es = UsesAsSemaphore d es × QNext n es

    looks_stay : LooksHold me f Is
    looks_stay (next.Go p) es y w o is = (sem_more d blank es (step.Saw y w) is.0 tt, stay p es y w o is.1)
    looks_stay (next.Ends a) es y w o is = (sem_more d blank es (step.Saw y w) is.0 tt, tt)

    points_hold : PointsHold me f Is
    points_hold p seen k is = record {
      looks = (fine p seen k is.1).looks;
      steps = λ e o made finds. let one = (fine p seen k is.1).steps e o made finds in
          (sem_more d blank (history_of k) e is.0 one.0, one.1);
    }

    pub goes_on : (ts : List Transition) (n to : Next) (old new : Known) → Goes f old n ts new to
        → Order me (history_of new) → Is n (history_of old) → Is to (history_of new)
    goes_on = run_holds me f Is looks_stay points_hold

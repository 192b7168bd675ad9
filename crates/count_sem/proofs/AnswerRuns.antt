-- How many permits a task's steps give and take along a run, by what holds of its history at each place.
use Rattle.std.proofs.Common.{sym, subst, append_assoc, append-nil}
use Rattle.std.specs.Prelude.{ℕ, List, [], ◌∷◌, ◌++◌}
use Rattle.wait_model.specs.{declared.points.Next.Next, declared.points.Point.Point, declared.points.Seen.Seen}
use Rattle.wait_model.specs.declared.steps.Step.{Step}
use Rattle.wait_model.specs.declared.points.Next.TheVariants as next
use Rattle.wait_model.specs.declared.steps.Step.TheVariants as step
use Rattle.wait_rule.specs.{declared.journal.Item.Item, Items.steps_of, Known.Known, LeftEntries.Order, Says.history_of}
use Rattle.wait_rule.specs.Transitions.{AreLooks, Finds, Goes, IsMadeFor, IsStepFor, OnlyLooks, Program, StepOrLook}
use Rattle.wait_rule.specs.Transitions.{Transition, after_transition, by_look, by_step}
use Rattle.wait_rule.proofs.KnownLaws.HandedSteps.{OrderStep, order_front, order_step}
use Rattle.wait_rule.proofs.SaidEvents.Fronts.{looks_history, step_follows, step_history, steps_made}
use Rattle.wait_event.proofs.LookedSteps.{looks_all}

module _ (me : ℕ) (f : Program) (Q : Next → List Step → Type 0) where
  abbrev pub LooksHold : Type 0
  LooksHold = (n : Next) (es : List Step) (y w : ℕ) → OrderStep me es (step.Saw y w) → Q n es
      → Q n (es ++ step.Saw y w ∷ [])

  -- one event at a point
  pub record Steps (k : Known) (p : Point) (seen : Seen) : Type 0 where
    pub looks : (xs : List Item) → IsMadeFor k f.own (f.given p) (f.plan p seen).event (by_look xs) → ⊥
    pub steps : (e : Step) → OrderStep me (history_of k) e → IsStepFor k f.own (f.given p) (f.plan p seen).event e
        → Finds k f p (by_step e) seen → Q (f.plan p seen).next (history_of k ++ e ∷ [])

  abbrev pub PointsHold : Type 0
  PointsHold = (p : Point) (seen : Seen) (k : Known) → Q (next.Go p) (history_of k) → Steps k p seen

  module _ (stay : LooksHold) (points : PointsHold) where
    looks_hold : (n : Next) (xs : List Item) → AreLooks xs → (es : List Step) → Order me (es ++ steps_of xs) → Q n es
        → Q n (es ++ steps_of xs)
    looks_hold n = looks_all (λ fs. (es : List Step) → Order me (es ++ fs) → Q n es → Q n (es ++ fs))
        (λ es o is. subst (Q n) (sym (append-nil es)) is)
        (λ y w fs held es o is. subst (Q n) (append_assoc es (step.Saw y w ∷ []) fs)
        (held (es ++ step.Saw y w ∷ []) (subst (Order me) (sym (append_assoc es (step.Saw y w ∷ []) fs)) o)
        (stay n es y w (order_step me es (step.Saw y w) fs o) is)))

    looked_holds : (n : Next) (old new : Known) → OnlyLooks old new → Order me (history_of new) → Q n (history_of old)
        → Q n (history_of new)
    looked_holds n old new l o is = subst (Q n) (sym (looks_history old new l))
        (looks_hold n l.items l.looks (history_of old) (subst (Order me) (looks_history old new l) o) is)

    event_holds : (p : Point) (seen : Seen) (k : Known) (did : StepOrLook) (rest : List Step)
        → Order me (history_of k ++ (steps_made did ++ rest))
        → IsMadeFor k f.own (f.given p) (f.plan p seen).event did → Finds k f p did seen → Q (next.Go p) (history_of k)
        → Q (f.plan p seen).next (history_of k ++ steps_made did)
    event_holds p seen k (by_step e) rest o made finds is =
        (points p seen k is).steps e (order_step me (history_of k) e rest o) made finds
    event_holds p seen k (by_look xs) rest o made finds is = absurd ((points p seen k is).looks xs made)

    pub run_holds : (ts : List Transition) (n to : Next) (old new : Known) → Goes f old n ts new to
        → Order me (history_of new) → Q n (history_of old) → Q to (history_of new)
    run_holds [] n to old new g o is =
        subst (λ (m : Next). Q m (history_of new)) (sym g.1) (looked_holds n old new g.0 o is)
    run_holds (t ∷ ts) (next.Ends a) to old new g o is = absurd g
    run_holds (t ∷ ts) (next.Go p) to old new g o is =
        let rest = step_follows f new (f.plan p t.seen).next to t ts g.1 in
        let whole = subst (Order me) rest.1 o in
        let here = looked_holds (next.Go p) old t.knew g.0.looks
        (order_front me (history_of t.knew) (steps_made t.did ++ rest.0) whole) is in
        let behind = event_holds p t.seen t.knew t.did rest.0 whole g.0.is g.0.finds here in
        run_holds ts (f.plan p t.seen).next to (after_transition t) new g.1 o
        (subst (Q (f.plan p t.seen).next) (sym (step_history t.did t.knew)) behind)

-- What the points of a program say of the history, kept over transitions and looks.
use Rattle.std.proofs.Common.{refl, sym, ◌∙◌, subst, append-nil, append_assoc}
use Rattle.std.specs.Prelude.{ℕ, ◌≡◌, false, List, [], ◌∷◌, ◌++◌}
use Rattle.wait_model.specs.{declared.points.Next.Next, declared.points.Planned.Planned, declared.points.Point.Point}
use Rattle.wait_model.specs.{declared.points.Seen.Seen, declared.steps.Step.Step}
use Rattle.wait_model.specs.declared.points.Next.TheVariants as next
use Rattle.wait_model.specs.declared.steps.Step.TheVariants as step
use Rattle.wait_rule.specs.{declared.journal.Item.Item, Items.steps_of, Known.Known, Says.added, Says.history_of}
use Rattle.wait_rule.specs.Transitions.{AreLooks, Finds, Goes, IsMadeFor, IsStepFor, IsTransition, OnlyLooks, Program}
use Rattle.wait_rule.specs.Transitions.{StepOrLook, Transition, after_step_or_look, after_transition, by_look, by_step}
use Rattle.wait_rule.specs.Transitions.{with_lock}
use Rattle.wait_rule.specs.declared.journal.Item.TheVariants as item
use Rattle.wait_rule.proofs.TableSteps.ItemLists.{steps_append}
use Rattle.wait_class.proofs.Turns.{looks_history}
use Rattle.waiter_laws.proofs.PointRuns.{is_active, no_look}

locked_history : (e : Step) (k : Known) → history_of (with_lock e k) ≡ history_of k
locked_history (step.Lock h aim w) k = refl
locked_history e k = refl

pub step_history : (k : Known) (e : Step) → history_of (after_step_or_look (by_step e) k) ≡ history_of k ++ e ∷ []
step_history k e = locked_history e (added k (item.Made e)) ∙ steps_append k.view.items (item.Made e ∷ [])

module _ (f : Program) (At : Point → List Step → Type 0) where
  abbrev pub AtNext : Next → List Step → Type 0
  AtNext (next.Go p) es = At p es
  AtNext (next.Ends a) es = Unit {0}

  abbrev pub Leads : Known → Point → Seen → Planned → Type 0
  Leads k p seen u = ((e : Step) → IsStepFor k f.own (f.given p) u.event e → Finds k f p (by_step e) seen
      → AtNext u.next (history_of k ++ e ∷ [])) × (is_active u.event ≡ false)

  pub record IsLed : Type 0 where
    pub still : (p : Point) (es : List Step) (y w : ℕ) → At p es → At p (es ++ step.Saw y w ∷ [])
    pub leads : (k : Known) (p : Point) (seen : Seen) → At p (history_of k) → Leads k p seen (f.plan p seen)

  module _ (led : IsLed) where
    looks_still : (p : Point) (xs : List Item) (es : List Step) → AreLooks xs → At p es → At p (es ++ steps_of xs)
    looks_still p [] es l h = subst (At p) (sym (append-nil es)) h
    looks_still p (item.Made (step.Saw y w) ∷ xs) es l h = subst (At p)
        (append_assoc es (step.Saw y w ∷ []) (steps_of xs))
        (looks_still p xs (es ++ step.Saw y w ∷ []) l.1 (led.still p es y w h))
    looks_still p (item.Made e ∷ xs) es l h = absurd l.0
    looks_still p (item.Awake w ∷ xs) es l h = looks_still p xs es l.1 h
    looks_still p (item.Bookmark t w ∷ xs) es l h = looks_still p xs es l.1 h
    looks_still p (item.Member ∷ xs) es l h = looks_still p xs es l.1 h
    looks_still p (item.Word w ∷ xs) es l h = looks_still p xs es l.1 h
    looks_still p (item.Drawn i w ∷ xs) es l h = looks_still p xs es l.1 h
    looks_still p (item.Serving i w ∷ xs) es l h = looks_still p xs es l.1 h
    looks_still p (item.Served ∷ xs) es l h = looks_still p xs es l.1 h
    looks_still p (item.Tally i n w ∷ xs) es l h = absurd l.0
    looks_still p (item.Piped i a w ∷ xs) es l h = absurd l.0

    pub only_still : (p : Point) (old new : Known) → OnlyLooks old new → At p (history_of old) → At p (history_of new)
    only_still p old new l h = subst (At p) (sym (looks_history old new l))
        (looks_still p l.items (history_of old) l.looks h)

    one : (p : Point) (old : Known) (t : Transition) → IsTransition f p old t → At p (history_of old)
        → AtNext (f.plan p t.seen).next (history_of (after_transition t))
    one p old t is h = by t.did is.is is.finds (only_still p old t.knew is.looks h)
      where
        by : (s : StepOrLook) → IsMadeFor t.knew f.own (f.given p) (f.plan p t.seen).event s
            → Finds t.knew f p s t.seen → At p (history_of t.knew)
            → AtNext (f.plan p t.seen).next (history_of (after_step_or_look s t.knew))
        by (by_step e) made found g = subst (AtNext (f.plan p t.seen).next) (sym (step_history t.knew e))
            ((led.leads t.knew p t.seen g).0 e made found)
        by (by_look xs) made found g = no_look t.knew f.own (f.given p) (f.plan p t.seen).event xs
            (led.leads t.knew p t.seen g).1 made

    pub run : (ts : List Transition) (n : Next) (q : Point) (old new : Known) → Goes f old n ts new (next.Go q)
        → AtNext n (history_of old) → At q (history_of new)
    run [] (next.Go p) q old new g h = subst (λ (r : Next). AtNext r (history_of new)) (sym g.1)
        (only_still p old new g.0 h)
    run [] (next.Ends a) q old new g h = absurd (let z : next.Go q ≡ next.Ends a = g.1 in cc)
    run (t ∷ ts) (next.Go p) q old new g h = run ts (f.plan p t.seen).next q (after_transition t) new g.1
        (one p old t g.0 h)
    run (t ∷ ts) (next.Ends a) q old new g h = absurd g

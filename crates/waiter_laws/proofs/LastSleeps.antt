-- A run whose last step is a sleep has only looked at words since the point at which its program sleeps.
use Rattle.std.proofs.Common.{refl, sym, ◌∙◌, ap, subst, append_assoc}
use Rattle.std.proofs.lemmas.List.{append_cancel_left}
use Rattle.std.specs.Prelude.{ℕ, ◌≡◌, Bool, true, false, Option, List, [], ◌∷◌, ◌++◌}
use Rattle.wait_model.specs.{declared.calls.Call.Call, declared.calls.Event.Event, declared.points.Given.Given}
use Rattle.wait_model.specs.{declared.points.Next.Next, declared.points.Planned.Planned, declared.points.Point.Point}
use Rattle.wait_model.specs.{declared.points.Seen.Seen, declared.steps.Step.Step, Calls.program_start, Programs.program}
use Rattle.wait_model.specs.declared.calls.Event.TheVariants as event
use Rattle.wait_model.specs.declared.points.Next.TheVariants as next
use Rattle.wait_model.specs.declared.steps.Step.TheVariants as step
use Rattle.wait_rule.specs.{declared.journal.Item.Item, Items.steps_of, Known.Known, Says.IsUp, Says.history_of}
use Rattle.wait_rule.specs.Transitions.{AreLooks, Goes, IsMadeFor, IsStepFor, IsTransition, OnlyLooks, Program}
use Rattle.wait_rule.specs.Transitions.{StepOrLook, Transition, after_transition, by_look, by_step, call_program}
use Rattle.wait_rule.specs.declared.journal.Item.TheVariants as item
use Rattle.wait_rule.proofs.KnownLaws.Transitions.{only_none}
use Rattle.wait_rule.proofs.SaidEvents.Fronts.{history_grows, looks_history, step_history, steps_made}
use Rattle.wait_class.specs.{Posts.IsOut, Posts.Runs, Tables.SleptLast, Tables.is_sleep}
use Rattle.waiter_laws.specs.Asleep.{EndsAsleep, sleep_point}
use Rattle.waiter_laws.proofs.PointRuns.{is_active, is_sleep_event, no_look}

-- whether the last of these steps is a sleep
abbrev ends_in_sleep : List Step → Bool
ends_in_sleep [] = false
ends_in_sleep (e ∷ []) = is_sleep e
ends_in_sleep (e ∷ es) = ends_in_sleep es

behind : (es : List Step) (e : Step) (fs : List Step) → ends_in_sleep (es ++ e ∷ fs) ≡ ends_in_sleep (e ∷ fs)
behind [] e fs = refl
behind (x ∷ []) e fs = refl
behind (x ∷ y ∷ es) e fs = behind (y ∷ es) e fs

-- looks make no sleep
awake_front : (e : Step) (es : List Step) → is_sleep e ≡ false → ends_in_sleep es ≡ false
    → ends_in_sleep (e ∷ es) ≡ false
awake_front e [] one more = one
awake_front e (x ∷ es) one more = more

looks_wake : (xs : List Item) → AreLooks xs → ends_in_sleep (steps_of xs) ≡ false
looks_wake [] l = refl
looks_wake (item.Made (step.Saw y w) ∷ xs) l = awake_front (step.Saw y w) (steps_of xs) refl (looks_wake xs l.1)
looks_wake (item.Made e ∷ xs) l = absurd l.0
looks_wake (item.Awake w ∷ xs) l = looks_wake xs l.1
looks_wake (item.Bookmark t w ∷ xs) l = looks_wake xs l.1
looks_wake (item.Member ∷ xs) l = looks_wake xs l.1
looks_wake (item.Word w ∷ xs) l = looks_wake xs l.1
looks_wake (item.Drawn i w ∷ xs) l = looks_wake xs l.1
looks_wake (item.Serving i w ∷ xs) l = looks_wake xs l.1
looks_wake (item.Served ∷ xs) l = looks_wake xs l.1
looks_wake (item.Tally i n w ∷ xs) l = absurd l.0
looks_wake (item.Piped i a w ∷ xs) l = absurd l.0

-- a sleep is made for the event of one
slept_for : (k : Known) (own : Option ℕ) (g : Given) (v : Event) (e : Step) → IsStepFor k own g v e
    → is_sleep e ≡ true → is_sleep_event v ≡ true
slept_for k own g (event.Sleep a) e made is = refl
slept_for k own g v (step.Sleep w) made is = absurd made
slept_for k own g v e made is = absurd (cc)

none_made : {A : Type 0} (xs : List Step) (e : Step) (ys : List Step) → xs ++ e ∷ ys ≡ [] → A
none_made [] e ys is = absurd (cc)
none_made (x ∷ xs) e ys is = absurd (cc)

-- The task went through a program from one place to this point, made a sleep there, and then looked at words alone.
pub record SleptThere (f : Program) (sleep : Point) (n : Next) (old new : Known) : Type 0 where
  pub before : List Transition
  pub came : Known
  pub comes : Goes f old n before came (next.Go sleep)
  pub slept : Transition
  pub sleeps : IsTransition f sleep came slept
  pub looked : OnlyLooks (after_transition slept) new

-- The event at a point, and where the program goes on: it stays within these points, looks for no members without the
-- lock, and sleeps at one point alone.
abbrev pub goes_within : (Point → Bool) → Next → Bool
goes_within within (next.Go p) = within p
goes_within within (next.Ends a) = true

abbrev pub Stays : (Point → Bool) → Point → Point → Planned → Type 0
Stays within sleep p u = (goes_within within u.next ≡ true) × (is_active u.event ≡ false)
    × (is_sleep_event u.event ≡ true → p ≡ sleep)

module _ (f : Program) (within : Point → Bool) (sleep : Point)
    (stays : (p : Point) (seen : Seen) → within p ≡ true → Stays within sleep p (f.plan p seen)) where
  -- what a run adds to the history; where the last of that is a sleep, it ends behind one
  record Adds (n : Next) (old new : Known) : Type 0 where
    steps : List Step
    is : history_of new ≡ history_of old ++ steps
    none : steps ≡ [] → OnlyLooks old new
    last : ends_in_sleep steps ≡ true → SleptThere f sleep n old new

  module _ (p : Point) (old new : Known) (t : Transition) (here : within p ≡ true) (is : IsTransition f p old t)
      (r : Adds (f.plan p t.seen).next (after_transition t) new) where
    -- the sleep is this step's
    here_last : p ≡ sleep → OnlyLooks (after_transition t) new → SleptThere f sleep (next.Go p) old new
    here_last at looked = record {
      before = [];
      came = old;
      comes = (only_none old, ap next.Go (sym at));
      slept = t;
      sleeps = subst (λ (q : Point). IsTransition f q old t) at is;
      looked = looked;
    }

    -- or a later one
    later_last : SleptThere f sleep (f.plan p t.seen).next (after_transition t) new
        → SleptThere f sleep (next.Go p) old new
    later_last z = record {
      before = t ∷ z.before;
      came = z.came;
      comes = (is, z.comes);
      slept = z.slept;
      sleeps = z.sleeps;
      looked = z.looked;
    }

    last_by : (e : Step) → IsStepFor t.knew f.own (f.given p) (f.plan p t.seen).event e → (es : List Step)
        → (es ≡ [] → OnlyLooks (after_transition t) new)
        → (ends_in_sleep es ≡ true → SleptThere f sleep (f.plan p t.seen).next (after_transition t) new)
        → ends_in_sleep (e ∷ es) ≡ true → SleptThere f sleep (next.Go p) old new
    last_by e made [] none last ends = here_last ((stays p t.seen here).2
        (slept_for t.knew f.own (f.given p) (f.plan p t.seen).event e made ends)) (none refl)
    last_by e made (x ∷ es) none last ends = later_last (last ends)

    step_adds : (e : Step) → t.did ≡ by_step e → IsStepFor t.knew f.own (f.given p) (f.plan p t.seen).event e
        → Adds (next.Go p) old new
    step_adds e did made = record {
      steps = steps_of is.looks.items ++ e ∷ r.steps;
      is = r.is ∙ (ap (λ (es : List Step). es ++ r.steps)
          (step_history t.did t.knew ∙ ap (λ (s : StepOrLook). history_of t.knew ++ steps_made s) did)
          ∙ (append_assoc (history_of t.knew) (e ∷ []) r.steps
          ∙ (ap (λ (es : List Step). es ++ e ∷ r.steps) (looks_history old t.knew is.looks)
          ∙ append_assoc (history_of old) (steps_of is.looks.items) (e ∷ r.steps))));
      none = none_made (steps_of is.looks.items) e r.steps;
      last = λ ends. last_by e made r.steps r.none r.last
          (sym (behind (steps_of is.looks.items) e r.steps) ∙ ends);
    }

    adds_by : (s : StepOrLook) → t.did ≡ s
        → IsMadeFor t.knew f.own (f.given p) (f.plan p t.seen).event s → Adds (next.Go p) old new
    adds_by (by_step e) did made = step_adds e did made
    adds_by (by_look xs) did made = no_look t.knew f.own (f.given p) (f.plan p t.seen).event xs
        (stays p t.seen here).1 made

  adds : (ts : List Transition) (n m : Next) (old new : Known) → Goes f old n ts new m → goes_within within n ≡ true
      → Adds n old new
  adds [] n m old new g here = record {
    steps = steps_of g.0.items;
    is = looks_history old new g.0;
    none = λ none. g.0;
    last = λ ends. absurd (let z : true ≡ false = sym ends ∙ looks_wake g.0.items g.0.looks in cc);
  }
  adds (t ∷ ts) (next.Go p) m old new g here = adds_by p old new t here g.0
      (adds ts (f.plan p t.seen).next m (after_transition t) new g.1 (stays p t.seen here).0) t.did refl g.0.is
  adds (t ∷ ts) (next.Ends a) m old new g here = absurd g

  pub slept_there : (n m : Next) (old new : Known) → Runs f old new n m → goes_within within n ≡ true
      → SleptLast old new → SleptThere f sleep n old new
  slept_there n m old new runs here last =
      let a = adds runs.transitions n m old new runs.goes here in
      a.last (ap ends_in_sleep (append_cancel_left (history_of old) a.steps (last.before ++ step.Sleep last.found ∷ [])
      (sym a.is ∙ (last.is ∙ append_assoc (history_of old) last.before (step.Sleep last.found ∷ []))))
      ∙ behind last.before (step.Sleep last.found) [])

-- so it is of a call that waits
pub ends_asleep : (call : Call) (within : Point → Bool) (old new : Known)
    → ((p : Point) (seen : Seen) → within p ≡ true
    → Stays within (sleep_point call) p (program old.view.number call p seen))
    → within (program_start call) ≡ true → IsUp old → IsOut old → (m : Next)
    → Runs (call_program old.view.number 0 call) old new (next.Go (program_start call)) m → SleptLast old new
    → EndsAsleep call old new
ends_asleep call within old new stays starts up out m runs last =
    let z = slept_there (call_program old.view.number 0 call) within (sleep_point call) stays
    (next.Go (program_start call)) m old new runs starts last in
    record {
      up = up;
      out = out;
      before = z.before;
      came = z.came;
      comes = z.comes;
      sleep = z.slept;
      sleeps = z.sleeps;
      looked = z.looked;
    }

-- a run, and then one whose last step is a sleep
pub last_behind : (f : Program) (old mid new : Known) (n m : Next) → Runs f old mid n m → SleptLast mid new
    → SleptLast old new
last_behind f old mid new n m runs last =
    let more = history_grows f old mid n m runs.transitions runs.goes in
    record {
      before = more.0 ++ last.before;
      found = last.found;
      is = last.is ∙ ap (λ (es : List Step). es ++ step.Sleep last.found ∷ [])
          (ap (λ (es : List Step). es ++ last.before) more.1 ∙ append_assoc (history_of old) more.0 last.before);
    }

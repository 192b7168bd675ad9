-- A program about another watch changes no count of a semaphore.
use Rattle.std.proofs.Common.{sym, ◌∙◌, subst, append_assoc, append-nil}
use Rattle.std.specs.Prelude.{ℕ, ◌≡◌, true, false, Option, List, [], ◌∷◌, ◌++◌}
use Rattle.wait_model.specs.{declared.calls.Event.Event, declared.points.Given.Given, declared.points.Next.Next}
use Rattle.wait_model.specs.{declared.points.Point.Point, declared.steps.Step.Step, declared.watches.Watch.Watch}
use Rattle.wait_model.specs.{Views.View, Views.blank, Watches.same}
use Rattle.wait_model.specs.declared.calls.Event.TheVariants as event
use Rattle.wait_model.specs.declared.points.Next.TheVariants as next
use Rattle.wait_model.specs.declared.steps.Step.TheVariants as step
use Rattle.wait_model.specs.declared.watches.Watch.TheVariants as watch
use Rattle.wait_rule.specs.{declared.journal.Item.Item, Items.steps_of, Known.Known, Says.history_of}
use Rattle.wait_rule.specs.Transitions.{AreLooks, AreScansOf, Goes, IsMadeFor, IsStepFor, OnlyLooks, Program}
use Rattle.wait_rule.specs.Transitions.{StepOrLook, Transition, after_transition, by_look, by_step}
use Rattle.wait_rule.specs.declared.journal.Item.TheVariants as item
use Rattle.wait_rule.proofs.SaidEvents.Fronts.{looks_history, step_history, steps_made}
use Rattle.count_sem.specs.{SemPermits.IsSemStep, SemPermits.UsesAsSemaphore, SemUses.OthersKeepUse}
use Rattle.count_sem.proofs.SemSums.{sem_more}

module _ (d : ℕ) where
  abbrev IsApart : Watch → Type 0
  IsApart w = same w (watch.Done d) ≡ false

  apart_store : (v : View) (w : Watch) (n r : ℕ) → IsApart w
      → IsSemStep d v (step.Publish w n r) × IsSemStep d v (step.Consume w n r)
  apart_store v (watch.Done c) n r ne = (
    λ is. absurd (let z : true ≡ false = sym is ∙ ne in cc),
    λ is. absurd (let z : true ≡ false = sym is ∙ ne in cc),
  )
  apart_store v w n r ne = (tt, tt)

  publish_apart : (v : View) (w l : Watch) (n r : ℕ) → IsApart w → l ≡ w → IsSemStep d v (step.Publish l n r)
  publish_apart v w l n r ne is = subst (λ (c : Watch). IsSemStep d v (step.Publish c n r)) (sym is)
      (apart_store v w n r ne).0

  consume_apart : (v : View) (w l : Watch) (n r : ℕ) → IsApart w → l ≡ w → IsSemStep d v (step.Consume l n r)
  consume_apart v w l n r ne is = subst (λ (c : Watch). IsSemStep d v (step.Consume c n r)) (sym is)
      (apart_store v w n r ne).1

  other_step : (v : View) (k : Known) (own : Option ℕ) (g : Given) (ev : Event) (e : Step) → IsApart g.watch
      → IsStepFor k own g ev e → IsSemStep d v e
  other_step v k own g (event.Set c m) (step.Publish l n r) ne made = publish_apart v g.watch l n r ne made.0
  other_step v k own g (event.Set c m) (step.Consume l n r) ne made = consume_apart v g.watch l n r ne made.0
  other_step v k own g (event.Take c m) (step.Consume l n r) ne made = consume_apart v g.watch l n r ne made.0
  other_step v k own g (event.Tas i b m) (step.Consume l n r) ne made = consume_apart v g.watch l n r ne made.0
  other_step v k own g (event.Clear i b) (step.Publish l n r) ne made = publish_apart v g.watch l n r ne made.0
  other_step v k own g ev (step.Publish l n r) ne made = absurd made
  other_step v k own g ev (step.Consume l n r) ne made = absurd made
  other_step v k own g ev e ne made = tt

  -- looks with the lock and without
  looks_use : (xs : List Item) (es : List Step) → AreLooks xs → UsesAsSemaphore d es
      → UsesAsSemaphore d (es ++ steps_of xs)
  looks_use [] es l is = subst (UsesAsSemaphore d) (sym (append-nil es)) is
  looks_use (item.Made (step.Saw y w) ∷ xs) es l is =
      subst (UsesAsSemaphore d) (append_assoc es (step.Saw y w ∷ []) (steps_of xs))
      (looks_use xs (es ++ step.Saw y w ∷ []) l.1 (sem_more d blank es (step.Saw y w) is tt))
  looks_use (item.Made e ∷ xs) es l is = absurd l.0
  looks_use (item.Awake w ∷ xs) es l is = looks_use xs es l.1 is
  looks_use (item.Bookmark t w ∷ xs) es l is = looks_use xs es l.1 is
  looks_use (item.Member ∷ xs) es l is = looks_use xs es l.1 is
  looks_use (item.Word w ∷ xs) es l is = looks_use xs es l.1 is
  looks_use (item.Drawn h w ∷ xs) es l is = looks_use xs es l.1 is
  looks_use (item.Serving h w ∷ xs) es l is = looks_use xs es l.1 is
  looks_use (item.Served ∷ xs) es l is = looks_use xs es l.1 is
  looks_use (item.Tally p m w ∷ xs) es l is = absurd l.0
  looks_use (item.Piped j a w ∷ xs) es l is = absurd l.0

  scans_use : (h : ℕ) (xs : List Item) (es : List Step) → AreScansOf h xs → UsesAsSemaphore d es
      → UsesAsSemaphore d (es ++ steps_of xs)
  scans_use h [] es l is = subst (UsesAsSemaphore d) (sym (append-nil es)) is
  scans_use h (item.Made (step.Scan i j w) ∷ xs) es l is =
      subst (UsesAsSemaphore d) (append_assoc es (step.Scan i j w ∷ []) (steps_of xs))
      (scans_use h xs (es ++ step.Scan i j w ∷ []) l.1 (sem_more d blank es (step.Scan i j w) is tt))
  scans_use h (item.Made e ∷ xs) es l is = absurd l.0
  scans_use h (x ∷ xs) es l is = absurd l.0

  made_use : (k : Known) (own : Option ℕ) (g : Given) (ev : Event) (did : StepOrLook) → IsApart g.watch
      → IsMadeFor k own g ev did → UsesAsSemaphore d (history_of k)
      → UsesAsSemaphore d (history_of k ++ steps_made did)
  made_use k own g ev (by_step e) ne made is = sem_more d blank (history_of k) e is (other_step _ k own g ev e ne made)
  made_use k own g (event.Active h hit) (by_look xs) ne made is = scans_use h xs (history_of k) made.0 is
  made_use k own g ev (by_look xs) ne made is = absurd made

  looked_use : (old new : Known) → OnlyLooks old new → UsesAsSemaphore d (history_of old)
      → UsesAsSemaphore d (history_of new)
  looked_use old new l is = subst (UsesAsSemaphore d) (sym (looks_history old new l))
      (looks_use l.items (history_of old) l.looks is)

  goes_use : (f : Program) → ((p : Point) → IsApart (f.given p).watch) → (ts : List Transition) (n to : Next)
      (old new : Known) → Goes f old n ts new to → UsesAsSemaphore d (history_of old)
      → UsesAsSemaphore d (history_of new)
  goes_use f apart [] n to old new g is = looked_use old new g.0 is
  goes_use f apart (t ∷ ts) (next.Ends a) to old new g is = absurd g
  goes_use f apart (t ∷ ts) (next.Go p) to old new g is = goes_use f apart ts (f.plan p t.seen).next to
      (after_transition t) new g.1
      (subst (UsesAsSemaphore d) (sym (step_history t.did t.knew))
      (made_use t.knew f.own (f.given p) (f.plan p t.seen).event t.did (apart p) g.0.is
      (looked_use old t.knew g.0.looks is)))

pub others_keep_use : OthersKeepUse
others_keep_use d f old new from to apart runs is = goes_use d f apart runs.transitions from to old new runs.goes is

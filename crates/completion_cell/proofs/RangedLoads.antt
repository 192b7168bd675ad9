-- The counts that a run has loaded are in their range: by its history, and where its program loads none.
use Rattle.std.proofs.Common.{refl, sym, ◌∙◌, ap, subst, append_assoc}
use Rattle.std.specs.Prelude.{ℕ, ◌≡◌, ◌≤◌, Bool, true, false, Option, Some, None, List, [], ◌∷◌, ◌++◌}
use Rattle.wait_model.specs.{declared.layout.TheConstants.ALL_DONE, declared.calls.Answer.Answer}
use Rattle.wait_model.specs.{declared.calls.Call.Call, declared.calls.Event.Event, declared.points.Given.Given}
use Rattle.wait_model.specs.{declared.points.Next.Next, declared.points.Planned.Planned, declared.points.Point.Point}
use Rattle.wait_model.specs.{declared.points.Seen.Seen, declared.queues.CalledEntry.CalledEntry}
use Rattle.wait_model.specs.{declared.steps.Step.Step, declared.watches.Watch.Watch, Runs.is_publishing, Runs.set_step}
use Rattle.wait_model.specs.{Tasks.meets, Watches.mask_of}
use Rattle.wait_model.specs.Programs.{is_enough, program, select_next}
use Rattle.wait_model.specs.declared.calls.Event.TheVariants as event
use Rattle.wait_model.specs.declared.points.Next.TheVariants as next
use Rattle.wait_model.specs.declared.points.Point.TheVariants as at
use Rattle.wait_model.specs.declared.points.SelectPoint.TheVariants as selecting
use Rattle.wait_model.specs.declared.steps.Step.TheVariants as step
use Rattle.wait_model.specs.declared.watches.Mode.TheVariants as mode
use Rattle.wait_model.proofs.WaitLaws.OutsideStages.{either}
use Rattle.wait_rule.specs.{Items.steps_of, Known.Known, Says.history_of}
use Rattle.wait_rule.specs.Transitions.{Goes, IsMadeFor, Program, StepOrLook, Transition, after_transition, by_look}
use Rattle.wait_rule.specs.Transitions.{by_step, call_program}
use Rattle.wait_rule.proofs.SaidEvents.Fronts.{history_grows, looks_history, step_history, steps_made}
use Rattle.wait_class.specs.{Laws.is_quiet_event, Posts.Runs}
use Rattle.completion_cell.specs.{Asks.HasMadeCall, LoadedCounts.AreInRange, LoadedCounts.InRange}

-- parts of a run
pub ranged_on : (ts us : List Transition) → AreInRange ts → AreInRange us → AreInRange (ts ++ us)
ranged_on [] us one two = two
ranged_on (t ∷ ts) us one two = (one.0, ranged_on ts us one.1 two)

pub quiet_ranged : (d : StepOrLook) → is_quiet_event d ≡ true → InRange d
quiet_ranged (by_step (step.Load w v)) quiet = absurd (cc)
quiet_ranged (by_step e) quiet = tt
quiet_ranged (by_look xs) quiet = tt

-- steps whose loads found no more than a count can be
abbrev IsSmall : Step → Type 0
IsSmall (step.Load c v) = v ≤ ALL_DONE
IsSmall _ = Unit {0}

abbrev pub AreSmall : List Step → Type 0
AreSmall [] = Unit {0}
AreSmall (e ∷ es) = IsSmall e × AreSmall es

pub small_on : (es fs : List Step) → AreSmall es → AreSmall fs → AreSmall (es ++ fs)
small_on [] fs one two = two
small_on (e ∷ es) fs one two = (one.0, small_on es fs one.1 two)

small_front : (es fs : List Step) → AreSmall (es ++ fs) → AreSmall es
small_front [] fs s = tt
small_front (e ∷ es) fs s = (s.0, small_front es fs s.1)

small_back : (es fs : List Step) → AreSmall (es ++ fs) → AreSmall fs
small_back [] fs s = s
small_back (e ∷ es) fs s = small_back es fs s.1

pub set_small : (c : Watch) (n found : ℕ) → AreSmall (set_step c n found ∷ [])
set_small c n found = either (λ (e : Step). AreSmall (e ∷ [])) (is_publishing c found n) (step.Publish c n found)
    (step.Consume c n found) (tt, tt) (tt, tt)

tail_is : (x : Step) (xs ys : List Step) → x ∷ xs ≡ x ∷ ys → xs ≡ ys
tail_is x xs ys is = cc

behind_is : (es fs gs : List Step) → es ++ fs ≡ es ++ gs → fs ≡ gs
behind_is [] fs gs is = is
behind_is (e ∷ es) fs gs is = behind_is es fs gs (tail_is e (es ++ fs) (es ++ gs) is)

made_ranged : (did : StepOrLook) → AreSmall (steps_made did) → InRange did
made_ranged (by_step (step.Load c v)) s = s.0
made_ranged (by_step e) s = tt
made_ranged (by_look xs) s = tt

-- a run by whose history they are
pub ranged_by : (f : Program) (old new : Known) (n m : Next) (ts : List Transition) → Goes f old n ts new m
    → (es : List Step) → history_of new ≡ history_of old ++ es → AreSmall es → AreInRange ts
ranged_by f old new n m [] g es is small = tt
ranged_by f old new (next.Ends a) m (t ∷ ts) g es is small = absurd g
ranged_by f old new (next.Go p) m (t ∷ ts) g es is small =
    let r = history_grows f (after_transition t) new (f.plan p t.seen).next m ts g.1 in
    let made : List Step = steps_made t.did ++ r.0 in
    let all : history_of new ≡ history_of old ++ (steps_of g.0.looks.items ++ made) =
    r.1 ∙ (ap (λ (l : List Step). l ++ r.0) (step_history t.did t.knew)
    ∙ (append_assoc (history_of t.knew) (steps_made t.did) r.0
    ∙ (ap (λ (l : List Step). l ++ made) (looks_history old t.knew g.0.looks)
    ∙ append_assoc (history_of old) (steps_of g.0.looks.items) made))) in
    let s : AreSmall made = small_back (steps_of g.0.looks.items) made
    (subst AreSmall (behind_is (history_of old) es (steps_of g.0.looks.items ++ made) (sym is ∙ all)) small) in (
      made_ranged t.did (small_front (steps_made t.did) r.0 s),
      ranged_by f (after_transition t) new (f.plan p t.seen).next m ts g.1 r.0 r.1
          (small_back (steps_made t.did) r.0 s),
    )

pub called_by : (old new : Known) (call : Call) (p : Point) (a : Answer)
    → Runs (call_program old.view.number 0 call) old new (next.Go p) (next.Ends a) → (es : List Step)
    → history_of new ≡ history_of old ++ es → AreSmall es → HasMadeCall old new call p a
called_by old new call p a runs es is small = record {
  transitions = runs.transitions;
  goes = runs.goes;
  ranged = ranged_by (call_program old.view.number 0 call) old new (next.Go p) (next.Ends a) runs.transitions runs.goes
      es is small;
}

-- an event that is no load
abbrev is_load : Event → Bool
is_load (event.Load c v) = true
is_load _ = false

loads_none : (k : Known) (own : Option ℕ) (g : Given) (ev : Event) (did : StepOrLook) → IsMadeFor k own g ev did
    → is_load ev ≡ false → InRange did
loads_none k own g (event.Load c v) did made none = absurd (cc)
loads_none k own g ev (by_step (step.Load l r)) made none = absurd made
loads_none k own g ev (by_step e) made none = tt
loads_none k own g ev (by_look xs) made none = tt

-- from its store on a selection loads nothing
abbrev pub is_selecting : Point → Bool
is_selecting (at.Select selecting.Store) = true
is_selecting (at.Select (selecting.Next n)) = true
is_selecting (at.Select (selecting.Off n who)) = true
is_selecting _ = false

abbrev Selecting : Next → Type 0
Selecting (next.Go q) = is_selecting q ≡ true
Selecting (next.Ends a) = Unit {0}

abbrev SelectsOn : Planned → Type 0
SelectsOn x = (is_load x.event ≡ false) × Selecting x.next

next_selects : (call : Call) (n : ℕ) (called : Option CalledEntry) (hit : Bool)
    → SelectsOn (select_next call n called hit)
next_selects call n None hit = (refl, tt)
next_selects call n (Some c) hit = (refl, refl)

plan_selects : (me : ℕ) (call : Call) (p : Point) (seen : Seen) → is_selecting p ≡ true
    → SelectsOn (program me call p seen)
plan_selects me call (at.Select selecting.Store) seen is = (refl, refl)
plan_selects me call (at.Select (selecting.Next n)) seen is = either SelectsOn (is_enough call n) _ _ (refl, tt)
    (next_selects call n seen.called (meets (mask_of mode.Normal) seen.other.state))
plan_selects me call (at.Select (selecting.Off n who)) seen is = (refl, refl)
plan_selects me call p seen is = absurd (cc)

module _ (me : ℕ) (call : Call) (new : Known) (a : Answer) where
  abbrev f : Program
  f = call_program me 0 call

  tail_ranged : (k : Known) (ts : List Transition)
      → ((q : Point) → is_selecting q ≡ true → Goes f k (next.Go q) ts new (next.Ends a) → AreInRange ts)
      → (n : Next) → Selecting n → Goes f k n ts new (next.Ends a) → AreInRange ts
  tail_ranged k ts rec (next.Go q) on g = rec q on g
  tail_ranged k [] rec (next.Ends b) on g = tt
  tail_ranged k (t ∷ ts) rec (next.Ends b) on g = absurd g

  pub selects_ranged : (ts : List Transition) (k : Known) (p : Point) → is_selecting p ≡ true
      → Goes f k (next.Go p) ts new (next.Ends a) → AreInRange ts
  selects_ranged [] k p is g = tt
  selects_ranged (t ∷ ts) k p is g =
      let plan : SelectsOn (program me call p t.seen) = plan_selects me call p t.seen is in (
        loads_none t.knew f.own (f.given p) (program me call p t.seen).event t.did g.0.is plan.0,
        tail_ranged (after_transition t) ts (λ q on more. selects_ranged ts (after_transition t) q on more)
            (program me call p t.seen).next plan.1 g.1,
      )

-- A program that sleeps no more.
use Rattle.std.proofs.Common.{◌∙◌, ap, append_assoc, inl, inr, refl, sym}
use Rattle.std.proofs.lemmas.List.{append_cancel_left}
use Rattle.std.specs.Prelude.{ℕ, ◌≡◌, ◌||◌, ◌⊎◌, Bool, true, false, Option, None, List, [], ◌∷◌, ◌++◌}
use Rattle.wait_model.specs.{declared.calls.Event.Event, declared.points.Given.Given, declared.points.Next.Next}
use Rattle.wait_model.specs.{declared.points.Point.Point, declared.points.Seen.Seen, declared.steps.Step.Step}
use Rattle.wait_model.specs.declared.calls.Event.TheVariants as event
use Rattle.wait_model.specs.declared.points.Next.TheVariants as next
use Rattle.wait_model.specs.declared.steps.Step.TheVariants as step
use Rattle.wait_rule.specs.{declared.journal.Item.Item, Items.steps_of, Known.Known, Says.added, Says.history_of}
use Rattle.wait_rule.specs.Transitions.{AreScansOf, Goes, IsMadeFor, IsStepFor, Program, StepOrLook, Transition}
use Rattle.wait_rule.specs.Transitions.{after_step_or_look, after_transition, by_look, by_step, with_lock}
use Rattle.wait_rule.specs.declared.journal.Item.TheVariants as item
use Rattle.wait_rule.proofs.{KnownLaws.TaskHistories.history_after, TableSteps.ItemLists.steps_append}
use Rattle.wait_class.specs.declared.stages.Doing.TheVariants as doing
use Rattle.wait_class.specs.{declared.stages.Run.Run, declared.stages.Turn.Turn, Wholes.HasRested}
use Rattle.wait_class.specs.Tables.{CallTable, ShowsTurn, SleepsNot, SleptLast, has_sleep, is_sleep}
use Rattle.wait_class.specs.declared.stages.Turn.TheVariants as turn
use Rattle.wait_class.proofs.AwakeSteps.{only_awake, sleeps_not_on, sleeps_not_same}
use Rattle.wait_class.proofs.Histories.{or_right, sleeps_more}
use Rattle.wait_leave.specs.ExitLaws.{AreLawfulExits, AwakeOn, is_awake, is_sleeping}
use Rattle.wait_leave.specs.Leaves.{Exits, StaysUp}

scans_awake : (h : ℕ) (xs : List Item) → AreScansOf h xs → has_sleep (steps_of xs) ≡ false
scans_awake h [] l = refl
scans_awake h (item.Made (step.Scan g i w) ∷ xs) l = scans_awake h xs l.1
scans_awake h (item.Made e ∷ xs) l = absurd l.0
scans_awake h (x ∷ xs) l = absurd l.0

-- a sleep is made for the event of one
slept_for : (k : Known) (own : Option ℕ) (g : Given) (v : Event) (e : Step) → IsStepFor k own g v e
    → is_sleep e ≡ true → is_sleeping v ≡ true
slept_for k own g (event.Sleep a) e made is = refl
slept_for k own g v (step.Sleep w) made is = absurd made
slept_for k own g v e made is = absurd (cc)

awake_for : (k : Known) (own : Option ℕ) (g : Given) (v : Event) (e : Step) → IsStepFor k own g v e
    → is_sleeping v ≡ false → is_sleep e ≡ false
awake_for k own g v e made none = by (is_sleep e) refl
  where
    by : (b : Bool) → is_sleep e ≡ b → is_sleep e ≡ false
    by true is = absurd (let no : true ≡ false = sym (slept_for k own g v e made is) ∙ none in cc)
    by false is = is

placed_history : (e : Step) (k : Known) → history_of (with_lock e k) ≡ history_of k
placed_history (step.Lock h aim w) k = refl
placed_history e k = refl

made_awake : (k : Known) (own : Option ℕ) (g : Given) (v : Event) (did : StepOrLook) → IsMadeFor k own g v did
    → is_sleeping v ≡ false → SleepsNot k (after_step_or_look did k)
made_awake k own g v (by_step e) made none = record {
  steps = e ∷ [];
  history = placed_history e (added k (item.Made e)) ∙ history_after k (added k (item.Made e)) e refl;
  awake = ap (λ (b : Bool). b || false) (awake_for k own g v e made none);
}
made_awake k own g (event.Active h hit) (by_look xs) made none = record {
  steps = steps_of xs;
  history = steps_append k.view.items xs;
  awake = scans_awake h xs made.0;
}
made_awake k own g v (by_look xs) made none = absurd made

module _ (f : Program) (awake : Point → Bool)
    (on : (p : Point) (seen : Seen) → awake p ≡ true → AwakeOn awake (f.plan p seen)) where
  pub goes_awake : (old : Known) (n : Next) (ts : List Transition) (new : Known) (m : Next) → is_awake awake n ≡ true
      → Goes f old n ts new m → SleepsNot old new
  goes_awake old n [] new m here g = only_awake old new g.0
  goes_awake old (next.Ends a) (t ∷ ts) new m here g = absurd g
  goes_awake old (next.Go p) (t ∷ ts) new m here g =
      let law = on p t.seen here in
      sleeps_not_on old t.knew new (only_awake old t.knew g.0.looks)
      (sleeps_not_on t.knew (after_transition t) new
      (made_awake t.knew f.own (f.given p) (f.plan p t.seen).event t.did g.0.is law.0)
      (goes_awake (after_transition t) (f.plan p t.seen).next ts new m law.1 g.1))

pub rest_awake : (old new : Known) (b : Bool) → HasRested old new b → SleepsNot old new
rest_awake old new false is = sleeps_not_same old new is
rest_awake old new true is = record {
  steps = step.State 0 ∷ [];
  history = history_after old new (step.State 0) is;
  awake = refl;
}

-- a turn at a stage that has no exit
pub awake_turn : {C S O : Type 0} (t : CallTable C S O) (x : Exits C S O) → AreLawfulExits t x → (old new : Known) (r : C)
    (s : S) → x.exit r s ≡ None → (t.doing s ≡ doing.Sleep) ⊎ SleepsNot old new → SleepsNot old new
awake_turn t x law old new r s none (inl here) = absurd (law.sleeps r s here none)
awake_turn t x law old new r s none (inr awake) = awake

not_slept : (old new : Known) → SleepsNot old new → SleptLast old new → ⊥
not_slept old new a l =
    let slept = step.Sleep l.found ∷ [] in
    let same : a.steps ≡ l.before ++ slept = append_cancel_left (history_of old) a.steps (l.before ++ slept)
    (sym a.history ∙ (l.is ∙ append_assoc (history_of old) l.before slept)) in
    let no : true ≡ false = or_right (has_sleep l.before) (has_sleep slept)
    (sym (sleeps_more l.before slept) ∙ (sym (ap has_sleep same) ∙ a.awake)) in
    cc

pub up_turn : {C S O : Type 0} (t : CallTable C S O) (old new : Known) (r q : Run C) (u : Turn S O) → ShowsTurn t old new r q u
    → SleepsNot old new → StaysUp u
up_turn t old new r q (turn.Asleep s) shows a = not_slept old new a shows
up_turn t old new r q _ shows a = tt

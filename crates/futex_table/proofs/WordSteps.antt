-- Waits on futexes and walks take and give back no mutex: none of their steps is a take or a store of a word.
use Rattle.std.proofs.Common.{◌∙◌, ap, refl}
use Rattle.std.specs.Prelude.{ℕ, ◌≡◌, Bool, true, false, if◌then◌else◌, is_some, Option, Some, None, List, [], ◌∷◌, ◌++◌}
use Rattle.wait_model.specs.{declared.calls.Event.Event, declared.points.Given.Given, declared.points.Next.Next}
use Rattle.wait_model.specs.{declared.points.PageStage.PageStage, declared.points.Planned.Planned}
use Rattle.wait_model.specs.{declared.points.Point.Point, declared.points.Seen.Seen}
use Rattle.wait_model.specs.{declared.points.WalkPoint.WalkPoint, declared.queues.CalledEntry.CalledEntry}
use Rattle.wait_model.specs.{declared.queues.Walking.Walking, declared.steps.Step.Step}
use Rattle.wait_model.specs.{declared.tasks.SleepState.SleepState, declared.watches.Aim.Aim, declared.watches.Kind.Kind}
use Rattle.wait_model.specs.Programs.{call_entry, call_next, hands_event, walk_event}
use Rattle.wait_model.specs.declared.calls.Event.TheVariants as event
use Rattle.wait_model.specs.declared.points.AddPoint.TheVariants as adding
use Rattle.wait_model.specs.declared.points.AwaitPoint.TheVariants as awaiting
use Rattle.wait_model.specs.declared.points.FinishPoint.TheVariants as finishing
use Rattle.wait_model.specs.declared.points.LeavePoint.TheVariants as leaving
use Rattle.wait_model.specs.declared.points.Next.TheVariants as next
use Rattle.wait_model.specs.declared.points.PageStage.TheVariants as staging
use Rattle.wait_model.specs.declared.points.Point.TheVariants as at
use Rattle.wait_model.specs.declared.points.PreparePoint.TheVariants as preparing
use Rattle.wait_model.specs.declared.points.WalkPoint.TheVariants as walking
use Rattle.wait_model.specs.declared.steps.Step.TheVariants as step
use Rattle.wait_model.specs.declared.watches.Kind.TheVariants as kind
use Rattle.wait_rule.specs.{declared.journal.Item.Item, Items.steps_of, Known.Known, Says.added, Says.history_of}
use Rattle.wait_rule.specs.Transitions.{AreLooks, Goes, IsMadeFor, IsStepFor, OnlyLooks, Program, StepOrLook}
use Rattle.wait_rule.specs.Transitions.{Transition, after_step_or_look, after_transition, by_look, by_step, walk_point}
use Rattle.wait_rule.specs.Transitions.{walk_program, with_lock}
use Rattle.wait_rule.specs.declared.journal.Item.TheVariants as item
use Rattle.wait_rule.proofs.TableSteps.ItemLists.{steps_append}
use Rattle.wait_class.specs.{Posts.Runs, Tables.plan_program}
use Rattle.wait_event.proofs.LookedSteps.{looks_all}
use Rattle.wait_class.proofs.Turns.{looks_history}
use Rattle.futex_table.specs.FutexTables.{futex_makes, futex_plan}
use Rattle.futex_table.specs.Holding.{StayHeld, holds_after, holds_from, holds_in}

-- the event is no take and no store of a word, and no look for members
abbrev pub IsWordless : Event → Type 0
IsWordless (event.Set c v) = ⊥
IsWordless (event.Take c v) = ⊥
IsWordless (event.Tas i b v) = ⊥
IsWordless (event.Clear i b) = ⊥
IsWordless (event.Active h hit) = ⊥
IsWordless _ = Unit {0}

either : (b : Bool) (x y : Planned) → IsWordless x.event → IsWordless y.event → IsWordless (if b then x else y).event
either true x y one two = one
either false x y one two = two

-- one step
step_holds : (m : ℕ) (k : Known) (own : Option ℕ) (g : Given) (v : Event) (e : Step) → IsWordless v
    → IsStepFor k own g v e → (b : Bool) → holds_after m e b ≡ b
step_holds m k own g (event.Set c v) e w made b = absurd w
step_holds m k own g (event.Take c v) e w made b = absurd w
step_holds m k own g (event.Tas i t v) e w made b = absurd w
step_holds m k own g (event.Clear i t) e w made b = absurd w
step_holds m k own g v (step.Publish l n r) w made b = absurd made
step_holds m k own g v (step.Consume l n r) w made b = absurd made
step_holds m k own g v e w made b = refl

pub no_look : {A : Type 0} (k : Known) (own : Option ℕ) (g : Given) (v : Event) (xs : List Item) → IsWordless v
    → IsMadeFor k own g v (by_look xs) → A
no_look k own g (event.Active h hit) xs w made = absurd w
no_look k own g v xs w made = absurd made

-- steps one after another
pub holds_on : (m : ℕ) (es fs : List Step) (b : Bool) → holds_from m (es ++ fs) b ≡ holds_from m fs (holds_from m es b)
holds_on m [] fs b = refl
holds_on m (e ∷ es) fs b = holds_on m es fs (holds_after m e b)

looks_hold : (m : ℕ) (xs : List Item) → AreLooks xs → (b : Bool) → holds_from m (steps_of xs) b ≡ b
looks_hold m = looks_all (λ es. (b : Bool) → holds_from m es b ≡ b) (λ b. refl) (λ x w es stays. stays)

only_hold : (old new : Known) → OnlyLooks old new → StayHeld old new
only_hold old new l m = ap (holds_in m) (looks_history old new l)
    ∙ (holds_on m (history_of old) (steps_of l.items) false
    ∙ looks_hold m l.items l.looks (holds_in m (history_of old)))

locked_history : (e : Step) (k : Known) → history_of (with_lock e k) ≡ history_of k
locked_history (step.Lock h aim w) k = refl
locked_history e k = refl

pub step_history : (k : Known) (e : Step) → history_of (with_lock e (added k (item.Made e))) ≡ history_of k ++ e ∷ []
step_history k e = locked_history e (added k (item.Made e)) ∙ steps_append k.view.items (item.Made e ∷ [])

-- a program that makes no such event takes and gives back no mutex
module _ (f : Program) (wordless : (p : Point) (seen : Seen) → IsWordless (f.plan p seen).event) where
  made_hold : (p : Point) (seen : Seen) (k : Known) (s : StepOrLook)
      → IsMadeFor k f.own (f.given p) (f.plan p seen).event s → StayHeld k (after_step_or_look s k)
  made_hold p seen k (by_step e) made m = ap (holds_in m) (step_history k e)
      ∙ (holds_on m (history_of k) (e ∷ []) false
      ∙ step_holds m k f.own (f.given p) (f.plan p seen).event e (wordless p seen) made (holds_in m (history_of k)))
  made_hold p seen k (by_look xs) made m = no_look k f.own (f.given p) (f.plan p seen).event xs (wordless p seen) made

  pub goes_hold : (ts : List Transition) (n q : Next) (old new : Known) → Goes f old n ts new q → StayHeld old new
  goes_hold [] n q old new g m = only_hold old new g.0 m
  goes_hold (t ∷ ts) (next.Go p) q old new g m = goes_hold ts (f.plan p t.seen).next q (after_transition t) new g.1 m
      ∙ (made_hold p t.seen t.knew t.did g.0.is m ∙ only_hold old t.knew g.0.looks m)
  goes_hold (t ∷ ts) (next.Ends a) q old new g m = absurd g

-- a wait on a futex
pub futex_wordless : (f v : ℕ) (st : SleepState) (me : ℕ) (p : Point) (seen : Seen)
    → IsWordless (futex_makes f v st me p seen).event
futex_wordless f v st me (at.Prepare preparing.Queue) seen = either (is_some seen.entry) _ _ tt
    (either seen.worn _ _ tt tt)
futex_wordless f v st me (at.Finish finishing.Look false) seen = either (is_some seen.entry) _ _ tt tt
futex_wordless f v st me (at.Leave leaving.Queue) seen = either (is_some seen.entry) _ _ tt tt
futex_wordless f v st me (at.Finish finishing.Queue hit) seen = either (is_some seen.entry) _ _ tt tt
futex_wordless f v st me (at.Finish finishing.Unlock hit) seen = tt
futex_wordless f v st me (at.Finish finishing.Lock false) seen = tt
futex_wordless f v st me (at.Finish p hit) seen = tt
futex_wordless f v st me (at.Add adding.Lock) seen = tt
futex_wordless f v st me (at.Add p) seen = tt
futex_wordless f v st me (at.Await (awaiting.Load false)) seen = tt
futex_wordless f v st me (at.Await p) seen = tt
futex_wordless f v st me (at.Leave leaving.Unlock) seen = tt
futex_wordless f v st me (at.Leave p) seen = tt
futex_wordless f v st me (at.Prepare preparing.State) seen = tt
futex_wordless f v st me (at.Prepare preparing.Unlock) seen = tt
futex_wordless f v st me (at.Prepare p) seen = tt
futex_wordless f v st me at.Sleep seen = tt
futex_wordless f v st me p seen = tt

pub futex_holds : (f v : ℕ) (st : SleepState) (me : ℕ) (old new : Known) (n q : Next)
    → Runs (plan_program me 0 (futex_plan f v st)) old new n q → StayHeld old new
futex_holds f v st me old new n q runs = goes_hold (plan_program me 0 (futex_plan f v st))
    (λ p seen. futex_wordless f v st me p seen) runs.transitions n q old new runs.goes

-- a walk
module _ (aim : Aim) (seen : Seen) where
  entry_wordless : (w : Walking) (c : CalledEntry) (d : Kind) (hit : Bool)
      → IsWordless (call_entry aim w c d seen hit).event
  entry_wordless w c kind.Default hit = tt
  entry_wordless w c kind.Autoremove hit = tt
  entry_wordless w c kind.Woken hit = tt
  entry_wordless w c kind.Bit hit = tt
  entry_wordless w c kind.Var hit = tt
  entry_wordless w c kind.Simple hit = tt
  entry_wordless w c kind.Page hit = tt

  next_wordless : (w : Walking) (o : Option CalledEntry) (hit : Bool) → IsWordless (call_next aim w o seen hit).event
  next_wordless w None hit = tt
  next_wordless w (Some c) hit = entry_wordless w c c.kind hit

  hands_wordless : (st : PageStage) (w : Walking) (c : CalledEntry) → IsWordless (hands_event aim st w c seen).event
  hands_wordless staging.Try w c = tt
  hands_wordless staging.Hand w c = tt
  hands_wordless staging.Wake w c = tt
  hands_wordless staging.Off w c = tt

  pub walk_wordless : (p : WalkPoint) → IsWordless (walk_event aim p seen).event
  walk_wordless walking.Lock = tt
  walk_wordless (walking.Call w) = either seen.breaks _ _ tt (next_wordless _ seen.called _)
  walk_wordless (walking.Bit w c) = tt
  walk_wordless (walking.Page st w c) = hands_wordless st w c
  walk_wordless (walking.Stopped w) = tt
  walk_wordless (walking.Wake w c) = tt
  walk_wordless (walking.Unqueue w who) = tt
  walk_wordless (walking.Spent w) = tt
  walk_wordless (walking.BreakUnlock w) = tt
  walk_wordless (walking.BreakLock w) = tt
  walk_wordless (walking.Unmark w) = tt

pub walk_holds : (aim : Aim) (ts : List Transition) (n q : Next) (old new : Known)
    → Goes (walk_program aim) old n ts new q → StayHeld old new
walk_holds aim ts n q old new g = goes_hold (walk_program aim) (λ p seen. walk_wordless aim seen (walk_point p)) ts n q
    old new g

-- Calls about no completion leave no own entry at any.
use Rattle.std.proofs.lemmas.Option.{none-some}
use Rattle.std.proofs.Common.{refl, sym, ◌∙◌, ap, subst, append_assoc, inl, inr}
use Rattle.std.specs.Prelude.{ℕ, ◌≡◌, ◌<◌, Option, Some, None, List, [], ◌∷◌, ◌++◌}
use Rattle.wait_model.specs.{declared.calls.Event.Event, declared.layout.TheConstants.FIRST_DONE_HEAD}
use Rattle.wait_model.specs.{declared.points.Next.Next, declared.points.Point.Point, declared.steps.Step.Step}
use Rattle.wait_model.specs.{declared.watches.Entry.Entry, declared.watches.Watch.Watch, Watches.bare, Watches.head_of}
use Rattle.wait_model.specs.declared.calls.Event.TheVariants as event
use Rattle.wait_model.specs.declared.points.Next.TheVariants as next
use Rattle.wait_model.specs.declared.steps.Step.TheVariants as step
use Rattle.wait_model.specs.declared.watches.Watch.TheVariants as watch
use Rattle.wait_rule.specs.{declared.journal.Item.Item, HandedPermits.OthersStayOff, Items.steps_of, Known.Known}
use Rattle.wait_rule.specs.{Says.added, Says.history_of}
use Rattle.wait_rule.specs.Transitions.{AreLooks, AreScansOf, Goes, IsMadeFor, IsStepFor, OnlyLooks, Program}
use Rattle.wait_rule.specs.Transitions.{StepOrLook, Transition, after_step_or_look, after_transition, by_look, by_step}
use Rattle.wait_rule.specs.declared.journal.Item.TheVariants as item
use Rattle.wait_rule.proofs.{KnownLaws.CalledPermits.left_on, KnownLaws.HandedSteps.AddsLow}
use Rattle.wait_rule.proofs.{KnownLaws.HandedSteps.AllAddLow, KnownLaws.TaskHistories.history_after}
use Rattle.wait_rule.proofs.TableSteps.ItemLists.{steps_append}

-- A step queues no entry but such a one, and so do steps.
abbrev pub AddsBy : (Entry → Type 0) → Step → Type 0
AddsBy P (step.Queue x e) = P e
AddsBy P e = Unit {0}

abbrev pub AllAddBy : (Entry → Type 0) → List Step → Type 0
AllAddBy P [] = Unit {0}
AllAddBy P (e ∷ es) = AddsBy P e × AllAddBy P es

-- More steps of a task, which queue such entries alone.
pub record Adding (P : Entry → Type 0) (old new : Known) : Type 0 where
  pub made : List Step
  pub is : history_of new ≡ history_of old ++ made
  pub adds : AllAddBy P made
  pub number : new.view.number ≡ old.view.number

module _ (P : Entry → Type 0) where
  all_join : (es fs : List Step) → AllAddBy P es → AllAddBy P fs → AllAddBy P (es ++ fs)
  all_join [] fs one two = two
  all_join (e ∷ es) fs one two = (one.0, all_join es fs one.1 two)

  adding_join : (old mid new : Known) → Adding P old mid → Adding P mid new → Adding P old new
  adding_join old mid new one two = record {
    made = one.made ++ two.made;
    is = two.is ∙ (ap (λ (l : List Step). l ++ two.made) one.is ∙ append_assoc (history_of old) one.made two.made);
    adds = all_join one.made two.made one.adds two.adds;
    number = two.number ∙ one.number;
  }

  looks_add : (xs : List Item) → AreLooks xs → AllAddBy P (steps_of xs)
  looks_add [] l = tt
  looks_add (item.Made (step.Saw x w) ∷ xs) l = (tt, looks_add xs l.1)
  looks_add (item.Made e ∷ xs) l = absurd l.0
  looks_add (item.Tally p n w ∷ xs) l = absurd l.0
  looks_add (item.Piped j a w ∷ xs) l = absurd l.0
  looks_add (x ∷ xs) l = looks_add xs l.1

  scans_add : (h : ℕ) (xs : List Item) → AreScansOf h xs → AllAddBy P (steps_of xs)
  scans_add h [] l = tt
  scans_add h (item.Made (step.Scan g i w) ∷ xs) l = (tt, scans_add h xs l.1)
  scans_add h (x ∷ xs) l = absurd l.0

  only_add : (old new : Known) → OnlyLooks old new → Adding P old new
  only_add old new l = record {
    made = steps_of l.items;
    is = ap history_of l.is ∙ steps_append old.view.items l.items;
    adds = looks_add l.items l.looks;
    number = ap (λ (k : Known). k.view.number) l.is;
  }

  -- a program that queues such entries alone
  module _ (f : Program) (asks : (p : Point) (k : Known) (e : Event) (s : Step) → IsStepFor k f.own (f.given p) e s
      → AddsBy P s) where
    made_add : (p : Point) (k : Known) (e : Event) (d : StepOrLook) → IsMadeFor k f.own (f.given p) e d
        → Adding P k (after_step_or_look d k)
    made_add p k e (by_step (step.Lock h aim w)) q = record {
      made = step.Lock h aim w ∷ [];
      is = history_after k (added k (item.Made (step.Lock h aim w))) (step.Lock h aim w) refl;
      adds = (tt, tt);
      number = refl;
    }
    made_add p k e (by_step s) q = record {
      made = s ∷ [];
      is = history_after k (added k (item.Made s)) s refl;
      adds = (asks p k e s q, tt);
      number = refl;
    }
    made_add p k (event.Active h hit) (by_look xs) q = record {
      made = steps_of xs;
      is = steps_append k.view.items xs;
      adds = scans_add h xs q.0;
      number = refl;
    }
    made_add p k e (by_look xs) q = absurd q

    pub goes_adding : (old new : Known) (from to : Next) (made : List Transition) → Goes f old from made new to
        → Adding P old new
    goes_adding old new from to [] g = only_add old new g.0
    goes_adding old new (next.Ends a) to (t ∷ ts) g = absurd g
    goes_adding old new (next.Go p) to (t ∷ ts) g =
        let one = g.0 in
        adding_join old t.knew new (only_add old t.knew one.looks)
        (adding_join t.knew (after_transition t) new
        (made_add p t.knew (f.plan p t.seen).event t.did one.is)
        (goes_adding (after_transition t) new (f.plan p t.seen).next to ts g.1))

-- no entry at a completion
abbrev IsLow : Entry → Type 0
IsLow e = head_of e.watch < FIRST_DONE_HEAD

all_low : (es : List Step) → AllAddBy IsLow es → AllAddLow es
all_low [] k = tt
all_low (e ∷ es) k = (one e k.0, all_low es k.1)
  where
    one : (e : Step) → AddsBy IsLow e → AddsLow e
    one (step.Queue x e) k = k
    one e k = tt

-- an entry is queued for the watch of the program's event
bare_low : (w : Watch) → head_of w < FIRST_DONE_HEAD → head_of (bare w) < FIRST_DONE_HEAD
unfolding head_of
bare_low (watch.Plain c) low = low
bare_low _ low = low

never_own : {A : Type 0} (o : Option ℕ) (x : ℕ) → o ≡ None → o ≡ Some x → A
never_own o x none is = absurd (none-some x (sym none ∙ is))

pub others_stay_off : OthersStayOff
others_stay_off f old new from to made elsewhere free g =
    let l = goes_adding IsLow f (λ p k e s q. low p k e s q) old new from to made g in
    left_on old new l.made l.number l.is (all_low l.made l.adds) free
  where
    low_by : (p : Point) (k : Known) (s : Step) (e : Event) → IsStepFor k f.own (f.given p) e s → AddsBy IsLow s
    low_by p k (step.Queue x e) (event.Queue h form) q = elim elsewhere [
      | inl none ↦ never_own f.own x none q.0
      | inr under ↦ subst (λ (d : Entry). head_of d.watch < FIRST_DONE_HEAD) (sym q.3)
          (bare_low (f.given p).watch (under p))
    ]
    low_by p k (step.Queue x d) e q = absurd q
    low_by p k s e q = tt

    low : (p : Point) (k : Known) (e : Event) (s : Step) → IsStepFor k f.own (f.given p) e s → AddsBy IsLow s
    low p k e s q = low_by p k s e q

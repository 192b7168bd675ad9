-- What stays of a task over calls that are about other things.
use Rattle.std.proofs.Common.{refl, sym, ◌∙◌, ap, subst, arith, append_assoc, append-nil}
use Rattle.std.specs.Prelude.{ℕ, ◌≡◌, ◌==◌, ◌&&◌, not, if◌then◌else◌, Bool, true, false, Option, List, [], ◌∷◌, ◌++◌}
use Rattle.wait_model.specs.{declared.calls.Event.Event, declared.points.Given.Given, declared.points.Next.Next}
use Rattle.wait_model.specs.{declared.points.Point.Point, declared.points.Seen.Seen, declared.steps.Step.Step}
use Rattle.wait_model.specs.{Fold.view_of, Runs.own, Views.blank}
use Rattle.wait_model.specs.Permits.{Dealt, dealt, deals, none_dealt}
use Rattle.wait_model.specs.declared.calls.Event.TheVariants as event
use Rattle.wait_model.specs.declared.points.Next.TheVariants as next
use Rattle.wait_model.specs.declared.steps.Step.TheVariants as step
use Rattle.wait_model.specs.declared.watches.Watch.TheVariants as watch
use Rattle.wait_model.proofs.PermitLaws.OwnTurns.{deals_snoc}
use Rattle.wait_rule.specs.{declared.journal.Item.Item, declared.journal.Journal.Journal, LeftEntries.LeftOff}
use Rattle.wait_rule.specs.{Items.AddsNone, Items.steps_of, Journals.pushed, Known.Known, Says.added, Says.history_of}
use Rattle.wait_rule.specs.Tallies.{amounts_of}
use Rattle.wait_rule.specs.Aside.{CallsGrowAside, GrowsAside, IsAsideStep, ItemsStayOff, WalksGrowAside, raised_by}
use Rattle.wait_rule.specs.Aside.{signals_of}
use Rattle.wait_rule.specs.Pipes.{End, after_end_look, after_end_publish, end_from, end_of, end_step, if_mine}
use Rattle.wait_rule.specs.Pipes.{if_unclosed, no_end, other_end}
use Rattle.wait_rule.specs.Transitions.{AreLooks, AreScansOf, Goes, IsMadeFor, IsStepFor, OnlyLooks, Program}
use Rattle.wait_rule.specs.Transitions.{StepOrLook, Transition, after_step_or_look, after_transition, by_look, by_step}
use Rattle.wait_rule.specs.Transitions.{call_program, walk_point, walk_program, with_lock}
use Rattle.wait_rule.specs.declared.journal.Item.TheVariants as item
use Rattle.wait_rule.proofs.{KnownLaws.CalledPermits.order_as, KnownLaws.CarriedEnds.looks_ends}
use Rattle.wait_rule.proofs.{KnownLaws.CarriedEnds.scans_ends, KnownLaws.HandedSteps.order_front}
use Rattle.wait_rule.proofs.{KnownLaws.PipeItems.end_append, KnownLaws.TallySteps.amounts_append}
use Rattle.wait_rule.proofs.TableSteps.ItemLists.{steps_append}
use Rattle.wait_rule.proofs.KnownLaws.CountedTallies.{amounts_none, looks_add, scans_add}
use Rattle.wait_rule.proofs.KnownLaws.SilentCalls.{GoesElsewhere, RaisesNone, goes_elsewhere, program_quiet, walk_quiet}

signals_append : (xs ys : List Item) → signals_of (xs ++ ys) ≡ signals_of xs ++ signals_of ys
signals_append [] ys = refl
signals_append (x ∷ xs) ys = ap (λ l. raised_by x ++ l) (signals_append xs ys)
    ∙ sym (append_assoc (raised_by x) (signals_of xs) (signals_of ys))

pushed_append : (v : Journal) (xs ys : List Item) → pushed (pushed v xs) ys ≡ pushed v (xs ++ ys)
pushed_append v xs ys = ap (λ (l : List Item). record v { items = l }) (append_assoc v.items xs ys)

-- no step claims an end
pub step_mine : (k : ℕ) (s : Step) (e : End) → (end_step k s e).mine ≡ e.mine
step_mine k (step.Load (watch.Var v o) r) e = by (v == other_end k)
  where
    sees : (b : Bool) → (if b then after_end_look r e else e).mine ≡ e.mine
    sees true = refl
    sees false = refl

    by : (b : Bool) → (if b then if_unclosed (after_end_look r) e else e).mine ≡ e.mine
    by true = sees (e.mine && not e.shut)
    by false = refl
step_mine k (step.Publish (watch.Var v o) n r) e = by (v == k)
  where
    passes : (b : Bool) → (if b then after_end_publish n e else e).mine ≡ e.mine
    passes true = refl
    passes false = refl

    by : (b : Bool) → (if b then if_mine (after_end_publish n) e else e).mine ≡ e.mine
    by true = passes e.mine
    by false = refl
step_mine k s e = refl

-- more items that add to no tally, raise no signal and claim no end
pub more_aside : (old new : Known) (xs : List Item) → new.view ≡ pushed old.view xs → AddsNone xs → signals_of xs ≡ []
    → ((k : ℕ) (e : End) → (end_from k e xs).mine ≡ e.mine) → GrowsAside old new
more_aside old new xs is adds none mine = record {
  claims = λ k. ap (λ (v : Journal). (end_of k v.items).mine) is
      ∙ (ap (λ (e : End). e.mine) (end_append k no_end old.view.items xs) ∙ mine k (end_of k old.view.items));
  grows = record { items = xs; view = is };
  sums = λ p. ap (λ (v : Journal). amounts_of p v.items) is ∙ (amounts_append p old.view.items xs
      ∙ (let n = amounts_none p xs adds in omega arith));
  signals = ap (λ (v : Journal). signals_of v.items) is ∙ (signals_append old.view.items xs
      ∙ (ap (λ l. signals_of old.view.items ++ l) none ∙ append-nil (signals_of old.view.items)));
}

pub aside_join : (old mid new : Known) → GrowsAside old mid → GrowsAside mid new → GrowsAside old new
aside_join old mid new one two = record {
  grows = record {
    items = one.grows.items ++ two.grows.items;
    view = two.grows.view ∙ (ap (λ (v : Journal). pushed v two.grows.items) one.grows.view
        ∙ pushed_append old.view one.grows.items two.grows.items);
  };
  sums = λ p. two.sums p ∙ one.sums p;
  signals = two.signals ∙ one.signals;
  claims = λ k. two.claims k ∙ one.claims k;
}

looks_none : (xs : List Item) → AreLooks xs → signals_of xs ≡ []
looks_none [] l = refl
looks_none (item.Made (step.Saw x w) ∷ xs) l = looks_none xs l.1
looks_none (item.Made e ∷ xs) l = absurd l.0
looks_none (item.Tally p n w ∷ xs) l = absurd l.0
looks_none (item.Piped k a w ∷ xs) l = absurd l.0
looks_none (x ∷ xs) l = looks_none xs l.1

pub scans_none : (h : ℕ) (xs : List Item) → AreScansOf h xs → signals_of xs ≡ []
scans_none h [] l = refl
scans_none h (item.Made (step.Scan g i w) ∷ xs) l = scans_none h xs l.1
scans_none h (x ∷ xs) l = absurd l.0

looks_aside : (old new : Known) → OnlyLooks old new → GrowsAside old new
looks_aside old new l = more_aside old new l.items (ap (λ (k : Known). k.view) l.is) (looks_add l.items l.looks)
    (looks_none l.items l.looks) (λ k e. ap (λ (x : End). x.mine) (looks_ends k e l.items l.looks))

lock_view : (e : Step) (k : Known) → (with_lock e k).view ≡ k.view
lock_view (step.Lock h aim w) k = refl
lock_view e k = refl

none_by : (k : Known) (o : Option ℕ) (g : Given) (s : Step) (v : Event) → RaisesNone v → IsStepFor k o g v s
    → raised_by (item.Made s) ≡ []
none_by k o g (step.Signal t deadly w) (event.Signal who fatal) silent is = absurd silent
none_by k o g (step.Signal t deadly w) v silent is = absurd is
none_by k o g s v silent is = refl

step_none : (k : Known) (o : Option ℕ) (g : Given) (v : Event) (s : Step) → RaisesNone v → IsStepFor k o g v s
    → raised_by (item.Made s) ≡ []
step_none k o g v s silent is = none_by k o g s v silent is

made_aside : (k : Known) (o : Option ℕ) (g : Given) (v : Event) (did : StepOrLook) → RaisesNone v
    → IsMadeFor k o g v did → GrowsAside k (after_step_or_look did k)
made_aside k o g v (by_step s) silent is = more_aside k (with_lock s (added k (item.Made s))) (item.Made s ∷ [])
    (lock_view s (added k (item.Made s))) (tt, tt)
    (ap (λ l. l ++ []) (step_none k o g v s silent is)) (λ i e. step_mine i s e)
made_aside k o g (event.Active h hit) (by_look xs) silent is =
    more_aside k (after_step_or_look (by_look xs) k) xs refl (scans_add h xs is.0) (scans_none h xs is.0)
    (λ i e. ap (λ (x : End). x.mine) (scans_ends i e h xs is.0))
made_aside k o g v (by_look xs) silent is = absurd is

-- a program whose events raise none, from the places that it comes to
module _ (f : Program) (On : Next → Type 0)
    (quiet : (p : Point) → On (next.Go p) → (seen : Seen) → RaisesNone (f.plan p seen).event × On (f.plan p seen).next)
  where
    goes_aside : (old : Known) (n : Next) (ts : List Transition) (new : Known) (m : Next) → On n
        → Goes f old n ts new m → GrowsAside old new
    goes_aside old n [] new m on goes = looks_aside old new goes.0
    goes_aside old (next.Ends a) (t ∷ ts) new m on goes = absurd goes
    goes_aside old (next.Go p) (t ∷ ts) new m on goes =
        let q = quiet p on t.seen in
        aside_join old (after_transition t) new
        (aside_join old t.knew (after_transition t) (looks_aside old t.knew goes.0.looks)
        (made_aside t.knew f.own (f.given p) (f.plan p t.seen).event t.did q.0 goes.0.is))
        (goes_aside (after_transition t) (f.plan p t.seen).next ts new m q.1 goes.1)

pub calls_grow_aside : CallsGrowAside
calls_grow_aside me slot call old new from to made none away goes = goes_aside (call_program me slot call)
    (GoesElsewhere ⊥ (Unit {0}) (Unit {0}))
    (λ p on seen. program_quiet ⊥ (Unit {0}) (Unit {0}) tt me call seen p on) old from made new to
    (goes_elsewhere ⊥ (Unit {0}) (Unit {0}) from away (λ e. tt)) goes

pub walks_grow_aside : WalksGrowAside
walks_grow_aside aim old new from to made goes = goes_aside (walk_program aim) (λ _. Unit {0})
    (λ p on seen. ((walk_quiet ⊥ (Unit {0}) (Unit {0}) aim seen (walk_point p)).0, tt)) old from made new to tt goes

-- An item that is about no head leaves the own entry as it was at each completion: one that is no step, or a step that
-- gives back no lock.
module _ (k : Known) (d : ℕ) where
  same_history : (x : Item) → steps_of (x ∷ []) ≡ [] → LeftOff d k → LeftOff d (added k x)
  same_history x none left o =
      let same : history_of (added k x) ≡ history_of k = steps_append k.view.items (x ∷ [])
      ∙ (ap (λ (es : List Step). history_of k ++ es) none ∙ append-nil (history_of k)) in
      subst (λ (es : List Step). (dealt d k.view.number es).left ≡ false) (sym same)
      (left (order_as k.view.number (added k x) (history_of k) refl same o))

  step_off : (e : Step) → IsAsideStep e → LeftOff d k → LeftOff d (added k (item.Made e))
  step_off e aside left o =
      let more : history_of (added k (item.Made e)) ≡ history_of k ++ e ∷ [] =
      steps_append k.view.items (item.Made e ∷ []) in
      let was = left (order_front k.view.number (history_of k) (e ∷ [])
      (order_as k.view.number (added k (item.Made e)) (history_of k ++ e ∷ []) refl more o)) in
      ap (λ (es : List Step). (dealt d k.view.number es).left) more
      ∙ (ap (λ (w : Dealt). w.left) (deals_snoc d (own k.view.number) blank none_dealt (history_of k) e)
      ∙ by e aside was)
    where
      by : (e : Step) → IsAsideStep e → (dealt d k.view.number (history_of k)).left ≡ false
          → (deals d (own k.view.number) (view_of (history_of k)) (dealt d k.view.number (history_of k)) e).left ≡ false
      by (step.Accept w) aside was = was
      by (step.Signal who fatal w) aside was = was
      by (step.Wake who mask w) aside was = was
      by (step.Scan h i w) aside was = was
      by (step.Load (watch.Var v o) r) aside was = was
      by (step.Publish (watch.Var v o) n r) aside was = was
      by e aside was = absurd aside

pub items_stay_off : ItemsStayOff
items_stay_off k (item.Made e) aside d = step_off k d e aside
items_stay_off k (item.Tally p n w) aside d = same_history k d (item.Tally p n w) refl
items_stay_off k (item.Piped j a w) aside d = same_history k d (item.Piped j a w) refl
items_stay_off k x aside d = absurd aside

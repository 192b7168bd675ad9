-- Programs that lock, look at own entries, queue one, take it off and store states, and nothing more.
use Rattle.std.proofs.Common.{refl, sym, ◌∙◌, ap, subst, append-nil, append_assoc}
use Rattle.std.specs.Prelude.{ℕ, ◌≡◌, ◌≢◌, ◌<◌, if◌then◌else◌, Bool, true, false, Option, Some, None}
use Rattle.std.specs.Prelude.{List, [], ◌∷◌, ◌++◌}
use Rattle.wait_model.specs.{declared.layout.TheConstants.FIRST_DONE_HEAD, declared.calls.Event.Event}
use Rattle.wait_model.specs.{declared.points.Given.Given, declared.points.Next.Next, declared.points.Point.Point}
use Rattle.wait_model.specs.{declared.points.Seen.Seen, declared.steps.Step.Step, declared.watches.Entry.Entry}
use Rattle.wait_model.specs.{declared.watches.Watch.Watch, Functions.put, Views.View, Views.Bits, Watches.bare}
use Rattle.wait_model.specs.{Watches.head_of, Words.entry_of}
use Rattle.wait_model.specs.Fold.{after, forgotten, is_off, view_of}
use Rattle.wait_model.specs.declared.calls.Event.TheVariants as event
use Rattle.wait_model.specs.declared.points.Next.TheVariants as next
use Rattle.wait_model.specs.declared.steps.Step.TheVariants as step
use Rattle.wait_model.specs.declared.watches.Watch.TheVariants as watch
use Rattle.wait_model.proofs.{Functions.put_at, StepLaws.UnlockSteps.unlock_bits}
use Rattle.wait_rule.specs.{declared.journal.Item.Item, Items.steps_of, Known.Known, Notes.tell, Says.added}
use Rattle.wait_rule.specs.Says.{told_of}
use Rattle.wait_rule.specs.Transitions.{AreLooks, Goes, IsLook, IsMadeFor, IsStepFor, OnlyLooks, Program, StepOrLook}
use Rattle.wait_rule.specs.Transitions.{Transition, after_step_or_look, after_transition, by_look, by_step, with_lock}
use Rattle.wait_rule.specs.declared.journal.Item.TheVariants as item
use Rattle.wait_rule.proofs.KnownLaws.AfterSteps.{told_after}

-- the events of such a program, where each is given this; it queues at no completion
abbrev pub IsNear : Given → Event → Type 0
IsNear g (event.State s) = Unit {0}
IsNear g (event.Lock h) = Unit {0}
IsNear g (event.Unlock h used) = Unit {0}
IsNear g (event.Queue h form) = head_of g.watch < FIRST_DONE_HEAD
IsNear g (event.Queued hit) = Unit {0}
IsNear g (event.Unqueue who) = Unit {0}
IsNear g _ = ⊥

-- their steps; an entry that is queued is the own one, at no completion
abbrev pub IsNearStep : Option ℕ → Step → Type 0
IsNearStep own (step.State s) = Unit {0}
IsNearStep own (step.Lock h aim w) = Unit {0}
IsNearStep own (step.Unlock h used) = Unit {0}
IsNearStep own (step.Queue x e) = (own ≡ Some x) × (head_of e.watch < FIRST_DONE_HEAD)
IsNearStep own (step.Peek x w) = Unit {0}
IsNearStep own (step.Unqueue x) = Unit {0}
IsNearStep own _ = ⊥

bare_at : (w : Watch) → head_of (bare w) ≡ head_of w
unfolding head_of
bare_at (watch.Plain c) = refl
bare_at (watch.Done d) = refl
bare_at (watch.Bit i b) = refl
bare_at (watch.Var v o) = refl

near_step : (k : Known) (own : Option ℕ) (g : Given) (v : Event) (e : Step) → IsNear g v → IsStepFor k own g v e
    → IsNearStep own e
near_step k own g (event.State s) (step.State x) near is = tt
near_step k own g (event.Lock h) (step.Lock i aim w) near is = tt
near_step k own g (event.Unlock h used) (step.Unlock i sp) near is = tt
near_step k own g (event.Queue h form) (step.Queue x e) near is = (
  is.0,
  subst (λ (i : ℕ). i < FIRST_DONE_HEAD) (sym (ap (λ (n : Entry). head_of n.watch) is.3 ∙ bare_at g.watch)) near,
)
near_step k own g (event.Queued hit) (step.Peek x w) near is = tt
near_step k own g (event.Unqueue who) (step.Unqueue x) near is = tt
near_step k own g (event.State s) e near is = absurd is
near_step k own g (event.Lock h) e near is = absurd is
near_step k own g (event.Unlock h used) e near is = absurd is
near_step k own g (event.Queue h form) e near is = absurd is
near_step k own g (event.Queued hit) e near is = absurd is
near_step k own g (event.Unqueue who) e near is = absurd is
near_step k own g v e near is = absurd near

-- A relation that looks and such steps have, and that goes on, has each run of such a program from the places that it
-- comes to.
module _ (f : Program) (On : Next → Type 0)
    (near : (p : Point) → On (next.Go p) → (seen : Seen) → IsNear (f.given p) (f.plan p seen).event
    × On (f.plan p seen).next) (R : Known → Known → Type 0)
    (join : (a b c : Known) → R a b → R b c → R a c) (looks : (a b : Known) → OnlyLooks a b → R a b)
    (steps : (k : Known) (e : Step) → IsNearStep f.own e → R k (after_step_or_look (by_step e) k)) where
  made_near : (k : Known) (g : Given) (v : Event) (did : StepOrLook) → IsNear g v
      → IsMadeFor k f.own g v did → R k (after_step_or_look did k)
  made_near k g v (by_step e) is made = steps k e (near_step k f.own g v e is made)
  made_near k g (event.Active h hit) (by_look xs) is made = absurd is
  made_near k g v (by_look xs) is made = absurd made

  pub goes_near : (ts : List Transition) (old : Known) (n : Next) (new : Known) (m : Next) → On n
      → Goes f old n ts new m → R old new
  goes_near [] old n new m on goes = looks old new goes.0
  goes_near (t ∷ ts) old (next.Ends a) new m on goes = absurd goes
  goes_near (t ∷ ts) old (next.Go p) new m on goes =
      let q = near p on t.seen in
      join old (after_transition t) new
      (join old t.knew (after_transition t) (looks old t.knew goes.0.looks)
      (made_near t.knew (f.given p) (f.plan p t.seen).event t.did q.0 goes.0.is))
      (goes_near ts (after_transition t) (f.plan p t.seen).next new m q.1 goes.1)

-- An entry that the program does not queue is as the history had it, or was found or taken off.
module _ (y : ℕ) where
  abbrev pub Was : View → View → Type 0
  Was u v = (e : Entry) → v.bits.stored y ≡ Some e → u.bits.stored y ≡ Some e

  abbrev pub Keeps : Known → Known → Type 0
  Keeps a b = Was (told_of a) (told_of b)

  forgets : (v : View) (z : ℕ) (f : Option Entry) (e : Entry) → forgotten v z f y ≡ Some e → v.bits.stored y ≡ Some e
  forgets v z f e = by (is_off f)
    where
      by : (b : Bool) → (if b then put v.bits.stored z None else v.bits.stored) y ≡ Some e → v.bits.stored y ≡ Some e
      by true = put_at (λ (o : Option Entry). o ≡ Some e → v.bits.stored y ≡ Some e) v.bits.stored z None y
          (λ _ is. absurd (cc)) (λ _ is. is)
      by false = λ is. is

  after_was : (e : Step) (v : View) → ((z : ℕ) (f : Entry) → e ≡ step.Queue z f → y ≢ z) → Was v (after e v)
  after_was (step.Unlock h sp) v q = λ f is. sym (ap (λ (b : Bits). b.stored y) (unlock_bits v v.walk sp)) ∙ is
  after_was (step.Saw x w) v q = λ f. forgets v x (entry_of w) f
  after_was (step.Peek x w) v q = λ f. forgets v x (entry_of w) f
  after_was (step.Queue x f) v q = λ g. put_at (λ (o : Option Entry). o ≡ Some g → v.bits.stored y ≡ Some g)
      v.bits.stored x (Some f) y (λ same _. absurd (q x f refl same)) (λ _ is. is)
  after_was (step.Unqueue x) v q = λ g. put_at (λ (o : Option Entry). o ≡ Some g → v.bits.stored y ≡ Some g)
      v.bits.stored x None y (λ _ is. absurd (cc)) (λ _ is. is)
  after_was e v q = λ f is. is

  look_was : (x : Item) (v : View) → IsLook x → Was v (tell x v)
  look_was (item.Made (step.Saw z w)) v l = λ f. forgets v z (entry_of w) f
  look_was (item.Made e) v l = absurd l
  look_was (item.Tally p n w) v l = absurd l
  look_was (item.Piped k a w) v l = absurd l
  look_was x v l = λ f is. is

  looks_was : (xs ys : List Item) → AreLooks xs → Was (view_of (steps_of ys)) (view_of (steps_of (ys ++ xs)))
  looks_was [] ys l = subst (λ (zs : List Item). Was (view_of (steps_of ys)) (view_of (steps_of zs)))
      (sym (append-nil ys)) (λ e is. is)
  looks_was (x ∷ xs) ys l = subst (λ (zs : List Item). Was (view_of (steps_of ys)) (view_of (steps_of zs)))
      (append_assoc ys (x ∷ []) xs)
      (λ e is. look_was x (view_of (steps_of ys)) l.0 e (ap (λ (v : View). v.bits.stored y) (sym (told_after ys x))
      ∙ looks_was xs (ys ++ x ∷ []) l.1 e is))

  pub looks_keep : (a b : Known) → OnlyLooks a b → Keeps a b
  looks_keep a b l = λ e is. looks_was l.items a.view.items l.looks e
      (ap (λ (k : Known). (told_of k).bits.stored y) (sym l.is) ∙ is)

  locked_told : (e : Step) (k : Known) → told_of (with_lock e k) ≡ told_of k
  locked_told (step.Lock h aim w) k = refl
  locked_told e k = refl

  steps_keep : (own : Option ℕ) → (own ≡ Some y → ⊥) → (k : Known) (e : Step) → IsNearStep own e
      → Keeps k (after_step_or_look (by_step e) k)
  steps_keep own other k e near = λ g is. after_was e (told_of k) (λ z f same. by e z f same near) g
      (sym (ap (λ (v : View). v.bits.stored y) (locked_told e (added k (item.Made e))
      ∙ told_after k.view.items (item.Made e))) ∙ is)
    where
      by : (e : Step) (z : ℕ) (f : Entry) → e ≡ step.Queue z f → IsNearStep own e → y ≢ z
      by e z f is near at = other ((subst (IsNearStep own) is near).0 ∙ ap Some (sym at))

  -- a step that queues no such entry
  pub added_keep : (k : Known) (e : Step) → ((z : ℕ) (f : Entry) → e ≡ step.Queue z f → y ≢ z)
      → Keeps k (added k (item.Made e))
  added_keep k e other = λ g is. after_was e (told_of k) other g
      (sym (ap (λ (v : View). v.bits.stored y) (told_after k.view.items (item.Made e))) ∙ is)

  keeps_join : (a b c : Known) → Keeps a b → Keeps b c → Keeps a c
  keeps_join a b c one two = λ e is. one e (two e is)

  module _ (f : Program) (On : Next → Type 0)
      (near : (p : Point) → On (next.Go p) → (seen : Seen) → IsNear (f.given p) (f.plan p seen).event
      × On (f.plan p seen).next) (other : f.own ≡ Some y → ⊥) where
    pub entry_kept : (ts : List Transition) (old : Known) (n : Next) (new : Known) (m : Next) → On n
        → Goes f old n ts new m → Keeps old new
    entry_kept = goes_near f On near Keeps keeps_join looks_keep (steps_keep f.own other)

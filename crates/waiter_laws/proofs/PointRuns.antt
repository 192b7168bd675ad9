-- What the points of a call say of its task's view, kept over transitions and looks; and that the own entry, where the
-- history has stored it, is one of the call.
use Rattle.std.proofs.Common.{refl, sym, ◌∙◌, ap, subst, append-nil, append_assoc}
use Rattle.std.specs.Prelude.{ℕ, ◌≡◌, Bool, true, false, if◌then◌else◌, Option, Some, None, List, [], ◌∷◌, ◌++◌}
use Rattle.wait_model.specs.{declared.calls.Event.Event, declared.points.Given.Given, declared.points.Next.Next}
use Rattle.wait_model.specs.{declared.points.Planned.Planned, declared.points.Point.Point, declared.points.Seen.Seen}
use Rattle.wait_model.specs.{declared.steps.Step.Step, declared.watches.Entry.Entry, declared.watches.Kind.Kind}
use Rattle.wait_model.specs.{declared.watches.Watch.Watch, Functions.put, Tasks.task_of, Views.View, Views.Bits}
use Rattle.wait_model.specs.{Watches.bare, Words.entry_of}
use Rattle.wait_model.specs.Fold.{after, forgotten, is_off, view_of}
use Rattle.wait_model.specs.declared.calls.Event.TheVariants as event
use Rattle.wait_model.specs.declared.points.Next.TheVariants as next
use Rattle.wait_model.specs.declared.steps.Step.TheVariants as step
use Rattle.wait_model.proofs.{Functions.put_at, StepLaws.UnlockSteps.unlock_bits}
use Rattle.wait_rule.specs.{declared.journal.Item.Item, Known.Known, Notes.tell, Says.added, Says.told_of}
use Rattle.wait_rule.specs.Items.{Book, after_awake, book_from, learn, learn_step, steps_of}
use Rattle.wait_rule.specs.Transitions.{AreLooks, Finds, FindsStep, Goes, IsLook, IsMadeFor, IsStepFor, IsTransition}
use Rattle.wait_rule.specs.Transitions.{OnlyLooks, Program, StepOrLook, Transition, after_step_or_look}
use Rattle.wait_rule.specs.Transitions.{after_transition, by_look, by_step, with_lock}
use Rattle.wait_rule.specs.declared.journal.Item.TheVariants as item
use Rattle.wait_rule.proofs.KnownLaws.AfterSteps.{told_after}

-- what looks leave
module _ (P : View → Type 0) (saw : (y w : ℕ) (v : View) → P v → P (after (step.Saw y w) v)) where
  look_keeps : (x : Item) (v : View) → IsLook x → P v → P (tell x v)
  look_keeps (item.Made (step.Saw y w)) v l h = saw y w v h
  look_keeps (item.Made e) v l h = absurd l
  look_keeps (item.Tally p n w) v l h = absurd l
  look_keeps (item.Piped k a w) v l h = absurd l
  look_keeps x v l h = h

  looks_keep : (xs ys : List Item) → AreLooks xs → P (view_of (steps_of ys)) → P (view_of (steps_of (ys ++ xs)))
  looks_keep [] ys l h = subst (λ (zs : List Item). P (view_of (steps_of zs))) (sym (append-nil ys)) h
  looks_keep (x ∷ xs) ys l h = subst (λ (zs : List Item). P (view_of (steps_of zs))) (append_assoc ys (x ∷ []) xs)
      (looks_keep xs (ys ++ x ∷ []) l.1
      (subst P (sym (told_after ys x)) (look_keeps x (view_of (steps_of ys)) l.0 h)))

  pub only_keep : (old new : Known) → OnlyLooks old new → P (told_of old) → P (told_of new)
  only_keep old new l h = subst P (sym (ap told_of l.is)) (looks_keep l.items old.view.items l.looks h)

-- what a step tells
locked_told : (e : Step) (k : Known) → told_of (with_lock e k) ≡ told_of k
locked_told (step.Lock h aim w) k = refl
locked_told e k = refl

pub step_told : (k : Known) (e : Step) → told_of (after_step_or_look (by_step e) k) ≡ after e (told_of k)
step_told k e = locked_told e (added k (item.Made e)) ∙ told_after k.view.items (item.Made e)

-- the own entry x, where the history has stored it, is one of this watch and kind
pub record IsOwnEntry (c : Watch) (d : Kind) (e : Entry) : Type 0 where
  pub watch : e.watch ≡ bare c
  pub kind : e.kind ≡ d

abbrev pub HasOwn : Watch → Kind → ℕ → View → Type 0
HasOwn c d x v = (e : Entry) → v.bits.stored x ≡ Some e → IsOwnEntry c d e

abbrev pub is_queue_event : Event → Bool
is_queue_event (event.Queue h form) = true
is_queue_event _ = false

module _ (c : Watch) (d : Kind) (x : ℕ) where
  none_own : {A : Type 0} (e : Entry) → None ≡ Some e → A
  none_own e is = absurd (cc)

  forgets : (v : View) (y : ℕ) (f : Option Entry) → HasOwn c d x v → (e : Entry) → forgotten v y f x ≡ Some e
      → IsOwnEntry c d e
  forgets v y f h e = by (is_off f)
    where
      by : (b : Bool) → (if b then put v.bits.stored y None else v.bits.stored) x ≡ Some e → IsOwnEntry c d e
      by true = put_at (λ (o : Option Entry). o ≡ Some e → IsOwnEntry c d e) v.bits.stored y None x
          (λ _ is. none_own e is) (λ _ is. h e is)
      by false = h e

  some_own : (f e : Entry) → IsOwnEntry c d f → Some f ≡ Some e → IsOwnEntry c d e
  some_own f e own is = subst (IsOwnEntry c d) (let z : f ≡ e = cc in z) own

  saw_own : (y w : ℕ) (v : View) → HasOwn c d x v → HasOwn c d x (after (step.Saw y w) v)
  saw_own y w v h = forgets v y (entry_of w) h

  own_after : (e : Step) (v : View) → ((y : ℕ) (f : Entry) → e ≡ step.Queue y f → IsOwnEntry c d f) → HasOwn c d x v
      → HasOwn c d x (after e v)
  own_after (step.Unlock h sp) v q was = λ f is. was f
      (sym (ap (λ (b : Bits). b.stored x) (unlock_bits v v.walk sp)) ∙ is)
  own_after (step.Saw y w) v q was = forgets v y (entry_of w) was
  own_after (step.Peek y w) v q was = forgets v y (entry_of w) was
  own_after (step.Queue y f) v q was = λ g. put_at (λ (o : Option Entry). o ≡ Some g → IsOwnEntry c d g)
      v.bits.stored y (Some f) x (λ _ is. some_own f g (q y f refl) is) (λ _ is. was g is)
  own_after (step.Unqueue y) v q was = λ g. put_at (λ (o : Option Entry). o ≡ Some g → IsOwnEntry c d g)
      v.bits.stored y None x (λ _ is. none_own g is) (λ _ is. was g is)
  own_after e v q was = was

  -- an entry that a program queues is one of what it is given
  queued_own : (k : Known) (own : Option ℕ) (g : Given) → g.watch ≡ c → (v : Event)
      → (is_queue_event v ≡ true → g.kind ≡ d) → (e : Step) → IsStepFor k own g v e → (y : ℕ) (f : Entry)
      → e ≡ step.Queue y f → IsOwnEntry c d f
  queued_own k own g watch (event.Queue h form) kind (step.Queue i e) is y f same = subst (IsOwnEntry c d)
      (let z : e ≡ f = cc in z) (record {
        watch = ap (λ (n : Entry). n.watch) is.3 ∙ ap bare watch;
        kind = ap (λ (n : Entry). n.kind) is.3 ∙ kind refl;
      })
  queued_own k own g watch v kind (step.Queue i e) is y f same = absurd is
  queued_own k own g watch v kind e is y f same = absurd (cc)

-- an event that is no look for members
abbrev pub is_active : Event → Bool
is_active (event.Active h hit) = true
is_active _ = false

pub no_look : {A : Type 0} (k : Known) (own : Option ℕ) (g : Given) (v : Event) (xs : List Item) → is_active v ≡ false
    → IsMadeFor k own g v (by_look xs) → A
no_look k own g (event.Active h hit) xs a m = absurd (cc)
no_look k own g v xs a m = absurd m

-- the task stays awake over looks, and over each event but a sleep
after_up : (a r : Bool) (b : Book) → a ≡ true → b.awake ≡ true → (after_awake a r b).awake ≡ true
after_up true r b is up = up
after_up false r b is up = absurd (cc)

looks_up : (xs : List Item) (b : Book) → AreLooks xs → b.awake ≡ true → (book_from b xs).awake ≡ true
looks_up [] b l up = up
looks_up (item.Made (step.Saw y w) ∷ xs) b l up = looks_up xs b l.1 up
looks_up (item.Made e ∷ xs) b l up = absurd l.0
looks_up (item.Awake w ∷ xs) b l up = looks_up xs (after_awake b.awake (task_of w).runnable b) l.1
    (after_up b.awake (task_of w).runnable b up up)
looks_up (item.Tally p n w ∷ xs) b l up = absurd l.0
looks_up (item.Piped k a w ∷ xs) b l up = absurd l.0
looks_up (x ∷ xs) b l up = looks_up xs (learn x b) l.1 up

only_up : (old new : Known) → OnlyLooks old new → old.book.awake ≡ true → new.book.awake ≡ true
only_up old new l up = subst (λ (k : Known). k.book.awake ≡ true) (sym l.is) (looks_up l.items old.book l.looks up)

abbrev pub is_sleep_event : Event → Bool
is_sleep_event (event.Sleep a) = true
is_sleep_event _ = false

pub awake_kept : (k : Known) (own : Option ℕ) (g : Given) (v : Event) (e : Step) (b : Book)
    → is_sleep_event v ≡ false → IsStepFor k own g v e → (learn_step e b).awake ≡ b.awake
awake_kept k own g (event.Sleep a) (step.Sleep w) b quiet made = absurd (cc)
awake_kept k own g v (step.Sleep w) b quiet made = absurd made
awake_kept k own g v e b quiet made = refl

locked_awake : (e : Step) (k : Known) → (with_lock e k).book ≡ k.book
locked_awake (step.Lock h aim w) k = refl
locked_awake e k = refl

-- What a program's points say of whether the task is awake, and of the view: kept by looks, and led on by each
-- event. At none it looks for members without the lock, and all that it queues is of this watch and kind.
module _ (f : Program) (At : Point → Bool → View → Type 0) (c : Watch) (d : Kind) (x : ℕ) where
  abbrev pub AtNext : Next → Bool → View → Type 0
  AtNext (next.Go p) b v = At p b v
  AtNext (next.Ends a) b v = Unit {0}

  abbrev pub Leads : Known → Given → Seen → Planned → Type 0
  Leads k g seen u = ((e : Step) → IsStepFor k f.own g u.event e → FindsStep e seen
      → AtNext u.next (learn_step e k.book).awake (after e (told_of k))) × (is_active u.event ≡ false)

  pub record IsLed : Type 0 where
    pub still : (p : Point) (y w : ℕ) (b : Bool) (v : View) → At p b v → At p b (after (step.Saw y w) v)
    pub rises : (p : Point) (b u : Bool) (v : View) → (b ≡ true → u ≡ true) → At p b v → At p u v
    pub leads : (k : Known) (p : Point) (seen : Seen) → At p k.book.awake (told_of k)
        → Leads k (f.given p) seen (f.plan p seen)
    pub watch : (p : Point) (b : Bool) (v : View) → At p b v → (f.given p).watch ≡ c
    pub kind : (p : Point) (b : Bool) (v : View) → At p b v → (seen : Seen)
        → is_queue_event (f.plan p seen).event ≡ true → (f.given p).kind ≡ d

  module _ (led : IsLed) where
    abbrev pub Here : Next → Known → Type 0
    Here n k = AtNext n k.book.awake (told_of k) × HasOwn c d x (told_of k)

    still_next : (n : Next) (b : Bool) (y w : ℕ) (v : View) → AtNext n b v → AtNext n b (after (step.Saw y w) v)
    still_next (next.Go p) b y w v h = led.still p y w b v h
    still_next (next.Ends a) b y w v h = tt

    rises_next : (n : Next) (b u : Bool) (v : View) → (b ≡ true → u ≡ true) → AtNext n b v → AtNext n u v
    rises_next (next.Go p) b u v up h = led.rises p b u v up h
    rises_next (next.Ends a) b u v up h = tt

    pub looked : (n : Next) (old new : Known) → OnlyLooks old new → Here n old → Here n new
    looked n old new l h = (
      only_keep (AtNext n new.book.awake) (still_next n new.book.awake) old new l
          (rises_next n old.book.awake new.book.awake (told_of old) (only_up old new l) h.0),
      only_keep (HasOwn c d x) (saw_own c d x) old new l h.1,
    )

    pub one : (p : Point) (old : Known) (t : Transition) → IsTransition f p old t → Here (next.Go p) old
        → Here (f.plan p t.seen).next (after_transition t)
    one p old t is h = by t.did is.is is.finds (looked (next.Go p) old t.knew is.looks h)
      where
        goes : (e : Step) → IsStepFor t.knew f.own (f.given p) (f.plan p t.seen).event e → FindsStep e t.seen
            → Here (next.Go p) t.knew → Here (f.plan p t.seen).next (after_step_or_look (by_step e) t.knew)
        goes e made found g = (
          subst (λ (b : Bool). AtNext (f.plan p t.seen).next b (told_of (after_step_or_look (by_step e) t.knew)))
              (sym (ap (λ (b : Book). b.awake) (locked_awake e (added t.knew (item.Made e)))))
              (subst (AtNext (f.plan p t.seen).next (learn_step e t.knew.book).awake) (sym (step_told t.knew e))
              ((led.leads t.knew p t.seen g.0).0 e made found)),
          subst (HasOwn c d x) (sym (step_told t.knew e)) (own_after c d x e (told_of t.knew)
              (queued_own c d x t.knew f.own (f.given p) (led.watch p t.knew.book.awake (told_of t.knew) g.0)
              (f.plan p t.seen).event (led.kind p t.knew.book.awake (told_of t.knew) g.0 t.seen) e made) g.1),
        )

        by : (s : StepOrLook) → IsMadeFor t.knew f.own (f.given p) (f.plan p t.seen).event s
            → Finds t.knew f p s t.seen → Here (next.Go p) t.knew
            → Here (f.plan p t.seen).next (after_step_or_look s t.knew)
        by (by_step e) made found g = goes e made found.0 g
        by (by_look xs) made found g = no_look t.knew f.own (f.given p) (f.plan p t.seen).event xs
            (led.leads t.knew p t.seen g.0).1 made

    pub all : (ts : List Transition) (n m : Next) (old new : Known) → Goes f old n ts new m → Here n old → Here m new
    all [] n m old new g h = subst (λ (q : Next). Here q new) (sym g.1) (looked n old new g.0 h)
    all (t ∷ ts) (next.Go p) m old new g h = all ts (f.plan p t.seen).next m (after_transition t) new g.1
        (one p old t g.0 h)
    all (t ∷ ts) (next.Ends a) m old new g h = absurd g

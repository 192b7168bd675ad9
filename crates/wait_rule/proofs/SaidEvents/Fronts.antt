-- What looks and steps add to a task's history, and that an own entry stays off which the task does not queue.
use Rattle.std.proofs.lemmas.Bool.{both_ways}
use Rattle.std.proofs.Common.{refl, sym, ◌∙◌, ap, subst, append_assoc}
use Rattle.std.specs.Prelude.{ℕ, ◌≡◌, Bool, true, false, Option, None, if◌then◌else◌, List, [], ◌∷◌, ◌++◌}
use Rattle.wait_model.specs.{declared.calls.Event.Event, declared.points.Given.Given, declared.points.Next.Next}
use Rattle.wait_model.specs.{declared.steps.Step.Step, declared.watches.Entry.Entry, Functions.put, Words.entry_of}
use Rattle.wait_model.specs.{Findings.Noted, Findings.notes}
use Rattle.wait_model.specs.Views.{View as Told, Bits, Walk, blank}
use Rattle.wait_model.specs.Fold.{after, after_all, after_unlock, is_off, view_of}
use Rattle.wait_model.specs.declared.calls.Event.TheVariants as event
use Rattle.wait_model.specs.declared.points.Next.TheVariants as next
use Rattle.wait_model.specs.declared.steps.Step.TheVariants as step
use Rattle.wait_model.proofs.{Functions.put_at, StepLaws.UnlockSteps.unlock_bits, HistoryLaws.Stretches.after_append}
use Rattle.wait_rule.specs.{declared.journal.Item.Item, Items.steps_of, declared.journal.Journal.Journal, Known.Known}
use Rattle.wait_rule.specs.Says.{told_of, history_of, added}
use Rattle.wait_rule.specs.Transitions.{AreLooks, AreScansOf, Goes, IsMadeFor, IsStepFor, OnlyLooks, Program}
use Rattle.wait_rule.specs.Transitions.{StepOrLook, Transition, after_step_or_look, after_transition, by_look, by_step}
use Rattle.wait_rule.specs.Transitions.{with_lock}
use Rattle.wait_rule.specs.declared.journal.Item.TheVariants as item
use Rattle.wait_rule.proofs.TableSteps.ItemLists.{steps_append}

-- the steps that a transition makes
abbrev pub steps_made : StepOrLook → List Step
steps_made (by_step e) = e ∷ []
steps_made (by_look xs) = steps_of xs

lock_history : (e : Step) (k : Known) → (with_lock e k).view ≡ k.view
lock_history (step.Lock h aim w) k = refl
lock_history e k = refl

pub looks_history : (old new : Known) (l : OnlyLooks old new) → history_of new ≡ history_of old ++ steps_of l.items
looks_history old new l = ap history_of l.is ∙ steps_append old.view.items l.items

pub step_history : (did : StepOrLook) (k : Known)
    → history_of (after_step_or_look did k) ≡ history_of k ++ steps_made did
step_history (by_step e) k = ap (λ (v : Journal). steps_of v.items) (lock_history e (added k (item.Made e)))
    ∙ steps_append k.view.items (item.Made e ∷ [])
step_history (by_look xs) k = steps_append k.view.items xs

step_number : (did : StepOrLook) (k : Known) → (after_step_or_look did k).view.number ≡ k.view.number
step_number (by_step e) k = ap (λ (v : Journal). v.number) (lock_history e (added k (item.Made e)))
step_number (by_look xs) k = refl

-- the number stays, and the history grows
pub number_stays : (f : Program) (old new : Known) (n m : Next) (ts : List Transition) → Goes f old n ts new m
    → new.view.number ≡ old.view.number
number_stays f old new n m [] g = ap (λ (k : Known). k.view.number) g.0.is
number_stays f old new (next.Ends a) m (t ∷ ts) g = absurd g
number_stays f old new (next.Go p) m (t ∷ ts) g =
    number_stays f (after_transition t) new (f.plan p t.seen).next m ts g.1
    ∙ (step_number t.did t.knew ∙ ap (λ (k : Known). k.view.number) g.0.looks.is)

pub history_grows : (f : Program) (old new : Known) (n m : Next) (ts : List Transition) → Goes f old n ts new m
    → (rest : List Step) × (history_of new ≡ history_of old ++ rest)
history_grows f old new n m [] g = (steps_of g.0.items, looks_history old new g.0)
history_grows f old new (next.Ends a) m (t ∷ ts) g = absurd g
history_grows f old new (next.Go p) m (t ∷ ts) g =
    let r = history_grows f (after_transition t) new (f.plan p t.seen).next m ts g.1 in (
      steps_of g.0.looks.items ++ (steps_made t.did ++ r.0),
      r.1 ∙ (ap (λ (es : List Step). es ++ r.0) (step_history t.did t.knew)
          ∙ (append_assoc (history_of t.knew) (steps_made t.did) r.0
          ∙ (ap (λ (es : List Step). es ++ (steps_made t.did ++ r.0)) (looks_history old t.knew g.0.looks)
          ∙ append_assoc (history_of old) (steps_of g.0.looks.items) (steps_made t.did ++ r.0)))),
    )

-- a transition's step, and what comes after it
pub step_follows : (f : Program) (new : Known) (n m : Next) (t : Transition) (ts : List Transition)
    → Goes f (after_transition t) n ts new m
    → (rest : List Step) × (history_of new ≡ history_of t.knew ++ (steps_made t.did ++ rest))
step_follows f new n m t ts g =
    let r = history_grows f (after_transition t) new n m ts g in (
      r.0,
      r.1 ∙ (ap (λ (es : List Step). es ++ r.0) (step_history t.did t.knew)
          ∙ append_assoc (history_of t.knew) (steps_made t.did) r.0),
    )

-- the own entry is off, by the history
abbrev pub IsOff : Known → ℕ → Type 0
IsOff k x = (told_of k).bits.stored x ≡ None

abbrev pub is_queue : Step → Bool
is_queue (step.Queue x e) = true
is_queue _ = false

unlock_off : (v : Told) (o : Option Walk) (spent : Bool) (x : ℕ) → v.bits.stored x ≡ None
    → (after_unlock v o spent).bits.stored x ≡ None
unlock_off v o spent x out = ap (λ (b : Bits). b.stored x) (unlock_bits v o spent) ∙ out

look_off : (v : Told) (y : ℕ) (x : ℕ) → v.bits.stored x ≡ None → (b : Bool)
    → (if b then put v.bits.stored y None else v.bits.stored) x ≡ None
look_off v y x out true = put_at (λ (o : Option Entry). o ≡ None) v.bits.stored y None x (λ _. refl) (λ _. out)
look_off v y x out false = out

off_after : (e : Step) (v : Told) (x : ℕ) → is_queue e ≡ false → v.bits.stored x ≡ None
    → (after e v).bits.stored x ≡ None
off_after (step.Saw y w) v x is_false out = look_off v y x out (is_off (entry_of w))
off_after (step.Peek y w) v x is_false out = look_off v y x out (is_off (entry_of w))
off_after (step.Unlock h sp) v x is_false out = unlock_off v v.walk sp x out
off_after (step.Unqueue y) v x is_false out = put_at (λ (o : Option Entry). o ≡ None) v.bits.stored y None x (λ _. refl)
    (λ _. out)
off_after (step.Queue y e) v x is_false out = absurd (cc)
off_after e v x is_false out = out

looks_off : (xs : List Item) → AreLooks xs → (v : Told) (x : ℕ) → v.bits.stored x ≡ None
    → (after_all v (steps_of xs)).bits.stored x ≡ None
looks_off [] l v x out = out
looks_off (item.Made (step.Saw y w) ∷ xs) l v x out = looks_off xs l.1 (after (step.Saw y w) v) x
    (off_after (step.Saw y w) v x refl out)
looks_off (item.Made e ∷ xs) l v x out = absurd l.0
looks_off (item.Tally p n w ∷ xs) l v x out = absurd l.0
looks_off (item.Piped k a w ∷ xs) l v x out = absurd l.0
looks_off (i ∷ xs) l v x out = looks_off xs l.1 v x out

scans_off : (h : ℕ) (xs : List Item) → AreScansOf h xs → (v : Told) (x : ℕ) → v.bits.stored x ≡ None
    → (after_all v (steps_of xs)).bits.stored x ≡ None
scans_off h [] l v x out = out
scans_off h (item.Made (step.Scan g i w) ∷ xs) l v x out = scans_off h xs l.1 (after (step.Scan g i w) v) x out
scans_off h (y ∷ xs) l v x out = absurd l.0

-- after looks
pub off_on : (old new : Known) (x : ℕ) → OnlyLooks old new → IsOff old x → IsOff new x
off_on old new x l out = subst (λ (es : List Step). (view_of es).bits.stored x ≡ None) (sym (looks_history old new l))
    (subst (λ (v : Told). v.bits.stored x ≡ None) (sym (after_append blank (history_of old) (steps_of l.items)))
    (looks_off l.items l.looks (told_of old) x out))

-- a step that queues is that of an event that does
queue_said : (k : Known) (own : Option ℕ) (g : Given) (ev : Event) (y : ℕ) (d : Entry) (m : Noted)
    → IsStepFor k own g ev (step.Queue y d) → (notes m ev).queued ≡ true
queue_said k own g (event.Queue h form) y d m made = refl
queue_said k own g ev y d m made = absurd made

not_queue : (k : Known) (own : Option ℕ) (g : Given) (ev : Event) (e : Step) (m : Noted) → IsStepFor k own g ev e
    → (notes m ev).queued ≡ false → is_queue e ≡ false
not_queue k own g ev (step.Queue y d) m made is_false =
    absurd (both_ways true (sym (queue_said k own g ev y d m made) ∙ is_false) refl)
not_queue k own g ev e m made is_false = refl

pub queued_before : (m : Noted) (ev : Event) → (notes m ev).queued ≡ false → m.queued ≡ false
queued_before m (event.Queue h form) is_false = absurd (cc)
queued_before m ev is_false = is_false

-- after an event that does not queue
pub off_still : (k : Known) (own : Option ℕ) (g : Given) (ev : Event) (did : StepOrLook) (m : Noted) (x : ℕ)
    → IsMadeFor k own g ev did → (notes m ev).queued ≡ false → IsOff k x → IsOff (after_step_or_look did k) x
off_still k own g ev (by_step e) m x made is_false out =
    subst (λ (es : List Step). (view_of es).bits.stored x ≡ None) (sym (step_history (by_step e) k))
    (subst (λ (v : Told). v.bits.stored x ≡ None) (sym (after_append blank (history_of k) (e ∷ [])))
    (off_after e (told_of k) x (not_queue k own g ev e m made is_false) out))
off_still k own g (event.Active h hit) (by_look xs) m x made is_false out =
    subst (λ (es : List Step). (view_of es).bits.stored x ≡ None) (sym (step_history (by_look xs) k))
    (subst (λ (v : Told). v.bits.stored x ≡ None) (sym (after_append blank (history_of k) (steps_of xs)))
    (scans_off h xs made.0 (told_of k) x out))
off_still k own g ev (by_look xs) m x made is_false out = absurd made

-- Who owed nothing, but for what it is excused of, owes nothing but that after a step on a task word or on the word
-- of a head.
use Rattle.std.proofs.Common.{refl, sym, ◌∙◌, ap, subst}
use Rattle.std.specs.Prelude.{ℕ, ◌≡◌, Bool, true, false, not, ◌&&◌, ◌||◌, if◌then◌else◌, Option, Some, None, List, []}
use Rattle.std.specs.Prelude.{◌∷◌, ◌++◌}
use Rattle.wait_model.specs.{declared.steps.Step.Step, declared.watches.Entry.Entry, declared.watches.Watch.Watch}
use Rattle.wait_model.specs.Views.{View, Bits, Walk, all_passed, is_trying_for}
use Rattle.wait_model.specs.Fold.{after, after_unlock, view_of}
use Rattle.wait_model.specs.declared.steps.Step.TheVariants as step
use Rattle.wait_model.proofs.StepLaws.UnlockSteps.{unlock_bits}
use Rattle.wait_rule.specs.{declared.journal.Item.Item, Known.Known, Stays.StaysOwing}
use Rattle.wait_rule.specs.Items.{AddsNone, Book, learn, steps_of}
use Rattle.wait_rule.specs.Says.{Debts, Excuse, IsOutBut, StaysSettled, added, grown, no_excuse, told_of}
use Rattle.wait_rule.specs.declared.journal.Item.TheVariants as item
use Rattle.wait_rule.proofs.{KnownLaws.AfterSteps.told_added, TableSteps.ItemLists.steps_append}
use Rattle.wait_rule.proofs.KnownLaws.Debts.{begins_none, looks_debts, step_debts}

-- the step is one on a task word, or on the word of a head
abbrev pub stays_settled : Step → Bool
stays_settled (step.State σ) = true
stays_settled (step.Sleep w) = true
stays_settled (step.Wake who mask w) = true
stays_settled (step.Signal who fatal w) = true
stays_settled (step.Accept w) = true
stays_settled (step.Look w) = true
stays_settled (step.Lock h aim w) = true
stays_settled (step.Unlock h spent) = true
stays_settled _ = false

-- these tell nothing of bookmarks, and of bits no more than which was found clear
record TellsNone (v u : View) : Type 0 where
  pub mark : u.mark ≡ v.mark
  pub stored : (i : ℕ) → u.bits.stored i ≡ v.bits.stored i
  pub keeps : (c : Watch) → u.bits.keeps c ≡ v.bits.keeps c
  pub pending : (c : Watch) → u.bits.pending c ≡ v.bits.pending c

tells_none : (v u : View) → u.mark ≡ v.mark → u.bits ≡ v.bits → TellsNone v u
tells_none v u mark bits = record {
  mark = mark;
  stored = λ i. ap (λ (b : Bits). b.stored i) bits;
  keeps = λ c. ap (λ (b : Bits). b.keeps c) bits;
  pending = λ c. ap (λ (b : Bits). b.pending c) bits;
}

pub unlock_mark : (v : View) (o : Option Walk) (spent : Bool) → (after_unlock v o spent).mark ≡ v.mark
unlock_mark v None spent = refl
unlock_mark v (Some w) spent = either (spent || all_passed v w (λ _. false)) _ _ refl refl
  where
    either : (b : Bool) (x y : View) → x.mark ≡ v.mark → y.mark ≡ v.mark → (if b then x else y).mark ≡ v.mark
    either true x y one two = one
    either false x y one two = two

step_tells : (e : Step) (v : View) → stays_settled e ≡ true → TellsNone v (after e v)
step_tells (step.State σ) v is = record { mark = refl; stored = λ i. refl; keeps = λ c. refl; pending = λ c. refl }
step_tells (step.Sleep w) v is = tells_none v v refl refl
step_tells (step.Wake who mask w) v is = tells_none v (after (step.Wake who mask w) v) refl refl
step_tells (step.Signal who fatal w) v is = tells_none v v refl refl
step_tells (step.Accept w) v is = tells_none v v refl refl
step_tells (step.Look w) v is = tells_none v v refl refl
step_tells (step.Lock h aim w) v is = tells_none v (after (step.Lock h aim w) v) refl refl
step_tells (step.Unlock h spent) v is = tells_none v (after_unlock v v.walk spent) (unlock_mark v v.walk spent)
    (unlock_bits v v.walk spent)
step_tells e v is = absurd (cc)

settled_begins_none : (e : Step) → stays_settled e ≡ true → begins_none e ≡ true
settled_begins_none (step.State σ) is = refl
settled_begins_none e is = cc

-- What a task owes stays where its bookmark, entries, kept bits and debts stay, and it tries no more bits.
pub owes_told : (old new : Known) → (told_of new).mark ≡ (told_of old).mark
    → ((i : ℕ) → (told_of new).bits.stored i ≡ (told_of old).bits.stored i)
    → ((c : Watch) → (told_of new).bits.keeps c ≡ (told_of old).bits.keeps c)
    → ((c : Watch) → (told_of old).bits.pending c ≡ false → (told_of new).bits.pending c ≡ false)
    → ((x : Excuse) → Debts x old → Debts x new) → StaysOwing old new
owes_told old new mark stored keeps pending debts x o = record {
  unmarked = mark ∙ o.unmarked;
  debts = debts x o.debts;
  unqueued = λ i. subst (IsOutBut (x.entries i)) (sym (stored i)) (o.unqueued i);
  holds = λ c. ap (λ (b : Bool). not (x.bits c) && b) (keeps c) ∙ o.holds c;
  tries = λ c. pending c (o.tries c);
  tries_none = λ i c. ap (λ (s : Option Entry). is_trying_for s c) (stored i) ∙ o.tries_none i c;
}

pub owes_after : (old new : Known) (e : Step) → stays_settled e ≡ true → new ≡ added old (item.Made e)
    → StaysOwing old new
owes_after old new e is now =
    let told : told_of new ≡ after e (told_of old) = ap told_of now ∙ told_added old (item.Made e) in
    let tells = step_tells e (told_of old) is in
    owes_told old new (ap (λ (v : View). v.mark) told ∙ tells.mark)
    (λ i. ap (λ (v : View). v.bits.stored i) told ∙ tells.stored i)
    (λ c. ap (λ (v : View). v.bits.keeps c) told ∙ tells.keeps c)
    (λ c none. ap (λ (v : View). v.bits.pending c) told ∙ (tells.pending c ∙ none))
    (step_debts old new e (settled_begins_none e is) now)

pub settled_after : (old new : Known) (e : Step) → stays_settled e ≡ true → new ≡ added old (item.Made e)
    → StaysSettled old new
settled_after old new e is now o = owes_after old new e is now no_excuse o

append_nil : (es : List Step) → es ++ [] ≡ es
append_nil [] = refl
append_nil (e ∷ es) = ap (λ (l : List Step). e ∷ l) (append_nil es)

-- items that are no steps, and add to nothing
pub owes_looks : (old new : Known) (looks : List Item) (b : Book) → steps_of looks ≡ [] → AddsNone looks
    → new ≡ grown old looks b → StaysOwing old new
owes_looks old new looks b none adds now =
    let told : told_of new ≡ told_of old = ap told_of now ∙ ap view_of (steps_append old.view.items looks
    ∙ (ap (λ (es : List Step). steps_of old.view.items ++ es) none ∙ append_nil (steps_of old.view.items))) in
    owes_told old new (ap (λ (v : View). v.mark) told) (λ i. ap (λ (v : View). v.bits.stored i) told)
    (λ c. ap (λ (v : View). v.bits.keeps c) told) (λ c is. ap (λ (v : View). v.bits.pending c) told ∙ is)
    (looks_debts old new looks b none adds now)

pub settled_looks : (old new : Known) (looks : List Item) (b : Book) → steps_of looks ≡ [] → AddsNone looks
    → new ≡ grown old looks b → StaysSettled old new
settled_looks old new looks b none adds now o = owes_looks old new looks b none adds now no_excuse o

pub settled_look : (old new : Known) (w : ℕ) → new ≡ added old (item.Awake w) → StaysSettled old new
settled_look old new w now = settled_looks old new (item.Awake w ∷ []) (learn (item.Awake w) old.book) refl (tt, tt)
    now

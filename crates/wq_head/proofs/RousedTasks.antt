-- Whom a task has woken whose threads are to be roused, after each of its steps.
use Rattle.std.proofs.Common.{◌∙◌, ap, sym, subst, refl, append_assoc, append-nil, length-append, arith}
use Rattle.std.specs.Prelude.{ℕ, ◌≡◌, ◌≤◌, ◌++◌, ◌∷◌, [], Bool, true, false, List, length, if◌then◌else◌, Option, Some}
use Rattle.std.specs.Prelude.{None}
use Rattle.wait_model.specs.{declared.steps.Step.Step, declared.queues.Mark.Mark}
use Rattle.wait_model.specs.declared.steps.Step.TheVariants as step
use Rattle.wait_rule.specs.{declared.journal.Item.Item, Items.steps_of, Known.Known, Queues.marked, Queues.saw}
use Rattle.wait_rule.specs.{Transitions.AreLooks, Tried.rouses}
use Rattle.wait_rule.specs.Says.{added, stored_with, unlocked_with, history_of}
use Rattle.wait_rule.specs.declared.journal.Item.TheVariants as item
use Rattle.wait_rule.proofs.TableSteps.ItemLists.{steps_append}
use Rattle.wq_head.specs.{declared.rousing.Rousing.Rousing, Looks.Looks}
use Rattle.wq_head.specs.Roused.{roused, roused_by, tasks_in, RousesNone, IsRousing, HasRoused}
use Rattle.wq_head.proofs.LookedItems.{looks_by}

roused_append : (xs ys : List Step) → roused (xs ++ ys) ≡ roused xs ++ roused ys
roused_append [] ys = refl
roused_append (e ∷ es) ys = ap (λ (r : List ℕ). roused_by e ++ r) (roused_append es ys)
    ∙ sym (append_assoc (roused_by e) (roused es) (roused ys))

-- more items
roused_more : (xs ys : List Item) → roused (steps_of (xs ++ ys)) ≡ roused (steps_of xs) ++ roused (steps_of ys)
roused_more xs ys = ap roused (steps_append xs ys) ∙ roused_append (steps_of xs) (steps_of ys)

pub none_more : (old new : Known) (xs : List Item) → new.view.items ≡ old.view.items ++ xs
    → roused (steps_of xs) ≡ [] → RousesNone old new
none_more old new xs is none = ap (λ (l : List Item). roused (steps_of l)) is
    ∙ (roused_more old.view.items xs
    ∙ (ap (λ (r : List ℕ). roused (history_of old) ++ r) none ∙ append-nil (roused (history_of old))))

-- one item that is no wake
pub none_added : (k : Known) (x : Item) → roused (steps_of (x ∷ [])) ≡ [] → RousesNone k (added k x)
none_added k x none = none_more k (added k x) (x ∷ []) refl none

pub none_stored : (k : Known) (e : Step) → roused (e ∷ []) ≡ [] → RousesNone k (stored_with k e)
none_stored k e none = none_added (added k (item.Made e)) item.Member refl ∙ none_added k (item.Made e) none

pub none_marked : (k : Known) (o : Option Mark) → RousesNone k (stored_with k (marked o))
none_marked k None = none_stored k step.Unmark refl
none_marked k (Some m) = none_stored k (step.Mark m.head m.place) refl

pub none_saw : (k : Known) (h : Option ℕ) (x w : ℕ) → RousesNone k (added k (item.Made (saw h x w)))
none_saw k None x w = none_added k (item.Made (step.Peek x w)) refl
none_saw k (Some h) x w = none_added k (item.Made (step.Saw x w)) refl

pub none_unlocked : (k : Known) (h : ℕ) (spent : Bool) → RousesNone k (unlocked_with k h spent)
none_unlocked k h spent = none_added (added k (item.Made (step.Unlock h spent))) item.Served refl
    ∙ none_added k (item.Made (step.Unlock h spent)) refl

looks_none : (xs : List Item) → AreLooks xs → roused (steps_of xs) ≡ []
looks_none = looks_by (λ es. roused es ≡ []) refl (λ y w es none. none)

pub none_looked : (old new : Known) → Looks old new → RousesNone old new
none_looked old new l = none_more old new l.items (ap (λ (k : Known). k.view.items) l.is) (looks_none l.items l.looks)

-- the list, after steps that are no wakes
pub rousing_on : (base mid new : Known) (r : Rousing) → RousesNone mid new → IsRousing base mid r → IsRousing base new r
unfolding IsRousing
rousing_on base mid new r none is = none ∙ is

-- over the unlock of a hold, and over looks
pub rousing_unlocked : (base mid new : Known) (r : Rousing) (spent : Bool) → new ≡ unlocked_with mid mid.at spent
    → IsRousing base mid r → IsRousing base new r
rousing_unlocked base mid new r spent is = rousing_on base mid new r
    (subst (RousesNone mid) (sym is) (none_unlocked mid mid.at spent))

pub rousing_from : (old mid new : Known) (r : Rousing) → RousesNone old mid → IsRousing mid new r → IsRousing old new r
unfolding IsRousing
rousing_from old mid new r none is = is ∙ ap (λ (l : List ℕ). l ++ tasks_in r) none

pub rousing_none : (k : Known) (r : Rousing) → tasks_in r ≡ [] → IsRousing k k r
unfolding IsRousing
rousing_none k r none = sym (ap (λ (l : List ℕ). roused (history_of k) ++ l) none
    ∙ append-nil (roused (history_of k)))

pub rousing_looked : (old new : Known) (r : Rousing) → Looks old new → tasks_in r ≡ [] → IsRousing old new r
rousing_looked old new r looks none = rousing_on old old new r (none_looked old new looks) (rousing_none old r none)

-- no wake, and steps that are none before or after one
pub roused_none : (k : Known) (r : Rousing) → HasRoused k k r r
roused_none k r = record { domain = refl; tells = λ base is. is; room = omega arith }

pub roused_then : (old mid new : Known) (before after : Rousing) → HasRoused old mid before after → RousesNone mid new
    → new.domain ≡ mid.domain → HasRoused old new before after
roused_then old mid new before after h none same = record {
  domain = same ∙ h.domain;
  tells = λ base is. rousing_on base mid new after none (h.tells base is);
  room = h.room;
}

pub then_roused : (old mid new : Known) (before after : Rousing) → RousesNone old mid → mid.domain ≡ old.domain
    → HasRoused mid new before after → HasRoused old new before after
then_roused old mid new before after none same h = record {
  domain = h.domain ∙ same;
  tells = λ base is. h.tells base (rousing_on base old mid before none is);
  room = h.room;
}

-- a wake
abbrev pub whom : Bool → ℕ → List ℕ
whom b who = if b then who ∷ [] else []

one_at_most : (b : Bool) (who : ℕ) → length (whom b who) ≤ 1
one_at_most true who = omega arith
one_at_most false who = omega arith

pub roused_one : (old new : Known) (who mask found : ℕ) (before after : Rousing)
    → new ≡ added old (item.Made (step.Wake who mask found))
    → tasks_in after ≡ tasks_in before ++ whom (rouses mask found) who → HasRoused old new before after
unfolding IsRousing
roused_one old new who mask found before after is more = record {
  domain = ap (λ (k : Known). k.domain) is;
  tells = λ base was. ap (λ (k : Known). roused (history_of k)) is
      ∙ (roused_more old.view.items (item.Made (step.Wake who mask found) ∷ [])
      ∙ (ap (λ (l : List ℕ). roused (history_of old) ++ l) (append-nil (whom (rouses mask found) who))
      ∙ (ap (λ (l : List ℕ). l ++ whom (rouses mask found) who) was
      ∙ (append_assoc (roused (history_of base)) (tasks_in before) (whom (rouses mask found) who)
      ∙ ap (λ (l : List ℕ). roused (history_of base) ++ l) (sym more)))));
  room =
      let sum = ap length more ∙ length-append (tasks_in before) (whom (rouses mask found) who) in
      let one = one_at_most (rouses mask found) who in
      omega (arith, sum, one);
}

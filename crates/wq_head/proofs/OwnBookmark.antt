-- What the history tells of the own bookmark is what the notes say.
use Rattle.std.proofs.Common.{◌∙◌, ap, sym, refl}
use Rattle.std.specs.Prelude.{ℕ, ◌≡◌, Bool, true, false, ◌||◌, if◌then◌else◌, Option, Some, None, List, [], ◌∷◌}
use Rattle.wait_model.specs.{declared.queues.Mark.Mark, declared.steps.Step.Step}
use Rattle.wait_model.specs.Views.{View as Told, Walk, all_passed, blank}
use Rattle.wait_model.specs.Fold.{after, after_all, after_unlock, met_task}
use Rattle.wait_model.specs.declared.steps.Step.TheVariants as step
use Rattle.wait_rule.specs.{declared.journal.Item.Item, Items.steps_of, Known.Known, Says.told_of, Says.noted}
use Rattle.wait_rule.specs.Notes.{Notes, note, note_step, notes_from, no_notes}
use Rattle.wait_rule.specs.declared.journal.Item.TheVariants as item
use Rattle.wait_rule.proofs.KnownLaws.HeadLinks.{telling_own, wake_own}

-- the place of a bookmark
abbrev pub place_marked : Option Mark → Option ℕ
place_marked None = None
place_marked (Some m) = Some m.place

abbrev IsMarked : Told → Notes → Type 0
IsMarked v n = v.mark ≡ place_marked n.own

unlock_mark : (v : Told) (o : Option Walk) (spent : Bool) → (after_unlock v o spent).mark ≡ v.mark
unlock_mark v None spent = refl
unlock_mark v (Some w) spent = either (spent || all_passed v w (λ _. false)) _ _ refl refl
  where
    either : (b : Bool) (x y : Told) → x.mark ≡ v.mark → y.mark ≡ v.mark → (if b then x else y).mark ≡ v.mark
    either true x y one two = one
    either false x y one two = two

step_marked : (me : ℕ) (e : Step) (v : Told) (n : Notes) → IsMarked v n → IsMarked (after e v) (note_step me e v n)
step_marked me (step.Wake who mask w) v n is = is
    ∙ ap place_marked (sym (wake_own n.walk who mask (met_task mask w) v n))
step_marked me (step.Unlock h spent) v n is = unlock_mark v v.walk spent ∙ is
step_marked me (step.Mark h q) v n is = refl
step_marked me step.Unmark v n is = refl
step_marked me (step.Handed x) v n is = is ∙ ap place_marked (sym (telling_own n.walk x v n))
step_marked me _ v n is = is

list_marked : (me : ℕ) (xs : List Item) (v : Told) (n : Notes) → IsMarked v n
    → IsMarked (after_all v (steps_of xs)) (notes_from me v n xs)
list_marked me [] v n is = is
list_marked me (item.Made e ∷ xs) v n is = list_marked me xs (after e v) (note_step me e v n) (step_marked me e v n is)
list_marked me (item.Bookmark t w ∷ xs) v n is = list_marked me xs v (note me (item.Bookmark t w) v n) is
list_marked me (_ ∷ xs) v n is = list_marked me xs v n is

pub own_marked : (k : Known) → (told_of k).mark ≡ place_marked (noted k).own
own_marked k = list_marked k.view.number k.view.items blank no_notes refl

-- no bookmark is out where the history says so
pub own_clear : (k : Known) → (told_of k).mark ≡ None → (noted k).own ≡ None
own_clear k none = by (noted k).own (sym (own_marked k) ∙ none)
  where
    by : (o : Option Mark) → place_marked o ≡ None → o ≡ None
    by None is = refl
    by (Some m) is = absurd (cc)

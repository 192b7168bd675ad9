-- What a task knows after a step.
use Rattle.std.proofs.Common.{refl, sym, ◌∙◌, ap, append-nil}
use Rattle.std.specs.Prelude.{ℕ, ◌≡◌, List, [], ◌∷◌, ◌++◌}
use Rattle.wait_rule.specs.{declared.journal.Item.Item, Items.steps_of, Known.Known}
use Rattle.wait_rule.specs.Notes.{Notes, notes_of, notes_from, note, tell, no_notes}
use Rattle.wait_rule.specs.Says.{added, told_of, noted}
use Rattle.wait_rule.specs.declared.journal.Item.TheVariants as item
use Rattle.wait_model.specs.{Views.View as Told, Views.blank, Fold.after_all, Fold.view_of}
use Rattle.wait_model.proofs.HistoryLaws.HoldLooks.{after_snoc}
use Rattle.wait_rule.proofs.TableSteps.ItemLists.{steps_append}

pub told_after : (xs : List Item) (x : Item) → view_of (steps_of (xs ++ x ∷ [])) ≡ tell x (view_of (steps_of xs))
told_after xs x = ap view_of (steps_append xs (x ∷ [])) ∙ by x
  where
    by : (x : Item) → view_of (steps_of xs ++ steps_of (x ∷ [])) ≡ tell x (view_of (steps_of xs))
    by (item.Made e) = after_snoc blank (steps_of xs) e
    by x = ap view_of (append-nil (steps_of xs))

-- the view is that of the steps
pub told_from : (v : Told) (x : Item) (xs : List Item) → after_all v (steps_of (x ∷ xs))
    ≡ after_all (tell x v) (steps_of xs)
told_from v (item.Made e) xs = refl
told_from v x xs = refl

pub notes_snoc : (me : ℕ) (v : Told) (k : Notes) (xs : List Item) (x : Item)
    → notes_from me v k (xs ++ x ∷ []) ≡ note me x (after_all v (steps_of xs)) (notes_from me v k xs)
notes_snoc me v k [] x = refl
notes_snoc me v k (y ∷ ys) x = notes_snoc me (tell y v) (note me y v k) ys x
    ∙ ap (λ (u : Told). note me x u (notes_from me (tell y v) (note me y v k) ys)) (sym (told_from v y ys))

pub notes_after : (me : ℕ) (xs : List Item) (x : Item)
    → notes_of me (xs ++ x ∷ []) ≡ note me x (view_of (steps_of xs)) (notes_of me xs)
notes_after me xs x = notes_snoc me blank no_notes xs x

pub told_added : (k : Known) (x : Item) → told_of (added k x) ≡ tell x (told_of k)
told_added k x = told_after k.view.items x

pub noted_added : (k : Known) (x : Item) → noted (added k x) ≡ note k.view.number x (told_of k) (noted k)
noted_added k x = notes_after k.view.number k.view.items x

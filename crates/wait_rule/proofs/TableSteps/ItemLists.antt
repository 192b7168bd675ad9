-- Lists of items with one more.
use Rattle.std.proofs.Common.{refl, ap}
use Rattle.std.specs.Prelude.{◌≡◌, List, [], ◌∷◌, ◌++◌}
use Rattle.wait_model.specs.declared.steps.Step.{Step}
use Rattle.wait_rule.specs.declared.journal.Item.{Item}
use Rattle.wait_rule.specs.declared.journal.Item.TheVariants as item
use Rattle.wait_rule.specs.Items.{Book, AddsNone, steps_of, learn, book_from}

pub steps_append : (xs ys : List Item) → steps_of (xs ++ ys) ≡ steps_of xs ++ steps_of ys
steps_append [] ys = refl
steps_append (item.Made e ∷ xs) ys = ap (λ (es : List Step). e ∷ es) (steps_append xs ys)
steps_append (x ∷ xs) ys = steps_append xs ys

pub book_append : (b : Book) (xs ys : List Item) → book_from b (xs ++ ys) ≡ book_from (book_from b xs) ys
book_append b [] ys = refl
book_append b (x ∷ xs) ys = book_append (learn x b) xs ys

pub adds_append : (xs ys : List Item) → AddsNone xs → AddsNone ys → AddsNone (xs ++ ys)
adds_append [] ys a b = b
adds_append (x ∷ xs) ys a b = (a.0, adds_append xs ys a.1 b)

-- What items do to the tallies of pages.
use Rattle.std.proofs.Common.{refl, sym, ◌∙◌, ap, arith}
use Rattle.std.specs.Prelude.{ℕ, ◌≡◌, ◌+◌, ◌%◌, ◌^◌, ◌<◌, List, [], ◌∷◌, ◌++◌}
use Rattle.wait_model.specs.{declared.layout.TheConstants.TASKS, Functions.put}
use Rattle.wait_model.specs.Locations as place
use Rattle.wait_model.proofs.Functions.{put_at, put_same, put_other}
use Rattle.wait_model.proofs.HistoryLaws.StepTotals.{sum_same, sum_grown}
use Rattle.wait_rule.specs.declared.journal.Item.{Item}
use Rattle.wait_rule.specs.Tallies.{amounts_of, tally_of, AreTallies}

pub amounts_append : (p : ℕ) (xs ys : List Item) → amounts_of p (xs ++ ys) ≡ amounts_of p xs + amounts_of p ys
amounts_append p [] ys = omega arith
amounts_append p (x ∷ xs) ys = let rest = amounts_append p xs ys in omega (arith, rest)

-- lists with more items
pub tally_next : (p : ℕ) (items : ℕ → List Item) (a : ℕ) (xs : List Item) → a < TASKS
    → tally_of p (put items a (items a ++ xs)) ≡ tally_of p items + amounts_of p xs
tally_next p items a xs few = sum_grown TASKS a (amounts_of p xs) (λ t. amounts_of p (items t))
    (λ t. amounts_of p (put items a (items a ++ xs) t)) few
    (ap (amounts_of p) (put_same items a (items a ++ xs)) ∙ amounts_append p (items a) xs)
    (λ t ne. ap (amounts_of p) (put_other items a (items a ++ xs) t ne))

-- items that add to no tally
abbrev pub KeepsTallies : List Item → Type 0
KeepsTallies xs = (p : ℕ) → amounts_of p xs ≡ 0

add_none : (m n : ℕ) → n ≡ 0 → m + n ≡ m
add_none m n none = omega arith

pub tally_same : (p : ℕ) (items : ℕ → List Item) (a : ℕ) (xs : List Item) → amounts_of p xs ≡ 0
    → tally_of p (put items a (items a ++ xs)) ≡ tally_of p items
tally_same p items a xs none = sum_same TASKS (λ t. amounts_of p (items t))
    (λ t. amounts_of p (put items a (items a ++ xs) t))
    (λ t few. put_at (λ (ys : List Item). amounts_of p ys ≡ amounts_of p (items t)) items a (items a ++ xs) t
    (λ e. amounts_append p (items a) xs ∙ (add_none (amounts_of p (items a)) (amounts_of p xs) none
    ∙ ap (λ (i : ℕ). amounts_of p (items i)) (sym e)))
    (λ ne. refl))

pub tallies_same : (items : ℕ → List Item) (a : ℕ) (xs : List Item) (one two : place.Location → ℕ) → KeepsTallies xs
    → ((p : ℕ) → two (place.Tally p) ≡ one (place.Tally p)) → AreTallies items one
    → AreTallies (put items a (items a ++ xs)) two
tallies_same items a xs one two none same tallies p =
    same p ∙ (tallies p ∙ ap (λ (n : ℕ). n % 2 ^ 64) (sym (tally_same p items a xs (none p))))

-- Looks of a task that sleeps.
use Rattle.std.proofs.Common.{◌∙◌, ap, append_assoc}
use Rattle.std.specs.Prelude.{ℕ, ◌≡◌, Bool, false, List, [], ◌∷◌, ◌++◌}
use Rattle.wait_model.specs.Tasks.{task_of}
use Rattle.wait_rule.specs.{declared.journal.Item.Item, Known.Known, LookCounts.looks_from}
use Rattle.wait_rule.specs.Items.{AddsNone, Book, after_awake, learn, steps_of}
use Rattle.wait_rule.specs.Says.{HasLooked, IsDown, added, grown}
use Rattle.wait_rule.specs.declared.journal.Item.TheVariants as item
use Rattle.wait_rule.proofs.TableSteps.ItemLists.{adds_append, steps_append}
use Rattle.wait_rule.proofs.KnownLaws.LookCounts.{looks_append}

-- the same task with this list and this book
abbrev pub listed : Known → List Item → Book → Known
listed k items book = record k { view = record (k.view) { items = items }; book = book }

pub grown_added : (k : Known) (xs : List Item) (b : Book) (x : Item)
    → added (grown k xs b) x ≡ grown k (xs ++ x ∷ []) (learn x b)
grown_added k xs b x = ap (λ (l : List Item). listed k l (learn x b)) (append_assoc k.view.items xs (x ∷ []))

-- one look more
pub looked_on : (old mid new : Known) (looks : List Item) (w : ℕ) (runs : Bool)
    → mid ≡ grown old looks old.book → new ≡ added mid (item.Awake w) → old.book.awake ≡ false
    → (task_of w).runnable ≡ runs
    → new ≡ grown old (looks ++ item.Awake w ∷ []) (after_awake false runs old.book)
looked_on old mid new looks w runs before is down shows =
    is ∙ (ap (λ (k : Known). added k (item.Awake w)) before ∙ (grown_added old looks old.book (item.Awake w)
    ∙ (λ i. grown old (looks ++ item.Awake w ∷ []) (after_awake (down i) (shows i) old.book))))

pub none_more : (looks : List Item) (w : ℕ) → steps_of looks ≡ [] → steps_of (looks ++ item.Awake w ∷ []) ≡ []
none_more looks w none = steps_append looks (item.Awake w ∷ []) ∙ ap (λ es. es ++ []) none

pub none_counted : (looks : List Item) (w : ℕ) → ((n : ℕ) → looks_from n looks ≡ n) → (n : ℕ)
    → looks_from n (looks ++ item.Awake w ∷ []) ≡ n
none_counted looks w none n = looks_append n looks (item.Awake w ∷ []) ∙ none n

-- a task that sleeps, which has looked and is not awake yet
abbrev pub IsLooking : Known → Known → Type 0
IsLooking old new = (looks : List Item) × (new ≡ grown old looks old.book) × (steps_of looks ≡ []) × IsDown new
    × ((n : ℕ) → looks_from n looks ≡ n) × AddsNone looks

-- it looks once more, and is awake then or is not
module _ (old mid new : Known) (i : IsLooking old mid) (w : ℕ) (is : new ≡ added mid (item.Awake w))
    (down : old.book.awake ≡ false) where
  pub looks_once : (runs : Bool) → (task_of w).runnable ≡ runs → HasLooked old new runs
  looks_once runs shows = record {
    looks = i.0 ++ item.Awake w ∷ [];
    is = looked_on old mid new i.0 w runs i.1 is down shows;
    no_steps = none_more i.0 w i.2;
    no_adds = adds_append i.0 (item.Awake w ∷ []) i.5 (tt, tt);
    uncounted = none_counted i.0 w i.4;
  }

  pub looks_again : (task_of w).runnable ≡ false → IsLooking old new
  looks_again shows =
      let l = looks_once false shows in
      (l.looks, l.is, l.no_steps, ap (λ (k : Known). k.book.awake) l.is ∙ down, l.uncounted, l.no_adds)

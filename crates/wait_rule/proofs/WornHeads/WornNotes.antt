-- What lists note of heads that are worn.
use Rattle.std.proofs.Common.{refl, sym, ◌∙◌, ap, subst, append-nil, append_assoc, inl, inr, arith}
use Rattle.std.specs.Prelude.{ℕ, ◌≡◌, ◌≢◌, ◌≤◌, ◌⊎◌, Some, List, [], ◌∷◌, ◌++◌}
use Rattle.atomic_table.specs.Seated.{TableId}
use Rattle.wait_model.specs.{Functions.put, Views.View as Told, Fold.view_of, Tables.Table}
use Rattle.wait_model.proofs.Functions.{put_case}
use Rattle.wait_rule.specs.{declared.journal.Item.Item, Items.steps_of, Notes.notes_of, Places.queued_at}
use Rattle.wait_rule.specs.{Places.ArePlaced, Journals.pushed, Journals.fresh, Known.Known, Known.known}
use Rattle.wait_rule.specs.Ends.{EndsAt, WasWorn, worn_adds}
use Rattle.wait_rule.specs.Rule.{IsLawfulTable, IsWhole, AreLinked, all_notes}
use Rattle.wait_rule.specs.Worn.{HoldsNote, NotesStay, JoinKeepsNotes, OwnWearsLate, JoinedWearsLate}
use Rattle.wait_rule.proofs.{WornHeads.WornLate.parts_late, TableSteps.ForksAndJoins.has_joined}

pub holds_note : HoldsNote
holds_note k h p held shows = record {
  front = k.view.items;
  rest = [];
  split = sym (append-nil k.view.items);
  held = held;
  shows = shows;
}

pub notes_stay : NotesStay
notes_stay me items more h p w = record {
  front = w.front;
  rest = w.rest ++ more;
  split = ap (λ (xs : List Item). xs ++ more) w.split ∙ append_assoc w.front w.rest more;
  held = w.held;
  shows = w.shows;
}

pub join_keeps_notes : JoinKeepsNotes
join_keeps_notes v w lives t h p sole mine note = subst (λ (xs : List Item). WasWorn t xs h p)
    (sym (has_joined v w lives t sole mine)) note

pub own_late : OwnWearsLate
own_late v law h p w = law.ruled.worn v.number h p
    (subst (λ (xs : List Item). WasWorn v.number xs h p) (sym law.own) w)

pub joined_late : JoinedWearsLate
joined_late v law t h p mine w = law.ruled.worn t h p
    (subst (λ (xs : List Item). WasWorn t xs h p) (sym (law.lists t mine)) w)

-- an empty list notes none
pub none_worn : (t h p : ℕ) (items : List Item) → items ≡ [] → WasWorn t items h p → ⊥
none_worn t h p items none w = by w.front (sym none ∙ w.split) w.held
  where
    by : (front : List Item) → [] ≡ front ++ w.rest → (view_of (steps_of front)).hold.head ≡ Some h → ⊥
    by [] is held = absurd (cc)
    by (x ∷ xs) is held = absurd (cc)

-- at most one item
abbrev pub IsShort : List Item → Type 0
IsShort [] = Unit {0}
IsShort (x ∷ []) = Unit {0}
IsShort (x ∷ y ∷ xs) = ⊥

tail_is : (x y : Item) (xs ys : List Item) → x ∷ xs ≡ y ∷ ys → xs ≡ ys
tail_is x y xs ys is = cc

head_is : (x y : Item) (xs ys : List Item) → x ∷ xs ≡ y ∷ ys → x ≡ y
head_is x y xs ys is = cc

nothing_more : (front rest : List Item) → [] ≡ front ++ rest → front ≡ []
nothing_more [] rest is = refl
nothing_more (x ∷ xs) rest is = absurd (cc)

-- a front of a list with one item more is all of it, or a front of the list
one_split : (items : List Item) (x : Item) (front rest : List Item) → items ++ x ∷ [] ≡ front ++ rest
    → (front ≡ items ++ x ∷ []) ⊎ ((more : List Item) × (items ≡ front ++ more))
one_split items x [] rest is = inr (items, refl)
one_split [] x (y ∷ front) rest is = inl (λ i. sym (head_is x y [] (front ++ rest) is) i
    ∷ nothing_more front rest (tail_is x y [] (front ++ rest) is) i)
one_split (z ∷ items) x (y ∷ front) rest is =
    let same = head_is z y (items ++ x ∷ []) (front ++ rest) is in
    elim (one_split items x front rest (tail_is z y (items ++ x ∷ []) (front ++ rest) is)) [
      | inl all ↦ inl (λ i. sym same i ∷ all i)
      | inr part ↦ inr (part.0, λ i. same i ∷ part.1 i)
    ]

short_split : (items xs front rest : List Item) → IsShort xs → items ++ xs ≡ front ++ rest
    → (front ≡ items ++ xs) ⊎ ((more : List Item) × (items ≡ front ++ more))
short_split items [] front rest short is = inr (rest, sym (append-nil items) ∙ is)
short_split items (x ∷ []) front rest short is = one_split items x front rest is
short_split items (x ∷ y ∷ xs) front rest short is = absurd short

-- a task with this list, of any Domain
abbrev any_table : TableId
any_table = record { words = 0; slots = 0; views_name = 0; atom = 0; block = 0; offset = 0; slot_names = [] }

abbrev task_at : ℕ → List Item → Known
task_at t xs = known any_table (pushed (fresh t 0 0) xs) 0

-- what the newest hold of a task shows, in a table with these parts of the rule
now_late : (z : Table) (items : ℕ → List Item) → IsWhole z → ((t : ℕ) → z.history t ≡ steps_of (items t))
    → IsLawfulTable z → AreLinked z (all_notes items) → ArePlaced z → (t h p : ℕ)
    → (view_of (steps_of (items t))).hold.head ≡ Some h → EndsAt (view_of (steps_of (items t))) (notes_of t (items t)) p
    → worn_adds ≤ queued_at h z.history
now_late z items whole histories lawful linked placed t h p held shows = parts_late z (all_notes items) whole lawful
    linked placed t h p (task_at t (items t)) (ap (λ (v : Told). v.hold.head) told ∙ held) told refl shows
  where
    told : z.view t ≡ view_of (steps_of (items t))
    told = whole.told t ∙ ap view_of (histories t)

-- a list that grows by one item at most
pub worn_next : (s z : Table) (items : ℕ → List Item) (a : ℕ) (xs : List Item) → IsShort xs
    → ((t h p : ℕ) → WasWorn t (items t) h p → worn_adds ≤ queued_at h s.history)
    → ((h : ℕ) → queued_at h s.history ≤ queued_at h z.history) → IsWhole z
    → ((t : ℕ) → z.history t ≡ steps_of (put items a (items a ++ xs) t)) → IsLawfulTable z
    → AreLinked z (all_notes (put items a (items a ++ xs))) → ArePlaced z
    → (t h p : ℕ) → WasWorn t (put items a (items a ++ xs) t) h p → worn_adds ≤ queued_at h z.history
worn_next s z items a xs short worn grows whole histories lawful linked placed t h p w =
    by (put_case items a (items a ++ xs) t)
  where
    grown_list : ℕ → List Item
    grown_list = put items a (items a ++ xs)

    before : (more : List Item) → items t ≡ w.front ++ more → worn_adds ≤ queued_at h z.history
    before more is =
        let old = worn t h p (record { front = w.front; rest = more; split = is; held = w.held; shows = w.shows }) in
        let g = grows h in
        omega arith

    now : w.front ≡ grown_list t → worn_adds ≤ queued_at h z.history
    now is = now_late z grown_list whole histories lawful linked placed t h p
        (subst (λ (ys : List Item). (view_of (steps_of ys)).hold.head ≡ Some h) is w.held)
        (subst (λ (ys : List Item). EndsAt (view_of (steps_of ys)) (notes_of t ys) p) is w.shows)

    by : ((t ≡ a) × (grown_list t ≡ items a ++ xs)) ⊎ ((t ≢ a) × (grown_list t ≡ items t))
        → worn_adds ≤ queued_at h z.history
    by (inl q) = elim (short_split (items a) xs w.front w.rest short (sym q.1 ∙ w.split)) [
      | inl all ↦ now (all ∙ sym q.1)
      | inr part ↦ before part.0 (ap items q.0 ∙ part.1)
    ]
    by (inr q) = before w.rest (sym q.1 ∙ w.split)

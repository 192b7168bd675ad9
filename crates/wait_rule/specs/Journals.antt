-- To be believed.
-- What the words and the journals of all tasks show: the words, and each number's list of items.
use Rattle.std.specs.Prelude.{ℕ, ◌+◌, ◌-◌, cond, eqb, ltb, leb, ◌&&◌, true, false, List, [], ◌∷◌, ◌++◌, slice_set}
use Rattle.wait_model.specs.{Functions.put, Words.flag}
use Rattle.wait_rule.specs.{declared.journal.Item.Item, declared.journal.Part.Part, declared.journal.Journal.Journal}

-- t lies from a on and below b
abbrev pub one_within : ℕ → ℕ → ℕ → ℕ
one_within a b t = flag (leb a t && ltb t b)

-- how often the number t stands among these parts
abbrev pub times_in : ℕ → List Part → ℕ
times_in t [] = 0
times_in t (p ∷ ps) = flag (eqb p.number t) + (one_within p.next (p.next + p.spare) t + times_in t ps)

-- how often the number t is the journal's own, one that it may give out, or one that it joined
abbrev pub owns : ℕ → Journal → ℕ
owns t v = flag (v.lives && eqb v.number t) + (one_within v.next (v.next + v.spare) t + times_in t v.joined)

-- the sum over all journals
abbrev pub sum_over : (Journal → ℕ) → List Journal → ℕ
sum_over f [] = 0
sum_over f (v ∷ vs) = f v + sum_over f vs

abbrev pub items_in : ℕ → List Part → List Item
items_in t [] = []
items_in t (p ∷ ps) = cond (eqb p.number t) p.items [] ++ items_in t ps

-- what the journal has of the list of t
abbrev pub has_of : ℕ → Journal → List Item
has_of t v = cond (v.lives && eqb v.number t) v.items [] ++ items_in t v.joined

-- the list of t, wherever it stands
abbrev pub list_of : ℕ → List Journal → List Item
list_of t [] = []
list_of t (v ∷ vs) = has_of t v ++ list_of t vs

pub record Scene : Type 0 where
  pub words : List ℕ
  pub items : ℕ → List Item

abbrev pub seen_as : List ℕ → List Journal → Scene
seen_as words views = record { words = words; items = λ t. list_of t views }

-- the word p becomes n, and the task t has these items more
abbrev pub moved : Scene → ℕ → ℕ → ℕ → List Item → Scene
moved s t p n xs = record { words = slice_set s.words p n; items = put s.items t (s.items t ++ xs) }

-- the journal, with more of its own items
abbrev pub pushed : Journal → List Item → Journal
pushed v xs = record {
  lives = v.lives;
  number = v.number;
  next = v.next;
  spare = v.spare;
  items = v.items ++ xs;
  joined = v.joined;
}

-- a task that has done nothing yet
abbrev pub fresh : ℕ → ℕ → ℕ → Journal
fresh number next spare = record {
  lives = true;
  number = number;
  next = next;
  spare = spare;
  items = [];
  joined = [];
}

-- nobody's journal
abbrev pub nobody : Journal
nobody = record { lives = false; number = 0; next = 0; spare = 0; items = []; joined = [] }

-- the journal gives out its next number, with a share of those that follow
abbrev pub left_with : ℕ → Journal → Journal
left_with share v = record {
  lives = v.lives;
  number = v.number;
  next = v.next + 1 + share;
  spare = v.spare - (1 + share);
  items = v.items;
  joined = v.joined;
}

abbrev pub handed_over : ℕ → Journal → Journal
handed_over share v = fresh v.next (v.next + 1) share

abbrev pub part_in : Journal → Part
part_in w = record { number = w.number; next = w.next; spare = w.spare; items = w.items }

-- the journal takes in what another has
abbrev pub joined_with : Journal → Journal → Journal
joined_with v w = record {
  lives = v.lives;
  number = v.number;
  next = v.next;
  spare = v.spare;
  items = v.items;
  joined = v.joined ++ part_in w ∷ w.joined;
}

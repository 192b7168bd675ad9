-- To be believed.
-- Wake functions of a caller, and what a walk over them does.
use Rattle.std.specs.Prelude.{◌≡◌, ◌+◌, ◌-◌, ◌^◌, ◌==◌, ◌&&◌, ℕ, ℤ, pos, negsuc, zero, suc, List, map, [], ◌∷◌, Bool}
use Rattle.std.specs.Prelude.{true, false, min, if◌then◌else◌, Option, Some, None}
use Rattle.func_head.specs.declared.walks.Turn.{Turn}
use Rattle.wait_model.specs.{declared.layout.TheConstants.NORMAL, declared.queues.Walked.Walked}
use Rattle.wait_model.specs.declared.queues.End.{End}
use Rattle.wait_model.specs.declared.queues.End.TheVariants as ends

-- What a wake function means: its state, as numbers; what a call with a mode and a key answers in a state, and which
-- state it leaves; and the number that it tells in a state.
pub record Meaning : Type 0 where
  pub state : List ℕ
  pub answers : List ℕ → ℕ → List ℕ → ℤ
  pub leaves : List ℕ → ℕ → List ℕ → List ℕ
  pub tells : List ℕ → ℕ

-- what a call answers now, what is left by it, and what is told now
abbrev pub answer_of : Meaning → ℕ → List ℕ → ℤ
answer_of f mode key = f.answers f.state mode key

abbrev pub after_call : Meaning → ℕ → List ℕ → Meaning
after_call f mode key = record f { state = f.leaves f.state mode key }

abbrev pub told_by : Meaning → ℕ
told_by f = f.tells f.state

-- an entry: its number, whether it is exclusive and whether it has priority, and its function
pub record EntryState : Type 0 where
  pub id : ℕ
  pub exclusive : Bool
  pub priority : Bool
  pub func : Meaning

abbrev pub entry : ℕ → Bool → Bool → Meaning → EntryState
entry id exclusive priority func =
    record { id = id; exclusive = exclusive; priority = priority; func = func }

-- the entries of a head in their order, each seen as such a record
abbrev pub seen_by : {E : Type 0} → List E → (E → EntryState) → List EntryState
seen_by es seen = map seen es

-- a count of 32 bits that stays at its end
abbrev pub one_more : ℕ → ℕ
one_more n = min (n + 1) (2 ^ 32 - 1)

abbrev pub is_above : ℤ → Bool
is_above (pos zero) = false
is_above (pos (suc n)) = true
is_above (negsuc n) = false

abbrev pub is_below : ℤ → Bool
is_below (pos n) = false
is_below (negsuc n) = true

-- A function that answers above 0 is counted, and one of an exclusive entry takes one off a count that is not 0.
abbrev pub counted : Bool → Turn → Turn
counted true at = record { left = at.left - 1; woken = one_more at.woken; selected = one_more at.selected }
counted false at = record { left = at.left; woken = one_more at.woken; selected = at.selected }

abbrev pub after_answer : ℤ → Bool → Turn → Turn
after_answer answer exclusive at = if is_above answer then counted exclusive at else at

-- An answer below 0 ends the walk, and one above 0 of an exclusive entry where it uses the count up.
abbrev pub ends_by : ℤ → Bool → ℕ → Option End
ends_by answer exclusive left =
    if is_above answer then (if exclusive && (left == 1) then Some ends.Spent else None)
    else if is_below answer then Some ends.Stopped
    else None

-- an entry after its function was called
abbrev pub called : ℕ → List ℕ → EntryState → EntryState
called mode key e = record e { func = after_call e.func mode key }

-- What a walk leaves: the entries, and what it answers.
pub record Walk : Type 0 where
  pub entries : List EntryState
  pub walked : Walked

abbrev pub walked_to : Turn → End → Walked
walked_to at end = record { selected = at.selected; woken = at.woken; holds = 1; end = end }

abbrev pub go_on : Option End → EntryState → Turn → List EntryState → Walk → Walk
go_on (Some end) e at es rest = record { entries = e ∷ es; walked = walked_to at end }
go_on None e at es rest = record { entries = e ∷ rest.entries; walked = rest.walked }

-- The functions are called in the order of the entries, until one ends the walk or behind the last.
abbrev pub walk_from : ℕ → List ℕ → Turn → List EntryState → Walk
walk_from mode key at [] = record { entries = []; walked = walked_to at ends.End }
walk_from mode key at (e ∷ es) =
    let answer = answer_of e.func mode key in
    let now = after_answer answer e.exclusive at in
    go_on (ends_by answer e.exclusive at.left) (called mode key e) now es (walk_from mode key now es)

-- A walk with a mode, a count and a key. A count of 0 at its start never ends it.
abbrev pub walk : ℕ → ℕ → List ℕ → List EntryState → Walk
walk mode count key entries =
    walk_from mode key (record { left = count; woken = 0; selected = 0 }) entries

-- The same entries in the same order, whatever their functions' states are.
abbrev pub IsPlaceOf : EntryState → EntryState → Type 0
IsPlaceOf old new = (new.id ≡ old.id) × (new.exclusive ≡ old.exclusive) × (new.priority ≡ old.priority)

abbrev pub Stay : List EntryState → List EntryState → Type 0
Stay [] [] = Unit {0}
Stay [] (e ∷ es) = ⊥
Stay (e ∷ es) [] = ⊥
Stay (old ∷ olds) (new ∷ news) = IsPlaceOf old new × Stay olds news

-- A piece of bytes is shown to all entries by one ordinary wake that has no count, with the piece as its key.
abbrev pub shown : List ℕ → List EntryState → List EntryState
shown piece entries = (walk NORMAL 0 piece entries).entries

-- pieces that are shown one after another
abbrev pub shown_all : List (List ℕ) → List EntryState → List EntryState
shown_all [] entries = entries
shown_all (piece ∷ pieces) entries = shown_all pieces (shown piece entries)

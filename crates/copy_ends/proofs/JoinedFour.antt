-- What the journal of a task has that joined the four of a copy.
use Rattle.std.proofs.Common.{append-nil, arith}
use Rattle.std.specs.Prelude.{◌≡◌, List, [], ◌∷◌}
use Rattle.wait_rule.specs.{declared.journal.Item.Item, declared.journal.Journal.Journal, Journals.has_of}
use Rattle.wait_rule.specs.TableLaws.{HasAll}
use Rattle.copy_ends.proofs.Crews.{crew, has_all}

-- the four lists, each under the number of its task
abbrev pub four : List Item → List Item → List Item → List Item → Journal
four a b c d = crew (a ∷ b ∷ c ∷ d ∷ [])

pub has_one : (a b c d : List Item) → has_of 1 (four a b c d) ≡ a
has_one a b c d = append-nil a

pub has_two : (a b c d : List Item) → has_of 2 (four a b c d) ≡ b
has_two a b c d = append-nil b

pub has_three : (a b c d : List Item) → has_of 3 (four a b c d) ≡ c
has_three a b c d = append-nil c

pub has_four : (a b c d : List Item) → has_of 4 (four a b c d) ≡ d
has_four a b c d = append-nil d

pub four_has_all : (a b c d : List Item) → HasAll (four a b c d)
four_has_all a b c d = has_all (a ∷ b ∷ c ∷ d ∷ []) (omega arith)

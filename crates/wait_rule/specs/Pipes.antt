-- To be believed.
-- Bounded pipes: what a task's list tells of the ends that it has, and what the words of a pipe show of its two ends.
use Rattle.std.specs.Prelude.{ℕ, ◌≡◌, ◌+◌, ◌-◌, ◌*◌, ◌/◌, ◌%◌, ◌<◌, ◌≤◌, ◌==◌, ◌&&◌, ◌||◌, not, if◌then◌else◌, Bool}
use Rattle.std.specs.Prelude.{true, false, List, [], ◌∷◌, ◌++◌, length, take, drop, replicate, flat_map, get_or}
use Rattle.std.specs.Int.{w64, to_le_bytes}
use Rattle.wait_model.specs.{declared.steps.Step.Step, Functions.put, Words.flag}
use Rattle.wait_model.specs.declared.layout.TheConstants.{PIPES, PIPE_ENDS, PIPE_CELLS, TASKS}
use Rattle.wait_model.specs.declared.watches.Watch.TheVariants as watch
use Rattle.wait_model.specs.declared.steps.Step.TheVariants as step
use Rattle.wait_model.specs.Locations as place
use Rattle.wait_rule.specs.{declared.journal.EndAct.EndAct, declared.journal.Item.Item}
use Rattle.wait_rule.specs.declared.journal.EndAct.TheVariants as act
use Rattle.wait_rule.specs.declared.journal.Item.TheVariants as item

-- The ends of pipes are numbered as their claims and as the variables that are their words. A cell of a pipe has its
-- number among the cells of all pipes.
abbrev pub write_end : ℕ → ℕ
write_end p = PIPE_ENDS * p

abbrev pub read_end : ℕ → ℕ
read_end p = PIPE_ENDS * p + 1

-- the other end of the same pipe
abbrev pub other_end : ℕ → ℕ
other_end k = if k % PIPE_ENDS == 0 then k + 1 else k - 1

-- the cell of a pipe in which the one of this number stands, counted from the first that was ever stored
abbrev pub cell_of : ℕ → ℕ → ℕ
cell_of p n = PIPE_CELLS * p + n % PIPE_CELLS

-- Counts of cells go on without end. The word of an end has its count modulo this, and whether it is closed.
abbrev pub word_counts : ℕ
word_counts = 2 * PIPE_CELLS

abbrev pub end_word : ℕ → Bool → ℕ
end_word count shut = 2 * (count % word_counts) + flag shut

-- the first count from `seen` on that the word of an end shows
abbrev pub count_on : ℕ → ℕ → ℕ
count_on seen w = seen + (w / 2 + word_counts - seen % word_counts) % word_counts

-- the bytes of a cell: their number in the lowest byte, then the bytes
abbrev pub cell_length : ℕ → ℕ
cell_length w = get_or (to_le_bytes w64 w) 0 0

abbrev pub cell_bytes : ℕ → List ℕ
cell_bytes w = take (cell_length w) (drop 1 (to_le_bytes w64 w))

abbrev pub bytes_in : List ℕ → List ℕ
bytes_in ws = flat_map cell_bytes ws

-- a cell has 1 to 7 bytes, and the unused ones behind them are 0
abbrev pub IsCell : ℕ → Type 0
IsCell w = (1 ≤ cell_length w) × (cell_length w ≤ 7)
    × (drop (1 + cell_length w) (to_le_bytes w64 w) ≡ replicate (7 - cell_length w) 0)

-- What a task knows of an end of a pipe by its own list.
pub record End : Type 0 where
  pub mine : Bool  -- it has the end
  pub shut : Bool  -- it closed it
  pub count : ℕ  -- how many cells it passed on: as written, at a write end, and as free again, at a read end
  pub before : ℕ  -- how many of these before it closed the end
  pub cells : List ℕ  -- the cells that it stored or loaded
  pub seen : ℕ  -- the count of the other end that it saw last
  pub ended : Bool  -- whether it saw the other end closed then

abbrev pub no_end : End
no_end = record { mine = false; shut = false; count = 0; before = 0; cells = []; seen = 0; ended = false }

abbrev pub new_end : End
new_end = record { mine = true; shut = false; count = 0; before = 0; cells = []; seen = 0; ended = false }

abbrev pub with_cell : ℕ → End → End
with_cell w e = record e { cells = e.cells ++ w ∷ [] }

-- a claim finds a word: 0 where nobody had the end
abbrev pub claimed : ℕ → End → End
claimed found e = if found == 0 then new_end else e

-- after a load of the other end's word
abbrev pub after_end_look : ℕ → End → End
after_end_look w e = record e { seen = count_on e.seen w; ended = w % 2 == 1 }

-- the end passes on its first `count` cells, and is closed with it or not
abbrev pub advanced : ℕ → Bool → End → End
advanced count shut e = record e { count = count; shut = shut; before = if e.shut then e.before else count }

-- after a store of the own word
abbrev pub after_end_publish : ℕ → End → End
after_end_publish w e = advanced (count_on e.count w) (e.shut || (w % 2 == 1)) e

-- all cells that were stored or loaded are passed on, and the end is closed
abbrev pub with_all_passed : End → End
with_all_passed e = advanced (length e.cells) false e

abbrev pub closed : End → End
closed e = advanced e.count true e

-- what a task learns of an end that it has, and of one that it has and has not closed
abbrev pub if_mine : (End → End) → End → End
if_mine f e = if e.mine then f e else e

abbrev pub if_unclosed : (End → End) → End → End
if_unclosed f e = if e.mine && not e.shut then f e else e

-- A step on the word of an end: a load of the other end's word, from which nothing is learned any more once the own
-- one is closed, or a publish of the own.
abbrev pub end_step : ℕ → Step → End → End
end_step k (step.Load (watch.Var v o) r) e = if v == other_end k then if_unclosed (after_end_look r) e else e
end_step k (step.Publish (watch.Var v o) n r) e = if v == k then if_mine (after_end_publish n) e else e
end_step k _ e = e

abbrev pub end_act : EndAct → ℕ → End → End
end_act act.Claim w e = claimed w e
end_act act.Cell w e = with_cell w e

-- what one item tells of the end of this number
abbrev pub end_item : ℕ → Item → End → End
end_item k (item.Made e) x = end_step k e x
end_item k (item.Piped j a w) x = if j == k then end_act a w x else x
end_item k _ x = x

-- what more items tell of it, and what a list does; both have the oldest item first
abbrev pub end_from : ℕ → End → List Item → End
end_from k e [] = e
end_from k e (x ∷ xs) = end_from k (end_item k x e) xs

abbrev pub end_of : ℕ → List Item → End
end_of k xs = end_from k no_end xs

-- whether a claim of the end of this number found that somebody had it
abbrev pub refused_item : ℕ → Item → Bool
refused_item k (item.Piped j act.Claim w) = (j == k) && not (w == 0)
refused_item k _ = false

abbrev pub was_refused : ℕ → List Item → Bool
was_refused k [] = false
was_refused k (x ∷ xs) = refused_item k x || was_refused k xs

-- the bytes of the cells that the end passed on: what was sent, of a write end, and what was got, of a read end
abbrev pub moved_bytes : End → List ℕ
moved_bytes e = bytes_in (take e.count e.cells)

-- The words of a pipe, and the cells, are as its two ends know. In between stand at most `PIPE_CELLS` cells.
pub record IsFlow (word : place.Location → ℕ) (p : ℕ) (w r : End) : Type 0 where
  pub claim_w : word (place.Claim (write_end p)) ≡ flag w.mine
  pub claim_r : word (place.Claim (read_end p)) ≡ flag r.mine
  pub idle_w : w.mine ≡ false → w ≡ no_end
  pub idle_r : r.mine ≡ false → r ≡ no_end
  pub end_w : word (place.Var (write_end p)) ≡ end_word w.count w.shut
  pub end_r : word (place.Var (read_end p)) ≡ end_word r.count r.shut
  -- r.count ≤ cells loaded ≤ r.seen ≤ w.count ≤ cells stored ≤ w.seen + PIPE_CELLS, and w.seen ≤ r.count
  pub w_put : w.count ≤ length w.cells
  pub w_room : length w.cells ≤ w.seen + PIPE_CELLS
  pub w_seen : w.seen ≤ r.count
  pub r_took : r.count ≤ length r.cells
  pub r_there : length r.cells ≤ r.seen
  pub r_seen : r.seen ≤ w.count
  -- what stands in the cells from the reader's count on
  pub stands : (n : ℕ) → r.count ≤ n → n < length w.cells → word (place.Cell (cell_of p n)) ≡ get_or w.cells n 0
  pub whole : (n : ℕ) → n < length w.cells → IsCell (get_or w.cells n 0)
  -- the cells that were loaded begin those that were stored
  pub rest : List ℕ
  pub order : w.cells ≡ r.cells ++ rest
  -- an end that was closed passes on nothing more
  pub w_before : w.before ≡ w.count
  pub r_before : r.before ≡ r.count
  -- an end that was seen closed is closed, and the writer's count then stands; each end is looked at by one that is not
  -- closed, so not both saw the other one closed
  pub w_ended : w.ended ≡ true → r.shut ≡ true
  pub r_ended : r.ended ≡ true → (w.shut ≡ true) × (r.seen ≡ w.count)
  pub one : w.ended ≡ true → r.ended ≡ true → ⊥

-- Each end of a pipe is known to one task at most, and to no other. Where a claim was refused somebody has the end.
pub record IsPipe (word : place.Location → ℕ) (items : ℕ → List Item) (p : ℕ) : Type 0 where
  pub writer : ℕ
  pub reader : ℕ
  pub w : End
  pub r : End
  pub writes : (t : ℕ) → end_of (write_end p) (items t) ≡ put (λ _. no_end) writer w t
  pub reads : (t : ℕ) → end_of (read_end p) (items t) ≡ put (λ _. no_end) reader r t
  pub writer_task : writer < TASKS
  pub reader_task : reader < TASKS
  pub refused_w : (t : ℕ) → was_refused (write_end p) (items t) ≡ true → w.mine ≡ true
  pub refused_r : (t : ℕ) → was_refused (read_end p) (items t) ≡ true → r.mine ≡ true
  pub flow : IsFlow word p w r

abbrev pub ArePipes : (place.Location → ℕ) → (ℕ → List Item) → Type 0
ArePipes word items = (p : ℕ) → p < PIPES → IsPipe word items p

-- What was got, with the bytes of the cells from the reader's count to the writer's, is what was sent; there are at
-- most `PIPE_CELLS` of these; nothing was sent after the write end was closed; a reader that saw it closed, and took
-- every cell that it saw, got all that was sent; and not both saw the other end closed while their own was not.
pub record Delivers (w r : End) : Type 0 where
  pub behind : r.count ≤ w.count
  pub room : w.count ≤ r.count + PIPE_CELLS
  pub flows : moved_bytes w ≡ moved_bytes r ++ bytes_in (take (w.count - r.count) (drop r.count w.cells))
  pub before : w.before ≡ w.count
  pub all : r.ended ≡ true → r.count ≡ r.seen → moved_bytes w ≡ moved_bytes r
  pub one : w.ended ≡ true → r.ended ≡ true → ⊥

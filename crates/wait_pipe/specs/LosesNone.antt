-- To be believed.
-- Nobody is left asleep at a pipe that has a cell for it.
use Rattle.std.specs.Prelude.{ℕ, ◌≡◌, ◌<◌, ◌+◌, ◌%◌, ◌==◌, ◌⊎◌, if◌then◌else◌, true, List}
use Rattle.wait_model.specs.{declared.watches.Entry.Entry, Tables.Table, Tasks.meets, Wakes.IsCovered, Wakes.Sleeps}
use Rattle.wait_model.specs.{Watches.mask_of, Watches.owner}
use Rattle.wait_model.specs.declared.layout.TheConstants.{CLAIMS, PIPE_CELLS, PIPE_ENDS}
use Rattle.wait_model.specs.declared.watches.Mode.TheVariants as mode
use Rattle.wait_model.specs.declared.watches.Watch.TheVariants as watch
use Rattle.wait_rule.specs.{declared.journal.Item.Item, Journals.Scene, Known.Known, LosesNone.IsCoveredByOther}
use Rattle.wait_rule.specs.Rule.{Law}
use Rattle.wait_rule.specs.Pipes.{End, end_of, other_end}
use Rattle.wait_pipe.specs.{Pieces.ShowsNoCell, Trails.ClosesEnd, Trails.PassesCells}

-- The owner of entry x has end k, and sleeps for a cell: for the word of the other end to be another than one that
-- showed it none, as each wait of `write_piece` and `read_piece` is (`AwaitsOther`).
pub record SleepsForCell (s : Table) (items : ℕ → List Item) (k x : ℕ) (e : Entry) : Type 0 where
  pub mine : (end_of k (items (owner x))).mine ≡ true
  pub word : ℕ
  pub none : ShowsNoCell k (end_of k (items (owner x))) word
  pub sleeps : Sleeps s x e (watch.Var (other_end k) word)

-- By what the tasks of both ends know of them: there is a cell for end k, or the other end is closed.
abbrev pub HasCell : ℕ → End → End → Type 0
HasCell k own other = (other.shut ≡ true) ⊎ ((if k % PIPE_ENDS == 0 then own.count else own.count + PIPE_CELLS)
    < other.count + PIPE_CELLS)

-- Task u has the other end of end k, and the owner of entry x sleeps for a cell while there is one, or while that end is
-- closed.
pub record SleepsBeside (s : Table) (items : ℕ → List Item) (k x : ℕ) (e : Entry) (u : ℕ) : Type 0 where
  pub asleep : SleepsForCell s items k x e
  pub mine : (end_of (other_end k) (items u)).mine ≡ true
  pub has : HasCell k (end_of k (items (owner x))) (end_of (other_end k) (items u))

-- Then some task owes the wake of it: in each scene that meets the rule. So nobody sleeps on a pipe that has room, or
-- bytes, but while a wake is unfinished.
abbrev pub PipesLoseNone : Type 0
PipesLoseNone = (c : Scene) (law : Law c) (k x : ℕ) (e : Entry) (u : ℕ) → k < CLAIMS
    → SleepsBeside law.table c.items k x e u → IsCovered law.table x e

-- And after a task has passed cells on by end k, or closed it, it is another one that owes it: in each scene that meets
-- the rule and has the task's list, of whoever sleeps at the other end.
abbrev pub LeavesNoneAtOther : ℕ → Known → Type 0
LeavesNoneAtOther k new = (c : Scene) (law : Law c) (x : ℕ) (e : Entry) (u : ℕ) → k < CLAIMS
    → c.items new.view.number ≡ new.view.items → SleepsBeside law.table c.items (other_end k) x e u
    → meets (mask_of mode.Normal) (law.table.task (owner x)).state ≡ true
    → IsCoveredByOther new.view.number law.table x e

abbrev pub PassesLoseNone : Type 0
PassesLoseNone = (k : ℕ) (old new : Known) (text : List ℕ) → PassesCells k old new text → LeavesNoneAtOther k new

abbrev pub ClosesLoseNone : Type 0
ClosesLoseNone = (k : ℕ) (old new : Known) → ClosesEnd k old new → LeavesNoneAtOther k new

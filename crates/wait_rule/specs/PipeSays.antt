-- To be believed.
-- What contracts say of the ends of pipes that a task has.
use Rattle.std.specs.Prelude.{ℕ, ◌≡◌, ◌≢◌, ◌+◌, ◌/◌, ◌%◌, ◌≤◌, true, false, length}
use Rattle.wait_model.specs.declared.layout.TheConstants.{PIPE_ENDS, PIPE_CELLS}
use Rattle.wait_rule.specs.Known.{Known}
use Rattle.wait_rule.specs.Pipes.{End, end_of, write_end, read_end}

-- the end of this number, as the task's list tells of it; and the two ends of a pipe
abbrev pub end_at : ℕ → Known → End
end_at k j = end_of k j.view.items

abbrev pub writing : ℕ → Known → End
writing p j = end_at (write_end p) j

abbrev pub reading : ℕ → Known → End
reading p j = end_at (read_end p) j

-- the task has the end and has not closed it
pub record IsOpen (e : End) : Type 0 where
  pub mine : e.mine ≡ true
  pub unshut : e.shut ≡ false

-- Of this end the task knows e now, and of each other one what it knew.
pub record EndBecomes (k : ℕ) (old new : Known) (e : End) : Type 0 where
  pub own : end_at k new ≡ e
  pub others : (j : ℕ) → j ≢ k → end_at j new ≡ end_at j old

-- of all ends it knows what it knew
abbrev pub EndsStay : Known → Known → Type 0
EndsStay old new = (j : ℕ) → end_at j new ≡ end_at j old

-- The counts of a write end, and of a read end: a writer stores in free cells alone, and a reader loads cells that were
-- passed on alone.
pub record IsSoundWrite (e : End) : Type 0 where
  pub seen : e.seen ≤ e.count
  pub count : e.count ≤ length e.cells
  pub room : length e.cells ≤ e.seen + PIPE_CELLS

pub record IsSoundRead (e : End) : Type 0 where
  pub count : e.count ≤ length e.cells
  pub there : length e.cells ≤ e.seen
  pub room : e.seen ≤ e.count + PIPE_CELLS

-- The counts of the end of this number, and that no more cells than a pipe has were stored or loaded since it passed
-- some on last.
pub record IsSoundEnd (k : ℕ) (e : End) : Type 0 where
  pub count : e.count ≤ length e.cells
  pub room : length e.cells ≤ e.count + PIPE_CELLS
  pub write : k % PIPE_ENDS ≡ 0 → IsSoundWrite e
  pub read : k % PIPE_ENDS ≡ 1 → IsSoundRead e

-- An end over a call that may load the other end's word: all else that the task knows of it stays.
pub record KeepsEnd (e f : End) : Type 0 where
  pub mine : f.mine ≡ e.mine
  pub shut : f.shut ≡ e.shut
  pub count : f.count ≡ e.count
  pub before : f.before ≡ e.before
  pub cells : f.cells ≡ e.cells

-- Ends over a call about a variable: each other end of its pipe keeps all but what was seen, and the ends of other
-- pipes stay.
pub record EndsKept (v : ℕ) (old new : Known) : Type 0 where
  pub keeps : (k : ℕ) → k ≢ v → KeepsEnd (end_at k old) (end_at k new)
  pub others : (k : ℕ) → k / PIPE_ENDS ≢ v / PIPE_ENDS → end_at k new ≡ end_at k old

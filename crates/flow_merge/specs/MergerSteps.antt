-- For proofs alone.
-- What the claims of a merger's ends and their closing leave of it.
use Rattle.std.specs.Prelude.{ℕ, ◌≡◌, ◌≢◌, ◌/◌, Bool, true, false, if◌then◌else◌, Some}
use Rattle.wait_model.specs.declared.layout.TheConstants.{PIPE_ENDS}
use Rattle.wait_rule.specs.{Aside.Grows, Known.Known, Says.Excuse, Says.OwesBut, Stays.with_end}
use Rattle.wait_rule.specs.Pipes.{closed, new_end, read_end, was_refused, write_end}
use Rattle.wait_rule.specs.PipeSays.{EndBecomes, IsOpen, end_at}
use Rattle.copy_plan.specs.declared.stop.Stop.TheVariants as stop
use Rattle.copy_plan.specs.declared.stop.WorkerEnd.{WorkerEnd}
use Rattle.copy_turns.specs.Work.{IsAtWork, SignalsStay, SumsStay}
use Rattle.flow_merge.specs.{declared.merger.Has.Has, Mergers.Merging}
use Rattle.flow_merge.specs.declared.TheConstants.{LEFT_PIPE, MERGED_PIPE, RIGHT_PIPE}

-- excused of an end where it has it
abbrev pub with_if : ℕ → Bool → Excuse → Excuse
with_if k true x = with_end k x
with_if k false x = x

pub record RestStays (old new : Known) : Type 0 where
  pub domain : new.domain ≡ old.domain
  pub grows : Grows old new
  pub sums : SumsStay old new
  pub signals : SignalsStay old new

-- a claim of end k, and whether it has it
pub record Claimed (k : ℕ) (got : Bool) (old new : Known) : Type 0 where
  pub rests : RestStays old new
  pub work : IsAtWork new
  pub owes : (x : Excuse) → OwesBut x old → OwesBut (with_if k got x) new
  pub becomes : EndBecomes k old new (if got then new_end else end_at k old)
  pub refused : got ≡ false → was_refused k new.view.items ≡ true

-- end k was closed where it has it
pub record Shut (k : ℕ) (got : Bool) (old new : Known) : Type 0 where
  pub rests : RestStays old new
  pub work : IsAtWork new
  pub owes : (x : Excuse) → OwesBut (with_if k got x) old → OwesBut x new
  pub own : end_at k new ≡ (if got then closed (end_at k old) else end_at k old)
  pub others : (j : ℕ) → j / PIPE_ENDS ≢ k / PIPE_ENDS → end_at j new ≡ end_at j old
  pub claims : (j : ℕ) → (end_at j new).mine ≡ (end_at j old).mine

pub record OpensEnds (old new : Known) (has : Has) : Type 0 where
  pub one : Known
  pub two : Known
  pub left : Claimed (read_end LEFT_PIPE) has.left old one
  pub right : Claimed (read_end RIGHT_PIPE) has.right one two
  pub pen : Claimed (write_end MERGED_PIPE) has.pen two new

pub record ShutsEnds (old new : Known) (has : Has) : Type 0 where
  pub one : Known
  pub two : Known
  pub pen : Shut (write_end MERGED_PIPE) has.pen old one
  pub right : Shut (read_end RIGHT_PIPE) has.right one two
  pub left : Shut (read_end LEFT_PIPE) has.left two new

-- the ends that it has are not closed
pub record HoldsOpen (k : Known) (has : Has) : Type 0 where
  pub left : has.left ≡ true → IsOpen (end_at (read_end LEFT_PIPE) k)
  pub right : has.right ≡ true → IsOpen (end_at (read_end RIGHT_PIPE) k)
  pub pen : has.pen ≡ true → IsOpen (end_at (write_end MERGED_PIPE) k)

-- turns where it has all of them; it did nothing where it lacks one
abbrev pub MergesIf : Bool → Known → Known → WorkerEnd → Type 0
MergesIf false old new ended = (new ≡ old) × (ended ≡ record { stop = stop.Taken; moved = 0 })
MergesIf true old new ended = Merging old new 0 ended.moved (Some ended.stop)

-- To be believed.
-- The program of a merger: what it makes, from its first step to its last, is whole calls one behind the other.
use Rattle.std.specs.Prelude.{ℕ, ◌≡◌, ◌==◌, ◌&&◌, if◌then◌else◌, Bool, true, false}
use Rattle.std.specs.Prelude.{Option, None, Some, Result, Err, List}
use Rattle.wait_model.specs.declared.tasks.SleepState.TheVariants as state
use Rattle.wait_model.specs.declared.watches.Watch.TheVariants as watch
use Rattle.wait_rule.specs.{Known.Known, Pipes.read_end, Pipes.write_end}
use Rattle.wait_pipe.specs.{declared.peeks.PipeState.PipeState, PipeStates.PeeksRead, Trails.ClosesEnd}
use Rattle.poll_wait.specs.{declared.turns.Poll.Poll, declared.turns.PollEnd.PollEnd, declared.turns.Ready.Ready}
use Rattle.poll_wait.specs.Polls.{EndsPoll}
use Rattle.poll_wait.specs.declared.turns.PollEnd.TheVariants as poll_end
use Rattle.copy_plan.specs.declared.stop.Stop.{Stop}
use Rattle.copy_plan.specs.declared.stop.Stop.TheVariants as stop
use Rattle.copy_turns.specs.Work.{TookOwn}
use Rattle.flow_copy.specs.Workers.{ClaimsEnd, GetsAnd, RelaysPiece, ThenCompletes}
use Rattle.flow_merge.specs.{declared.merger.Has.Has, declared.sides.Found.Found, declared.sides.Side.Side}
use Rattle.flow_merge.specs.Passed.{side_pipe}
use Rattle.flow_merge.specs.declared.TheConstants.{LEFT_PIPE, MERGED_PIPE, RIGHT_PIPE}
use Rattle.flow_merge.specs.declared.sides.Found.TheVariants as found
use Rattle.flow_merge.specs.declared.sides.Side.TheVariants as sides

-- what two looks find: cells on the left side, or else on the right one, or both sides at their ends, or neither
abbrev pub found_in : PipeState → PipeState → Found
found_in l r = if l.cells == 0
    then (if r.cells == 0 then (if l.closed then (if r.closed then found.Ended else found.Nothing l.word r.word)
    else found.Nothing l.word r.word) else found.Cells sides.Right)
    else found.Cells sides.Left

-- a look at each side, the left one first
pub record LooksBoth (old new : Known) (f : Found) : Type 0 where
  pub mid : Known
  pub left : PipeState
  pub right : PipeState
  pub looks_left : PeeksRead (read_end LEFT_PIPE) old mid left
  pub looks_right : PeeksRead (read_end RIGHT_PIPE) mid new right
  pub finds : f ≡ found_in left right

-- It waits, interruptibly, until the word of one of the two writers is another than the one that it saw.
abbrev pub both_words : ℕ → ℕ → Poll
both_words left right = record {
  first = watch.Var (write_end LEFT_PIPE) left;
  second = watch.Var (write_end RIGHT_PIPE) right;
  state = state.Interruptible;
}

abbrev pub poll_stop : Result Ready PollEnd → Option Stop
poll_stop (Err (poll_end.Worn h p)) = Some (stop.Worn h p)
poll_stop _ = None

-- A piece is passed on from a side; where none is there after all, the next turn looks again.
abbrev pub goes_behind : Option Stop → Option Stop
goes_behind (Some stop.Finished) = None
goes_behind how = how

pub record PassesFrom (s : Side) (old new : Known) (how : Option Stop) : Type 0 where
  pub piece : List ℕ
  pub ended : Option Stop
  pub gets : GetsAnd (read_end (side_pipe s)) (RelaysPiece MERGED_PIPE) old new piece ended
  pub on : how ≡ goes_behind ended

-- A turn: the own signals are taken, and where no fatal one was among them both sides are looked at; then a piece is
-- passed on from a side that has cells, or both sides are at their ends, or it waits for one of them.
pub data MergerTurn (old new : Known) : Option Stop → Type 0 where
  merger_killed : TookOwn old new true → MergerTurn old new (Some stop.Killed)
  sides_ended : (own : Known) → TookOwn old own false → LooksBoth own new found.Ended
      → MergerTurn old new (Some stop.Finished)
  side_passes : (own looked : Known) (s : Side) (how : Option Stop) → TookOwn old own false
      → LooksBoth own looked (found.Cells s) → PassesFrom s looked new how → MergerTurn old new how
  sides_wait : (own looked : Known) (left right : ℕ) (result : Result Ready PollEnd) → TookOwn old own false
      → LooksBoth own looked (found.Nothing left right) → EndsPoll (both_words left right) looked new result
      → MergerTurn old new (poll_stop result)

-- turns one after another, after each of which but the last it went on
pub data MergerTurns (old : Known) : Known → Option Stop → Type 0 where
  no_turn : MergerTurns old old None
  a_turn : (mid new : Known) (how : Option Stop) → MergerTurns old mid None → MergerTurn mid new how
      → MergerTurns old new how

-- It claims its three ends, one after another, and has those that `has` says.
pub record ClaimsEnds (old new : Known) (has : Has) : Type 0 where
  pub one : Known
  pub two : Known
  pub left : ClaimsEnd (read_end LEFT_PIPE) old one has.left
  pub right : ClaimsEnd (read_end RIGHT_PIPE) one two has.right
  pub pen : ClaimsEnd (write_end MERGED_PIPE) two new has.pen

-- and closes those that it has
abbrev pub ClosesIf : ℕ → Bool → Known → Known → Type 0
ClosesIf k false old new = new ≡ old
ClosesIf k true old new = ClosesEnd k old new

pub record ClosesEnds (old new : Known) (has : Has) : Type 0 where
  pub one : Known
  pub two : Known
  pub pen : ClosesIf (write_end MERGED_PIPE) has.pen old one
  pub right : ClosesIf (read_end RIGHT_PIPE) has.right one two
  pub left : ClosesIf (read_end LEFT_PIPE) has.left two new

-- turns where it has all its ends, and none where it lacks one
abbrev pub TurnsIf : Bool → Known → Known → Stop → Type 0
TurnsIf false old new how = (new ≡ old) × (how ≡ stop.Taken)
TurnsIf true old new how = MergerTurns old new (Some how)

-- The work, from the claims of its ends to their closing.
pub record MergerWorks (old new : Known) (how : Stop) : Type 0 where
  pub has : Has
  pub claimed : Known
  pub last : Known
  pub claims : ClaimsEnds old claimed has
  pub turns : TurnsIf (has.left && (has.right && has.pen)) claimed last how
  pub closes : ClosesEnds last new has

-- And the last thing that it does is to complete the completion of the merge.
abbrev pub MergerGoes : Known → Known → Stop → Type 0
MergerGoes old new how = ThenCompletes (λ a b. MergerWorks a b how) old new

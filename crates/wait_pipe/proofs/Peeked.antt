-- What a look at a pipe from its read end tells, with nothing taken.
use Rattle.std.proofs.Common.{arith, refl, sym}
use Rattle.std.specs.Prelude.{ℕ, ◌≡◌, ◌≤◌, ◌+◌, ◌-◌, ◌%◌}
use Rattle.wait_model.specs.declared.layout.TheConstants.{PIPE_CELLS}
use Rattle.wait_rule.specs.{Known.Known, Pipes.read_end, Pipes.word_counts, PipeSays.reading}
use Rattle.wait_pipe.specs.{declared.looks.Look.Look, declared.peeks.PipeState.PipeState, Pieces.HasSeen}
use Rattle.wait_pipe.specs.{Pieces.IsSettled, PipeStates.PeeksRead, PipeStates.TellsOfPipe, Trails.LoadsOther}
use Rattle.wait_pipe.proofs.Fills.{at_end, look_shows, none_there, there_is}

module _ (p : ℕ) (old new : Known) (l : Look) (seen : HasSeen (read_end p) new l) (settled : IsSettled (reading p new))
    (there : ℕ) (is : there ≡ (l.other + word_counts - l.own) % word_counts) where
  abbrev state : PipeState
  state = record { word = l.word; cells = there; closed = l.closed }

  counted : there + (reading p new).count ≡ (reading p new).seen
  counted = let all = there_is p seen settled is in let passed = settled.passed in omega arith

  fits : there ≤ PIPE_CELLS
  fits =
      let sound = seen.sound.read (omega arith) in
      let room = sound.room in
      let all = counted in
      omega arith

  pub tells_so : TellsOfPipe p new state
  tells_so = record {
    cells = counted;
    room = fits;
    closed = sym seen.ended;
    at_end = at_end p seen settled is;
    none = none_there p seen settled is;
  }

  pub peeks_so : LoadsOther (read_end p) l.word old new → PeeksRead (read_end p) old new state
  peeks_so loads = record {
    looks = look_shows seen old loads;
    word = refl;
    cells = counted;
    room = fits;
    closed = seen.closes;
  }

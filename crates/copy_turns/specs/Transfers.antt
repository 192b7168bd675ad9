-- To be believed.
-- What parts of a worker's turn make: whole calls one behind the other, each by its own trail.
use Rattle.std.specs.Prelude.{ℕ, ◌≡◌, Bool, true, false, Result, Ok, Err, List, [], ◌∷◌, drop}
use Rattle.wait_rule.specs.{Aside.Raised, Known.Known, Says.HasSignalled}
use Rattle.wait_pipe.specs.declared.pieces.PipeEnd.TheVariants as pipe_end
use Rattle.wait_pipe.specs.Trails.{ReadsPiece, WritesPiece}
use Rattle.copy_plan.specs.declared.stop.Halt.{Halt}
use Rattle.copy_plan.specs.declared.stop.Halt.TheVariants as halt
use Rattle.copy_turns.specs.Work.{TookOwn}

-- such parts one after another, as many as there are
pub data Again (Part : Known → Known → Type 0) (old : Known) : Known → Type 0 where
  no_part : Again Part old old
  one_more : (mid new : Known) → Again Part old mid → Part mid new → Again Part old new

-- A signal ended a call that waited, and the task took its own ones behind it: whether a fatal one was among them.
pub record Heard (Ended : Known → Known → Type 0) (old new : Known) (fatal : Bool) : Type 0 where
  pub mid : Known
  pub ended : Ended old mid
  pub own : TookOwn mid new fatal

-- A call that waits, again as long as signals end it of which none is fatal; and how it ends the last time.
pub record Repeats (Ended Last : Known → Known → Type 0) (old new : Known) : Type 0 where
  pub last : Known
  pub again : Again (λ a b. Heard Ended a b false) old last
  pub ends : Last last new

-- a `write_piece` and a `read_piece` that a signal ended
abbrev pub InterruptedWrite : ℕ → List ℕ → Known → Known → Type 0
InterruptedWrite k text old new = (seen : ℕ) × WritesPiece k old new text (Err (pipe_end.Interrupted seen))

abbrev pub InterruptedRead : ℕ → Known → Known → Type 0
InterruptedRead k old new = (seen : ℕ) × (buf : List ℕ) × ReadsPiece k old new buf (Err (pipe_end.Interrupted seen))

-- By calls of `write_piece` at end k, each with all that was left of the text, some of the text was put into the pipe,
-- and this is left now: each took a front, or was ended by a signal, and none of these was fatal.
pub data Puts (k : ℕ) (text : List ℕ) (old : Known) : List ℕ → Known → Type 0 where
  all_left : Puts k text old text old
  took_front : (mid new : Known) (left : List ℕ) (n : ℕ) → Puts k text old left mid → WritesPiece k mid new left (Ok n)
      → Puts k text old (drop n left) new
  heard_again : (mid new : Known) (left : List ℕ) → Puts k text old left mid
      → Heard (InterruptedWrite k left) mid new false → Puts k text old left new

-- The last call: there is none where all is in.
abbrev pub LastPuts : ℕ → List ℕ → Result (Unit {0}) Halt → Known → Known → Type 0
LastPuts k left (Ok u) old new = (left ≡ []) × (new ≡ old)
LastPuts k left (Err halt.Broken) old new = WritesPiece k old new left (Err pipe_end.Broken)
LastPuts k left (Err halt.Killed) old new = Heard (InterruptedWrite k left) old new true
LastPuts k left (Err (halt.Worn h p)) old new = WritesPiece k old new left (Err (pipe_end.Worn h p))

pub record PutsWhole (k : ℕ) (old new : Known) (text : List ℕ) (r : Result (Unit {0}) Halt) : Type 0 where
  pub left : List ℕ
  pub last : Known
  pub puts : Puts k text old left last
  pub ends : LastPuts k left r last new

-- A piece that is got at end k: by the last of such calls of `read_piece`.
abbrev pub LastGets : ℕ → List ℕ → Result ℕ Halt → Known → Known → Type 0
LastGets k buf (Ok n) old new = ReadsPiece k old new buf (Ok n)
LastGets k buf (Err halt.Broken) old new = ⊥
LastGets k buf (Err halt.Killed) old new = Heard (InterruptedRead k) old new true
LastGets k buf (Err (halt.Worn h p)) old new = ReadsPiece k old new buf (Err (pipe_end.Worn h p))

abbrev pub GetsPiece : ℕ → Known → Known → List ℕ → Result ℕ Halt → Type 0
GetsPiece k old new buf r = Repeats (InterruptedRead k) (LastGets k buf r) old new

-- signals that are sent, one after another
abbrev pub SendsEach : List Raised → Known → Known → Type 0
SendsEach [] old new = new ≡ old
SendsEach (r ∷ rs) old new = (mid : Known) × HasSignalled old mid r.who r.fatal × SendsEach rs mid new

-- To be believed.
-- Whole calls on pipes as lists of events and cells: what each makes follows its sentence, and the answer is the one
-- that the sentence gives.
use Rattle.std.specs.Prelude.{ℕ, zero, suc, ◌≡◌, ◌<◌, ◌≤◌, ◌+◌, ◌/◌, ◌%◌, ◌++◌, true, false, ◌==◌, Result, Ok, Err}
use Rattle.std.specs.Prelude.{List, [], ◌∷◌, length, take}
use Rattle.wait_model.specs.{declared.layout.TheConstants.PIPE_CELLS, declared.calls.Answer.Answer}
use Rattle.wait_model.specs.{declared.calls.Event.Event, declared.queues.Walked.Walked, Programs.signalled}
use Rattle.wait_model.specs.{Programs.zero_answer, Sentences.Follows, Watches.number_of}
use Rattle.wait_model.specs.declared.calls.Answer.TheVariants as answer
use Rattle.wait_model.specs.declared.calls.Call.TheVariants as calls
use Rattle.wait_model.specs.declared.calls.Event.TheVariants as event
use Rattle.wait_model.specs.declared.tasks.SleepState.TheVariants as state
use Rattle.wait_model.specs.declared.watches.Watch.TheVariants as watch
use Rattle.wait_rule.specs.{Heeding.EndsSignalled, Heeding.trail_of, Known.Known, PipeSays.end_at, Says.MeetsLaw}
use Rattle.wait_rule.specs.Pipes.{End, bytes_in, end_word, other_end, word_counts}
use Rattle.wait_event.specs.Words.{call_says}
use Rattle.wait_pipe.specs.{declared.pieces.PipeEnd.PipeEnd, declared.peeks.PipeState.PipeState, Pieces.ShowsNoCell}
use Rattle.wait_pipe.specs.PipeStates.{PeeksRead}
use Rattle.wait_pipe.specs.Trails.{ClosesEnd, ReadEnds, ReadsPiece, WaitingTurn, WaitingTurns, WriteEnds, WritesPiece}
use Rattle.wait_pipe.specs.declared.pieces.PipeEnd.TheVariants as pipe_end

-- What a task makes at an end of a pipe, in the order in which it comes: events of the model; and cells, which it stores
-- at a write end and loads at a read end, and which are none.
pub data Deed : Type 0 where
  an_event : Event → Deed
  a_cell : ℕ → Deed

abbrev pub all_events : List Event → List Deed
all_events [] = []
all_events (e ∷ es) = an_event e ∷ all_events es

abbrev pub all_cells : List ℕ → List Deed
all_cells [] = []
all_cells (w ∷ ws) = a_cell w ∷ all_cells ws

-- a load of the word of the other end of end k, which finds w
abbrev pub loads_other : ℕ → ℕ → Deed
loads_other k w = an_event (event.Load (number_of (watch.Var (other_end k) 0)) w)

-- what is answered where no cell was passed on, as an answer of the wait
abbrev pub wait_answer : PipeEnd → Answer
wait_answer pipe_end.Broken = zero_answer
wait_answer (pipe_end.Interrupted seen) = signalled
wait_answer (pipe_end.Worn head place) = answer.Worn

-- The sentences. `me` is the task, k its end, and `own` what it knew of that end before the call.
-- One turn that waits: a load of the other end's word, which shows that end open and no cell for the own one; and then
-- the sentence of an interruptible wait for that word to be another, with this answer.
pub record TurnWaits (me k : ℕ) (own : End) (a : Answer) (said : List Deed) : Type 0 where
  pub word : ℕ
  pub none : ShowsNoCell k own word
  pub waited : List Event
  pub follows : Follows me (calls.WaitVar (other_end k) word state.Interruptible) waited a
  pub is : said ≡ loads_other k word ∷ all_events waited

-- such turns in which the word changed, one after the other
abbrev pub TurnsWait : ℕ → ℕ → End → List (List Deed) → Type 0
TurnsWait me k own [] = Unit {0}
TurnsWait me k own (t ∷ ts) = TurnWaits me k own zero_answer t × TurnsWait me k own ts

-- Cells are passed on: a load of the other end's word, which shows this count of cells; the cells, of these bytes; and
-- then the sentence of a store of the own word, which counts the cells and shows the end open, with a wake of who waits
-- for it: a look for members, and a walk only where that found some.
pub record TurnPasses (me k : ℕ) (own : End) (text : List ℕ) (said : List Deed) : Type 0 where
  pub word : ℕ
  pub seen : ℕ
  pub shown : word / 2 % word_counts ≡ seen % word_counts
  pub cells : List ℕ
  pub bytes : bytes_in cells ≡ text
  pub walked : Walked
  pub woken : List Event
  pub follows : Follows me (calls.SetVar k (end_word (own.count + length cells) false)) woken (answer.Walk walked)
  pub is : said ≡ loads_other k word ∷ (all_cells cells ++ all_events woken)

-- The last turn of a write of this text that answers n: the read end is open, and n bytes go into cells, 7 into each but
-- the last: as many as there are bytes for, or as are free.
pub record TurnFills (me k : ℕ) (own : End) (text : List ℕ) (n : ℕ) (said : List Deed) : Type 0 where
  pub passes : TurnPasses me k own (take n text) said
  pub unended : passes.word % 2 ≡ 0
  pub some : 0 < n
  pub dense : length passes.cells ≡ (n + 6) / 7
  pub room : own.count + length passes.cells ≤ passes.seen + PIPE_CELLS
  pub full : n < length text → own.count + length passes.cells ≡ passes.seen + PIPE_CELLS

-- The last turn of a read into a buffer that answers some n: cells are taken that are there, of n bytes, and all of them
-- but where fewer than 7 bytes of the buffer are left.
pub record TurnDrains (me k : ℕ) (own : End) (buf : List ℕ) (n : ℕ) (said : List Deed) : Type 0 where
  pub passes : TurnPasses me k own (take n buf) said
  pub there : own.count + length passes.cells ≤ passes.seen
  pub all : n + 7 ≤ length buf → own.count + length passes.cells ≡ passes.seen

-- a load that shows the other end closed, and this count of its cells
pub record SaysClosed (k seen : ℕ) (said : List Deed) : Type 0 where
  pub word : ℕ
  pub shown : word / 2 % word_counts ≡ seen % word_counts
  pub ended : word % 2 ≡ 1
  pub is : said ≡ loads_other k word ∷ []

-- A look that takes nothing: a load of the other end's word, which shows this many cells, at most a pipe full, beyond
-- those that the own end has passed on, and whether that end is closed.
pub record SaysState (k : ℕ) (own : End) (s : PipeState) (said : List Deed) : Type 0 where
  pub shown : s.word / 2 % word_counts ≡ (own.count + s.cells) % word_counts
  pub room : s.cells ≤ PIPE_CELLS
  pub closed : s.closed ≡ (s.word % 2 == 1)
  pub is : said ≡ loads_other k s.word ∷ []

abbrev pub LastWrites : ℕ → ℕ → End → List ℕ → Result ℕ PipeEnd → List Deed → Type 0
LastWrites me k own text (Ok n) said = TurnFills me k own text n said
LastWrites me k own text (Err pipe_end.Broken) said = (seen : ℕ) × SaysClosed k seen said
LastWrites me k own text (Err e) said = TurnWaits me k own (wait_answer e) said

abbrev pub LastReads : ℕ → ℕ → End → List ℕ → Result ℕ PipeEnd → List Deed → Type 0
LastReads me k own buf (Ok zero) said = SaysClosed k own.count said
LastReads me k own buf (Ok (suc n)) said = TurnDrains me k own buf (suc n) said
LastReads me k own buf (Err e) said = TurnWaits me k own (wait_answer e) said

-- turn by turn
abbrev pub in_order : List (List Deed) → List Deed
in_order [] = []
in_order (t ∷ ts) = t ++ in_order ts

-- a whole call: turns that wait, and a last one
pub record SaysPiece (me k : ℕ) (own : End) (Last : List Deed → Type 0) (said : List Deed) : Type 0 where
  pub turns : List (List Deed)
  pub last : List Deed
  pub waits : TurnsWait me k own turns
  pub ends : Last last
  pub is : said ≡ in_order turns ++ last

-- What a call has made, as such a list, by what it says of itself.
abbrev pub turn_said : (k : ℕ) (old new : Known) (r : Result (Unit {0}) PipeEnd) → WaitingTurn k old new r → List Deed
turn_said k old new r t = loads_other k t.word ∷ all_events (call_says t.looked.view.number
    (calls.WaitVar (other_end k) t.word state.Interruptible) t.waits.waits.runs.transitions)

abbrev pub turns_said : (k : ℕ) (old : Known) (ts : List Known) (new : Known) → WaitingTurns k old ts new
    → List (List Deed)
turns_said k old [] new w = []
turns_said k old (t ∷ ts) new w = turn_said k old t (Ok tt) w.0 ∷ turns_said k t ts new w.1

abbrev pub write_said : (k : ℕ) (old new : Known) (text : List ℕ) (r : Result ℕ PipeEnd) → WriteEnds k old new text r
    → List Deed
write_said k old new text (Ok n) e =
    let p = e.stores.passes in
    loads_other k e.looks.word ∷ (all_cells p.cells ++ all_events (call_says e.looked.view.number
    (calls.SetVar k (end_word ((end_at k e.looked).count + length p.cells) false)) p.publishes.runs.transitions))
write_said k old new text (Err pipe_end.Broken) e = loads_other k e.looks.word ∷ []
write_said k old new text (Err (pipe_end.Interrupted seen)) e =
    turn_said k old new (Err (pipe_end.Interrupted seen)) e
write_said k old new text (Err (pipe_end.Worn head place)) e = turn_said k old new (Err (pipe_end.Worn head place)) e

abbrev pub read_said : (k : ℕ) (old new : Known) (buf : List ℕ) (r : Result ℕ PipeEnd) → ReadEnds k old new buf r
    → List Deed
read_said k old new buf (Ok zero) e = loads_other k e.closed.looks.word ∷ []
read_said k old new buf (Ok (suc n)) e =
    let p = e.loads.passes in
    loads_other k e.looks.word ∷ (all_cells p.cells ++ all_events (call_says e.looked.view.number
    (calls.SetVar k (end_word ((end_at k e.looked).count + length p.cells) false)) p.publishes.runs.transitions))
read_said k old new buf (Err e) t = turn_said k old new (Err e) t

abbrev pub writes_said : (k : ℕ) (old new : Known) (text : List ℕ) (r : Result ℕ PipeEnd)
    → WritesPiece k old new text r → List Deed
writes_said k old new text r w = in_order (turns_said k old w.turns w.last w.waits)
    ++ write_said k w.last new text r w.ends

abbrev pub reads_said : (k : ℕ) (old new : Known) (buf : List ℕ) (r : Result ℕ PipeEnd)
    → ReadsPiece k old new buf r → List Deed
reads_said k old new buf r w = in_order (turns_said k old w.turns w.last w.waits) ++ read_said k w.last new buf r w.ends

abbrev pub peek_said : (k : ℕ) (old new : Known) (s : PipeState) → PeeksRead k old new s → List Deed
peek_said k old new s e = loads_other k e.looks.word ∷ []

-- A write and a read of a piece, whatever they answer; a load of the base word after the call (`Task::witness`) shows
-- the table that is asked for.
abbrev pub WritesFollow : Type 0
WritesFollow = (k : ℕ) (old new : Known) (text : List ℕ) (r : Result ℕ PipeEnd) → MeetsLaw new.view
    → (w : WritesPiece k old new text r)
    → SaysPiece old.view.number k (end_at k old) (LastWrites old.view.number k (end_at k old) text r)
    (writes_said k old new text r w)

abbrev pub ReadsFollow : Type 0
ReadsFollow = (k : ℕ) (old new : Known) (buf : List ℕ) (r : Result ℕ PipeEnd) → MeetsLaw new.view
    → (w : ReadsPiece k old new buf r)
    → SaysPiece old.view.number k (end_at k old) (LastReads old.view.number k (end_at k old) buf r)
    (reads_said k old new buf r w)

-- A look that takes nothing, in any table.
abbrev pub PeeksFollow : Type 0
PeeksFollow = (k : ℕ) (old new : Known) (s : PipeState) (e : PeeksRead k old new s)
    → SaysState k (end_at k old) s (peek_said k old new s e)

-- A close: a store of the own word, which counts what was passed on and shows the end closed, with a wake as above.
abbrev pub ClosesFollow : Type 0
ClosesFollow = (k : ℕ) (old new : Known) → MeetsLaw new.view → (c : ClosesEnd k old new)
    → Follows old.view.number (calls.SetVar k (end_word (end_at k old).count true))
    (call_says old.view.number (calls.SetVar k (end_word (end_at k old).count true)) c.1.runs.transitions)
    (answer.Walk c.1.real)

-- A turn that a signal ended ends as the law on signals says: so does a call that answers Interrupted, whose last turn is
-- such a one.
abbrev pub TurnsHeed : Type 0
TurnsHeed = (k seen : ℕ) (old new : Known) (t : WaitingTurn k old new (Err (pipe_end.Interrupted seen)))
    → EndsSignalled t.looked.view.number (calls.WaitVar (other_end k) t.word state.Interruptible)
    (trail_of [] (call_says t.looked.view.number (calls.WaitVar (other_end k) t.word state.Interruptible)
    t.waits.waits.runs.transitions))

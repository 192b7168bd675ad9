-- What parts of turns, turns and whole tasks of a copy make, one behind the other.
use Rattle.std.proofs.Common.{sym, ◌∙◌, ap, subst, arith, length-append}
use Rattle.std.specs.Prelude.{ℕ, ◌≡◌, ◌==◌, ◌+◌, ◌<◌, ◌≤◌, ◌++◌, Bool, true, false, Option, None, Some, Result, Ok, Err}
use Rattle.std.specs.Prelude.{List, [], length, take}
use Rattle.std.specs.Io.KnownBytes.{prepend_known}
use Rattle.atomic_table.specs.Seated.{TableId}
use Rattle.wait_rule.specs.declared.journal.EndAct.TheVariants as act
use Rattle.wait_rule.specs.declared.journal.Item.TheVariants as item
use Rattle.wait_rule.specs.{Journals.has_of, Known.Known, Pipes.write_end, Says.added, Says.newcomer}
use Rattle.wait_pipe.specs.Trails.{ClosesEnd}
use Rattle.bit_wait.specs.{declared.wait_calls.BitEnd.BitEnd}
use Rattle.bit_wait.specs.declared.wait_calls.BitEnd.TheVariants as bit_end
use Rattle.page_lock.specs.PageEnds.{EndsPageLock}
use Rattle.wait_model.specs.declared.tasks.SleepState.TheVariants as state
use Rattle.copy_plan.specs.{declared.plan.Planned.Planned, declared.stop.Halt.Halt, declared.stop.ReaderEnd.ReaderEnd}
use Rattle.copy_plan.specs.{declared.stop.Stop.Stop, declared.stop.WorkerEnd.WorkerEnd, Plans.due_in, Stops.stop_of}
use Rattle.copy_plan.specs.declared.TheConstants.{COUNTED_PAGE, LONGEST, SINK_PIPE, SOURCE_PIPE}
use Rattle.copy_plan.specs.declared.stop.Stop.TheVariants as stop
use Rattle.copy_turns.specs.{Raises.sent_to, Watched.IsPiece, Work.TookOwn}
use Rattle.copy_turns.specs.Transfers.{Again, GetsPiece, Heard, SendsEach}
use Rattle.copy_turns.proofs.ReaderTurns.{prepend_none, prepend_twice}
use Rattle.copy_ends.specs.Copied.{worker_numbers}
use Rattle.flow_copy.proofs.Awaits.{locked_end}
use Rattle.flow_copy.specs.PageWaits.{InterruptedWait}
use Rattle.flow_copy.specs.Workers.{ClaimsEnd, ControllerGoes, CountsBytes, FollowsPrograms, FromSource}
use Rattle.flow_copy.specs.Workers.{GetsAnd, HandsBytes, ReaderGoes, ReaderTurn, ReaderTurns, ReaderWorks, ReadsLocked}
use Rattle.flow_copy.specs.Workers.{RelayGoes, RelayTurn, RelayTurns, SinksPiece, WriterGoes, WriterTurn, WriterTurns}
use Rattle.flow_copy.specs.Workers.{a_turn, get_halted, pipe_ended, reader_hands, reader_works, sink_took, source_long}
use Rattle.flow_copy.specs.Workers.{stops_by}

-- waits for the page so far
abbrev pub Waited : Known → Known → Type 0
Waited a b = Again (λ x y. Heard InterruptedWait x y false) a b

-- bytes that are counted, by their number
pub counts_length : (n : ℕ) (buf : List ℕ) (a b : Known) (r : Result (Unit {0}) Halt) → n ≡ length (take n buf)
    → CountsBytes n a b r → CountsBytes (length (take n buf)) a b r
counts_length n buf a b r size = subst (λ (m : ℕ). CountsBytes m a b r) size

-- a worker that gets pieces
module _ (k : ℕ) (Passes : List ℕ → Known → Known → Option Stop → Type 0) (b c : Known) (buf : List ℕ) where
  pub get_halts : (h : Halt) (how : Stop) → GetsPiece k b c buf (Err h) → how ≡ stop_of h
      → GetsAnd k Passes b c [] (Some how)
  get_halts h how gets is = subst (λ (s : Stop). GetsAnd k Passes b c [] (Some s)) (sym is) (get_halted buf h gets)

  pub get_ends : (n : ℕ) → GetsPiece k b c buf (Ok n) → n ≡ 0 → GetsAnd k Passes b c [] (Some stop.Finished)
  get_ends n gets none = pipe_ended buf (subst (λ (m : ℕ). GetsPiece k b c buf (Ok m)) none gets)

pub sinks_halted : (piece : List ℕ) (a b : Known) (h : Halt) (how : Stop) → CountsBytes (length piece) a b (Err h)
    → how ≡ stop_of h → SinksPiece piece a b (Some how)
sinks_halted piece a b h how counts is = subst (λ (s : Stop). SinksPiece piece a b (Some s)) (sym is)
    (sink_took (Err h) counts)

pub sinks_whole : (piece : List ℕ) (a b : Known) → CountsBytes (length piece) a b (Ok tt) → SinksPiece piece a b None
sinks_whole piece a b counts = sink_took (Ok tt) counts

-- What a source gave: nothing; or the first bytes of a buffer.
pub gave_none : (left : Option (List ℕ)) (read : ℕ) (Made : List ℕ → Type 0) → Made []
    → FromSource left left read read Made
gave_none left read Made made = record { bytes = []; left = prepend_none left; read = omega arith; made = made }

pub gave_nothing : (l0 l1 : Option (List ℕ)) (read : ℕ) (Made : List ℕ → Type 0) → l0 ≡ prepend_known [] l1 → Made []
    → FromSource l0 l1 read read Made
gave_nothing l0 l1 read Made left made = record { bytes = []; left = left; read = omega arith; made = made }

module _ (q : ℕ) (targets : List ℕ) (plan : List Planned) (read n : ℕ) (buf : List ℕ) (l0 l1 : Option (List ℕ))
    (a b c : Known) (own : TookOwn a b false) (same : read + n ≡ read + length (take n buf))
    (left : l0 ≡ prepend_known (take n buf) l1) (some : IsPiece (take n buf))
    (sends : SendsEach (sent_to targets (due_in (read + 1) (read + n) plan)) b c) where
  sends_due : SendsEach (sent_to targets (due_in (read + 1) (read + length (take n buf)) plan)) b c
  sends_due = subst (λ (m : ℕ). SendsEach (sent_to targets (due_in (read + 1) m plan)) b c) same sends

  pub gave_long : LONGEST < read + n
      → FromSource l0 l1 read (read + n) (λ piece. ReaderTurn q targets plan read a c piece (Some stop.Long))
  gave_long long = record {
    bytes = take n buf;
    left = left;
    read = same;
    made = source_long b (take n buf) own some sends_due (subst (λ (m : ℕ). LONGEST < m) same long);
  }

  pub gave_piece : read + n ≤ LONGEST → (d : Known) (r : Result (Unit {0}) Halt)
      → HandsBytes (write_end q) c d (take n buf) r
      → FromSource l0 l1 read (read + n) (λ piece. ReaderTurn q targets plan read a d piece (stops_by r))
  gave_piece fits d r hands = record {
    bytes = take n buf;
    left = left;
    read = same;
    made = reader_hands b c (take n buf) r own some (subst (λ (m : ℕ). m ≤ LONGEST) same fits) sends_due hands;
  }

  pub gave_halted : read + n ≤ LONGEST → (d : Known) (h : Halt) (how : Stop)
      → HandsBytes (write_end q) c d (take n buf) (Err h) → how ≡ stop_of h → FromSource l0 l1 read (read + n) (λ piece. ReaderTurn q targets plan read a d piece (Some how))
  gave_halted fits d h how hands is = subst
      (λ (s : Stop). FromSource l0 l1 read (read + n) (λ piece. ReaderTurn q targets plan read a d piece (Some s)))
      (sym is) (gave_piece fits d (Err h) hands)

-- a turn behind others
module _ (q : ℕ) (targets : List ℕ) (plan : List Planned) (r0 r1 r2 : ℕ) (l0 l1 l2 : Option (List ℕ)) (a b c : Known)
    (how : Option Stop) where
  pub gave_more : FromSource l0 l1 r0 r1 (λ bytes. ReaderTurns q targets plan r0 a bytes b None)
      → FromSource l1 l2 r1 r2 (λ piece. ReaderTurn q targets plan r1 b c piece how)
      → FromSource l0 l2 r0 r2 (λ bytes. ReaderTurns q targets plan r0 a bytes c how)
  gave_more one two = record {
    bytes = one.bytes ++ two.bytes;
    left = one.left ∙ (ap (prepend_known one.bytes) two.left ∙ prepend_twice one.bytes two.bytes l2);
    read = let e = one.read in let f = two.read in let g = length-append one.bytes two.bytes in omega arith;
    made = a_turn one.bytes two.bytes b c how one.made
        (subst (λ (r : ℕ). ReaderTurn q targets plan r b c two.bytes how) one.read two.made);
  }

pub relay_more : (a b c : Known) (how : Option Stop) → (one : (bytes : List ℕ) × RelayTurns a bytes b None)
    → (two : (piece : List ℕ) × RelayTurn piece b c how) → (bytes : List ℕ) × RelayTurns a bytes c how
relay_more a b c how one two = (one.0 ++ two.0, a_turn one.0 two.0 b c how one.1 two.1)

pub writer_more : (q : ℕ) (a b c : Known) (how : Option Stop) → (one : (bytes : List ℕ) × WriterTurns q a bytes b None)
    → (two : (piece : List ℕ) × WriterTurn q piece b c how) → (bytes : List ℕ) × WriterTurns q a bytes c how
writer_more q a b c how one two = (one.0 ++ two.0, a_turn one.0 two.0 b c how one.1 two.1)

-- a claim of an end, by what it found
pub claims : (k found : ℕ) (got has : Bool) (a b : Known) → b ≡ added a (item.Piped k act.Claim found)
    → got ≡ (found == 0) → got ≡ has → ClaimsEnd k a b has
claims k found got has a b is shows hit = (found, is, sym hit ∙ shows)

-- the same of a source, with more made
pub gave_map : (l0 l1 : Option (List ℕ)) (r0 r1 : ℕ) (P Q : List ℕ → Type 0) → ((bytes : List ℕ) → P bytes → Q bytes)
    → FromSource l0 l1 r0 r1 P → FromSource l0 l1 r0 r1 Q
gave_map l0 l1 r0 r1 P Q f one =
    record { bytes = one.bytes; left = one.left; read = one.read; made = f one.bytes one.made }

pub reader_went : (q : ℕ) (targets : List ℕ) (plan : List Planned) (a b c d e : Known) (how : Stop) (bytes : List ℕ)
    → ClaimsEnd (write_end q) a b true → SendsEach (sent_to targets (due_in 0 0 plan)) b c
    → ClosesEnd (write_end q) d e → ReaderTurns q targets plan 0 c bytes d (Some how)
    → ReaderWorks q targets plan a e bytes how
reader_went q targets plan a b c d e how bytes claim sends close turns = reader_works b c d bytes how claim sends turns close

-- the four tasks, which have these numbers
pub follows : (domain : TableId) (t1 t2 t3 t4 one two three four new : Known) (l0 l1 : Option (List ℕ))
    (plan : List Planned) (reader : ReaderEnd) (relay writer : WorkerEnd) (total : Result ℕ BitEnd) (targets : List ℕ)
    → targets ≡ worker_numbers → t1 ≡ newcomer domain 1 2 0 → t2 ≡ newcomer domain 2 3 0 → t3 ≡ newcomer domain 3 4 0
    → t4 ≡ newcomer domain 4 5 0
    → FromSource l0 l1 0 reader.read (λ bytes. ReaderGoes SOURCE_PIPE targets plan t1 one bytes reader.stop)
    → RelayGoes t2 two relay.stop → WriterGoes SINK_PIPE t3 three writer.stop → ControllerGoes 3 t4 four total
    → (has_of 1 new.view ≡ one.view.items) × (has_of 2 new.view ≡ two.view.items)
    × (has_of 3 new.view ≡ three.view.items) × (has_of 4 new.view ≡ four.view.items)
    → FollowsPrograms domain new l0 l1 plan reader relay writer total
follows domain t1 t2 t3 t4 one two three four new l0 l1 plan reader relay writer total targets numbers e1 e2 e3 e4 reads
    relays writes controls lists = record {
      one = one;
      two = two;
      three = three;
      four = four;
      reads = subst
          (λ (k : Known). FromSource l0 l1 0 reader.read (λ bytes. ReaderGoes SOURCE_PIPE worker_numbers plan k one bytes
          reader.stop)) e1 (subst
          (λ (ns : List ℕ). FromSource l0 l1 0 reader.read (λ bytes. ReaderGoes SOURCE_PIPE ns plan t1 one bytes reader.stop))
          numbers reads);
      relays = subst (λ (k : Known). RelayGoes k two relay.stop) e2 relays;
      writes = subst (λ (k : Known). WriterGoes SINK_PIPE k three writer.stop) e3 writes;
      controls = subst (λ (k : Known). ControllerGoes 3 k four total) e4 controls;
      lists = lists;
    }

-- no signal ends the controller's wait for the page
pub loses_page : (old new : Known) (e : BitEnd) → EndsPageLock old new COUNTED_PAGE state.Uninterruptible (Err e)
    → ReadsLocked old new (Err e)
loses_page old new (bit_end.Worn h p) waited = waited
loses_page old new (bit_end.Interrupted seen) waited = absurd (locked_end old new (bit_end.Interrupted seen) waited)

-- To be believed.
-- What turns of workers come to, one after another: up to a turn after which the worker goes on, or to its stop.
use Rattle.std.specs.Prelude.{ℕ, ◌≡◌, ◌≢◌, ◌+◌, ◌%◌, ◌^◌, ◌/◌, ◌<◌, ◌≤◌, ◌++◌, List, [], length}
use Rattle.std.specs.Prelude.{true, Option, None, Some, IfSome}
use Rattle.std.specs.Io.KnownBytes.{append_known, prepend_known}
use Rattle.wait_model.specs.declared.layout.TheConstants.{PIPE_ENDS}
use Rattle.wait_rule.specs.{Aside.signals_of, Ends.WasWorn, Known.Known}
use Rattle.wait_rule.specs.Pipes.{moved_bytes, read_end, write_end}
use Rattle.wait_rule.specs.PipeSays.{EndsStay, end_at, reading, writing}
use Rattle.edge_io.specs.Faults.{HasCounted, HasRisen}
use Rattle.func_head.specs.Walks.{EntryState}
use Rattle.wait_pipe.specs.Pieces.{IsAtEnd, IsSettled, Moved}
use Rattle.copy_plan.specs.{declared.TheConstants.LONGEST, declared.plan.Planned.Planned, declared.stop.Halt.Halt}
use Rattle.copy_plan.specs.{declared.stop.Stop.Stop, Plans.Rises, Plans.due_at, Stops.IfFinished}
use Rattle.copy_plan.specs.declared.stop.Stop.TheVariants as stop
use Rattle.copy_turns.specs.{Raises.sent_to, Watched.ShowsPieces}
use Rattle.copy_turns.specs.Work.{Counted, IsHalt, SignalsStay, SumsStay, TookKill, Works}

-- All of a piece was put into the pipe of end k and counted; or a front of it was put, and nothing counted.
pub record HandedAll (k : ℕ) (old new : Known) (bytes : List ℕ) : Type 0 where
  pub works : Works old new
  pub moved : Moved k old new bytes
  pub counted : Counted (length bytes) old new
  pub signals : SignalsStay old new

pub record HandedFront (k : ℕ) (old new : Known) (bytes : List ℕ) (halt : Halt) : Type 0 where
  pub works : Works old new
  pub front : List ℕ
  pub rest : List ℕ
  pub parts : bytes ≡ front ++ rest
  pub moved : Moved k old new front
  pub sums : SumsStay old new
  pub signals : SignalsStay old new
  pub cause : IsHalt k old new halt

-- Bytes came out of the pipe of end k, or went into it, and none was counted; where it was halted none came out.
pub record HasGotBytes (k : ℕ) (old new : Known) (bytes : List ℕ) : Type 0 where
  pub works : Works old new
  pub moved : Moved k old new bytes
  pub sums : SumsStay old new
  pub signals : SignalsStay old new

-- The bytes were counted, and no pipe touched; or nothing was done.
pub record CountedAll (n : ℕ) (old new : Known) : Type 0 where
  pub works : Works old new
  pub ends : EndsStay old new
  pub counted : Counted n old new
  pub signals : SignalsStay old new

-- where the worker goes on, or all that there was is passed on
abbrev pub IfWhole : Option Stop → Type 0 → Type 0
IfWhole None X = X
IfWhole (Some how) X = IfFinished how X

-- where it has stopped
abbrev pub IfStopped : Option Stop → (Stop → Type 0) → Type 0
IfStopped None f = Unit {0}
IfStopped (Some how) f = f how

abbrev pub IfEnded : Option Stop → Type 0 → Type 0
IfEnded how X = IfStopped how (λ s. IfFinished s X)

-- The source has given at most `LONGEST` bytes, or the stop says that it gave more.
abbrev pub IsTooLong : Option Stop → ℕ → Type 0
IsTooLong (Some stop.Long) n = LONGEST < n
IsTooLong _ n = n ≤ LONGEST

-- Why a reader that writes into pipe p stops before the end of its source.
abbrev pub IsReaderStop : ℕ → Known → Known → Type 0 → Stop → Type 0
IsReaderStop p old new risen stop.Finished = Unit {0}
IsReaderStop p old new risen stop.Broken = (writing p new).ended ≡ true
IsReaderStop p old new risen stop.Killed = TookKill old new
IsReaderStop p old new risen stop.ReadFault = risen
IsReaderStop p old new risen stop.Long = Unit {0}
IsReaderStop p old new risen (stop.Worn h at) = WasWorn new.view.number new.view.items h at
IsReaderStop p old new risen _ = ⊥

-- The signals of a plan that became due while the source gave bytes, from one number of them to another: at numbers that
-- rose, those that were due then were raised, in the order of the plan, each at the task of its worker, and no other.
pub record RaisedFor (old new : Known) (targets : List ℕ) (from to : ℕ) (plan : List Planned) : Type 0 where
  pub times : List ℕ
  pub rise : Rises from times to
  pub all : signals_of new.view.items ≡ signals_of old.view.items ++ sent_to targets (due_at from times plan)

-- Turns of a reader that writes into pipe p. The source gave some bytes, of which a front went into the pipe, and n were counted; the signals
-- that became due were sent.
pub record Reading (p : ℕ) (old new : Known) (left_old left_new : Option (List ℕ)) (faults_old faults_new : ℕ)
    (read_old read_new : ℕ) (targets : List ℕ) (plan : List Planned) (how : Option Stop) : Type 0 where
  pub works : Works old new
  pub given : List ℕ
  pub front : List ℕ
  pub rest : List ℕ
  pub left : left_old ≡ prepend_known given left_new
  pub read : read_new ≡ read_old + length given
  pub parts : given ≡ front ++ rest
  pub moved : Moved (write_end p) old new front
  pub all : IfWhole how (rest ≡ [])
  pub whole : IfEnded how (IfSome left_new (λ bytes. bytes ≡ []))
  pub n : ℕ
  pub counted : Counted n old new
  pub counts : IfWhole how (n ≡ length given)
  pub signals : RaisedFor old new targets (read_old + 1) read_new plan
  pub long : IsTooLong how read_new
  pub later : faults_old ≤ faults_new
  pub cause : IfStopped how (IsReaderStop p old new (HasRisen faults_old faults_new))

-- Why a relay that passes on from pipe p into pipe q stops before the end of the first.
abbrev pub IsRelayStop : ℕ → ℕ → Known → Known → Stop → Type 0
IsRelayStop p q old new stop.Finished = IsAtEnd (reading p new)
IsRelayStop p q old new stop.Broken = (writing q new).ended ≡ true
IsRelayStop p q old new stop.Killed = TookKill old new
IsRelayStop p q old new (stop.Worn h at) = WasWorn new.view.number new.view.items h at
IsRelayStop p q old new _ = ⊥

-- Turns of such a relay. It got some bytes from the first pipe, of which a front went into the second, and n were
-- counted.
pub record Relaying (p q : ℕ) (old new : Known) (moved_old moved_new : ℕ) (how : Option Stop) : Type 0 where
  pub works : Works old new
  pub got : List ℕ
  pub front : List ℕ
  pub rest : List ℕ
  pub taken : moved_bytes (reading p new) ≡ moved_bytes (reading p old) ++ got
  pub sent : moved_bytes (writing q new) ≡ moved_bytes (writing q old) ++ front
  pub parts : got ≡ front ++ rest
  pub tap : IsSettled (reading p new)
  pub pen : IsSettled (writing q new)
  pub others : (j : ℕ) → j / PIPE_ENDS ≢ p → j / PIPE_ENDS ≢ q → end_at j new ≡ end_at j old
  pub all : IfWhole how (rest ≡ [])
  pub n : ℕ
  pub counted : Counted n old new
  pub counts : IfWhole how (n ≡ length got)
  pub sum : moved_new ≡ (moved_old + n) % 2 ^ 64
  pub signals : SignalsStay old new
  pub cause : IfStopped how (IsRelayStop p q old new)

-- Why a writer that reads pipe p stops before the end of it. The sink's counts of faults and of wants have risen in the
-- call.
abbrev pub IsWriterStop : ℕ → Known → Known → Type 0 → Type 0 → Stop → Type 0
IsWriterStop p old new failed wanted stop.Finished = IsAtEnd (reading p new)
IsWriterStop p old new failed wanted stop.Killed = TookKill old new
IsWriterStop p old new failed wanted stop.WriteFault = failed
IsWriterStop p old new failed wanted stop.Memory = wanted
IsWriterStop p old new failed wanted (stop.Worn h at) = WasWorn new.view.number new.view.items h at
IsWriterStop p old new failed wanted _ = ⊥

-- The sink's counts of faults and of wants are as they were, but for the one of the fault that stopped the writer.
abbrev pub SinkRises : ℕ → ℕ → ℕ → ℕ → Option Stop → Type 0
SinkRises faults_old faults_new wants_old wants_new (Some stop.WriteFault) = HasCounted faults_old faults_new
    × (wants_new ≡ wants_old)
SinkRises faults_old faults_new wants_old wants_new (Some stop.Memory) = (faults_new ≡ faults_old)
    × HasCounted wants_old wants_new
SinkRises faults_old faults_new wants_old wants_new _ = (faults_new ≡ faults_old) × (wants_new ≡ wants_old)

-- Turns of a writer that reads pipe p. It got some bytes from the pipe, of which a front went into the sink and was shown, and n
-- were counted.
pub record Writing (p : ℕ) (old new : Known) (held_old held_new : Option (List ℕ)) (faults_old faults_new : ℕ)
    (wants_old wants_new : ℕ) (seen_old seen_new : List EntryState) (moved_old moved_new : ℕ) (how : Option Stop)
    : Type 0 where
  pub works : Works old new
  pub got : List ℕ
  pub front : List ℕ
  pub rest : List ℕ
  pub taken : Moved (read_end p) old new got
  pub held : held_new ≡ append_known held_old front
  pub shows : ShowsPieces seen_old seen_new front how
  pub parts : got ≡ front ++ rest
  pub all : IfWhole how (rest ≡ [])
  pub n : ℕ
  pub counted : Counted n old new
  pub counts : IfWhole how (n ≡ length got)
  pub sum : moved_new ≡ (moved_old + n) % 2 ^ 64
  pub signals : SignalsStay old new
  pub later : faults_old ≤ faults_new
  pub rises : SinkRises faults_old faults_new wants_old wants_new how
  pub cause : IfStopped how (IsWriterStop p old new (HasRisen faults_old faults_new) (HasRisen wants_old wants_new))

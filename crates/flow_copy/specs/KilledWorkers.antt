-- To be believed.
-- What follows from the program of a worker for the fatal signals that it takes.
use Rattle.std.specs.Prelude.{ℕ, true, List}
use Rattle.wait_rule.specs.{Known.Known, Pipes.read_end, Pipes.write_end}
use Rattle.completion_cell.specs.Completes.{HasCompleted}
use Rattle.wait_pipe.specs.Trails.{ClosesEnd}
use Rattle.copy_plan.specs.{declared.plan.Planned.Planned, declared.stop.Stop.Stop}
use Rattle.copy_plan.specs.declared.TheConstants.{ENDED_CELL, SINK_PIPE, SOURCE_PIPE}
use Rattle.copy_plan.specs.declared.stop.Stop.TheVariants as stop
use Rattle.copy_turns.specs.Work.{TookNoKill, TookOwn}
use Rattle.flow_copy.specs.Workers.{ReaderGoes, RelayGoes, WriterGoes}

-- It took no fatal signal, and then as its next step its own ones, with a fatal one among them; and behind that it did
-- nothing but close its ends and complete the completion of the copy.
pub record DiesOfSignal (Closes : Known → Known → Type 0) (old new : Known) : Type 0 where
  pub before : Known
  pub spared : TookNoKill old before
  pub taken : Known
  pub own : TookOwn before taken true
  pub closed : Known
  pub closes : Closes taken closed
  pub completes : HasCompleted closed new ENDED_CELL

abbrev pub IfKilled : Stop → Type 0 → Type 0 → Type 0
IfKilled stop.Killed X Y = X
IfKilled _ X Y = Y

-- So it is where a worker stopped as Killed; where it stopped otherwise it took no fatal signal at all.
abbrev pub HeedsKills : (Known → Known → Type 0) → Known → Known → Stop → Type 0
HeedsKills Closes old new how = IfKilled how (DiesOfSignal Closes old new) (TookNoKill old new)

abbrev pub ReadersHeed : Type 0
ReadersHeed = (p : ℕ) (targets : List ℕ) (plan : List Planned) (old new : Known) (bytes : List ℕ) (how : Stop)
    → ReaderGoes p targets plan old new bytes how → HeedsKills (ClosesEnd (write_end p)) old new how

abbrev pub ClosesBoth : Known → Known → Type 0
ClosesBoth old new = (mid : Known) × ClosesEnd (read_end SOURCE_PIPE) old mid × ClosesEnd (write_end SINK_PIPE) mid new

abbrev pub RelaysHeed : Type 0
RelaysHeed = (old new : Known) (how : Stop) → RelayGoes old new how → HeedsKills ClosesBoth old new how

abbrev pub WritersHeed : Type 0
WritersHeed = (p : ℕ) (old new : Known) (how : Stop) → WriterGoes p old new how
    → HeedsKills (ClosesEnd (read_end p)) old new how

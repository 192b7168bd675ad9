-- To be believed.
-- A call that goes on by stretches, from where it began to where it is.
use Rattle.std.specs.Prelude.{◌≡◌, false}
use Rattle.wait_rule.specs.{Known.Known, Queues.IsTold, Says.IsClean}
use Rattle.wait_class.specs.{declared.stages.Run.Run, declared.stages.Turn.Turn}
use Rattle.wait_class.specs.Tables.{Advances, CallTable, Plan}
use Rattle.wait_class.specs.declared.stages.Turn.TheVariants as turn

-- where a call goes on: who waits for a lock goes on at its stage
abbrev pub going : {S O : Type 0} → Turn S O → Turn S O
going (turn.Again s) = turn.Again s
going (turn.Asleep s) = turn.Asleep s
going (turn.Locked s) = turn.Again s
going (turn.Done o) = turn.Done o

-- the call came from a stage to what a turn answered
abbrev pub Came : {C S O : Type 0} → CallTable C S O → Known → Known → Run C → Run C → S → Turn S O → Type 0
Came t old new r q s u = Advances t old new r q s (going u)

-- A task that owed nothing began the call of this plan, at a stage at which it had taken nothing, and came from there as
-- the last of these says.
pub record HasCome {C S O : Type 0} (t : CallTable C S O) (c : Plan) (Comes : Known → Run C → S → Type 0) :
    Type 0 where
  pub old : Known
  pub began : Run C
  pub start : S
  pub clean : IsClean old
  pub told : IsTold old
  pub nothing : t.took start ≡ false
  pub plan : t.plan_of began.of ≡ c
  pub came : Comes old began start

-- the call of this plan is under way, and goes on behind what a turn answered
abbrev pub IsUnderWay : {C S O : Type 0} → CallTable C S O → Plan → Known → Run C → Turn S O → Type 0
IsUnderWay t c k r u = HasCome t c (λ old began start. Came t old k began r start u)

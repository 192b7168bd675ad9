-- A stretch of a wait that goes straight by its program: it has come on from where it began.
use Rattle.wait_rule.specs.Known.{Known}
use Rattle.wait_class.specs.{declared.stages.Run.Run, declared.stages.Turn.Turn, Laws.IsLawfulCallTable}
use Rattle.wait_class.specs.{Tables.Advances, Tables.CallTable}
use Rattle.wait_class.specs.declared.stages.Turn.TheVariants as turn
use Rattle.wait_class.proofs.Turns.{advances_on}
use Rattle.wq_checked.specs.Stages.{StandsBy}

abbrev pub GoesFrom : {C S O : Type 0} → CallTable C S O → Known → Known → Run C → Run C → Turn S O → Turn S O → Type 0
GoesFrom t old new r q (turn.Again s) u = Advances t old new r q s u
GoesFrom t old new r q (turn.Asleep s) u = Advances t old new r q s u
GoesFrom t old new r q (turn.Locked s) u = Advances t old new r q s u
GoesFrom t old new r q (turn.Done o) u = ⊥

-- one stretch more
pub joined : {C S O : Type 0} (t : CallTable C S O) → IsLawfulCallTable t → (start old new : Known) (f run q : Run C) (first : S)
    (last u : Turn S O) → StandsBy t old run last → Advances t start old f run first last
    → GoesFrom t old new run q last u → Advances t start new f q first u
joined t law start old new f run q first (turn.Again s) u stands a b = advances_on t law start old new f run q first s u
    a.same a.went b
joined t law start old new f run q first (turn.Asleep s) u stands a b = advances_on t law start old new f run q first s u
    a.same (record { runs = a.went.runs; tells = a.went.tells; keeps = a.went.keeps }) b
joined t law start old new f run q first (turn.Locked s) u stands a b = advances_on t law start old new f run q first s u
    a.same (record { runs = a.went.runs; tells = a.went.tells; keeps = a.went.keeps }) b
joined t law start old new f run q first (turn.Done o) u stands a b = absurd stands

-- To be believed.
-- A wait that is left: the exits of its stages, and what a task does that was asked to leave at one.
use Rattle.std.specs.Prelude.{◌≡◌, Bool, true, false, Option, Some}
use Rattle.wait_model.specs.declared.points.Point.{Point}
use Rattle.wait_rule.specs.{Known.Known, Queues.index}
use Rattle.wait_class.specs.{declared.stages.Run.Run, declared.stages.Turn.Turn, Wholes.HasRested}
use Rattle.wait_class.specs.Tables.{Advances, CallTable, IsEnded, Plan, SleepsNot, watch_in}
use Rattle.wait_class.specs.declared.stages.Turn.TheVariants as turn
use Rattle.wait_leave.specs.declared.exits.Exit.{Exit}

-- The call that has been asked to leave; where it goes on that is asked at a stage, none where it first goes on as it
-- was; and the points from which on its program sleeps no more.
pub record Exits (C S O : Type 0) : Type 0 where
  pub asks : C → C
  pub exit : C → S → Option (Exit S O)
  pub awake : Point → Bool

abbrev pub asked_run : {C S O : Type 0} → Exits C S O → Run C → Run C
asked_run x r = record r { of = x.asks r.of }

-- the plan of a call that was asked, or was not
abbrev pub with_asked : Bool → Plan → Plan
with_asked b p = record p { asked = b }

-- whether it sleeps no more from where a turn goes on
abbrev pub stays_awake : {C S O : Type 0} → CallTable C S O → Exits C S O → Turn S O → Bool
stays_awake t x (turn.Again s) = x.awake (t.point_of s)
stays_awake t x (turn.Asleep s) = false
stays_awake t x (turn.Locked s) = x.awake (t.point_of s)
stays_awake t x (turn.Done o) = true

-- a turn that put nobody asleep
abbrev pub StaysUp : {S O : Type 0} → Turn S O → Type 0
StaysUp (turn.Asleep s) = ⊥
StaysUp _ = Unit {0}

-- a wait that was over does nothing more
pub record RemainsOver {C S O : Type 0} (t : CallTable C S O) (old new : Known) (r q : Run C) (o : O) (u : Turn S O) :
    Type 0 where
  pub still : new ≡ old
  pub same : q ≡ r
  pub to : u ≡ turn.Done o
  pub ended : IsEnded t old r o

-- it went on by its program from where an exit leads
abbrev pub GoesOut : {C S O : Type 0} → CallTable C S O → Known → Known → Run C → Run C → Turn S O → Turn S O → Type 0
GoesOut t old new r q (turn.Again s) u = Advances t old new r q s u
GoesOut t old new r q (turn.Asleep s) u = ⊥
GoesOut t old new r q (turn.Locked s) u = ⊥
GoesOut t old new r q (turn.Done o) u = RemainsOver t old new r q o u

-- Its task stood at a stage and was asked there, with no event; it stored RUNNING where the exit wants that, and went on
-- from the exit by its program. From a point on from which the program sleeps no more it has not slept.
pub record Leaves {C S O : Type 0} (t : CallTable C S O) (x : Exits C S O) (old new : Known) (r q : Run C) (s : S)
    (u : Turn S O) : Type 0 where
  pub exit : Exit S O
  pub is : x.exit r.of s ≡ Some exit
  pub rested : Known
  pub rests : HasRested old rested exit.rests
  pub keeps : t.Keeps (index old.view.number 0) (watch_in t r.of) (t.took s) (t.took s) old rested
  pub on : GoesOut t rested new (asked_run x r) q exit.to u
  pub awake : stays_awake t x exit.to ≡ true → SleepsNot old new

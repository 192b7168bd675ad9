-- To be believed.
-- What a wait made on its way, as events: those of its program's transitions, and a store of RUNNING where it went out
-- with one.
use Rattle.std.specs.Prelude.{ℕ, Bool, true, false, List, [], ◌∷◌, ◌++◌}
use Rattle.wait_model.specs.declared.calls.Event.{Event}
use Rattle.wait_model.specs.declared.calls.Event.TheVariants as event
use Rattle.wait_model.specs.declared.points.Next.TheVariants as next
use Rattle.wait_rule.specs.{Known.Known, SaidEvents.said, Transitions.Transition}
use Rattle.wait_class.specs.{declared.stages.Run.Run, declared.stages.Turn.Turn, Tables.CallTable, Tables.plan_program}
use Rattle.wait_class.specs.declared.stages.Turn.TheVariants as turn
use Rattle.wait_leave.specs.Leaves.{Exits, GoesOut, asked_run}
use Rattle.wait_leave.specs.OnTheWay.{OnTheWay, left_at, straight}

-- what an exit makes
abbrev pub exit_says : Bool → List Event
exit_says true = event.State 0 ∷ []
exit_says false = []

-- what a run made from a stage on
abbrev pub stage_says : {C S O : Type 0} → CallTable C S O → ℕ → C → S → List Transition → List Event
stage_says t me r s ts = said (plan_program me 0 (t.plan_of r)) (next.Go (t.point_of s)) ts

-- from where an exit leads
abbrev pub out_says : {C S O : Type 0} (t : CallTable C S O) (old new : Known) (r q : Run C) (e u : Turn S O)
    → GoesOut t old new r q e u → List Event
out_says t old new r q (turn.Again s) u a = stage_says t old.view.number r.of s a.went.runs.transitions
out_says t old new r q (turn.Asleep s) u a = []
out_says t old new r q (turn.Locked s) u a = []
out_says t old new r q (turn.Done o) u a = []

-- and all of it, oldest first
abbrev pub way_says : {C S O A : Type 0} (t : CallTable C S O) (x : Exits C S O) (old : Known) (r : Run C) (s : S)
    (new : Known) (q : Run C) (u : Turn S O) → OnTheWay A t x old r s new q u → List Event
way_says t x old r s _ _ _ (straight new q u a) = stage_says t old.view.number r.of s a.went.runs.transitions
way_says t x old r s _ _ _ (left_at mid m n new q u cause w l) = way_says t x old r s mid m (turn.Again n) w
    ++ (exit_says l.exit.rests ++ out_says t l.rested new (asked_run x m) q l.exit.to u l.on)

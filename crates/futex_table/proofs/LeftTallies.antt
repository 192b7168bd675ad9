-- Waits that their task leaves are about no tally.
use Rattle.std.proofs.Common.{refl, subst, sym}
use Rattle.std.specs.Prelude.{ℕ, Bool, true, false, Result}
use Rattle.wait_model.specs.declared.steps.Step.TheVariants as step
use Rattle.wait_model.specs.declared.tasks.SleepState.{SleepState}
use Rattle.wait_rule.specs.declared.journal.Item.TheVariants as item
use Rattle.wait_rule.specs.Known.{Known}
use Rattle.wait_rule.proofs.KnownLaws.TaskHistories.{history_after}
use Rattle.wait_class.specs.{declared.stages.Run.Run, declared.stages.Turn.Turn, Wholes.HasRested}
use Rattle.wait_class.specs.declared.stages.Turn.TheVariants as turn
use Rattle.wait_leave.specs.{declared.exits.Until.Until, Leaves.GoesOut, Leaves.asked_run}
use Rattle.wait_leave.specs.OnTheWay.{OnTheWay, left_at, straight}
use Rattle.futex_table.specs.{declared.futexes.FutexEnd.FutexEnd, declared.waits.FutexOutcome.FutexOutcome}
use Rattle.futex_table.specs.{declared.waits.FutexStage.FutexStage, declared.waits.FutexWait.FutexWait}
use Rattle.futex_table.specs.{FutexLeaves.EndsFutexUntil, FutexLeaves.futex_exits, FutexTables.futex_table}
use Rattle.futex_table.specs.{TallyUses.AddsToTally, TallyUses.LeavesTallies}
use Rattle.futex_table.specs.declared.waits.FutexStage.TheVariants as stage
use Rattle.futex_table.proofs.Tallying.{adds_none, adds_on, futex_adds, grows_one, one_adds}

module _ (m c : ℕ) where
  rest_adds : (old new : Known) (b : Bool) → HasRested old new b → AddsToTally old new m c 0
  rest_adds old new false is = subst (λ (k : Known). AddsToTally old k m c 0) (sym is) (adds_none m c old)
  rest_adds old new true is = one_adds m c 0 old new (step.State 0) (grows_one old new (item.Made (step.State 0)) is)
      (history_after old new (step.State 0) is) (λ op. tt) refl

  out_adds : (e u : Turn FutexStage FutexOutcome) (k new : Known) (r q : Run FutexWait)
      → GoesOut futex_table k new r q e u → AddsToTally k new m c 0
  out_adds (turn.Again n) u k new r q a = futex_adds m c r.of.futex r.of.expected r.of.state k.view.number k new _ _
      a.went.runs
  out_adds (turn.Asleep n) u k new r q a = absurd a
  out_adds (turn.Locked n) u k new r q a = absurd a
  out_adds (turn.Done o) u k new r q a = rest_adds k new false a.still

  way_adds : (A : Type 0) (old : Known) (r : Run FutexWait) (s : FutexStage) (new : Known) (q : Run FutexWait)
      (u : Turn FutexStage FutexOutcome) → OnTheWay A futex_table futex_exits old r s new q u
      → AddsToTally old new m c 0
  way_adds A old r s _ _ _ (straight new q u a) = futex_adds m c r.of.futex r.of.expected r.of.state old.view.number old
      new _ _ a.went.runs
  way_adds A old r s _ _ _ (left_at mid p n new q u why w l) = adds_on m c 0 old mid new
      (way_adds A old r s mid p (turn.Again n) w)
      (adds_on m c 0 mid l.rested new (rest_adds mid l.rested l.exit.rests l.rests)
      (out_adds l.exit.to u l.rested new (asked_run futex_exits p) q l.on))

pub until_leaves : {A : Type 0} (w : ℕ) (old new : Known) {f v : ℕ} {st : SleepState}
    {end : Until (Result (Unit {0}) FutexEnd)} → EndsFutexUntil A old new f v st end → LeavesTallies w old new
until_leaves {A} w old new x m c ne = way_adds m c A old x.first stage.First new x.leaves.at
    (turn.Done x.leaves.outcome) x.leaves.came

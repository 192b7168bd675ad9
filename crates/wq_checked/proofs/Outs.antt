-- A stretch of a wait that was asked to leave at the stage where it stood.
use Rattle.std.proofs.Common.{subst, sym}
use Rattle.std.specs.Prelude.{◌≡◌}
use Rattle.wait_rule.specs.Known.{Known}
use Rattle.wait_class.specs.{declared.stages.Run.Run, declared.stages.Turn.Turn, Laws.IsLawfulCallTable}
use Rattle.wait_class.specs.Tables.{CallTable}
use Rattle.wait_class.specs.declared.stages.Turn.TheVariants as turn
use Rattle.wait_leave.specs.{ExitLaws.AreLawfulExits, Leaves.Exits, OnTheWay.OnTheWay}
use Rattle.wait_leave.proofs.Ways.{way_then}
use Rattle.wq_checked.specs.Outs.{OnFrom}

module _ {C S O : Type 0} (t : CallTable C S O) (x : Exits C S O) (law : AreLawfulExits t x) (lawful : IsLawfulCallTable t)
    (old : Known) (r : Run C) (s : S) where
  -- with nothing more done
  way_same : (mid new : Known) (m q : Run C) (v u : Turn S O) → OnTheWay (Unit {0}) t x old r s mid m v → new ≡ mid
      → q ≡ m → u ≡ v → OnTheWay (Unit {0}) t x old r s new q u
  way_same mid new m q v u w a b c = subst (λ (k : Known). OnTheWay (Unit {0}) t x old r s k q u) (sym a)
      (subst (λ (p : Run C). OnTheWay (Unit {0}) t x old r s mid p u) (sym b)
      (subst (λ (y : Turn S O). OnTheWay (Unit {0}) t x old r s mid m y) (sym c) w))

  -- and on from where its exit led
  pub way_from : (mid new : Known) (m q : Run C) (to u : Turn S O) → OnTheWay (Unit {0}) t x old r s mid m to
      → OnFrom t x mid new m q to u → OnTheWay (Unit {0}) t x old r s new q u
  way_from mid new m q (turn.Again n) u w on = way_then (Unit {0}) t x law lawful old r s mid new m q n u w on
  way_from mid new m q (turn.Asleep n) u w on = way_same mid new m q (turn.Asleep n) u w on.0 on.1 on.2
  way_from mid new m q (turn.Locked n) u w on = way_same mid new m q (turn.Locked n) u w on.0 on.1 on.2
  way_from mid new m q (turn.Done o) u w on = way_same mid new m q (turn.Done o) u w on.0 on.1 on.2

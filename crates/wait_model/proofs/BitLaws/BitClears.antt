-- A task that is about to clear a bit keeps it: the call is opened by a task that does, and clears it with its
-- first event.
use Rattle.std.proofs.Common.{refl}
use Rattle.std.specs.Prelude.{ℕ, ◌≡◌, Bool, true, false, not}
use Rattle.wait_model.specs.{declared.calls.Call.Call, declared.points.Next.Next, declared.points.Point.Point}
use Rattle.wait_model.specs.{Admission.lacks_bit, Points.call_watch, Programs.program_start, Views.View}
use Rattle.wait_model.specs.Reached.{stirs, IsFitted, KeepsCleared}
use Rattle.wait_model.specs.Runs.{State, seen_by, planned, progress_at}
use Rattle.wait_model.proofs.RunLaws.StateMoves.{publishes_next, IsMoved, program_moved}
use Rattle.wait_model.specs.declared.calls.Call.TheVariants as calls
use Rattle.wait_model.specs.declared.points.Next.TheVariants as next
use Rattle.wait_model.specs.declared.points.Point.TheVariants as at
use Rattle.wait_model.specs.declared.points.Progress.TheVariants as now

-- only a call that clears a bit, at its publish, has to keep one
keeps_elsewhere : (call : Call) (x : Next) (v : View) → publishes_next x ≡ false
    → KeepsCleared (progress_at call x) v
keeps_elsewhere (calls.ClearBit w b) (next.Go at.Publish) v h = absurd (cc)
keeps_elsewhere (calls.ClearBit w b) (next.Go p) v h = tt
keeps_elsewhere call (next.Go p) v h = tt
keeps_elsewhere call (next.Ends a) v h = tt

-- no event leads to a publish
pub program_keeps : (s : State) (me : ℕ) (call : Call) (p : Point) → IsFitted call p → (v : View)
    → KeepsCleared (progress_at call (planned s me call p).next) v
program_keeps s me call p fit v =
    let m : IsMoved (stirs call p) call (planned s me call p) =
    program_moved call me (seen_by s me call p) p fit in
    keeps_elsewhere call (planned s me call p).next v m.next

-- a call that clears a bit is opened by the task that keeps it
pub begun_keeps : (call : Call) (v : View) → lacks_bit call (v.bits.keeps (call_watch call)) ≡ false
    → KeepsCleared (now.Open call (program_start call)) v
begun_keeps (calls.ClearBit w b) v h = by (v.bits.keeps (call_watch (calls.ClearBit w b))) h
  where
    by : (k : Bool) → not k ≡ false → k ≡ true
    by true h = refl
    by false h = absurd (cc)
begun_keeps call v h = tt

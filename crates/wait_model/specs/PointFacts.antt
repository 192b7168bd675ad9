-- To be believed.
-- What a point of a call's program says of its task: whether it holds a head, how its own entry is, and where its state
-- may be another than RUNNING while it is awake.
use Rattle.std.specs.Prelude.{◌≡◌, ℕ, Bool, true, false, Option, Some, None}
use Rattle.wait_model.specs.{declared.watches.Watch.Watch, declared.watches.Entry.Entry, declared.calls.Call.Call}
use Rattle.wait_model.specs.{declared.points.Point.Point, Watches.bare, Watches.kind_for, Points.is_bit_wait}
use Rattle.wait_model.specs.Admission.{IsStandingKind}
use Rattle.wait_model.specs.declared.watches.Watch.TheVariants as watch
use Rattle.wait_model.specs.declared.watches.Kind.TheVariants as kind
use Rattle.wait_model.specs.declared.points.Point.TheVariants as at
use Rattle.wait_model.specs.declared.points.PreparePoint.TheVariants as preparing
use Rattle.wait_model.specs.declared.points.LeavePoint.TheVariants as leaving
use Rattle.wait_model.specs.declared.points.FinishPoint.TheVariants as finishing
use Rattle.wait_model.specs.declared.points.WalkPoint.TheVariants as walking
use Rattle.wait_model.specs.declared.points.AddPoint.TheVariants as adding
use Rattle.wait_model.specs.declared.points.RemovePoint.TheVariants as removing
use Rattle.wait_model.specs.declared.points.SelectPoint.TheVariants as selecting
use Rattle.wait_model.specs.declared.points.AwaitPoint.TheVariants as awaiting
use Rattle.wait_model.specs.declared.points.CountPoint.TheVariants as counting
use Rattle.wait_model.specs.declared.points.WokenPoint.TheVariants as hearing
use Rattle.wait_model.specs.declared.points.BitPoint.TheVariants as biting
use Rattle.wait_model.specs.declared.points.PagePoint.TheVariants as paging

-- the points inside a hold
abbrev pub holds : Point → Bool
holds (at.Prepare preparing.Lock) = false
holds (at.Prepare p) = true
holds (at.Leave leaving.Load) = false
holds (at.Leave p) = true
holds (at.Finish finishing.Queue failed) = true
holds (at.Finish finishing.Unlock failed) = true
holds (at.Page paging.Queue) = true
holds (at.Page paging.Try) = true
holds (at.Page paging.Off) = true
holds (at.Page (paging.Unlock got)) = true
holds (at.Page (paging.Finish finishing.Queue)) = true
holds (at.Page (paging.Finish finishing.Unlock)) = true
holds (at.Walk walking.Lock) = false
holds (at.Walk (walking.BreakLock w)) = false
holds (at.Walk p) = true
holds (at.Add adding.Lock) = false
holds (at.Add p) = true
holds (at.Remove removing.Lock) = false
holds (at.Remove p) = true
holds (at.Select selecting.Lock) = false
holds (at.Select p) = true
holds (at.Await (awaiting.Lock waited)) = false
holds (at.Await p) = true
holds (at.Count counting.Peek) = false
holds (at.Count counting.Lock) = false
holds (at.Count p) = true
holds _ = false

-- what a point says of the own entry: that it is off, that a wait may have it queued, that it may stand there
-- by an add, that it does, that it does at this plain condition, that it may have been queued for a page, and that it
-- is
pub data Zone : Type 0 where
  absent : Zone
  waits : Zone
  free : Zone
  stands : Zone
  parts : ℕ → Zone
  pages : Zone
  seated : Zone

abbrev pub zone : Point → Zone
zone at.First = absent
zone (at.Prepare p) = waits
zone at.Test = waits
zone at.Sleep = waits
zone (at.Leave leaving.Queue) = waits
zone (at.Leave p) = absent
zone (at.Finish finishing.Unlock failed) = absent
zone (at.Finish p failed) = waits
zone (at.Bit biting.Try) = free
zone (at.Bit biting.First) = absent
zone (at.Bit biting.Last) = absent
zone (at.Bit p) = waits
zone (at.Page paging.First) = absent
zone (at.Page paging.Unflag) = absent
zone (at.Page paging.Lock) = absent
zone (at.Page paging.Queue) = absent
zone (at.Page paging.Try) = seated
zone (at.Page paging.Off) = seated
zone (at.Page (paging.Unlock true)) = absent
zone (at.Page (paging.Finish finishing.Unlock)) = absent
zone (at.Page paging.Last) = absent
zone (at.Page paging.Clear) = absent
zone (at.Page p) = pages
zone (at.Add adding.Unlock) = free
zone (at.Add p) = absent
zone (at.Remove removing.Lock) = stands
zone (at.Remove (removing.Queue c)) = parts c
zone (at.Remove (removing.Unlock c)) = absent
zone (at.Await (awaiting.Lock true)) = waits
zone (at.Await (awaiting.Load true)) = waits
zone (at.Await (awaiting.Run stopped)) = waits
zone (at.Await (awaiting.Off stopped)) = waits
zone (at.Await p) = absent
zone _ = free

-- the own entry is as the zone says
abbrev pub IsHome : Zone → Watch → Option Entry → Type 0
IsHome absent c None = Unit {0}
IsHome absent c (Some e) = ⊥
IsHome waits c None = Unit {0}
IsHome waits c (Some e) = (e.watch ≡ bare c) × (e.kind ≡ kind_for c)
IsHome free c None = Unit {0}
IsHome free c (Some e) = IsStandingKind e.kind
IsHome stands c None = ⊥
IsHome stands c (Some e) = IsStandingKind e.kind
IsHome pages c None = Unit {0}
IsHome pages c (Some e) = (e.watch ≡ bare c) × (e.kind ≡ kind.Page)
IsHome seated c None = ⊥
IsHome seated c (Some e) = (e.watch ≡ bare c) × (e.kind ≡ kind.Page)
IsHome (parts k) c None = ⊥
IsHome (parts k) c (Some e) = IsStandingKind e.kind × (e.watch ≡ watch.Plain k)

-- At these points the own state may be another than RUNNING though the task is awake: from the store of the state
-- to the sleep, or to the store that makes it RUNNING again.
-- A wait for a bit may begin a new turn without a sleep.
abbrev pub stirs : Call → Point → Bool
stirs call (at.Prepare preparing.Look) = false
stirs call (at.Prepare preparing.Unlock) = true
stirs call (at.Prepare p) = is_bit_wait call
stirs call at.Test = true
stirs call at.Sleep = true
stirs call at.Worn = is_bit_wait call
stirs call (at.Finish finishing.State failed) = true
stirs call (at.Woken hearing.Flag) = true
stirs call (at.Woken hearing.Sleep) = true
stirs call (at.Woken hearing.Run) = true
stirs call (at.Page paging.Flag) = true
stirs call (at.Page paging.Look) = true
stirs call (at.Page paging.Sleep) = true
stirs call (at.Page (paging.Finish finishing.State)) = true
stirs call (at.Bit biting.Load) = true
stirs call (at.Bit biting.Sleep) = true
stirs call (at.Bit (biting.Again failed)) = true
stirs call _ = false

-- A call that wakes is at points of its own kind, and where it ends with no count used up no entry of its watch stands.
use Rattle.std.proofs.Common.{refl}
use Rattle.std.specs.Prelude.{ℕ, ◌≡◌, Bool, true, false, if◌then◌else◌, Option, Some, None, [], ◌∷◌}
use Rattle.wait_model.specs.{declared.watches.Watch.Watch, declared.watches.Kind.Kind, declared.watches.Aim.Aim}
use Rattle.wait_model.specs.{declared.queues.CalledEntry.CalledEntry, declared.queues.Walking.Walking}
use Rattle.wait_model.specs.{declared.calls.Call.Call, declared.calls.Event.Event, declared.points.Given.Given}
use Rattle.wait_model.specs.{declared.points.Point.Point, declared.points.WalkPoint.WalkPoint}
use Rattle.wait_model.specs.{declared.points.PageStage.PageStage, declared.points.SelectPoint.SelectPoint}
use Rattle.wait_model.specs.{declared.points.Seen.Seen, declared.points.Next.Next, declared.points.Planned.Planned}
use Rattle.wait_model.specs.{declared.points.Progress.Progress, Tasks.meets, Points.call_aim, Runs.State}
use Rattle.wait_model.specs.Runs.{event_steps}
use Rattle.wait_model.specs.Watches.{head_of, mask_of, misses}
use Rattle.wait_model.specs.Programs.{go, past, reached, walk_event, hands_event, call_entry, call_next, select_event}
use Rattle.wait_model.specs.Programs.{select_next, select_ends, is_enough, active_event, program, program_start}
use Rattle.wait_model.specs.declared.watches.Kind.TheVariants as kind
use Rattle.wait_model.specs.declared.watches.Mode.TheVariants as mode
use Rattle.wait_model.specs.declared.steps.Step.TheVariants as step
use Rattle.wait_model.specs.declared.calls.Call.TheVariants as calls
use Rattle.wait_model.specs.declared.calls.Event.TheVariants as event
use Rattle.wait_model.specs.declared.points.Point.TheVariants as at
use Rattle.wait_model.specs.declared.points.WalkPoint.TheVariants as walking
use Rattle.wait_model.specs.declared.points.PageStage.TheVariants as staging
use Rattle.wait_model.specs.declared.points.SelectPoint.TheVariants as selecting
use Rattle.wait_model.specs.declared.points.Next.TheVariants as next
use Rattle.wait_model.specs.declared.points.Progress.TheVariants as now

-- the points of walks, of selections, and of calls that publish and then walk
abbrev pub is_of_walk : Point → Bool
is_of_walk (at.Walk p) = true
is_of_walk _ = false

abbrev pub is_of_selection : Point → Bool
is_of_selection (at.Select p) = true
is_of_selection _ = false

abbrev pub is_of_publisher : Point → Bool
is_of_publisher at.Publish = true
is_of_publisher at.Active = true
is_of_publisher p = is_of_walk p

-- the call is at a point of its kind
abbrev pub is_at_home : Call → Point → Bool
is_at_home (calls.Wake c m n) p = is_of_walk p
is_at_home (calls.SimpleWake c all) p = is_of_selection p
is_at_home (calls.Complete d) p = is_of_selection p
is_at_home (calls.CompleteAll d) p = is_of_selection p
is_at_home (calls.ClearBit w b) p = is_of_publisher p
is_at_home (calls.SetVar v x) p = is_of_publisher p
is_at_home _ p = true

abbrev pub IsAtHome : Progress → Type 0
IsAtHome (now.Open call p) = is_at_home call p ≡ true
IsAtHome now.Idle = Unit {0}
IsAtHome now.Fresh = Unit {0}

pub start_home : (call : Call) → is_at_home call (program_start call) ≡ true
start_home (calls.Wake c m n) = refl
start_home call = refl

-- the events of walks
abbrev pub is_of_walks : Event → Bool
is_of_walks (event.Lock h) = true
is_of_walks (event.Wake who hit) = true
is_of_walks (event.Woken who) = true
is_of_walks (event.Load c v) = true
is_of_walks (event.Unqueue who) = true
is_of_walks (event.Unlock h used) = true
is_of_walks (event.Mark h) = true
is_of_walks (event.Unmark h) = true
is_of_walks (event.TasFor p who v) = true
is_of_walks (event.Handed who) = true
is_of_walks _ = false

-- none of them is a publish
pub walks_publish_not : (s : State) (me : ℕ) (g : Given) (e : Event) (c : Watch) (v f : ℕ) → is_of_walks e ≡ true
    → event_steps s me g e ≡ step.Publish c v f ∷ [] → ⊥
walks_publish_not s me g (event.Lock h) c v f w e = cc
walks_publish_not s me g (event.Wake who hit) c v f w e = cc
walks_publish_not s me g (event.Woken who) c v f w e = cc
walks_publish_not s me g (event.Load i x) c v f w e = cc
walks_publish_not s me g (event.Unqueue who) c v f w e = cc
walks_publish_not s me g (event.Unlock h used) c v f w e = cc
walks_publish_not s me g (event.Mark h) c v f w e = cc
walks_publish_not s me g (event.Unmark h) c v f w e = cc
walks_publish_not s me g (event.TasFor p who x) c v f w e = cc
walks_publish_not s me g (event.Handed who) c v f w e = cc
walks_publish_not s me g ev c v f w e = absurd (cc)

-- a walk makes such an event, and stays a walk or ends
abbrev pub goes : (Point → Bool) → Next → Bool
goes test (next.Go p) = test p
goes test (next.Ends a) = true

pub record IsWalkStep (x : Planned) : Type 0 where
  pub event : is_of_walks x.event ≡ true
  pub next : goes is_of_walk x.next ≡ true

on_step : (e : Event) (b : Bool) (p q : WalkPoint) → is_of_walks e ≡ true
    → IsWalkStep (go e (if b then at.Walk p else at.Walk q))
on_step e true p q h = record { event = h; next = refl }
on_step e false p q h = record { event = h; next = refl }

off_step : (e : Event) (b : Bool) (p q : WalkPoint) → is_of_walks e ≡ true
    → IsWalkStep (go e (at.Walk (if b then p else q)))
off_step e true p q h = record { event = h; next = refl }
off_step e false p q h = record { event = h; next = refl }

entry_step : (aim : Aim) (w : Walking) (c : CalledEntry) (k : Kind) (seen : Seen) (hit : Bool)
    → IsWalkStep (call_entry aim w c k seen hit)
entry_step aim w c kind.Default seen hit = on_step _ (past w c hit).spent _ _ refl
entry_step aim w c kind.Autoremove seen hit = off_step _ hit _ _ refl
entry_step aim w c kind.Woken seen hit = record { event = refl; next = refl }
entry_step aim w c kind.Bit seen hit = off_step _ (misses aim.watch seen.value) _ _ refl
entry_step aim w c kind.Var seen hit = off_step _ hit _ _ refl
entry_step aim w c kind.Simple seen hit = on_step _ (past w c hit).spent _ _ refl
entry_step aim w c kind.Page seen hit = off_step _ (misses aim.watch seen.value) _ _ refl

hands_step : (aim : Aim) (st : PageStage) (w : Walking) (c : CalledEntry) (seen : Seen)
    → IsWalkStep (hands_event aim st w c seen)
hands_step aim staging.Try w c seen = off_step _ (misses aim.watch seen.value) _ _ refl
hands_step aim staging.Hand w c seen = record { event = refl; next = refl }
hands_step aim staging.Wake w c seen = record { event = refl; next = refl }
hands_step aim staging.Off w c seen = on_step _ (past w c true).spent _ _ refl

next_step : (aim : Aim) (w : Walking) (o : Option CalledEntry) (seen : Seen) (hit : Bool)
    → IsWalkStep (call_next aim w o seen hit)
next_step aim w None seen hit = record { event = refl; next = refl }
next_step aim w (Some c) seen hit = entry_step aim w c c.kind seen hit

pub walk_step : (aim : Aim) (p : WalkPoint) (seen : Seen) → IsWalkStep (walk_event aim p seen)
walk_step aim (walking.Call w) seen = by seen.breaks
  where
    by : (b : Bool) → IsWalkStep (if b then go (event.Mark (head_of aim.watch))
        (at.Walk (walking.BreakUnlock (reached w seen.calls)))
        else call_next aim (reached w seen.calls) seen.called seen (meets (mask_of aim.mode) seen.other.state))
    by true = record { event = refl; next = refl }
    by false = next_step aim (reached w seen.calls) seen.called seen (meets (mask_of aim.mode) seen.other.state)
walk_step aim (walking.Wake w c) seen = on_step _ (past w c (meets (mask_of aim.mode) seen.other.state)).spent _ _ refl
walk_step aim (walking.Bit w c) seen = off_step _ (meets (mask_of aim.mode) seen.other.state) _ _ refl
walk_step aim (walking.Unqueue w who) seen = on_step _ w.spent _ _ refl
walk_step aim (walking.Page st w c) seen = hands_step aim st w c seen
walk_step aim _ seen = record { event = refl; next = refl }

-- a selection stays one or ends
chosen_step : (call : Call) (k : ℕ) (o : Option CalledEntry) (hit : Bool)
    → goes is_of_selection (select_next call k o hit).next ≡ true
chosen_step call k None hit = refl
chosen_step call k (Some c) hit = refl

select_step : (call : Call) (p : SelectPoint) (seen : Seen)
    → goes is_of_selection (select_event call p seen).next ≡ true
select_step call (selecting.Next k) seen = by (is_enough call k)
  where
    by : (b : Bool) → goes is_of_selection (if b then select_ends call k true
        else select_next call k seen.called (meets (mask_of mode.Normal) seen.other.state)).next ≡ true
    by true = refl
    by false = chosen_step call k seen.called (meets (mask_of mode.Normal) seen.other.state)
select_step call p seen = refl

active_step : (call : Call) (b : Bool) → goes is_of_publisher (active_event call b).next ≡ true
active_step call true = refl
active_step call false = refl

walks_home : (x : Next) → goes is_of_walk x ≡ true → goes is_of_publisher x ≡ true
walks_home (next.Go (at.Walk p)) h = refl
walks_home (next.Go p) h = absurd (cc)
walks_home (next.Ends a) h = refl

walk_home : (me : ℕ) (call : Call) (p : Point) (seen : Seen) → is_of_walk p ≡ true
    → goes is_of_walk (program me call p seen).next ≡ true
walk_home me call (at.Walk p) seen h = (walk_step (call_aim call) p seen).next
walk_home me call p seen h = absurd (cc)

select_home : (me : ℕ) (call : Call) (p : Point) (seen : Seen) → is_of_selection p ≡ true
    → goes is_of_selection (program me call p seen).next ≡ true
select_home me call (at.Select p) seen h = select_step call p seen
select_home me call p seen h = absurd (cc)

publisher_home : (me : ℕ) (call : Call) (p : Point) (seen : Seen) → is_of_publisher p ≡ true
    → goes is_of_publisher (program me call p seen).next ≡ true
publisher_home me call at.Publish seen h = refl
publisher_home me call at.Active seen h = active_step call seen.members
publisher_home me call (at.Walk p) seen h = walks_home _ (walk_step (call_aim call) p seen).next
publisher_home me call p seen h = absurd (cc)

-- each event leaves a call at home
pub home_next : (me : ℕ) (call : Call) (p : Point) (seen : Seen) → is_at_home call p ≡ true
    → goes (is_at_home call) (program me call p seen).next ≡ true
home_next me (calls.Wake c m n) p seen h = walk_home me (calls.Wake c m n) p seen h
home_next me (calls.SimpleWake c all) p seen h = select_home me (calls.SimpleWake c all) p seen h
home_next me (calls.Complete d) p seen h = select_home me (calls.Complete d) p seen h
home_next me (calls.CompleteAll d) p seen h = select_home me (calls.CompleteAll d) p seen h
home_next me (calls.ClearBit w b) p seen h = publisher_home me (calls.ClearBit w b) p seen h
home_next me (calls.SetVar v x) p seen h = publisher_home me (calls.SetVar v x) p seen h
home_next me call p seen h = anywhere (program me call p seen).next
  where
    anywhere : (x : Next) → goes (is_at_home call) x ≡ true
    anywhere (next.Go q) = refl
    anywhere (next.Ends a) = refl

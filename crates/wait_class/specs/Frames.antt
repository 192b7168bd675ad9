-- To be believed.
-- Calls that prepare and finish as the waits for bits do: what differs, and the table that it gives.
use Rattle.std.specs.Prelude.{ℕ, Bool, true, false, if◌then◌else◌}
use Rattle.wait_model.specs.{declared.calls.Answer.Answer, declared.points.Point.Point, declared.watches.Watch.Watch}
use Rattle.wait_model.specs.Tasks.{state_mask}
use Rattle.wait_model.specs.declared.points.Point.TheVariants as at
use Rattle.wait_model.specs.declared.points.FinishPoint.TheVariants as finishing
use Rattle.wait_model.specs.declared.points.PreparePoint.TheVariants as preparing
use Rattle.wait_rule.specs.Known.{Known}
use Rattle.wait_class.specs.{Posts.Keeps, Posts.Post, declared.frame_stages.Framed.Framed}
use Rattle.wait_class.specs.{declared.frame_stages.Stage.Stage, declared.stages.Added.Added}
use Rattle.wait_class.specs.{declared.stages.Doing.Doing, declared.stages.Turn.Turn, Tables.Plan, Tables.CallTable}
use Rattle.wait_class.specs.declared.frame_stages.Stage.TheVariants as stage
use Rattle.wait_class.specs.declared.stages.Added.TheVariants as adds
use Rattle.wait_class.specs.declared.stages.Doing.TheVariants as doing
use Rattle.wait_class.specs.declared.stages.Turn.TheVariants as turn

-- What differs: the call; its tests, with the point of each, whether it loads the condition, and whether the call has
-- taken what it waits for there and in a finish; the points of its sleep and of its look for a signal; the tests behind
-- a prepare; where it goes on; and what its places say of its last steps.
pub record FrameTable (W T O : Type 0) : Type 1 where
  pub plan_of : W → Plan
  pub Fits : W → Type 0
  pub worn_at : W → ℕ → W
  pub test_point : T → Point
  pub loads : T → Bool
  pub took : T → Bool
  pub took_finish : Bool → Bool
  pub sleep_point : Point
  pub look_point : Point
  pub prepared : T
  pub worn_to : T
  pub finished : W → Bool → Turn (Stage T) O
  pub slept_to : W → Stage T
  pub looked : W → Bool → Turn (Stage T) O
  pub noted : W → T → ℕ → W
  pub loaded_to : W → T → ℕ → Turn (Stage T) O
  pub answer_of : O → Answer
  pub has_taken : O → Bool
  pub end_post : W → O → Post
  pub TestTrail : Known → W → T → Type 0
  pub SleepTrail : Known → W → Type 0
  pub LookTrail : Known → W → Type 0
  pub FinishTrail : Known → W → Bool → Type 0
  pub TrailEnd : Known → W → O → Type 0
  pub Keeps : ℕ → Watch → Bool → Bool → Known → Known → Type 0

-- the stages
abbrev pub point_at : {W T O : Type 0} → FrameTable W T O → Stage T → Point
point_at f (stage.Test x) = f.test_point x
point_at f stage.PrepareLock = at.Prepare preparing.Lock
point_at f stage.PrepareTurn = at.Prepare preparing.Lock
point_at f stage.PrepareQueue = at.Prepare preparing.Queue
point_at f stage.PrepareState = at.Prepare preparing.State
point_at f stage.PrepareUnlock = at.Prepare preparing.Unlock
point_at f stage.Sleep = f.sleep_point
point_at f stage.Look = f.look_point
point_at f (stage.FinishState failed) = at.Finish finishing.State failed
point_at f (stage.FinishLook failed) = at.Finish finishing.Look failed
point_at f (stage.FinishLock failed) = at.Finish finishing.Lock failed
point_at f (stage.FinishTurn failed) = at.Finish finishing.Lock failed
point_at f (stage.FinishQueue failed) = at.Finish finishing.Queue failed
point_at f (stage.FinishUnlock failed) = at.Finish finishing.Unlock failed

abbrev pub frame_doing : {W T O : Type 0} → FrameTable W T O → Stage T → Doing
frame_doing f (stage.Test x) = doing.Own
frame_doing f stage.PrepareLock = doing.Draw
frame_doing f stage.PrepareTurn = doing.Lock
frame_doing f stage.PrepareQueue = doing.Queue
frame_doing f stage.PrepareState = doing.State
frame_doing f stage.PrepareUnlock = doing.Unlock
frame_doing f stage.Sleep = doing.Sleep
frame_doing f stage.Look = doing.Look
frame_doing f (stage.FinishState failed) = doing.State
frame_doing f (stage.FinishLook failed) = doing.Peek
frame_doing f (stage.FinishLock failed) = doing.Draw
frame_doing f (stage.FinishTurn failed) = doing.Lock
frame_doing f (stage.FinishQueue failed) = doing.Pare
frame_doing f (stage.FinishUnlock failed) = doing.Unlock

abbrev pub is_frame_turn : {T : Type 0} → Stage T → Bool
is_frame_turn stage.PrepareTurn = true
is_frame_turn (stage.FinishTurn failed) = true
is_frame_turn _ = false

abbrev pub took_at : {W T O : Type 0} → FrameTable W T O → Stage T → Bool
took_at f (stage.Test x) = f.took x
took_at f (stage.FinishState failed) = f.took_finish failed
took_at f (stage.FinishLook failed) = f.took_finish failed
took_at f (stage.FinishLock failed) = f.took_finish failed
took_at f (stage.FinishTurn failed) = f.took_finish failed
took_at f (stage.FinishQueue failed) = f.took_finish failed
took_at f (stage.FinishUnlock failed) = f.took_finish failed
took_at f _ = false

-- how many events are left at most until no head is held
abbrev pub depth_at : {T : Type 0} → Stage T → ℕ
depth_at stage.PrepareQueue = 3
depth_at stage.PrepareState = 2
depth_at stage.PrepareUnlock = 1
depth_at (stage.FinishQueue failed) = 2
depth_at (stage.FinishUnlock failed) = 1
depth_at _ = 4

-- where it may go on that slept
abbrev pub is_outside : {T : Type 0} → Stage T → Bool
is_outside (stage.FinishState failed) = false
is_outside (stage.FinishLook failed) = false
is_outside (stage.FinishLock failed) = false
is_outside (stage.FinishTurn failed) = false
is_outside (stage.FinishQueue failed) = false
is_outside (stage.FinishUnlock failed) = false
is_outside _ = true

abbrev pub drawn_behind : {T : Type 0} → Stage T → Stage T
drawn_behind stage.PrepareLock = stage.PrepareTurn
drawn_behind (stage.FinishLock failed) = stage.FinishTurn failed
drawn_behind s = s

abbrev pub next_behind : {W T O : Type 0} → FrameTable W T O → Framed W → Stage T → Turn (Stage T) O
next_behind f r stage.PrepareTurn = turn.Again stage.PrepareQueue
next_behind f r stage.PrepareState = turn.Again stage.PrepareUnlock
next_behind f r stage.PrepareUnlock = turn.Again (stage.Test f.prepared)
next_behind f r (stage.FinishState failed) = turn.Again (stage.FinishLook failed)
next_behind f r (stage.FinishTurn failed) = turn.Again (stage.FinishQueue failed)
next_behind f r (stage.FinishUnlock failed) = f.finished r.wait failed
next_behind f r s = turn.Again s

abbrev pub noted_at : {W T O : Type 0} → FrameTable W T O → Framed W → Stage T → ℕ → Framed W
noted_at f r (stage.Test x) v = record { wait = f.noted r.wait x v }
noted_at f r s v = r

abbrev pub loaded_behind : {W T O : Type 0} → FrameTable W T O → Framed W → Stage T → ℕ → Turn (Stage T) O
loaded_behind f r (stage.Test x) v = f.loaded_to r.wait x v
loaded_behind f r s v = turn.Again s

abbrev pub found_behind : {W T O : Type 0} → FrameTable W T O → Framed W → Stage T → Bool → Turn (Stage T) O
found_behind f r stage.Look hit = f.looked r.wait hit
found_behind f r (stage.FinishLook failed) hit = if hit then turn.Again (stage.FinishLock failed)
    else f.finished r.wait failed
found_behind f r (stage.FinishQueue failed) hit = if hit then turn.Again (stage.FinishUnlock failed)
    else f.finished r.wait failed
found_behind f r s hit = turn.Again s

abbrev pub added_behind : {W T O : Type 0} → FrameTable W T O → Added → Turn (Stage T) O
added_behind f adds.Joined = turn.Again stage.PrepareState
added_behind f adds.Stayed = turn.Again stage.PrepareUnlock
added_behind f adds.Worn = turn.Again (stage.Test f.worn_to)

abbrev pub state_stored : {W T O : Type 0} → FrameTable W T O → Framed W → Stage T → ℕ
state_stored f r stage.PrepareState = state_mask (f.plan_of r.wait).state
state_stored f r _ = 0

abbrev pub FrameTrail : {W T O : Type 0} → FrameTable W T O → Known → Framed W → Stage T → Type 0
FrameTrail f k r (stage.Test x) = f.TestTrail k r.wait x
FrameTrail f k r stage.Sleep = f.SleepTrail k r.wait
FrameTrail f k r stage.Look = f.LookTrail k r.wait
FrameTrail f k r (stage.FinishState failed) = f.FinishTrail k r.wait failed
FrameTrail f k r (stage.FinishLook failed) = f.FinishTrail k r.wait failed
FrameTrail f k r (stage.FinishLock failed) = f.FinishTrail k r.wait failed
FrameTrail f k r (stage.FinishTurn failed) = f.FinishTrail k r.wait failed
FrameTrail f k r (stage.FinishQueue failed) = f.FinishTrail k r.wait failed
FrameTrail f k r (stage.FinishUnlock failed) = f.FinishTrail k r.wait failed
FrameTrail f k r _ = Unit {0}

abbrev pub framed : {W T O : Type 0} → FrameTable W T O → CallTable (Framed W) (Stage T) O
framed f = record {
  plan_of = λ r. f.plan_of r.wait;
  Fits = λ r. f.Fits r.wait;
  worn_at = λ r p. record { wait = f.worn_at r.wait p };
  joined_at = λ r s. r;
  point_of = point_at f;
  doing = frame_doing f;
  drawn = is_frame_turn;
  took = took_at f;
  depth = depth_at;
  drawn_to = drawn_behind;
  next_of = next_behind f;
  noted = noted_at f;
  loaded_to = loaded_behind f;
  found_to = found_behind f;
  heeded_to = λ r s hit. turn.Again s;
  slept_to = λ r s. f.slept_to r.wait;
  asleep_at = is_outside;
  added_to = λ r s a. added_behind f a;
  state_at = state_stored f;
  answer_of = f.answer_of;
  has_taken = f.has_taken;
  end_post = λ r o. f.end_post r.wait o;
  Tells = λ r q ts. Unit {0};
  Trail = FrameTrail f;
  TrailEnd = λ k r o. f.TrailEnd k r.wait o;
  Keeps = f.Keeps;
}

-- what stays of a task over a call that takes nothing
abbrev pub KeepsAll : ℕ → Watch → Bool → Bool → Known → Known → Type 0
KeepsAll i c g h old new = Keeps i old new

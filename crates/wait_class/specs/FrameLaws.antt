-- For proofs alone.
-- What a table has to keep of a call that prepares and finishes as the waits for bits do.
use Rattle.std.specs.Prelude.{ℕ, ◌≡◌, ◌<◌, Bool, true, false, if◌then◌else◌, is_some, None, List, [], ◌∷◌}
use Rattle.wait_model.specs.{declared.layout.TheConstants.FIRST_DONE_HEAD, declared.points.FinishPoint.FinishPoint}
use Rattle.wait_model.specs.{declared.points.Given.Given, declared.points.Next.Next, declared.points.Planned.Planned}
use Rattle.wait_model.specs.{declared.points.Point.Point, declared.points.PreparePoint.PreparePoint}
use Rattle.wait_model.specs.{declared.points.Seen.Seen, declared.tasks.SleepState.SleepState}
use Rattle.wait_model.specs.{declared.watches.Watch.Watch, declared.queues.Form.Form, declared.steps.Step.Step}
use Rattle.wait_model.specs.{Programs.go, Tasks.state_mask, Watches.IsThere, Watches.head_of}
use Rattle.wait_model.specs.PointFacts.{IsHome, absent, holds, waits}
use Rattle.wait_model.specs.declared.calls.Event.TheVariants as event
use Rattle.wait_model.specs.declared.points.FinishPoint.TheVariants as finishing
use Rattle.wait_model.specs.declared.points.Point.TheVariants as at
use Rattle.wait_model.specs.declared.points.PreparePoint.TheVariants as preparing
use Rattle.wait_model.specs.declared.steps.Step.TheVariants as step
use Rattle.wait_rule.specs.{Ends.WasWorn, Known.Known, Tickets.no_ticket}
use Rattle.wait_class.specs.{Posts.zone_at, Posts.EndsWith, declared.frame_stages.Stage.Stage, Frames.FrameTable}
use Rattle.wait_class.specs.Frames.{framed}
use Rattle.wait_class.specs.Laws.{KeepsLaws, LoadLaw, LookLaw, SleepLaw, Calm, IsPlainTurn, TurnTrail, Unmoved}
use Rattle.wait_class.specs.Laws.{turn_post}
use Rattle.wait_class.specs.Tables.{Plan, falls, has_sleep, next_in, took_in}
use Rattle.wait_class.specs.declared.frame_stages.Stage.TheVariants as stage

-- a program that prepares and finishes as the waits for bits do, and goes on so behind its finish
abbrev pub prepare_made : Point → Point → Watch → SleepState → Form → PreparePoint → Seen → Planned
prepare_made full after c st form preparing.Lock seen = go (event.Lock (head_of c)) (at.Prepare preparing.Queue)
prepare_made full after c st form preparing.Queue seen =
    if is_some seen.entry
    then go (event.State (state_mask st)) (at.Prepare preparing.Unlock)
    else if seen.worn
    then go (event.Unlock (head_of c) false) full
    else go (event.Queue (head_of c) form) (at.Prepare preparing.State)
prepare_made full after c st form preparing.State seen = go (event.State (state_mask st)) (at.Prepare preparing.Unlock)
prepare_made full after c st form preparing.Unlock seen = go (event.Unlock (head_of c) false) after
prepare_made full after c st form preparing.Look seen = go (event.Look false) (at.Prepare preparing.Queue)

abbrev pub finish_made : ℕ → (Bool → Next) → Watch → FinishPoint → Bool → Seen → Planned
finish_made me ends c finishing.State b seen = go (event.State 0) (at.Finish finishing.Look b)
finish_made me ends c finishing.Look b seen =
    if is_some seen.entry
    then go (event.Queued true) (at.Finish finishing.Lock b)
    else record { event = event.Queued false; next = ends b }
finish_made me ends c finishing.Lock b seen = go (event.Lock (head_of c)) (at.Finish finishing.Queue b)
finish_made me ends c finishing.Queue b seen =
    if is_some seen.entry
    then go (event.Unqueue me) (at.Finish finishing.Unlock b)
    else record { event = event.Unlock (head_of c) false; next = ends b }
finish_made me ends c finishing.Unlock b seen = record { event = event.Unlock (head_of c) false; next = ends b }

abbrev pub frame_makes : {W T O : Type 0} → FrameTable W T O → (Bool → Next) → Plan → ℕ → Point → Seen → Planned
frame_makes f ends p me (at.Prepare preparing.Look) seen = p.makes me (at.Prepare preparing.Look) seen
frame_makes f ends p me (at.Prepare x) seen = prepare_made (f.test_point f.worn_to) (f.test_point f.prepared)
    p.watch p.state p.form x seen
frame_makes f ends p me (at.Finish x b) seen = finish_made me ends p.watch x b seen
frame_makes f ends p me x seen = p.makes me x seen

abbrev pub frame_given : Plan → Point → Given
frame_given p (at.Prepare x) = record (p.given (at.Prepare x)) { walk = None }
frame_given p (at.Finish x b) = record (p.given (at.Finish x b)) { walk = None }
frame_given p x = p.given x

abbrev pub frame_head : Plan → Point → ℕ
frame_head p (at.Prepare x) = head_of p.watch
frame_head p (at.Finish x b) = head_of p.watch
frame_head p x = p.head x

abbrev pub frame_stirs : Plan → Point → Bool
frame_stirs p (at.Prepare preparing.Look) = p.stirs (at.Prepare preparing.Look)
frame_stirs p (at.Prepare preparing.Unlock) = true
frame_stirs p (at.Prepare x) = p.stirs (at.Prepare preparing.Queue)
frame_stirs p (at.Finish finishing.State b) = true
frame_stirs p (at.Finish x b) = false
frame_stirs p x = p.stirs x

abbrev pub framed_plan : {W T O : Type 0} → FrameTable W T O → (Bool → Next) → Plan → Plan
framed_plan f ends p = record {
  makes = frame_makes f ends p;
  given = frame_given p;
  watch = p.watch;
  state = p.state;
  form = p.form;
  numbers = p.numbers;
  asked = p.asked;
  watches = λ x. p.watch;
  head = frame_head p;
  stirs = frame_stirs p;
}

-- where a call goes on behind a finish
pub record FinishLaw {W T O : Type 0} (f : FrameTable W T O) (r : W) (failed : Bool) : Type 0 where
  pub plain : IsPlainTurn (framed f) (f.finished r failed)
  pub falls : (s : Stage T) → falls (framed f) s (f.finished r failed) ≡ true
  pub took : f.took_finish failed ≡ took_in (framed f) (f.finished r failed)
  pub head : (turn_post (framed f) (record { wait = r }) (f.finished r failed)).head ≡ None
  pub ticket : (turn_post (framed f) (record { wait = r }) (f.finished r failed)).ticket ≡ no_ticket
  pub home : IsHome (turn_post (framed f) (record { wait = r }) (f.finished r failed)).zone
      (turn_post (framed f) (record { wait = r }) (f.finished r failed)).watch None
  pub trail : (k : Known) → f.FinishTrail k r failed
      → TurnTrail (framed f) k (record { wait = r }) (f.finished r failed)

pub record IsLawfulFrame {W T O : Type 0} (f : FrameTable W T O) : Type 0 where
  pub keeps : KeepsLaws f.Keeps
  pub there : (r : W) → f.Fits r → IsThere (f.plan_of r).watch
  pub watches : (r : W) (p : Point) → (f.plan_of r).watches p ≡ (f.plan_of r).watch
  pub low : (r : W) → f.Fits r → head_of (f.plan_of r).watch < FIRST_DONE_HEAD
  pub worn : (r : W) (p : ℕ) → f.plan_of (f.worn_at r p) ≡ f.plan_of r
  pub worn_fits : (r : W) (p : ℕ) → f.Fits r → f.Fits (f.worn_at r p)
  -- the program, and where it goes behind a finish
  pub ends : W → Bool → Next
  pub goes : (r : W) (failed : Bool) → ends r failed ≡ next_in (framed f) (f.finished r failed)
  pub stands : (r : W) → f.plan_of r ≡ framed_plan f (ends r) (f.plan_of r)
  -- the prepare
  pub prepared_stirs : (r : W) → (f.plan_of r).stirs (f.test_point f.prepared) ≡ true
  pub prepared_zone : zone_at (f.test_point f.prepared) ≡ waits
  pub prepared_took : f.took f.prepared ≡ false
  pub prepared_trail : (old new : Known) (r : W)
      → Calm (step.Unlock (head_of (f.plan_of r).watch) false ∷ []) old new
      → f.TestTrail new r f.prepared
  pub worn_stirs : (r : W) → (f.plan_of r).stirs (f.test_point f.worn_to)
      ≡ (f.plan_of r).stirs (at.Prepare preparing.Queue)
  pub worn_zone : zone_at (f.test_point f.worn_to) ≡ absent
  pub worn_took : f.took f.worn_to ≡ false
  pub worn_trail : (new : Known) (r : W) (p : ℕ)
      → WasWorn new.view.number new.view.items (head_of (f.plan_of r).watch) p
      → EndsWith new (step.Unlock (head_of (f.plan_of r).watch) false ∷ [])
      → f.TestTrail new (f.worn_at r p) f.worn_to
  -- the tests, the sleep and the look for a signal
  pub test_free : (x : T) → holds (f.test_point x) ≡ false
  pub sleep_free : holds f.sleep_point ≡ false
  pub look_free : holds f.look_point ≡ false
  pub loads : (r : W) (x : T) → f.loads x ≡ true → (v : ℕ)
      → LoadLaw (framed f) (record { wait = r }) (stage.Test x) v (record { wait = f.noted r x v }) (f.loaded_to r x v)
  pub sleeps : (r : W) → SleepLaw (framed f) (record { wait = r }) stage.Sleep (f.slept_to r)
  pub looks : (r : W) (hit : Bool) → LookLaw (framed f) (record { wait = r }) stage.Look hit
  -- the finish
  pub finishes : (r : W) (failed : Bool) → FinishLaw f r failed
  pub calm : (old new : Known) (r : W) (failed : Bool) (es : List Step) → has_sleep es ≡ false → Calm es old new
      → f.FinishTrail old r failed → f.FinishTrail new r failed
  pub test_still : (old new : Known) (r : W) (x : T) → Unmoved old new → f.TestTrail old r x → f.TestTrail new r x
  pub sleep_still : (old new : Known) (r : W) → Unmoved old new → f.SleepTrail old r → f.SleepTrail new r
  pub look_still : (old new : Known) (r : W) → Unmoved old new → f.LookTrail old r → f.LookTrail new r

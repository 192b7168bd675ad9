-- To be believed.
-- A wait for the flag of an own entry of kind Woken, in stretches: its stages, and what each turn does.
use Rattle.std.specs.Prelude.{ℕ, ◌≡◌, Bool, true, false, None, List, [], ◌∷◌}
use Rattle.wait_model.specs.declared.calls.Call.TheVariants as calls
use Rattle.wait_model.specs.{declared.points.Point.Point, declared.points.Next.Next, declared.steps.Step.Step}
use Rattle.wait_model.specs.{declared.tasks.SleepState.SleepState, declared.watches.Watch.Watch, Points.call_watch}
use Rattle.wait_model.specs.{Programs.zero_answer, PointFacts.free, Tasks.state_mask, Words.flag_of}
use Rattle.wait_model.specs.declared.points.Point.TheVariants as at
use Rattle.wait_model.specs.declared.points.WokenPoint.TheVariants as hearing
use Rattle.wait_model.specs.declared.points.Next.TheVariants as next
use Rattle.wait_model.specs.declared.steps.Step.TheVariants as step
use Rattle.wait_rule.specs.{Known.Known, Tickets.no_ticket, Transitions.Program, Transitions.call_program}
use Rattle.wait_rule.specs.Says.{Excuse, IsDown, IsUp, told_of, OwesBut}
use Rattle.wait_event.specs.{Entries.HasWokenEntry, declared.woken_waits.WokenStage.WokenStage}
use Rattle.wait_event.specs.declared.woken_waits.WokenTurn.{WokenTurn}
use Rattle.wait_class.specs.Posts.{Post, Runs, Stands, post_at, EndsWith, own_of}
use Rattle.wait_event.specs.declared.woken_waits.WokenStage.TheVariants as stage
use Rattle.wait_event.specs.declared.woken_waits.WokenTurn.TheVariants as turn

-- the point of the program at each stage, and the program
abbrev pub woken_point : WokenStage → Point
woken_point stage.State = at.Woken hearing.State
woken_point stage.Flag = at.Woken hearing.Flag
woken_point stage.Sleep = at.Woken hearing.Sleep
woken_point stage.Run = at.Woken hearing.Run
woken_point stage.Clear = at.Woken hearing.Clear

abbrev pub woken_program : ℕ → SleepState → Program
woken_program me st = call_program me 0 (calls.Woken st)

abbrev pub woken_post : SleepState → WokenStage → Post
woken_post st s = post_at None (calls.Woken st) (woken_point s)

-- The steps of the wait: the state was stored, and then the flag loaded as this word; the task slept only where WOKEN
-- was not set in it, once, and found its own word so. After that come these.
abbrev pub unless_set : Bool → ℕ → List Step → List Step
unless_set true own more = more
unless_set false own more = step.Sleep own ∷ more

abbrev pub heard_steps : SleepState → ℕ → ℕ → ℕ → List Step → List Step
heard_steps st x found own more = step.State (state_mask st) ∷ step.Flag x found ∷ unless_set (flag_of found) own more

-- The history ends with these steps, and some before them.
abbrev pub HasHeardSo : Known → SleepState → List Step → Type 0
HasHeardSo k st more = (found : ℕ) × (own : ℕ) × EndsWith k (heard_steps st (own_of k) found own more)

-- what a stage says of the last steps
abbrev pub WokenTrail : Known → SleepState → Point → Type 0
WokenTrail k st (at.Woken hearing.Flag) = EndsWith k (step.State (state_mask st) ∷ [])
WokenTrail k st (at.Woken hearing.Sleep) = (found : ℕ) × (flag_of found ≡ false)
    × EndsWith k (step.State (state_mask st) ∷ step.Flag (own_of k) found ∷ [])
WokenTrail k st (at.Woken hearing.Run) = HasHeardSo k st []
WokenTrail k st (at.Woken hearing.Clear) = HasHeardSo k st (step.State 0 ∷ [])
WokenTrail k st _ = Unit {0}

-- at the end the state was stored as RUNNING, and then the flag cleared
abbrev pub WokenTrailEnd : Known → SleepState → Type 0
WokenTrailEnd k st = HasHeardSo k st (step.State 0 ∷ step.Unflag (own_of k) None ∷ [])

pub record IsHearing (k : Known) (st : SleepState) (s : WokenStage) : Type 0 where
  pub up : IsUp k
  pub stands : Stands k (woken_post st s)
  pub entry : HasWokenEntry k
  pub trail : WokenTrail k st (woken_point s)

-- it was put asleep, and goes on at the store of RUNNING
pub record IsHearingAsleep (k : Known) (st : SleepState) : Type 0 where
  pub down : IsDown k
  pub stands : Stands k (woken_post st stage.Run)
  pub entry : HasWokenEntry k
  pub trail : WokenTrail k st (woken_point stage.Run)

-- the wait has ended: the task is awake, RUNNING, and holds no head
abbrev pub heard_post : SleepState → Post
heard_post st = record {
  head = None;
  ticket = no_ticket;
  stirs = false;
  state = 0;
  zone = free;
  watch = call_watch (calls.Woken st);
}

pub record HasHeard (k : Known) (st : SleepState) : Type 0 where
  pub up : IsUp k
  pub stands : Stands k (heard_post st)
  pub entry : HasWokenEntry k
  pub trail : WokenTrailEnd k st

abbrev pub woken_next : WokenTurn → Next
woken_next (turn.Again s) = next.Go (woken_point s)
woken_next turn.Asleep = next.Go (woken_point stage.Run)
woken_next turn.Done = next.Ends zero_answer

-- What stays of a task over a part of the wait: all but its state, and whether it is awake. It looks at no entry, and
-- its own one stands.
pub record KeepsEntries (old new : Known) : Type 0 where
  pub domain : new.domain ≡ old.domain
  pub number : new.view.number ≡ old.view.number
  pub at : new.at ≡ old.at
  pub mark : (told_of new).mark ≡ (told_of old).mark
  pub fewer : (w : Watch) (σ : ℕ) → (told_of old).duty.owes w σ ≡ false → (told_of new).duty.owes w σ ≡ false
  pub stored : (x : ℕ) → (told_of new).bits.stored x ≡ (told_of old).bits.stored x
  pub keeps : (d : Watch) → (told_of new).bits.keeps d ≡ (told_of old).bits.keeps d
  pub owes : (x : Excuse) → OwesBut x old → OwesBut x new

pub record WentHearing (old new : Known) (st : SleepState) (from to : Next) : Type 0 where
  pub runs : Runs (woken_program old.view.number st) old new from to
  pub keeps : KeepsEntries old new

-- and where it stands then
abbrev pub LandsHearing : Known → SleepState → WokenTurn → Type 0
LandsHearing new st (turn.Again s) = IsHearing new st s
LandsHearing new st turn.Asleep = IsHearingAsleep new st
LandsHearing new st turn.Done = HasHeard new st

-- what a turn did
pub record Hears (old new : Known) (st : SleepState) (s : WokenStage) (t : WokenTurn) : Type 0 where
  pub went : WentHearing old new st (next.Go (woken_point s)) (woken_next t)
  pub lands : LandsHearing new st t

-- The task went through the whole call. Its last steps are these: it stored its state, loaded its flag, slept where
-- WOKEN was not set, stored RUNNING, and cleared its flag.
pub record EndsWoken (old new : Known) (st : SleepState) : Type 0 where
  pub runs : Runs (woken_program old.view.number st) old new (next.Go (at.Woken hearing.State))
      (next.Ends zero_answer)
  pub steps : WokenTrailEnd new st

-- The places of a program aside of the turns of a wait. What holds of each event that ends its call, and of each
-- that leads to such a place, holds of the events at all points from which nothing else follows.
use Rattle.std.proofs.Common.{refl}
use Rattle.std.specs.Prelude.{ℕ, ◌≡◌, Bool, true, false, not, ◌==◌, if◌then◌else◌, is_some, Option, Some, None}
use Rattle.wait_model.specs.{declared.calls.Call.Call, declared.calls.Event.Event, declared.calls.Answer.Answer}
use Rattle.wait_model.specs.{declared.queues.Walking.Walking, declared.queues.CalledEntry.CalledEntry}
use Rattle.wait_model.specs.{declared.watches.Kind.Kind, declared.points.Planned.Planned, declared.points.Seen.Seen}
use Rattle.wait_model.specs.{declared.points.Point.Point, declared.points.WalkPoint.WalkPoint}
use Rattle.wait_model.specs.{declared.points.SelectPoint.SelectPoint, Tasks.meets, Watches.mask_of, Watches.misses}
use Rattle.wait_model.specs.Tables.{value_of}
use Rattle.wait_model.specs.Points.{is_lock, call_aim, call_watch, mode_of}
use Rattle.wait_model.specs.Programs.{go, ends_with, past, onward, reached, call_entry, call_next, active_event}
use Rattle.wait_model.specs.Programs.{select_next, is_at_end, is_enough}
use Rattle.wait_model.specs.Runs.{State, own, seen_by, planned}
use Rattle.wait_model.specs.declared.calls.Event.TheVariants as event
use Rattle.wait_model.specs.declared.watches.Kind.TheVariants as kind
use Rattle.wait_model.specs.declared.points.Point.TheVariants as at
use Rattle.wait_model.specs.declared.points.PreparePoint.TheVariants as preparing
use Rattle.wait_model.specs.declared.points.LeavePoint.TheVariants as leaving
use Rattle.wait_model.specs.declared.points.FinishPoint.TheVariants as finishing
use Rattle.wait_model.specs.declared.points.WalkPoint.TheVariants as walking
use Rattle.wait_model.specs.declared.points.AddPoint.TheVariants as adding
use Rattle.wait_model.specs.declared.points.RemovePoint.TheVariants as removing
use Rattle.wait_model.specs.declared.points.WokenPoint.TheVariants as hearing
use Rattle.wait_model.specs.declared.points.SelectPoint.TheVariants as selecting
use Rattle.wait_model.specs.declared.points.AwaitPoint.TheVariants as awaiting
use Rattle.wait_model.specs.declared.points.CountPoint.TheVariants as counting
use Rattle.wait_model.specs.declared.points.BitPoint.TheVariants as biting
use Rattle.wait_model.specs.declared.points.PageStage.TheVariants as staging
use Rattle.wait_model.specs.declared.points.PagePoint.TheVariants as paging

-- what holds of both answers of a test
pub either : {A : Type 0} (P : A → Type 0) (b : Bool) (x y : A) → P x → P y → P (if b then x else y)
either P true x y h k = h
either P false x y h k = k

pub both : (P : Bool → Type 0) (b : Bool) → P true → P false → P b
both P true h k = h
both P false h k = k

-- the call's condition is not set
abbrev pub unset : State → Call → Bool
unset s call = misses (call_watch call) (value_of s.table.words (call_watch call))

abbrev pub is_aside : Point → Bool
is_aside (at.Prepare preparing.Lock) = true
is_aside (at.Prepare p) = false
is_aside at.Test = false
is_aside at.Sleep = false
is_aside (at.Leave p) = false
is_aside (at.Finish p failed) = not failed
is_aside (at.Bit p) = false
is_aside (at.Await (awaiting.Off false)) = true
is_aside (at.Await (awaiting.Last false)) = true
is_aside (at.Await awaiting.Unlock) = true
is_aside (at.Await p) = false
is_aside _ = true

-- the points from which a call goes on to such places alone
abbrev pub StaysAside : Point → Type 0
StaysAside (at.Prepare p) = ⊥
StaysAside at.Test = ⊥
StaysAside at.Sleep = ⊥
StaysAside (at.Leave leaving.Load) = Unit {0}
StaysAside (at.Leave p) = ⊥
StaysAside (at.Finish p true) = ⊥
StaysAside (at.Bit biting.Try) = Unit {0}
StaysAside (at.Bit biting.First) = Unit {0}
StaysAside (at.Bit biting.Last) = Unit {0}
StaysAside (at.Bit p) = ⊥
StaysAside (at.Await (awaiting.Run false)) = Unit {0}
StaysAside (at.Await (awaiting.Off false)) = Unit {0}
StaysAside (at.Await (awaiting.Last stopped)) = Unit {0}
StaysAside (at.Await awaiting.Unlock) = Unit {0}
StaysAside (at.Await p) = ⊥
StaysAside _ = Unit {0}

module _ (s : State) (me : ℕ) (call : Call) (P : Planned → Type 0) (ends : (e : Event) (a : Answer) → P (ends_with e a))
    (goes : (e : Event) (q : Point) → is_aside q ≡ true → P (go e q)) where
  goes_by : (e : Event) (b : Bool) (p q : Point) → is_aside p ≡ true → is_aside q ≡ true
      → P (go e (if b then p else q))
  goes_by e true p q h k = goes e p h
  goes_by e false p q h k = goes e q k

  onward_aside : (e : Event) (w : Walking) → P (go e (onward w))
  onward_aside e w = goes_by e w.spent _ _ refl refl

  entry_aside : (w : Walking) (c : CalledEntry) (j : Kind) (seen : Seen) (hit : Bool)
      → P (call_entry (call_aim call) w c j seen hit)
  entry_aside w c kind.Autoremove seen hit = goes _ _ refl
  entry_aside w c kind.Woken seen hit = goes _ _ refl
  entry_aside w c kind.Bit seen hit = goes _ _ refl
  entry_aside w c kind.Var seen hit = goes _ _ refl
  entry_aside w c kind.Page seen hit = goes _ _ refl
  entry_aside w c j seen hit = onward_aside (event.Wake c.who hit) (past w c hit)

  next_aside : (w : Walking) (o : Option CalledEntry) (seen : Seen) (hit : Bool)
      → P (call_next (call_aim call) w o seen hit)
  next_aside w None seen hit = ends _ _
  next_aside w (Some c) seen hit = entry_aside w c c.kind seen hit

  abbrev at_walk : WalkPoint → Seen
  at_walk p = seen_by s me call (at.Walk p)

  walk_aside : (p : WalkPoint) → P (planned s me call (at.Walk p))
  walk_aside (walking.Call w) = either P (at_walk (walking.Call w)).breaks _ _ (goes _ _ refl)
      (next_aside (reached w (at_walk (walking.Call w)).calls) (at_walk (walking.Call w)).called
      (at_walk (walking.Call w)) (meets (mask_of (mode_of call)) (at_walk (walking.Call w)).other.state))
  walk_aside (walking.Wake w c) = onward_aside _
      (past w c (meets (mask_of (mode_of call)) (at_walk (walking.Wake w c)).other.state))
  walk_aside (walking.Page staging.Off w c) = onward_aside _ (past w c true)
  walk_aside (walking.Stopped w) = ends _ _
  walk_aside (walking.Unqueue w who) = onward_aside _ w
  walk_aside (walking.Spent w) = ends _ _
  walk_aside _ = goes _ _ refl

  active_aside : (b : Bool) → P (active_event call b)
  active_aside true = goes _ _ refl
  active_aside false = ends _ _

  chosen_aside : (j : ℕ) (o : Option CalledEntry) (hit : Bool) → P (select_next call j o hit)
  chosen_aside j None hit = ends _ _
  chosen_aside j (Some c) hit = goes _ _ refl

  select_aside : (p : SelectPoint) → P (planned s me call (at.Select p))
  select_aside (selecting.Next j) = either P (is_enough call j) _ _ (ends _ _) (chosen_aside j _ _)
  select_aside _ = goes _ _ refl

  lowered_aside : (b : Bool) (e d : Event) (a : Answer)
      → P (if b then ends_with e a else go d (at.Await awaiting.Unlock))
  lowered_aside true e d a = ends e a
  lowered_aside false e d a = goes d _ refl

  pub aside_step : (p : Point) → StaysAside p → P (planned s me call p)
  aside_step at.First o = either P (unset s call) _ _ (goes _ _ refl) (ends _ _)
  aside_step (at.Prepare p) o = absurd o
  aside_step at.Test o = absurd o
  aside_step at.Sleep o = absurd o
  aside_step (at.Leave leaving.Load) o = either P (unset s call) _ _ (ends _ _) (goes _ _ refl)
  aside_step (at.Leave leaving.Queue) o = absurd o
  aside_step (at.Leave leaving.Unlock) o = absurd o
  aside_step (at.Finish p true) o = absurd o
  aside_step (at.Finish finishing.State false) o = goes _ _ refl
  aside_step (at.Finish finishing.Look false) o = either P (is_some (s.table.entry (own me))) _ _ (goes _ _ refl)
      (ends _ _)
  aside_step (at.Finish finishing.Lock false) o = goes _ _ refl
  aside_step (at.Finish finishing.Queue false) o = either P (is_some (s.table.entry (own me))) _ _ (goes _ _ refl)
      (ends _ _)
  aside_step (at.Finish finishing.Unlock false) o = ends _ _
  aside_step (at.Bit biting.Try) o = ends _ _
  aside_step (at.Bit biting.First) o = either P (unset s call) _ _ (goes _ _ refl) (ends _ _)
  aside_step (at.Bit biting.Last) o = ends _ _
  aside_step (at.Bit biting.Load) o = absurd o
  aside_step (at.Bit biting.Sleep) o = absurd o
  aside_step (at.Bit biting.Look) o = absurd o
  aside_step (at.Bit (biting.Again failed)) o = absurd o
  aside_step (at.Page paging.First) o = either P (unset s call) _ _ (goes _ _ refl) (ends _ _)
  aside_step (at.Page paging.Unflag) o = goes _ _ refl
  aside_step (at.Page paging.Lock) o = goes _ _ refl
  aside_step (at.Page paging.Queue) o = goes _ _ refl
  aside_step (at.Page paging.Try) o = goes _ _ refl
  aside_step (at.Page paging.Off) o = goes _ _ refl
  aside_step (at.Page (paging.Unlock true)) o = ends _ _
  aside_step (at.Page (paging.Unlock false)) o = goes _ _ refl
  aside_step (at.Page paging.State) o = goes _ _ refl
  aside_step (at.Page paging.Flag) o = goes _ _ refl
  aside_step (at.Page paging.Look) o = goes _ _ refl
  aside_step (at.Page paging.Sleep) o = goes _ _ refl
  aside_step (at.Page (paging.Finish finishing.State)) o = goes _ _ refl
  aside_step (at.Page (paging.Finish finishing.Look)) o = either P (is_some (s.table.entry (own me))) _ _
      (goes _ _ refl) (goes _ _ refl)
  aside_step (at.Page (paging.Finish finishing.Lock)) o = goes _ _ refl
  aside_step (at.Page (paging.Finish finishing.Queue)) o = either P (is_some (s.table.entry (own me))) _ _
      (goes _ _ refl) (goes _ _ refl)
  aside_step (at.Page (paging.Finish finishing.Unlock)) o = goes _ _ refl
  aside_step (at.Page paging.Last) o = either P (s.table.flag (own me)) _ _ (goes _ _ refl) (ends _ _)
  aside_step (at.Page paging.Clear) o = ends _ _
  aside_step at.Publish o = goes _ _ refl
  aside_step at.Active o = active_aside (seen_by s me call at.Active).members
  aside_step (at.Walk p) o = walk_aside p
  aside_step (at.Add adding.Lock) o = goes _ _ refl
  aside_step (at.Add adding.Queue) o = goes _ _ refl
  aside_step (at.Add adding.Unlock) o = ends _ _
  aside_step (at.Remove removing.Lock) o = goes _ _ refl
  aside_step (at.Remove (removing.Queue c)) o = goes _ _ refl
  aside_step (at.Remove (removing.Unlock c)) o = ends _ _
  aside_step (at.Woken hearing.State) o = goes _ _ refl
  aside_step (at.Woken hearing.Flag) o = goes _ _ refl
  aside_step (at.Woken hearing.Sleep) o = goes _ _ refl
  aside_step (at.Woken hearing.Run) o = goes _ _ refl
  aside_step (at.Woken hearing.Clear) o = ends _ _
  aside_step (at.Select p) o = select_aside p
  aside_step (at.Await (awaiting.Run false)) o = goes _ _ refl
  aside_step (at.Await (awaiting.Run true)) o = absurd o
  aside_step (at.Await (awaiting.Off false)) o = either P (is_some (s.table.entry (own me))) _ _ (goes _ _ refl)
      (lowered_aside (is_at_end (value_of s.table.words (call_watch call))) _ _ _)
  aside_step (at.Await (awaiting.Off true)) o = absurd o
  aside_step (at.Await (awaiting.Last true)) o = ends _ _
  aside_step (at.Await (awaiting.Last false)) o = lowered_aside
      (is_at_end (value_of s.table.words (call_watch call))) _ _ _
  aside_step (at.Await awaiting.Unlock) o = ends _ _
  aside_step (at.Await (awaiting.Lock waited)) o = absurd o
  aside_step (at.Await (awaiting.Load waited)) o = absurd o
  aside_step (at.Count counting.Peek) o = either P (value_of s.table.words (call_watch call) == 0) _ _ (ends _ _)
      (goes _ _ refl)
  aside_step (at.Count counting.Lock) o = goes _ _ refl
  aside_step (at.Count counting.Load) o = goes _ _ refl
  aside_step (at.Count counting.Store) o = goes _ _ refl
  aside_step (at.Count (counting.Unlock hit)) o = ends _ _
  aside_step at.Raise o = goes _ _ refl
  aside_step at.Worn o = either P (unset s call) _ _ (ends _ _) (either P (is_lock call) _ _ (ends _ _) (goes _ _ refl))
  aside_step _ o = ends _ _

-- No program but that of a signal raises one, and none but that of a take takes the own ones: no plan leads to the points
-- where that is done. Nor does a walk publish anything. What holds where an event of these three kinds is made is given.
use Rattle.std.proofs.Common.{refl}
use Rattle.std.specs.Prelude.{ℕ, ◌≡◌, ◌≢◌, ◌==◌, ◌&&◌, not, Bool, true, false, if◌then◌else◌, is_some, Option, Some, None}
use Rattle.wait_model.specs.{declared.calls.Call.Call, declared.calls.Event.Event, declared.points.AddPoint.AddPoint}
use Rattle.wait_model.specs.{declared.points.AwaitPoint.AwaitPoint, declared.points.BitPoint.BitPoint}
use Rattle.wait_model.specs.{declared.points.CountPoint.CountPoint, declared.points.FinishPoint.FinishPoint}
use Rattle.wait_model.specs.{declared.points.LeavePoint.LeavePoint, declared.points.Next.Next}
use Rattle.wait_model.specs.{declared.points.PagePoint.PagePoint, declared.points.PageStage.PageStage}
use Rattle.wait_model.specs.{declared.points.Planned.Planned, declared.points.Point.Point}
use Rattle.wait_model.specs.{declared.points.PreparePoint.PreparePoint, declared.points.RemovePoint.RemovePoint}
use Rattle.wait_model.specs.{declared.points.Seen.Seen, declared.points.SelectPoint.SelectPoint}
use Rattle.wait_model.specs.{declared.points.WalkPoint.WalkPoint, declared.points.WokenPoint.WokenPoint}
use Rattle.wait_model.specs.{declared.queues.CalledEntry.CalledEntry, declared.queues.Walking.Walking}
use Rattle.wait_model.specs.{declared.watches.Aim.Aim, declared.watches.Kind.Kind, Tasks.pending, Tasks.state_mask}
use Rattle.wait_model.specs.Points.{call_aim, is_lock, state_in}
use Rattle.wait_model.specs.Programs.{active_event, add_event, ask, await_ends, await_event, bit_event, call_entry}
use Rattle.wait_model.specs.Programs.{call_fails, call_next, count_event, finish_event, finished, hands_event}
use Rattle.wait_model.specs.Programs.{is_at_end, is_enough, leave_event, onward, page_event, page_finish_event}
use Rattle.wait_model.specs.Programs.{prepare_event, prepared_at, prepares_from, program, publishing_event}
use Rattle.wait_model.specs.Programs.{remove_event, select_event, select_next, signalled_at, slept_at, walk_event}
use Rattle.wait_model.specs.Programs.{woken_event, worn_event, worn_next}
use Rattle.wait_model.specs.declared.calls.Call.TheVariants as calls
use Rattle.wait_model.specs.declared.calls.Event.TheVariants as event
use Rattle.wait_model.specs.declared.points.AddPoint.TheVariants as adding
use Rattle.wait_model.specs.declared.points.AwaitPoint.TheVariants as awaiting
use Rattle.wait_model.specs.declared.points.BitPoint.TheVariants as biting
use Rattle.wait_model.specs.declared.points.CountPoint.TheVariants as counting
use Rattle.wait_model.specs.declared.points.FinishPoint.TheVariants as finishing
use Rattle.wait_model.specs.declared.points.LeavePoint.TheVariants as leaving
use Rattle.wait_model.specs.declared.points.Next.TheVariants as next
use Rattle.wait_model.specs.declared.points.PagePoint.TheVariants as paging
use Rattle.wait_model.specs.declared.points.PageStage.TheVariants as staging
use Rattle.wait_model.specs.declared.points.Point.TheVariants as at
use Rattle.wait_model.specs.declared.points.PreparePoint.TheVariants as preparing
use Rattle.wait_model.specs.declared.points.RemovePoint.TheVariants as removing
use Rattle.wait_model.specs.declared.points.SelectPoint.TheVariants as selecting
use Rattle.wait_model.specs.declared.points.WalkPoint.TheVariants as walking
use Rattle.wait_model.specs.declared.points.WokenPoint.TheVariants as hearing
use Rattle.wait_model.specs.declared.watches.Kind.TheVariants as kind

module _ (Raises Takes Stores : Type 0) where
  abbrev pub IsSilent : Event → Type 0
  IsSilent (event.Signal who fatal) = Raises
  IsSilent (event.Accept x) = Takes
  IsSilent (event.Set c n) = Stores
  IsSilent (event.Clear i b) = Stores
  IsSilent _ = Unit {0}

  abbrev pub IsElsewhere : Point → Type 0
  IsElsewhere at.Raise = Raises
  IsElsewhere at.Accept = Takes
  IsElsewhere _ = Unit {0}

  abbrev pub GoesElsewhere : Next → Type 0
  GoesElsewhere (next.Go p) = IsElsewhere p
  GoesElsewhere (next.Ends a) = Unit {0}

  abbrev pub IsQuiet : Planned → Type 0
  IsQuiet x = IsSilent x.event × GoesElsewhere x.next

  pub goes_elsewhere : (n : Next) → (n ≡ next.Go at.Raise → Raises) → (n ≡ next.Go at.Accept → Takes) → GoesElsewhere n
  goes_elsewhere (next.Go at.Raise) raises takes = raises refl
  goes_elsewhere (next.Go at.Accept) raises takes = takes refl
  goes_elsewhere (next.Go p) raises takes = tt
  goes_elsewhere (next.Ends a) raises takes = tt

  either : (b : Bool) (x y : Planned) → IsQuiet x → IsQuiet y → IsQuiet (if b then x else y)
  either true x y one two = one
  either false x y one two = two

  either_at : (b : Bool) (p q : Point) → IsElsewhere p → IsElsewhere q → IsElsewhere (if b then p else q)
  either_at true p q one two = one
  either_at false p q one two = two

  either_event : (b : Bool) (e f : Event) → IsSilent e → IsSilent f → IsSilent (if b then e else f)
  either_event true e f one two = one
  either_event false e f one two = two

  -- the walk of an aim
  module _ (aim : Aim) (seen : Seen) where
    on : (w : Walking) → IsElsewhere (onward w)
    on w = either_at w.spent _ _ tt tt

    entry_quiet : (w : Walking) (c : CalledEntry) (d : Kind) (hit : Bool) → IsQuiet (call_entry aim w c d seen hit)
    entry_quiet w c kind.Default hit = (tt, on _)
    entry_quiet w c kind.Simple hit = (tt, on _)
    entry_quiet w c _ hit = (tt, tt)

    next_quiet : (w : Walking) (o : Option CalledEntry) (hit : Bool) → IsQuiet (call_next aim w o seen hit)
    next_quiet w None hit = (tt, tt)
    next_quiet w (Some c) hit = entry_quiet w c c.kind hit

    hands_quiet : (st : PageStage) (w : Walking) (c : CalledEntry) → IsQuiet (hands_event aim st w c seen)
    hands_quiet staging.Off w c = (tt, on _)
    hands_quiet _ w c = (tt, tt)

    pub walk_quiet : (p : WalkPoint) → IsQuiet (walk_event aim p seen)
    walk_quiet (walking.Call w) = either seen.breaks _ _ (tt, tt) (next_quiet _ seen.called _)
    walk_quiet (walking.Page st w c) = hands_quiet st w c
    walk_quiet (walking.Wake w c) = (tt, on _)
    walk_quiet (walking.Unqueue w who) = (tt, on w)
    walk_quiet _ = (tt, tt)

  -- where calls go on
  signalled_on : (call : Call) → IsElsewhere (signalled_at call)
  signalled_on (calls.WaitFor d st) = tt
  signalled_on call = tt

  prepared_on : (call : Call) → IsElsewhere (prepared_at call)
  prepared_on (calls.WaitFor d st) = tt
  prepared_on call = tt

  slept_on : (call : Call) → IsElsewhere (slept_at call)
  slept_on (calls.WaitFor d st) = tt
  slept_on call = tt

  worn_on : (call : Call) → GoesElsewhere (worn_next call)
  worn_on (calls.WaitFor d st) = tt
  worn_on call = tt

  publishing_silent : Stores → (call : Call) → IsSilent (publishing_event call)
  publishing_silent stores (calls.ClearBit w b) = stores
  publishing_silent stores call = stores

  module _ (stores : Stores) (me : ℕ) (call : Call) (seen : Seen) where
    ask_silent : IsSilent (ask call seen)
    ask_silent = either_event (is_lock call) _ _ tt tt

    finished_quiet : (failed : Bool) (e : Event) → IsSilent e → IsQuiet (finished call failed e)
    finished_quiet failed e quiet = either (failed && is_lock call) _ _ (quiet, tt) (quiet, tt)

    prepare_quiet : (p : PreparePoint) → IsQuiet (prepare_event call p seen)
    prepare_quiet preparing.Lock = (tt, tt)
    prepare_quiet preparing.Look = (
      tt,
      either_at (pending (state_mask (state_in call)) seen.own) _
          (at.Prepare preparing.Queue) (signalled_on call) tt,
    )
    prepare_quiet preparing.Queue = either (is_some seen.entry) _ _ (tt, tt)
        (either seen.worn _ _ (tt, worn_on call) (tt, tt))
    prepare_quiet preparing.State = (tt, tt)
    prepare_quiet preparing.Unlock = (tt, prepared_on call)

    leave_quiet : (p : LeavePoint) → IsQuiet (leave_event me call p seen)
    leave_quiet leaving.Queue = either (is_some seen.entry) _ _ (tt, tt) (tt, tt)
    leave_quiet leaving.Unlock = (tt, tt)
    leave_quiet leaving.Load = either (call_fails call seen) _ _ (tt, tt) (tt, tt)

    finish_quiet : (p : FinishPoint) (failed : Bool) → IsQuiet (finish_event me call p failed seen)
    finish_quiet finishing.State failed = (tt, tt)
    finish_quiet finishing.Look failed = either (is_some seen.entry) _ _ (tt, tt) (finished_quiet failed _ tt)
    finish_quiet finishing.Lock failed = (tt, tt)
    finish_quiet finishing.Queue failed = either (is_some seen.entry) _ _ (tt, tt) (finished_quiet failed _ tt)
    finish_quiet finishing.Unlock failed = finished_quiet failed _ tt

    bit_quiet : (p : BitPoint) → IsQuiet (bit_event call p seen)
    bit_quiet biting.Try = (tt, tt)
    bit_quiet biting.First = either (call_fails call seen) _ _ (ask_silent, tt) (ask_silent, tt)
    bit_quiet biting.Load = (tt, tt)
    bit_quiet biting.Sleep = (tt, tt)
    bit_quiet biting.Look = (
      tt,
      either_at (pending (state_mask (state_in call)) seen.own && is_lock call)
          (at.Finish finishing.State true) (at.Bit (biting.Again (pending (state_mask (state_in call)) seen.own))) tt tt,
    )
    bit_quiet (biting.Again failed) = (ask_silent, either_at (call_fails call seen && not failed) _ _ tt tt)
    bit_quiet biting.Last = (tt, tt)

    worn_quiet : IsQuiet (worn_event call seen)
    worn_quiet = either (call_fails call seen) _ _ (ask_silent, tt)
        (either (is_lock call) _ _ (ask_silent, tt) (ask_silent, tt))

    page_finish_quiet : (p : FinishPoint) → IsQuiet (page_finish_event me call p seen)
    page_finish_quiet finishing.Look = either (is_some seen.entry) _ _ (tt, tt) (tt, tt)
    page_finish_quiet finishing.Queue = either (is_some seen.entry) _ _ (tt, tt) (tt, tt)
    page_finish_quiet _ = (tt, tt)

    page_quiet : (p : PagePoint) → IsQuiet (page_event me call p seen)
    page_quiet paging.First = either (call_fails call seen) _ _ (tt, tt) (tt, tt)
    page_quiet paging.Queue = either seen.worn _ _ (tt, tt) (tt, tt)
    page_quiet (paging.Unlock got) = either got _ _ (tt, tt) (tt, tt)
    page_quiet (paging.Finish p) = page_finish_quiet p
    page_quiet paging.Last = either seen.flag _ _ (tt, tt) (tt, tt)
    page_quiet _ = (tt, tt)

    active_quiet : (hit : Bool) → IsQuiet (active_event call hit)
    active_quiet true = (tt, tt)
    active_quiet false = (tt, tt)

    add_quiet : (p : AddPoint) → IsQuiet (add_event call p seen)
    add_quiet adding.Lock = (tt, tt)
    add_quiet adding.Queue = either seen.worn _ _ (tt, tt) (tt, tt)
    add_quiet adding.Unlock = (tt, tt)

    remove_quiet : (p : RemovePoint) → IsQuiet (remove_event me p seen)
    remove_quiet removing.Lock = (tt, tt)
    remove_quiet (removing.Queue c) = (tt, tt)
    remove_quiet (removing.Unlock c) = (tt, tt)

    woken_quiet : (p : WokenPoint) → IsQuiet (woken_event call p seen)
    woken_quiet hearing.State = (tt, tt)
    woken_quiet _ = (tt, tt)

    selects_quiet : (n : ℕ) (o : Option CalledEntry) (hit : Bool) → IsQuiet (select_next call n o hit)
    selects_quiet n None hit = (tt, tt)
    selects_quiet n (Some c) hit = (tt, tt)

    select_quiet : (p : SelectPoint) → IsQuiet (select_event call p seen)
    select_quiet selecting.Store = (stores, tt)
    select_quiet (selecting.Next n) = either (is_enough call n) _ _ (tt, tt) (selects_quiet n seen.called _)
    select_quiet _ = (tt, tt)

    awaited_quiet : (stopped : Bool) → IsQuiet (await_ends call stopped seen)
    awaited_quiet true = (tt, tt)
    awaited_quiet false = either (is_at_end seen.value) _ _ (tt, tt) (stores, tt)

    await_quiet : (p : AwaitPoint) → IsQuiet (await_event me call p seen)
    await_quiet (awaiting.Load waited) = (tt, either_at (seen.value == 0) (prepares_from call) _ tt tt)
    await_quiet (awaiting.Off stopped) = either (is_some seen.entry) _ _ (tt, tt) (awaited_quiet stopped)
    await_quiet (awaiting.Last stopped) = awaited_quiet stopped
    await_quiet _ = (tt, tt)

    count_quiet : (p : CountPoint) → IsQuiet (count_event call p seen)
    count_quiet counting.Peek = either (seen.value == 0) _ _ (tt, tt) (tt, tt)
    count_quiet counting.Store = (stores, tt)
    count_quiet _ = (tt, tt)

    pub program_quiet : (p : Point) → IsElsewhere p → IsQuiet (program me call p seen)
    program_quiet at.First on = either (call_fails call seen) _ _ (tt, tt) (tt, tt)
    program_quiet (at.Prepare p) on = prepare_quiet p
    program_quiet at.Test on = (tt, either_at (call_fails call seen) _ _ tt tt)
    program_quiet at.Sleep on = (tt, slept_on call)
    program_quiet at.Worn on = worn_quiet
    program_quiet (at.Leave p) on = leave_quiet p
    program_quiet (at.Finish p failed) on = finish_quiet p failed
    program_quiet (at.Bit p) on = bit_quiet p
    program_quiet (at.Page p) on = page_quiet p
    program_quiet at.Publish on = (publishing_silent stores call, tt)
    program_quiet at.Active on = active_quiet seen.members
    program_quiet (at.Walk p) on = walk_quiet (call_aim call) seen p
    program_quiet (at.Add p) on = add_quiet p
    program_quiet (at.Remove p) on = remove_quiet p
    program_quiet (at.Woken p) on = woken_quiet p
    program_quiet (at.Select p) on = select_quiet p
    program_quiet (at.Await p) on = await_quiet p
    program_quiet (at.Count p) on = count_quiet p
    program_quiet at.Store on = (stores, tt)
    program_quiet at.Accept on = (on, tt)
    program_quiet at.Raise on = (on, tt)
    program_quiet _ on = (tt, tt)

-- none raised, none taken, nothing published
abbrev pub RaisesNone : Event → Type 0
RaisesNone e = IsSilent ⊥ (Unit {0}) (Unit {0}) e

abbrev pub TakesNone : Event → Type 0
TakesNone e = IsSilent (Unit {0}) ⊥ (Unit {0}) e

abbrev pub StoresNone : Event → Type 0
StoresNone e = IsSilent (Unit {0}) (Unit {0}) ⊥ e

-- the places that a program comes to which takes none
abbrev pub GoesBeside : Next → Type 0
GoesBeside n = GoesElsewhere (Unit {0}) ⊥ (Unit {0}) n

pub goes_beside : (n : Next) → n ≢ next.Go at.Accept → GoesBeside n
goes_beside n away = goes_elsewhere (Unit {0}) ⊥ (Unit {0}) n (λ e. tt) away

pub program_spared : (me : ℕ) (call : Call) (seen : Seen) (p : Point) → GoesBeside (next.Go p)
    → TakesNone (program me call p seen).event × GoesBeside (program me call p seen).next
program_spared me call seen p on = program_quiet (Unit {0}) ⊥ (Unit {0}) tt me call seen p on

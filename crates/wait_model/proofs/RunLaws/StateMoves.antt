-- What each event of a program does to the state of its task, and that no event leads to a publish.
use Rattle.std.proofs.Common.{refl, sym, ◌∙◌, inl, inr}
use Rattle.std.specs.Prelude.{ℕ, ◌≡◌, ◌⊎◌, Bool, true, false, not, ◌&&◌, if◌then◌else◌, is_some, Option, Some, None}
use Rattle.std.specs.Prelude.{◌==◌}
use Rattle.wait_model.specs.{declared.queues.CalledEntry.CalledEntry, declared.queues.Walking.Walking}
use Rattle.wait_model.specs.{declared.watches.Kind.Kind, declared.calls.Call.Call, declared.calls.Event.Event}
use Rattle.wait_model.specs.{declared.points.Point.Point, declared.points.PreparePoint.PreparePoint}
use Rattle.wait_model.specs.{declared.points.LeavePoint.LeavePoint, declared.points.FinishPoint.FinishPoint}
use Rattle.wait_model.specs.{declared.points.BitPoint.BitPoint, declared.points.WalkPoint.WalkPoint}
use Rattle.wait_model.specs.{declared.points.SelectPoint.SelectPoint, declared.points.AwaitPoint.AwaitPoint}
use Rattle.wait_model.specs.{declared.points.CountPoint.CountPoint, declared.points.AddPoint.AddPoint}
use Rattle.wait_model.specs.{declared.points.RemovePoint.RemovePoint, declared.points.WokenPoint.WokenPoint}
use Rattle.wait_model.specs.{declared.points.Next.Next, declared.points.Planned.Planned, declared.points.Seen.Seen}
use Rattle.wait_model.specs.{Reached.stirs, Reached.IsFitted, Watches.mask_of, declared.points.PagePoint.PagePoint}
use Rattle.wait_model.specs.declared.points.PageStage.{PageStage}
use Rattle.wait_model.specs.Tasks.{meets, pending, state_mask, looks_in}
use Rattle.wait_model.specs.Points.{call_aim, call_head, is_bit_wait, is_lock, state_in, mode_of}
use Rattle.wait_model.specs.Programs.{worn_next, program, go, call_fails, load, signalled_at, prepared_at, slept_at}
use Rattle.wait_model.specs.Programs.{prepare_event, leave_event, finished, finish_event, exchange, ask, bit_event}
use Rattle.wait_model.specs.Programs.{publishing_event, active_event, past, onward, reached, call_entry, call_next}
use Rattle.wait_model.specs.Programs.{walk_event, is_at_end, is_enough, select_next, select_event, await_ends}
use Rattle.wait_model.specs.Programs.{await_after, await_event, count_event, add_event, remove_event, woken_event}
use Rattle.wait_model.specs.Programs.{page_event, page_finish_event, hands_event}
use Rattle.wait_model.specs.declared.calls.Call.TheVariants as calls
use Rattle.wait_model.specs.declared.calls.Event.TheVariants as event
use Rattle.wait_model.specs.declared.points.Point.TheVariants as at
use Rattle.wait_model.specs.declared.points.PreparePoint.TheVariants as preparing
use Rattle.wait_model.specs.declared.points.LeavePoint.TheVariants as leaving
use Rattle.wait_model.specs.declared.points.FinishPoint.TheVariants as finishing
use Rattle.wait_model.specs.declared.points.BitPoint.TheVariants as biting
use Rattle.wait_model.specs.declared.points.WalkPoint.TheVariants as walking
use Rattle.wait_model.specs.declared.points.SelectPoint.TheVariants as selecting
use Rattle.wait_model.specs.declared.points.AwaitPoint.TheVariants as awaiting
use Rattle.wait_model.specs.declared.points.CountPoint.TheVariants as counting
use Rattle.wait_model.specs.declared.points.AddPoint.TheVariants as adding
use Rattle.wait_model.specs.declared.points.RemovePoint.TheVariants as removing
use Rattle.wait_model.specs.declared.points.WokenPoint.TheVariants as hearing
use Rattle.wait_model.specs.declared.points.Next.TheVariants as next
use Rattle.wait_model.specs.declared.watches.Kind.TheVariants as kind
use Rattle.wait_model.specs.declared.watches.Mode.TheVariants as mode
use Rattle.wait_model.specs.declared.points.PagePoint.TheVariants as paging
use Rattle.wait_model.specs.declared.points.PageStage.TheVariants as staging

-- whether the own state may be another than RUNNING after an event, and whether a publish comes next
abbrev pub stirs_next : Call → Next → Bool
stirs_next call (next.Go p) = stirs call p
stirs_next call (next.Ends a) = false

abbrev pub publishes_next : Next → Bool
publishes_next (next.Go at.Publish) = true
publishes_next _ = false

-- a state that is stored is RUNNING, or one at which the task may go on; a sleep may end in any way; and after
-- any other event the task may be in another state than RUNNING where it might be before
abbrev pub KeepsState : Bool → Event → Bool → Type 0
KeepsState before (event.State v) behind = (v ≡ 0) ⊎ (behind ≡ true)
KeepsState before (event.Sleep x) behind = Unit {0}
KeepsState before e behind = behind ≡ false → before ≡ false

pub record IsMoved (before : Bool) (call : Call) (x : Planned) : Type 0 where
  pub state : KeepsState before x.event (stirs_next call x.next)
  pub next : publishes_next x.next ≡ false

-- where a call goes that was signalled, that has prepared, that has slept
signalled_new : (c : Call) → publishes_next (next.Go (signalled_at c)) ≡ false
signalled_new (calls.WaitFor d st) = refl
signalled_new c = refl

prepared_new : (c : Call) → publishes_next (next.Go (prepared_at c)) ≡ false
prepared_new (calls.WaitFor d st) = refl
prepared_new c = refl

prepared_stirs : (c : Call) → stirs c (prepared_at c) ≡ true
prepared_stirs (calls.WaitFor d st) = refl
prepared_stirs c = refl

worn_new : (c : Call) → publishes_next (worn_next c) ≡ false
worn_new (calls.WaitFor d st) = refl
worn_new c = refl

worn_kept : (c : Call) (h : ℕ) → KeepsState (is_bit_wait c) (event.Unlock h false) (stirs_next c (worn_next c))
worn_kept (calls.WaitFor d st) h = λ f. f
worn_kept c h = λ f. f

slept_new : (c : Call) → publishes_next (next.Go (slept_at c)) ≡ false
slept_new (calls.WaitFor d st) = refl
slept_new c = refl

published_kept : (c : Call) → KeepsState false (publishing_event c) false
published_kept (calls.ClearBit w b) = λ _. refl
published_kept c = λ _. refl

never : {A : Type 0} (b : Bool) → b ≡ true → b ≡ false → A
never b t f = let z : true ≡ false = sym t ∙ f in cc

module _ (call : Call) where
  both : (before b : Bool) (x y : Planned) → IsMoved before call x → IsMoved before call y
      → IsMoved before call (if b then x else y)
  both before true x y p q = p
  both before false x y p q = q

  one_of : (before b : Bool) (e : Event) (p q : Point) → IsMoved before call (go e p)
      → IsMoved before call (go e q) → IsMoved before call (go e (if b then p else q))
  one_of before true e p q h k = h
  one_of before false e p q h k = k

  module _ (me : ℕ) (seen : Seen) where
    -- a wait for a bit prepares without a look for signals
    begins_moved : (h : ℕ) (b l : Bool) → is_bit_wait call ≡ b → IsMoved b call (go (event.Lock h)
        (at.Prepare (if not b && l then preparing.Look else preparing.Queue)))
    begins_moved h true l is = record { state = λ f. sym is ∙ f; next = refl }
    begins_moved h false l is = record { state = λ _. refl; next = refl }

    prepare_moved : (p : PreparePoint) → IsMoved (stirs call (at.Prepare p)) call (prepare_event call p seen)
    prepare_moved preparing.Lock = begins_moved (call_head call) (is_bit_wait call) (looks_in (state_in call)) refl
    prepare_moved preparing.Look = one_of false (pending (state_mask (state_in call)) seen.own) _
        (signalled_at call) (at.Prepare preparing.Queue) (record { state = λ _. refl; next = signalled_new call })
        (record { state = λ _. refl; next = refl })
    prepare_moved preparing.Queue = both (is_bit_wait call) (is_some seen.entry) _ _
        (record { state = inr refl; next = refl }) (both (is_bit_wait call) seen.worn _ _
        (record { state = worn_kept call (call_head call); next = worn_new call })
        (record { state = λ f. f; next = refl }))
    prepare_moved preparing.State = record { state = inr refl; next = refl }
    prepare_moved preparing.Unlock = record {
      state = λ f. never (stirs call (prepared_at call)) (prepared_stirs call) f;
      next = prepared_new call;
    }

    leave_moved : (p : LeavePoint) → IsMoved false call (leave_event me call p seen)
    leave_moved leaving.Queue = both false (is_some seen.entry) _ _ (record { state = λ _. refl; next = refl })
        (record { state = λ _. refl; next = refl })
    leave_moved leaving.Unlock = record { state = λ _. refl; next = refl }
    leave_moved leaving.Load = both false (call_fails call seen) _ _ (record { state = λ _. refl; next = refl })
        (record { state = λ _. refl; next = refl })

    over_moved : (failed : Bool) (e : Event) → ((behind : Bool) → KeepsState false e behind)
        → IsMoved false call (finished call failed e)
    over_moved failed e k = both false (failed && is_lock call) _ _ (record { state = k false; next = refl })
        (record { state = k false; next = refl })

    finish_moved : (p : FinishPoint) (failed : Bool)
        → IsMoved (stirs call (at.Finish p failed)) call (finish_event me call p failed seen)
    finish_moved finishing.State failed = record { state = inl refl; next = refl }
    finish_moved finishing.Look failed = both false (is_some seen.entry) _ _
        (record { state = λ _. refl; next = refl }) (over_moved failed (event.Queued false) (λ b _. refl))
    finish_moved finishing.Lock failed = record { state = λ _. refl; next = refl }
    finish_moved finishing.Queue failed = both false (is_some seen.entry) _ _
        (record { state = λ _. refl; next = refl })
        (over_moved failed (event.Unlock (call_head call) false) (λ b _. refl))
    finish_moved finishing.Unlock failed = over_moved failed (event.Unlock (call_head call) false) (λ b _. refl)

    ask_kept : (before behind : Bool) → (behind ≡ false → before ≡ false)
        → KeepsState before (ask call seen) behind
    ask_kept before behind k = by (is_lock call)
      where
        by : (b : Bool) → KeepsState before (if b then exchange call seen else load call seen) behind
        by true = k
        by false = k

    loaded_moved : (b : Bool) → IsMoved true call (go (load call seen)
        (at.Bit (if b then biting.Sleep else biting.Again false)))
    loaded_moved true = record { state = λ f. f; next = refl }
    loaded_moved false = record { state = λ f. f; next = refl }

    bit_moved : (p : BitPoint) → IsFitted call (at.Bit p)
        → IsMoved (stirs call (at.Bit p)) call (bit_event call p seen)
    bit_moved biting.Try fit = record { state = λ _. refl; next = refl }
    bit_moved biting.First fit = both false (call_fails call seen) _ _
        (record { state = ask_kept false (is_bit_wait call) (λ _. refl); next = refl })
        (record { state = ask_kept false false (λ _. refl); next = refl })
    bit_moved biting.Load fit = loaded_moved (call_fails call seen)
    bit_moved biting.Sleep fit = record { state = tt; next = refl }
    bit_moved biting.Look fit = one_of false (pending (state_mask (state_in call)) seen.own && is_lock call) _
        (at.Finish finishing.State true) (at.Bit (biting.Again (pending (state_mask (state_in call)) seen.own)))
        (record { state = λ _. refl; next = refl }) (record { state = λ _. refl; next = refl })
    bit_moved (biting.Again failed) fit = one_of true (call_fails call seen && not failed) (ask call seen)
        (at.Prepare preparing.Lock) (at.Finish finishing.State failed)
        (record { state = ask_kept true (is_bit_wait call) (λ f. never (is_bit_wait call) fit f); next = refl })
        (record { state = ask_kept true true (λ f. f); next = refl })
    bit_moved biting.Last fit = record { state = λ _. refl; next = refl }

    page_finish_moved : (p : FinishPoint)
        → IsMoved (stirs call (at.Page (paging.Finish p))) call (page_finish_event me call p seen)
    page_finish_moved finishing.State = record { state = inl refl; next = refl }
    page_finish_moved finishing.Look = both false (is_some seen.entry) _ _
        (record { state = λ _. refl; next = refl }) (record { state = λ _. refl; next = refl })
    page_finish_moved finishing.Lock = record { state = λ _. refl; next = refl }
    page_finish_moved finishing.Queue = both false (is_some seen.entry) _ _
        (record { state = λ _. refl; next = refl }) (record { state = λ _. refl; next = refl })
    page_finish_moved finishing.Unlock = record { state = λ _. refl; next = refl }

    read_moved : (b l : Bool) → IsMoved true call (go (event.Flag b)
        (at.Page (if b then paging.Finish finishing.State else if l then paging.Look else paging.Sleep)))
    read_moved true l = record { state = λ f. f; next = refl }
    read_moved false true = record { state = λ f. f; next = refl }
    read_moved false false = record { state = λ f. f; next = refl }

    looked_moved : (b : Bool) → IsMoved true call (go (event.Look b)
        (at.Page (if b then paging.Finish finishing.State else paging.Sleep)))
    looked_moved true = record { state = λ f. f; next = refl }
    looked_moved false = record { state = λ f. f; next = refl }

    tried_moved : (e : Event) (b : Bool) → ((behind : Bool) → KeepsState false e behind)
        → IsMoved false call (go e (at.Page (if b then paging.Unlock false else paging.Off)))
    tried_moved e true k = record { state = k false; next = refl }
    tried_moved e false k = record { state = k false; next = refl }

    page_moved : (p : PagePoint) → IsMoved (stirs call (at.Page p)) call (page_event me call p seen)
    page_moved paging.First = both false (call_fails call seen) _ _ (record { state = λ _. refl; next = refl })
        (record { state = λ _. refl; next = refl })
    page_moved paging.Queue = both false seen.worn _ _ (record { state = λ _. refl; next = refl })
        (record { state = λ _. refl; next = refl })
    page_moved paging.Try = tried_moved (exchange call seen) (call_fails call seen) (λ b _. refl)
    page_moved (paging.Unlock true) = record { state = λ _. refl; next = refl }
    page_moved paging.State = record { state = inr refl; next = refl }
    page_moved paging.Flag = read_moved seen.flag (looks_in (state_in call))
    page_moved paging.Look = looked_moved (pending (state_mask (state_in call)) seen.own)
    page_moved paging.Sleep = record { state = tt; next = refl }
    page_moved (paging.Finish p) = page_finish_moved p
    page_moved paging.Last = both false seen.flag _ _ (record { state = λ _. refl; next = refl })
        (record { state = λ _. refl; next = refl })
    page_moved _ = record { state = λ _. refl; next = refl }

    onward_moved : (w : Walking) (e : Event) → ((behind : Bool) → KeepsState false e behind)
        → IsMoved false call (go e (onward w))
    onward_moved w e k = one_of false w.spent e (at.Walk (walking.Spent w)) (at.Walk (walking.Call w))
        (record { state = k false; next = refl }) (record { state = k false; next = refl })

    entry_moved : (w : Walking) (c : CalledEntry) (k : Kind) (hit : Bool)
        → IsMoved false call (call_entry (call_aim call) w c k seen hit)
    entry_moved w c kind.Default hit = onward_moved (past w c hit) (event.Wake c.who hit) (λ b _. refl)
    entry_moved w c kind.Simple hit = onward_moved (past w c hit) (event.Wake c.who hit) (λ b _. refl)
    entry_moved w c _ hit = record { state = λ _. refl; next = refl }

    hands_moved : (st : PageStage) (w : Walking) (c : CalledEntry)
        → IsMoved false call (hands_event (call_aim call) st w c seen)
    hands_moved staging.Off w c = onward_moved (past w c true) (event.Unqueue c.who) (λ b _. refl)
    hands_moved _ w c = record { state = λ _. refl; next = refl }

    next_moved : (w : Walking) (o : Option CalledEntry) (hit : Bool)
        → IsMoved false call (call_next (call_aim call) w o seen hit)
    next_moved w None hit = record { state = λ _. refl; next = refl }
    next_moved w (Some c) hit = entry_moved w c c.kind hit

    walk_moved : (p : WalkPoint) → IsMoved false call (walk_event (call_aim call) p seen)
    walk_moved (walking.Call w) = both false seen.breaks _ _ (record { state = λ _. refl; next = refl })
        (next_moved (reached w seen.calls) seen.called (meets (mask_of (mode_of call)) seen.other.state))
    walk_moved (walking.Page st w c) = hands_moved st w c
    walk_moved (walking.Wake w c) =
        onward_moved (past w c (meets (mask_of (mode_of call)) seen.other.state))
        (event.Wake c.who (meets (mask_of (mode_of call)) seen.other.state)) (λ b _. refl)
    walk_moved (walking.Unqueue w who) = onward_moved w (event.Unqueue who) (λ b _. refl)
    walk_moved _ = record { state = λ _. refl; next = refl }

    chosen_moved : (j : ℕ) (o : Option CalledEntry) (hit : Bool) → IsMoved false call (select_next call j o hit)
    chosen_moved j None hit = record { state = λ _. refl; next = refl }
    chosen_moved j (Some c) hit = record { state = λ _. refl; next = refl }

    select_moved : (p : SelectPoint) → IsMoved false call (select_event call p seen)
    select_moved (selecting.Next j) = both false (is_enough call j) _ _
        (record { state = λ _. refl; next = refl })
        (chosen_moved j seen.called (meets (mask_of mode.Normal) seen.other.state))
    select_moved p = record { state = λ _. refl; next = refl }

    ends_moved : (b : Bool) → IsMoved false call (await_ends call b seen)
    ends_moved true = record { state = λ _. refl; next = refl }
    ends_moved false = both false (is_at_end seen.value) _ _ (record { state = λ _. refl; next = refl })
        (record { state = λ _. refl; next = refl })

    await_moved_after : (waited zero : Bool) → IsMoved false call (go (load call seen) (await_after call waited zero))
    await_moved_after waited true = record { state = λ _. refl; next = refl }
    await_moved_after waited false = record { state = λ _. refl; next = refl }

    await_moved : (p : AwaitPoint) → IsMoved false call (await_event me call p seen)
    await_moved (awaiting.Lock waited) = record { state = λ _. refl; next = refl }
    await_moved (awaiting.Load waited) = await_moved_after waited (seen.value == 0)
    await_moved (awaiting.Run stopped) = record { state = inl refl; next = refl }
    await_moved (awaiting.Off stopped) = both false (is_some seen.entry) _ _
        (record { state = λ _. refl; next = refl }) (ends_moved stopped)
    await_moved (awaiting.Last stopped) = ends_moved stopped
    await_moved awaiting.Unlock = record { state = λ _. refl; next = refl }

    count_moved : (p : CountPoint) → IsMoved false call (count_event call p seen)
    count_moved counting.Peek = both false (seen.value == 0) _ _ (record { state = λ _. refl; next = refl })
        (record { state = λ _. refl; next = refl })
    count_moved p = record { state = λ _. refl; next = refl }

    add_moved : (p : AddPoint) → IsMoved false call (add_event call p seen)
    add_moved adding.Lock = record { state = λ _. refl; next = refl }
    add_moved adding.Queue = both false seen.worn _ _ (record { state = λ _. refl; next = refl })
        (record { state = λ _. refl; next = refl })
    add_moved adding.Unlock = record { state = λ _. refl; next = refl }

    remove_moved : (p : RemovePoint) → IsMoved false call (remove_event me p seen)
    remove_moved removing.Lock = record { state = λ _. refl; next = refl }
    remove_moved (removing.Queue c) = record { state = λ _. refl; next = refl }
    remove_moved (removing.Unlock c) = record { state = λ _. refl; next = refl }

    flag_moved : (b : Bool) → IsMoved true call (go (event.Flag b)
        (at.Woken (if b then hearing.Run else hearing.Sleep)))
    flag_moved true = record { state = λ f. f; next = refl }
    flag_moved false = record { state = λ f. f; next = refl }

    woken_moved : (p : WokenPoint) → IsMoved (stirs call (at.Woken p)) call (woken_event call p seen)
    woken_moved hearing.State = record { state = inr refl; next = refl }
    woken_moved hearing.Flag = flag_moved seen.flag
    woken_moved hearing.Sleep = record { state = tt; next = refl }
    woken_moved hearing.Run = record { state = inl refl; next = refl }
    woken_moved hearing.Clear = record { state = λ _. refl; next = refl }

    active_moved : (b : Bool) → IsMoved false call (active_event call b)
    active_moved true = record { state = λ _. refl; next = refl }
    active_moved false = record { state = λ _. refl; next = refl }

    pub program_moved : (p : Point) → IsFitted call p → IsMoved (stirs call p) call (program me call p seen)
    program_moved at.First fit = both false (call_fails call seen) _ _ (record { state = λ _. refl; next = refl })
        (record { state = λ _. refl; next = refl })
    program_moved (at.Prepare p) fit = prepare_moved p
    program_moved at.Test fit = one_of true (call_fails call seen) (load call seen) at.Sleep
        (at.Finish finishing.State false) (record { state = λ f. f; next = refl })
        (record { state = λ f. f; next = refl })
    program_moved at.Sleep fit = record { state = tt; next = slept_new call }
    program_moved (at.Leave p) fit = leave_moved p
    program_moved (at.Finish p failed) fit = finish_moved p failed
    program_moved (at.Bit p) fit = bit_moved p fit
    program_moved (at.Page p) fit = page_moved p
    program_moved at.Worn fit = absurd fit
    program_moved at.Publish fit = record { state = published_kept call; next = refl }
    program_moved at.Active fit = active_moved seen.members
    program_moved (at.Walk p) fit = walk_moved p
    program_moved (at.Select p) fit = select_moved p
    program_moved (at.Await p) fit = await_moved p
    program_moved (at.Count p) fit = count_moved p
    program_moved (at.Add p) fit = add_moved p
    program_moved (at.Remove p) fit = remove_moved p
    program_moved (at.Woken p) fit = woken_moved p
    program_moved p fit = record { state = λ _. refl; next = refl }

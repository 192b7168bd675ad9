-- A call outside walks moves no bookmark, and goes on outside walks or before the lock of one.
use Rattle.std.proofs.Common.{refl}
use Rattle.std.specs.Prelude.{ℕ, ◌≡◌, Bool, true, false, ◌&&◌, ◌==◌, not, if◌then◌else◌, is_some, Option, Some, None}
use Rattle.wait_model.specs.{declared.queues.CalledEntry.CalledEntry, declared.calls.Call.Call}
use Rattle.wait_model.specs.{declared.calls.Event.Event, declared.points.Point.Point}
use Rattle.wait_model.specs.{declared.points.PreparePoint.PreparePoint, declared.points.LeavePoint.LeavePoint}
use Rattle.wait_model.specs.{declared.points.FinishPoint.FinishPoint, declared.points.AddPoint.AddPoint}
use Rattle.wait_model.specs.{declared.points.RemovePoint.RemovePoint, declared.points.WokenPoint.WokenPoint}
use Rattle.wait_model.specs.{declared.points.SelectPoint.SelectPoint, declared.points.AwaitPoint.AwaitPoint}
use Rattle.wait_model.specs.{declared.points.CountPoint.CountPoint, declared.points.BitPoint.BitPoint}
use Rattle.wait_model.specs.{declared.points.Planned.Planned, declared.points.Next.Next, declared.points.Seen.Seen}
use Rattle.wait_model.specs.{Watches.mask_of, Points.is_lock, Points.state_in, declared.points.PagePoint.PagePoint}
use Rattle.wait_model.specs.Tasks.{meets, pending, state_mask}
use Rattle.wait_model.specs.Programs.{worn_next, program, go, call_fails, load, exchange, ask, publishing_event}
use Rattle.wait_model.specs.Programs.{signalled_at, prepared_at, slept_at, finished, acted, prepare_event, leave_event}
use Rattle.wait_model.specs.Programs.{finish_event, bit_event, active_event, add_event, remove_event, woken_event}
use Rattle.wait_model.specs.Programs.{is_at_end, is_enough, select_next, select_event, await_ends, await_after}
use Rattle.wait_model.specs.Programs.{await_event, count_event, page_finish_event, page_event}
use Rattle.wait_model.specs.declared.calls.Call.TheVariants as calls
use Rattle.wait_model.specs.declared.calls.Event.TheVariants as event
use Rattle.wait_model.specs.declared.points.Point.TheVariants as at
use Rattle.wait_model.specs.declared.points.PreparePoint.TheVariants as preparing
use Rattle.wait_model.specs.declared.points.LeavePoint.TheVariants as leaving
use Rattle.wait_model.specs.declared.points.FinishPoint.TheVariants as finishing
use Rattle.wait_model.specs.declared.points.WalkPoint.TheVariants as walking
use Rattle.wait_model.specs.declared.points.AddPoint.TheVariants as adding
use Rattle.wait_model.specs.declared.points.RemovePoint.TheVariants as removing
use Rattle.wait_model.specs.declared.points.WokenPoint.TheVariants as hearing
use Rattle.wait_model.specs.declared.points.SelectPoint.TheVariants as selecting
use Rattle.wait_model.specs.declared.points.AwaitPoint.TheVariants as awaiting
use Rattle.wait_model.specs.declared.points.CountPoint.TheVariants as counting
use Rattle.wait_model.specs.declared.points.BitPoint.TheVariants as biting
use Rattle.wait_model.specs.declared.points.Next.TheVariants as next
use Rattle.wait_model.specs.declared.watches.Mode.TheVariants as mode
use Rattle.wait_model.specs.declared.points.PagePoint.TheVariants as paging
use Rattle.wait_model.proofs.WaitLaws.OutsideStages.{either}

-- the events that move no bookmark
abbrev pub IsUnmarked : Event → Type 0
IsUnmarked (event.Mark h) = ⊥
IsUnmarked (event.Unmark h) = ⊥
IsUnmarked _ = Unit {0}

-- the places outside walks, and those before their lock
abbrev pub IsOutside : Point → Type 0
IsOutside (at.Walk p) = ⊥
IsOutside _ = Unit {0}

abbrev pub is_away : Point → Bool
is_away (at.Walk walking.Lock) = true
is_away (at.Walk p) = false
is_away _ = true

-- a call goes on at such a place, or it ends
abbrev goes_by : (Point → Bool) → Next → Bool
goes_by is (next.Go p) = is p
goes_by is (next.Ends a) = true

-- an event of such a kind, and the call goes on at such a place
pub record Keeps (Fits : Event → Type 0) (is : Point → Bool) (x : Planned) : Type 0 where
  pub event : Fits x.event
  pub next : goes_by is x.next ≡ true

abbrev pub goes_away : Next → Bool
goes_away n = goes_by is_away n

abbrev pub IsAway : Planned → Type 0
IsAway x = Keeps IsUnmarked is_away x

-- the events that move no bookmark and take no page for a task
abbrev pub IsPlainEvent : Event → Type 0
IsPlainEvent (event.Mark h) = ⊥
IsPlainEvent (event.Unmark h) = ⊥
IsPlainEvent (event.TasFor p who found) = ⊥
IsPlainEvent _ = Unit {0}

-- the places outside walks and outside locks of pages
abbrev pub IsPlainPoint : Point → Type 0
IsPlainPoint (at.Walk p) = ⊥
IsPlainPoint (at.Page p) = ⊥
IsPlainPoint _ = Unit {0}

-- the places outside walks, and outside what a lock of a page does under the head's lock
abbrev is_plain : Point → Bool
is_plain (at.Page paging.Lock) = false
is_plain (at.Page paging.Queue) = false
is_plain p = is_away p

abbrev pub goes_plain : Next → Bool
goes_plain n = goes_by is_plain n

abbrev pub IsPlain : Planned → Type 0
IsPlain x = Keeps IsPlainEvent is_plain x

unmarked : (e : Event) → IsPlainEvent e → IsUnmarked e
unmarked (event.Mark h) u = u
unmarked (event.Unmark h) u = u
unmarked e u = tt

stays_away : (n : Next) → goes_plain n ≡ true → goes_away n ≡ true
stays_away (next.Go (at.Page p)) h = refl
stays_away n h = h

plain_away : (x : Planned) → IsPlain x → IsAway x
plain_away x h = record { event = unmarked x.event h.event; next = stays_away x.next h.next }

-- where a call goes on from a signal, from its preparing, from a head with no place and from its sleep
goes_on_plain : (c : Call) → (is_plain (signalled_at c) ≡ true) × (is_plain (prepared_at c) ≡ true)
    × (goes_plain (worn_next c) ≡ true) × (is_plain (slept_at c) ≡ true)
goes_on_plain (calls.WaitFor d st) = (refl, refl, refl, refl)
goes_on_plain c = (refl, refl, refl, refl)

published_plain : (c : Call) → IsPlainEvent (publishing_event c)
published_plain (calls.ClearBit w b) = tt
published_plain c = tt

one_of : (b : Bool) (e : Event) (p q : Point) → IsPlain (go e p) → IsPlain (go e q)
    → IsPlain (go e (if b then p else q))
one_of b e p q h k = either (λ (r : Point). IsPlain (go e r)) b p q h k

module _ (call : Call) (me : ℕ) (seen : Seen) where
  asks : IsPlainEvent (ask call seen)
  asks = by (is_lock call)
    where
      by : (b : Bool) → IsPlainEvent (if b then exchange call seen else load call seen)
      by true = tt
      by false = tt

  prepare_plain : (p : PreparePoint) → IsPlain (prepare_event call p seen)
  prepare_plain preparing.Look = one_of _ _ (signalled_at call) (at.Prepare preparing.Queue)
      (record { event = tt; next = (goes_on_plain call).0 }) (record { event = tt; next = refl })
  prepare_plain preparing.Queue = either IsPlain (is_some seen.entry) _ _ (record { event = tt; next = refl })
      (either IsPlain seen.worn _ _ (record { event = tt; next = (goes_on_plain call).2 }) (record { event = tt; next = refl }))
  prepare_plain preparing.Unlock = record { event = tt; next = (goes_on_plain call).1 }
  prepare_plain p = record { event = tt; next = refl }

  leave_plain : (p : LeavePoint) → IsPlain (leave_event me call p seen)
  leave_plain leaving.Queue = either IsPlain (is_some seen.entry) _ _ (record { event = tt; next = refl })
      (record { event = tt; next = refl })
  leave_plain leaving.Unlock = record { event = tt; next = refl }
  leave_plain leaving.Load = either IsPlain (call_fails call seen) _ _ (record { event = tt; next = refl })
      (record { event = tt; next = refl })

  finished_plain : (failed : Bool) (e : Event) → IsPlainEvent e → IsPlain (finished call failed e)
  finished_plain failed e u = either IsPlain (failed && is_lock call) _ _ (record { event = u; next = refl })
      (record { event = u; next = refl })

  finish_plain : (p : FinishPoint) (failed : Bool) → IsPlain (finish_event me call p failed seen)
  finish_plain finishing.Look failed = either IsPlain (is_some seen.entry) _ _ (record { event = tt; next = refl })
      (finished_plain failed _ tt)
  finish_plain finishing.Queue failed = either IsPlain (is_some seen.entry) _ _ (record { event = tt; next = refl })
      (finished_plain failed _ tt)
  finish_plain finishing.Unlock failed = finished_plain failed _ tt
  finish_plain p failed = record { event = tt; next = refl }

  bit_plain : (p : BitPoint) → IsPlain (bit_event call p seen)
  bit_plain biting.First = either IsPlain (call_fails call seen) _ _ (record { event = asks; next = refl })
      (record { event = asks; next = refl })
  bit_plain biting.Look = by (pending (state_mask (state_in call)) seen.own)
    where
      by : (hit : Bool) → IsPlain (go (event.Look hit) (acted call hit))
      by hit = one_of (hit && is_lock call) _ (at.Finish finishing.State true) (at.Bit (biting.Again hit))
          (record { event = tt; next = refl }) (record { event = tt; next = refl })
  bit_plain (biting.Again failed) = one_of (call_fails call seen && not failed) _ (at.Prepare preparing.Lock)
      (at.Finish finishing.State failed) (record { event = asks; next = refl })
      (record { event = asks; next = refl })
  bit_plain p = record { event = tt; next = refl }

  active_plain : (b : Bool) → IsPlain (active_event call b)
  active_plain true = record { event = tt; next = refl }
  active_plain false = record { event = tt; next = refl }

  add_plain : (p : AddPoint) → IsPlain (add_event call p seen)
  add_plain adding.Lock = record { event = tt; next = refl }
  add_plain adding.Queue = either IsPlain seen.worn _ _ (record { event = tt; next = refl }) (record { event = tt; next = refl })
  add_plain adding.Unlock = record { event = tt; next = refl }

  remove_plain : (p : RemovePoint) → IsPlain (remove_event me p seen)
  remove_plain removing.Lock = record { event = tt; next = refl }
  remove_plain (removing.Queue c) = record { event = tt; next = refl }
  remove_plain (removing.Unlock c) = record { event = tt; next = refl }

  woken_plain : (p : WokenPoint) → IsPlain (woken_event call p seen)
  woken_plain hearing.State = record { event = tt; next = refl }
  woken_plain p = record { event = tt; next = refl }

  chosen_plain : (j : ℕ) (o : Option CalledEntry) (hit : Bool) → IsPlain (select_next call j o hit)
  chosen_plain j None hit = record { event = tt; next = refl }
  chosen_plain j (Some c) hit = record { event = tt; next = refl }

  select_plain : (p : SelectPoint) → IsPlain (select_event call p seen)
  select_plain (selecting.Next j) = either IsPlain (is_enough call j) _ _ (record { event = tt; next = refl })
      (chosen_plain j seen.called (meets (mask_of mode.Normal) seen.other.state))
  select_plain p = record { event = tt; next = refl }

  ends_plain : (b : Bool) → IsPlain (await_ends call b seen)
  ends_plain true = record { event = tt; next = refl }
  ends_plain false = either IsPlain (is_at_end seen.value) _ _ (record { event = tt; next = refl })
      (record { event = tt; next = refl })

  await_plain_after : (waited zero : Bool) → IsPlain (go (load call seen) (await_after call waited zero))
  await_plain_after waited true = record { event = tt; next = refl }
  await_plain_after true false = record { event = tt; next = refl }
  await_plain_after false false = record { event = tt; next = refl }

  await_plain : (p : AwaitPoint) → IsPlain (await_event me call p seen)
  await_plain (awaiting.Load waited) = await_plain_after waited (seen.value == 0)
  await_plain (awaiting.Off stopped) = either IsPlain (is_some seen.entry) _ _ (record { event = tt; next = refl })
      (ends_plain stopped)
  await_plain (awaiting.Last stopped) = ends_plain stopped
  await_plain p = record { event = tt; next = refl }

  count_plain : (p : CountPoint) → IsPlain (count_event call p seen)
  count_plain counting.Peek = either IsPlain (seen.value == 0) _ _ (record { event = tt; next = refl })
      (record { event = tt; next = refl })
  count_plain p = record { event = tt; next = refl }

  -- each event of a program outside walks and outside locks of pages
  pub program_plain : (p : Point) → IsPlainPoint p → IsPlain (program me call p seen)
  program_plain at.First o = either IsPlain (call_fails call seen) _ _ (record { event = tt; next = refl })
      (record { event = tt; next = refl })
  program_plain (at.Prepare p) o = prepare_plain p
  program_plain at.Test o = one_of (call_fails call seen) _ at.Sleep (at.Finish finishing.State false)
      (record { event = tt; next = refl }) (record { event = tt; next = refl })
  program_plain (at.Leave p) o = leave_plain p
  program_plain (at.Finish p failed) o = finish_plain p failed
  program_plain (at.Bit p) o = bit_plain p
  program_plain (at.Page p) o = absurd o
  program_plain at.Worn o = either IsPlain (call_fails call seen) _ _ (record { event = asks; next = refl })
      (either IsPlain (is_lock call) _ _ (record { event = asks; next = refl }) (record { event = asks; next = refl }))
  program_plain at.Publish o = record { event = published_plain call; next = refl }
  program_plain at.Active o = active_plain seen.members
  program_plain (at.Walk p) o = absurd o
  program_plain (at.Add p) o = add_plain p
  program_plain (at.Remove p) o = remove_plain p
  program_plain (at.Woken p) o = woken_plain p
  program_plain at.Sleep o = record { event = tt; next = (goes_on_plain call).3 }
  program_plain (at.Select p) o = select_plain p
  program_plain (at.Await p) o = await_plain p
  program_plain (at.Count p) o = count_plain p
  program_plain p o = record { event = tt; next = refl }

  page_finish_away : (p : FinishPoint) → IsAway (page_finish_event me call p seen)
  page_finish_away finishing.Look = either IsAway (is_some seen.entry) _ _ (record { event = tt; next = refl })
      (record { event = tt; next = refl })
  page_finish_away finishing.Queue = either IsAway (is_some seen.entry) _ _ (record { event = tt; next = refl })
      (record { event = tt; next = refl })
  page_finish_away p = record { event = tt; next = refl }

  page_away : (p : PagePoint) → IsAway (page_event me call p seen)
  page_away paging.First = either IsAway (call_fails call seen) _ _ (record { event = tt; next = refl })
      (record { event = tt; next = refl })
  page_away paging.Queue = either IsAway seen.worn _ _ (record { event = tt; next = refl }) (record { event = tt; next = refl })
  page_away (paging.Unlock true) = record { event = tt; next = refl }
  page_away (paging.Unlock false) = record { event = tt; next = refl }
  page_away (paging.Finish p) = page_finish_away p
  page_away paging.Last = either IsAway seen.flag _ _ (record { event = tt; next = refl })
      (record { event = tt; next = refl })
  page_away p = record { event = tt; next = refl }

  -- each event of a program outside walks
  pub program_away : (p : Point) → IsOutside p → IsAway (program me call p seen)
  program_away (at.Walk p) o = absurd o
  program_away (at.Page p) o = page_away p
  program_away p o = plain_away (program me call p seen) (program_plain p tt)

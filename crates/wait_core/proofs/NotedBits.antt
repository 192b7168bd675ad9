-- What each event says of bits: a store is of no bit, and an exchange tells whether it found its bit set, one for
-- another task too.
use Rattle.std.proofs.Common.{refl}
use Rattle.std.specs.Prelude.{◌≡◌, ℕ, ◌&&◌, ◌==◌, Bool, true, false, is_some, if◌then◌else◌, Option, Some, None}
use Rattle.wait_model.specs.{declared.watches.Watch.Watch, declared.watches.Kind.Kind}
use Rattle.wait_model.specs.{declared.queues.CalledEntry.CalledEntry, declared.queues.Walking.Walking}
use Rattle.wait_model.specs.{declared.calls.Call.Call, declared.calls.Event.Event, declared.points.Planned.Planned}
use Rattle.wait_model.specs.{declared.points.Seen.Seen, declared.points.Point.Point}
use Rattle.wait_model.specs.{declared.points.WalkPoint.WalkPoint, declared.points.AwaitPoint.AwaitPoint}
use Rattle.wait_model.specs.{declared.points.CountPoint.CountPoint, declared.points.BitPoint.BitPoint, Tasks.meets}
use Rattle.wait_model.specs.{Tasks.state_mask, Words.bit_at, Words.flag, Counts.taken_done, Reached.IsFitted}
use Rattle.wait_model.specs.{Reached.IsPlain, declared.points.PagePoint.PagePoint, declared.points.PageStage.PageStage}
use Rattle.wait_model.specs.Watches.{is_bit, is_done, word_of, bit_of, page, mask_of}
use Rattle.wait_model.specs.Points.{call_aim, call_watch, call_head, is_await, is_publisher, is_lock, mode_of, state_in}
use Rattle.wait_model.specs.Points.{form_of}
use Rattle.wait_model.specs.Programs.{worn_next, go, ends_with, zero_answer, signalled, interrupted, call_fails, load}
use Rattle.wait_model.specs.Programs.{store, exchange, ask, bit_event, finished, publishing_event, active_event}
use Rattle.wait_model.specs.Programs.{reached, call_entry, call_next, walk_event, done_in, is_at_end, is_enough}
use Rattle.wait_model.specs.Programs.{select_ends, select_next, await_ends, await_event, count_event, program}
use Rattle.wait_model.specs.Programs.{hands_event, page_event}
use Rattle.wait_model.specs.declared.watches.Watch.TheVariants as watch
use Rattle.wait_model.specs.declared.watches.Kind.TheVariants as kind
use Rattle.wait_model.specs.declared.watches.Mode.TheVariants as mode
use Rattle.wait_model.specs.declared.calls.Answer.TheVariants as answer
use Rattle.wait_model.specs.declared.calls.Call.TheVariants as calls
use Rattle.wait_model.specs.declared.calls.Event.TheVariants as event
use Rattle.wait_model.specs.declared.points.Point.TheVariants as at
use Rattle.wait_model.specs.declared.points.PreparePoint.TheVariants as preparing
use Rattle.wait_model.specs.declared.points.LeavePoint.TheVariants as leaving
use Rattle.wait_model.specs.declared.points.FinishPoint.TheVariants as finishing
use Rattle.wait_model.specs.declared.points.WalkPoint.TheVariants as walking
use Rattle.wait_model.specs.declared.points.AddPoint.TheVariants as adding
use Rattle.wait_model.specs.declared.points.RemovePoint.TheVariants as removing
use Rattle.wait_model.specs.declared.points.WokenPoint.TheVariants as hearing
use Rattle.wait_model.specs.declared.points.SelectPoint.TheVariants as selecting
use Rattle.wait_model.specs.declared.points.AwaitPoint.TheVariants as awaiting
use Rattle.wait_model.specs.declared.points.CountPoint.TheVariants as counting
use Rattle.wait_model.specs.declared.points.BitPoint.TheVariants as biting
use Rattle.wait_model.specs.declared.points.PagePoint.TheVariants as paging
use Rattle.wait_model.specs.declared.points.PageStage.TheVariants as staging

-- an event of a call about a watch, where the task finds this value of the watch's word
abbrev pub NotesBits : Watch → ℕ → Event → Type 0
NotesBits watch value (event.Set c v) = is_bit watch ≡ false
NotesBits watch value (event.Tas w b found) = found ≡ flag (bit_at value b)
NotesBits watch value (event.TasFor p who found) = (found ≡ flag (bit_at value (bit_of watch))) × (watch ≡ page p)
NotesBits watch value _ = Unit {0}

-- a walk that tries a page is for one
abbrev pub WalksPage : Call → Point → Type 0
WalksPage call (at.Walk (walking.Page st w c)) = call_watch call ≡ page (word_of (call_watch call))
WalksPage call _ = Unit {0}

-- watches that are no bits
plain_no_bit : (c : Watch) → IsPlain c → is_bit c ≡ false
plain_no_bit (watch.Plain c) p = refl
plain_no_bit _ p = absurd p

done_no_bit : (c : Watch) → is_done c ≡ true → is_bit c ≡ false
done_no_bit (watch.Bit w b) d = absurd (cc)
done_no_bit _ d = refl

await_no_bit : (call : Call) → is_await call ≡ true → is_bit (call_watch call) ≡ false
await_no_bit (calls.WaitFor d st) h = refl
await_no_bit call h = absurd (cc)

module _ (me : ℕ) (call : Call) (seen : Seen) where
  abbrev N : Planned → Type 0
  N p = NotesBits (call_watch call) seen.value p.event

  either : (b : Bool) (x y : Planned) → N x → N y → N (if b then x else y)
  either true x y h k = h
  either false x y h k = k

  -- what a wait for a bit asks by, and what ends a wait
  asked : NotesBits (call_watch call) seen.value (ask call seen)
  asked = by (is_lock call)
    where
      by : (b : Bool) → NotesBits (call_watch call) seen.value (if b then exchange call seen else load call seen)
      by true = refl
      by false = tt

  ends_noted : (failed : Bool) (e : Event) → NotesBits (call_watch call) seen.value e → N (finished call failed e)
  ends_noted failed e h = either (failed && is_lock call) (go e (at.Bit biting.Last))
      (ends_with e (if failed then interrupted else zero_answer)) h h

  -- the function of an entry
  entry_noted : (w : Walking) (c : CalledEntry) (k : Kind) (hit : Bool) → N (call_entry (call_aim call) w c k seen hit)
  entry_noted w c kind.Default hit = tt
  entry_noted w c _ hit = tt

  next_noted : (w : Walking) (c : Option CalledEntry) (hit : Bool) → N (call_next (call_aim call) w c seen hit)
  next_noted w None hit = tt
  next_noted w (Some c) hit = entry_noted w c c.kind hit

  hands_noted : (st : PageStage) (w : Walking) (c : CalledEntry) → call_watch call ≡ page (word_of (call_watch call))
      → N (hands_event (call_aim call) st w c seen)
  hands_noted staging.Try w c pg = (refl, pg)
  hands_noted _ w c pg = tt

  -- a wait for a page
  page_noted : (p : PagePoint) → N (page_event me call p seen)
  page_noted paging.First = either (call_fails call seen) (go (exchange call seen) (at.Page paging.Unflag))
      (ends_with (exchange call seen) zero_answer) refl refl
  page_noted paging.Queue = either seen.worn (go (event.Unlock (call_head call) false) at.Worn)
      (go (event.Queue (call_head call) (form_of call)) (at.Page paging.Try)) tt tt
  page_noted paging.Try = refl
  page_noted (paging.Unlock true) = tt
  page_noted (paging.Finish finishing.Look) = either (is_some seen.entry)
      (go (event.Queued true) (at.Page (paging.Finish finishing.Lock)))
      (go (event.Queued false) (at.Page paging.Last)) tt tt
  page_noted (paging.Finish finishing.Queue) = either (is_some seen.entry)
      (go (event.Unqueue me) (at.Page (paging.Finish finishing.Unlock)))
      (go (event.Unlock (call_head call) false) (at.Page paging.Last)) tt tt
  page_noted paging.Last = either seen.flag (go (event.Flag true) (at.Page paging.Clear))
      (ends_with (event.Flag false) interrupted) tt tt
  page_noted p = tt

  walk_noted : (p : WalkPoint) → WalksPage call (at.Walk p) → N (walk_event (call_aim call) p seen)
  walk_noted (walking.Call w) pg = either seen.breaks
      (go (event.Mark (call_head call)) (at.Walk (walking.BreakUnlock (reached w seen.calls))))
      (call_next (call_aim call) (reached w seen.calls) seen.called seen (meets (mask_of (mode_of call))
      seen.other.state)) tt
      (next_noted (reached w seen.calls) seen.called (meets (mask_of (mode_of call)) seen.other.state))
  walk_noted (walking.Page st w c) pg = hands_noted st w c pg
  walk_noted p pg = tt

  bit_noted : (p : BitPoint) → N (bit_event call p seen)
  bit_noted biting.Try = refl
  bit_noted biting.First = either (call_fails call seen) (go (ask call seen) (at.Prepare preparing.Lock))
      (ends_with (ask call seen) zero_answer) asked asked
  bit_noted (biting.Again failed) = asked
  bit_noted biting.Last = refl
  bit_noted p = tt

  select_next_noted : (n : ℕ) (c : Option CalledEntry) (hit : Bool) → N (select_next call n c hit)
  select_next_noted n None hit = tt
  select_next_noted n (Some c) hit = tt

  active_noted : (b : Bool) → N (active_event call b)
  active_noted true = tt
  active_noted false = tt

  -- the end of a wait for a completion
  module _ (other : is_bit (call_watch call) ≡ false) where
    await_ends_noted : (stopped : Bool) → N (await_ends call stopped seen)
    await_ends_noted true = tt
    await_ends_noted false = either (is_at_end seen.value)
        (ends_with (event.Unlock (call_head call) false) zero_answer)
        (go (store call (taken_done (done_in seen.value))) (at.Await awaiting.Unlock)) tt other

    await_noted : (p : AwaitPoint) → N (await_event me call p seen)
    await_noted (awaiting.Off stopped) = either (is_some seen.entry)
        (go (event.Unqueue me) (at.Await (awaiting.Last stopped))) (await_ends call stopped seen) tt
        (await_ends_noted stopped)
    await_noted (awaiting.Last stopped) = await_ends_noted stopped
    await_noted p = tt

    count_noted : (p : CountPoint) → N (count_event call p seen)
    count_noted counting.Peek = either (seen.value == 0) (ends_with (load call seen) zero_answer)
        (go (load call seen) (at.Count counting.Lock)) tt tt
    count_noted counting.Store = other
    count_noted p = tt

  -- a publish clears a bit or stores a variable
  publish_noted : (c : Call) → is_publisher c ≡ true → NotesBits (call_watch c) seen.value (publishing_event c)
  publish_noted (calls.ClearBit w b) h = tt
  publish_noted (calls.SetVar v x) h = refl
  publish_noted c h = absurd (cc)

  pub noted : (p : Point) → IsFitted call p → WalksPage call p → N (program me call p seen)
  noted at.First fit pg = either (call_fails call seen) (go (load call seen) (at.Prepare preparing.Lock))
      (ends_with (load call seen) zero_answer) tt tt
  noted (at.Prepare preparing.Queue) fit pg = either (is_some seen.entry)
      (go (event.State (state_mask (state_in call))) (at.Prepare preparing.Unlock))
      (if seen.worn then record { event = event.Unlock (call_head call) false; next = worn_next call }
      else go (event.Queue (call_head call) (form_of call)) (at.Prepare preparing.State)) tt
      (either seen.worn (record { event = event.Unlock (call_head call) false; next = worn_next call })
      (go (event.Queue (call_head call) (form_of call)) (at.Prepare preparing.State)) tt tt)
  noted (at.Leave leaving.Queue) fit pg = either (is_some seen.entry)
      (go (event.Unqueue me) (at.Leave leaving.Unlock))
      (go (event.Unlock (call_head call) false) (at.Leave leaving.Load)) tt tt
  noted (at.Leave leaving.Load) fit pg = either (call_fails call seen) (ends_with (load call seen) signalled)
      (go (load call seen) (at.Finish finishing.State false)) tt tt
  noted (at.Finish finishing.Look failed) fit pg = either (is_some seen.entry)
      (go (event.Queued true) (at.Finish finishing.Lock failed)) (finished call failed (event.Queued false)) tt
      (ends_noted failed (event.Queued false) tt)
  noted (at.Finish finishing.Queue failed) fit pg = either (is_some seen.entry)
      (go (event.Unqueue me) (at.Finish finishing.Unlock failed))
      (finished call failed (event.Unlock (call_head call) false)) tt
      (ends_noted failed (event.Unlock (call_head call) false) tt)
  noted (at.Finish finishing.Unlock failed) fit pg = ends_noted failed (event.Unlock (call_head call) false) tt
  noted (at.Bit p) fit pg = bit_noted p
  noted (at.Page p) fit pg = page_noted p
  noted at.Worn fit pg = absurd fit
  noted at.Publish fit pg = publish_noted call fit
  noted at.Active fit pg = active_noted seen.members
  noted (at.Walk p) fit pg = walk_noted p pg
  noted (at.Add adding.Queue) fit pg = either seen.worn
      (ends_with (event.Unlock (call_head call) false) answer.Worn)
      (go (event.Queue (call_head call) (form_of call)) (at.Add adding.Unlock)) tt tt
  noted (at.Remove removing.Lock) fit pg = tt
  noted (at.Woken hearing.State) fit pg = tt
  noted (at.Select selecting.Store) fit pg = done_no_bit (call_watch call) fit
  noted (at.Select (selecting.Next n)) fit pg = either (is_enough call n) (select_ends call n true)
      (select_next call n seen.called (meets (mask_of mode.Normal) seen.other.state)) tt
      (select_next_noted n seen.called (meets (mask_of mode.Normal) seen.other.state))
  noted (at.Await p) fit pg = await_noted (await_no_bit call fit) p
  noted (at.Count p) fit pg = count_noted (done_no_bit (call_watch call) fit) p
  noted at.Store fit pg = plain_no_bit (call_watch call) fit
  noted p fit pg = tt

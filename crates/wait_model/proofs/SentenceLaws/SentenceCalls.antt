-- What is left of the sentence of each call at each point of its program.
use Rattle.std.proofs.Common.{refl, subst}
use Rattle.std.specs.Prelude.{ℕ, ◌≡◌, pos, Bool, true, false, List, if◌then◌else◌}
use Rattle.wait_model.specs.{declared.calls.Call.Call, declared.calls.Event.Event, declared.calls.Answer.Answer}
use Rattle.wait_model.specs.{declared.tasks.SleepState.SleepState, declared.tasks.Taken.Taken}
use Rattle.wait_model.specs.{declared.queues.Form.Form, declared.watches.Kind.Kind, declared.points.Seen.Seen}
use Rattle.wait_model.specs.{declared.points.Point.Point, declared.points.WokenPoint.WokenPoint}
use Rattle.wait_model.specs.{declared.points.AddPoint.AddPoint, declared.points.RemovePoint.RemovePoint, Words.bit_at}
use Rattle.wait_model.specs.{Words.flag, Watches.head_of, Watches.mask_of, Sentences.sentence, Sentences.Follows}
use Rattle.wait_model.specs.{SentenceWaits.waits_woken, Findings.Noted, Findings.none_noted}
use Rattle.wait_model.specs.Tasks.{sleep_of, taken_of, meets, raise_mask}
use Rattle.wait_model.specs.Points.{call_watch, count_of, mode_of}
use Rattle.wait_model.specs.Programs.{program, program_start, go, ends_with, woken_event, remove_event, active_event}
use Rattle.wait_model.specs.Programs.{taken_answer, kicked, cond_in}
use Rattle.wait_model.specs.SentenceSteps.{puts_in, nothing, number, sleeps, unlocks}
use Rattle.wait_model.specs.SentenceWalks.{wakes, wakes_one, walks}
use Rattle.wait_model.specs.declared.calls.Call.TheVariants as calls
use Rattle.wait_model.specs.declared.calls.Event.TheVariants as event
use Rattle.wait_model.specs.declared.calls.Answer.TheVariants as answer
use Rattle.wait_model.specs.declared.tasks.Taken.TheVariants as taken
use Rattle.wait_model.specs.declared.watches.Watch.TheVariants as watch
use Rattle.wait_model.specs.declared.points.Point.TheVariants as at
use Rattle.wait_model.specs.declared.points.WokenPoint.TheVariants as hearing
use Rattle.wait_model.specs.declared.points.AddPoint.TheVariants as adding
use Rattle.wait_model.specs.declared.points.RemovePoint.TheVariants as removing
use Rattle.wait_model.specs.declared.points.BitPoint.TheVariants as biting
use Rattle.wait_model.specs.Phrases.{Rest, makes, finds, when◌then◌otherwise◌, ends}
use Rattle.wait_model.proofs.SentenceLaws.SentenceRests.{Knows, Says, anything}
use Rattle.wait_model.proofs.SentenceLaws.ShortCalls.{short_rest, short_said}
use Rattle.wait_model.proofs.SentenceLaws.SentenceWaits.{loop_of, loop_rest, loop_said}
use Rattle.wait_model.proofs.SentenceLaws.SentenceAwaits.{await_rest, await_said}
use Rattle.wait_model.proofs.SentenceLaws.SentenceCounts.{select_rest, select_said, count_rest, count_said}
use Rattle.wait_model.proofs.SentenceLaws.SentenceWalks.{walk_rest, walk_said}
use Rattle.wait_model.proofs.SentenceLaws.SentenceBits.{wait_rest, wait_said, lock_rest, lock_said}
use Rattle.wait_model.proofs.SentenceLaws.SentencePages.{page_rest, page_said}

-- `woken`
abbrev pub heard : Rest
heard = makes (event.State 0) (λ _. makes event.Unflag (λ _. ends (number 0)))

abbrev pub hear_rest : SleepState → WokenPoint → Rest
hear_rest st hearing.State = waits_woken st ends
hear_rest st hearing.Flag = finds event.Flag (λ flagged. (when flagged then nothing otherwise sleeps) (λ _. heard))
hear_rest st hearing.Sleep = sleeps (λ _. heard)
hear_rest st hearing.Run = heard
hear_rest st hearing.Clear = makes event.Unflag (λ _. ends (number 0))

-- `add`, `remove`
abbrev pub add_rest : Call → ℕ → Form → AddPoint → Rest
add_rest call c form adding.Lock = sentence 0 call ends
add_rest call c form adding.Queue = puts_in (watch.Plain c) form (λ s. unlocks (watch.Plain c)
    (λ _. ends (if s then number 0 else answer.Worn)))
add_rest call c form adding.Unlock = unlocks (watch.Plain c) (λ _. ends (number 0))

abbrev pub remove_rest : ℕ → RemovePoint → Rest
remove_rest me removing.Lock = sentence me calls.Remove ends
remove_rest me (removing.Queue c) = makes (event.Unqueue me) (λ _. unlocks (watch.Plain c) (λ _. ends (number 0)))
remove_rest me (removing.Unlock c) = unlocks (watch.Plain c) (λ _. ends (number 0))

-- `clearbit`, `setvar`
abbrev publish_rest : Call → Point → Rest
publish_rest call at.Publish = sentence 0 call ends
publish_rest call at.Active = wakes_one (call_watch call) ends
publish_rest call (at.Walk p) = walk_rest call p
publish_rest call _ = anything

abbrev pub rest_of : ℕ → Call → Noted → Point → Rest
rest_of me (calls.Wait c how) m p = loop_rest me (calls.Wait c how) m p
rest_of me (calls.SimpleWait c st) m p = loop_rest me (calls.SimpleWait c st) m p
rest_of me (calls.WaitVar v old st) m p = loop_rest me (calls.WaitVar v old st) m p
rest_of me (calls.WaitFor d st) m p = await_rest me d st m p
rest_of me (calls.WaitBit w b st) m p = wait_rest me w b st m p
rest_of me (calls.LockBit w b st) m p = lock_rest me w b st m p
rest_of me (calls.SimpleWake c b) m p = select_rest (calls.SimpleWake c b) m p
rest_of me (calls.Complete d) m p = select_rest (calls.Complete d) m p
rest_of me (calls.CompleteAll d) m p = select_rest (calls.CompleteAll d) m p
rest_of me (calls.TryWait d) m p = count_rest (calls.TryWait d) m p
rest_of me (calls.IsDone d) m p = count_rest (calls.IsDone d) m p
rest_of me (calls.Reinit d) m p = count_rest (calls.Reinit d) m p
rest_of me (calls.Wake c mode n) m (at.Walk p) = walk_rest (calls.Wake c mode n) p
rest_of me (calls.ClearBit w b) m p = publish_rest (calls.ClearBit w b) p
rest_of me (calls.SetVar v x) m p = publish_rest (calls.SetVar v x) p
rest_of me (calls.Add c kind form) m (at.Add p) = add_rest (calls.Add c kind form) c form p
rest_of me calls.Remove m (at.Remove p) = remove_rest me p
rest_of me (calls.Woken st) m (at.Woken p) = hear_rest st p
rest_of me (calls.Signal u fatal) m at.Raise = sentence me (calls.Signal u fatal) ends
rest_of me (calls.Signal u fatal) m at.RaiseWake = wakes u (λ _. ends (number 0))
rest_of me calls.Accept m at.Accept = sentence me calls.Accept ends
rest_of me (calls.Kick u) m at.Kick = sentence me (calls.Kick u) ends
rest_of me (calls.LockPage w st) m p = page_rest me w st m p
rest_of me (calls.TryBit w b) m (at.Bit biting.Try) = sentence me (calls.TryBit w b) ends
rest_of me call m p = short_rest me call p

-- at its start the whole sentence is left
pub start_said : (me : ℕ) (call : Call) (w : List Event) (a : Answer)
    → rest_of me call none_noted (program_start call) w a
    → Follows me call w a
start_said me (calls.SimpleWake c false) w a h = h
start_said me (calls.SimpleWake c true) w a h = h
start_said me _ w a h = h

module _ (me : ℕ) (m : Noted) where
  flag_said : (st : SleepState) (flagged : Bool) → Says (rest_of me (calls.Woken st)) m
      (go (event.Flag flagged) (at.Woken (if flagged then hearing.Run else hearing.Sleep))) (hear_rest st hearing.Flag)
  flag_said st true w a h = (true, (refl, h))
  flag_said st false w a h = (false, (refl, h))

  hear_said : (st : SleepState) (p : WokenPoint) (seen : Seen) → Says (rest_of me (calls.Woken st)) m
      (woken_event (calls.Woken st) p seen) (hear_rest st p)
  hear_said st hearing.Flag seen w a h = flag_said st seen.flag w a h
  hear_said st hearing.Sleep seen w a h = (sleep_of seen.own, (refl, h))
  hear_said st _ seen w a h = (refl, h)

  remove_said : (p : RemovePoint) (seen : Seen) → Says (rest_of me calls.Remove) m (remove_event me p seen)
      (remove_rest me p)
  unfolding head_of
  remove_said removing.Lock seen w a h = (cond_in seen.entry, (refl, h))
  remove_said (removing.Queue c) seen w a h = (refl, h)
  remove_said (removing.Unlock c) seen w a h = (refl, h)

  active_said : (call : Call) → count_of call ≡ 1 → (members : Bool)
      → Says (λ _. publish_rest call) m (active_event call members) (wakes_one (call_watch call) ends)
  active_said call one true w a h = (true, (refl, subst (λ (n : ℕ). walks (call_watch call) n ends w a) one h))
  active_said call one false w a h = (false, (refl, h))

  accept_said : (t : Taken)
      → Says (rest_of me calls.Accept) m (ends_with (event.Accept t) (answer.Number (taken_answer t)))
      (sentence me calls.Accept ends)
  accept_said taken.Nothing w a h = (taken.Nothing, (refl, h))
  accept_said taken.Plain w a h = (taken.Plain, (refl, h))
  accept_said taken.Fatal w a h = (taken.Fatal, (refl, h))

  kick_said : (u : ℕ) (hit : Bool) → Says (rest_of me (calls.Kick u)) m (kicked u hit) (sentence me (calls.Kick u) ends)
  kick_said u true w a h = (true, (refl, h))
  kick_said u false w a h = (false, (refl, h))

  bit_said : (w b : ℕ) (was_set : Bool) → Says (rest_of me (calls.TryBit w b)) m
      (ends_with (event.Tas w b (flag was_set)) (answer.Number (if was_set then pos 0 else pos 1)))
      (sentence me (calls.TryBit w b) ends)
  bit_said w b true v a h = (true, (refl, h))
  bit_said w b false v a h = (false, (refl, h))

  add_said : (c : ℕ) (kind : Kind) (form : Form) (full : Bool) → Says (rest_of me (calls.Add c kind form)) m (if full
      then ends_with (event.Unlock (head_of (watch.Plain c)) false) answer.Worn
      else go (event.Queue (head_of (watch.Plain c)) form) (at.Add adding.Unlock))
      (add_rest (calls.Add c kind form) c form adding.Queue)
  add_said c kind form true w a h = (true, (refl, h))
  add_said c kind form false w a h = (false, (refl, h))

  pub says : (call : Call) (p : Point) (seen : Seen) → Knows call p m seen
      → Says (rest_of me call) m (program me call p seen) (rest_of me call m p)
  says (calls.Wait c how) p seen k w a h = loop_said me (calls.Wait c how)
      (loop_of refl refl refl refl refl refl refl refl) m p seen k w a h
  says (calls.SimpleWait c st) p seen k w a h = loop_said me (calls.SimpleWait c st)
      (loop_of refl refl refl refl refl refl refl refl) m p seen k w a h
  says (calls.WaitVar v old st) p seen k w a h = loop_said me (calls.WaitVar v old st)
      (loop_of refl refl refl refl refl refl refl refl) m p seen k w a h
  says (calls.WaitFor d st) p seen k w a h = await_said me d st m p seen k w a h
  says (calls.WaitBit w b st) p seen k v a h = wait_said me w b st m p seen k v a h
  says (calls.LockBit w b st) p seen k v a h = lock_said me w b st m p seen k v a h
  says (calls.LockPage w st) p seen k v a h = page_said me w st m p seen k v a h
  says (calls.SimpleWake c b) (at.Select p) seen k w a h = select_said m (calls.SimpleWake c b) p seen k w a h
  says (calls.Complete d) (at.Select p) seen k w a h = select_said m (calls.Complete d) p seen k w a h
  says (calls.CompleteAll d) (at.Select p) seen k w a h = select_said m (calls.CompleteAll d) p seen k w a h
  says (calls.TryWait d) (at.Count p) seen k w a h = count_said m (calls.TryWait d) p seen k w a h
  says (calls.IsDone d) (at.Count p) seen k w a h = count_said m (calls.IsDone d) p seen k w a h
  says (calls.Reinit d) (at.Count p) seen k w a h = count_said m (calls.Reinit d) p seen k w a h
  says (calls.Wake c mode n) (at.Walk p) seen k w a h = walk_said (calls.Wake c mode n)
      (rest_of me (calls.Wake c mode n)) m
      (λ n q v b x. x) p seen k.walk w a h
  says (calls.ClearBit w b) at.Publish seen k v a h = (refl, h)
  says (calls.ClearBit w b) at.Active seen k v a h = active_said (calls.ClearBit w b) refl seen.members v a h
  says (calls.ClearBit w b) (at.Walk p) seen k v a h =
      walk_said (calls.ClearBit w b) (rest_of me (calls.ClearBit w b)) m
      (λ n q v b x. x) p seen k.walk v a h
  says (calls.SetVar x y) at.Publish seen k w a h = (refl, h)
  says (calls.SetVar x y) at.Active seen k w a h = active_said (calls.SetVar x y) refl seen.members w a h
  says (calls.SetVar x y) (at.Walk p) seen k w a h = walk_said (calls.SetVar x y) (rest_of me (calls.SetVar x y)) m
      (λ n q v b x. x) p seen k.walk w a h
  says (calls.Add c kind form) (at.Add adding.Lock) seen k w a h = (refl, h)
  says (calls.Add c kind form) (at.Add adding.Queue) seen k w a h = add_said c kind form seen.worn w a h
  says (calls.Add c kind form) (at.Add adding.Unlock) seen k w a h = (refl, h)
  says calls.Remove (at.Remove p) seen k w a h = remove_said p seen w a h
  says (calls.Woken st) (at.Woken p) seen k w a h = hear_said st p seen w a h
  says (calls.Signal u fatal) at.Raise seen k w a h = (refl, h)
  says (calls.Signal u fatal) at.RaiseWake seen k w a h = (meets (raise_mask fatal) seen.other.state, (refl, h))
  says calls.Accept at.Accept seen k w a h = accept_said (taken_of seen.own) w a h
  says (calls.Kick u) at.Kick seen k w a h =
      kick_said u (meets (mask_of (mode_of (calls.Kick u))) seen.other.state) w a h
  says (calls.TryBit w b) (at.Bit biting.Try) seen k v a h = bit_said w b (bit_at seen.value b) v a h
  says call p seen k w a h = short_said me (rest_of me call) m call p seen w a h

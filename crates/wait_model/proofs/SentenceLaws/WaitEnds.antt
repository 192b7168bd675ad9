-- At each point of a wait some events are left that come to the end of its sentence.
use Rattle.std.proofs.Common.{refl}
use Rattle.std.specs.Prelude.{ℕ, Bool, true, false, if◌then◌else◌, ◌∷◌}
use Rattle.wait_model.specs.{declared.calls.Call.Call, declared.tasks.SleepState.SleepState}
use Rattle.wait_model.specs.{declared.watches.Watch.Watch, declared.points.Point.Point}
use Rattle.wait_model.specs.{declared.points.FinishPoint.FinishPoint, Tasks.state_mask, Tasks.looks_in, Watches.head_of}
use Rattle.wait_model.specs.{Phrases.turns, Phrases.ends, SentenceWaits.may_stand, Findings.Noted}
use Rattle.wait_model.specs.Points.{call_watch, call_head, state_in, form_of}
use Rattle.wait_model.specs.SentenceSteps.{Prepared, is_ready, is_signalled, is_worn, number, minus_4, enters}
use Rattle.wait_model.specs.SentenceSteps.{takes_off, unlocks, looks, acts, finishes}
use Rattle.wait_model.specs.SentenceCounts.{counts, by_signal, by_count}
use Rattle.wait_model.specs.declared.calls.Call.TheVariants as calls
use Rattle.wait_model.specs.declared.calls.Event.TheVariants as event
use Rattle.wait_model.specs.declared.queues.Form.TheVariants as forms
use Rattle.wait_model.specs.declared.tasks.Sleep.TheVariants as sleep
use Rattle.wait_model.specs.declared.watches.Watch.TheVariants as watch
use Rattle.wait_model.specs.declared.points.Point.TheVariants as at
use Rattle.wait_model.specs.declared.points.PreparePoint.TheVariants as preparing
use Rattle.wait_model.specs.declared.points.LeavePoint.TheVariants as leaving
use Rattle.wait_model.specs.declared.points.FinishPoint.TheVariants as finishing
use Rattle.wait_model.specs.declared.points.AwaitPoint.TheVariants as awaiting
use Rattle.wait_model.specs.declared.points.BitPoint.TheVariants as biting
use Rattle.wait_model.specs.declared.calls.Answer.TheVariants as answer
use Rattle.wait_model.specs.Phrases.{Rest, makes, ◌>>◌, gives, finds, when◌then◌otherwise◌, repeat, repeats, leaves}
use Rattle.wait_model.proofs.SentenceLaws.SentenceRests.{CanEnd, over, unsaid, first, found}
use Rattle.wait_model.proofs.SentenceLaws.SentenceWaits.{entered_rest, finish_rest, loop_rest}
use Rattle.wait_model.proofs.SentenceLaws.SentenceWaits as waiting
use Rattle.wait_model.proofs.SentenceLaws.SentenceAwaits.{await_rest}
use Rattle.wait_model.proofs.SentenceLaws.SentenceAwaits as awaits
use Rattle.wait_model.proofs.SentenceLaws.SentenceBits.{wait_rest, lock_rest}
use Rattle.wait_model.proofs.SentenceLaws.SentenceBits as bits
use Rattle.wait_model.proofs.SentenceLaws.StepEnds.{some, loaded, met, looked, queued, off, count_loaded, lowered}
use Rattle.wait_model.proofs.SentenceLaws.StepEnds.{tried}

-- FINISH
module _ (me : ℕ) (call : Call) (b : Bool) (R : Rest) (h : CanEnd R) where
  unlocks_end : CanEnd (finish_rest me call b finishing.Unlock R)
  unlocks_end = first (event.Unlock (call_head call) false) R h

  queue_end : CanEnd (finish_rest me call b finishing.Queue R)
  queue_end = off me true (finish_rest me call b finishing.Unlock R) unlocks_end

  look_end : CanEnd (finish_rest me call b finishing.Look R)
  look_end = by b
    where
      by : (k : Bool) → CanEnd (finish_rest me call k finishing.Look R)
      by true = let (w, a, x) = h in (event.Queued false ∷ w, a, (false, (refl, x)))
      by false = first (event.Queued false) R h

  pub finish_end : (p : FinishPoint) → CanEnd (finish_rest me call b p R)
  finish_end finishing.State = first (event.State 0) (finish_rest me call b finishing.Look R) look_end
  finish_end finishing.Look = look_end
  finish_end finishing.Lock = first (event.Lock (call_head call)) (finish_rest me call b finishing.Queue R) queue_end
  finish_end finishing.Queue = queue_end
  finish_end finishing.Unlock = unlocks_end

-- `wait`, `swait`, `waitvar`
module _ (me : ℕ) (call : Call) where
  abbrev c : Watch
  c = call_watch call

  tested_end : (k : Bool) (n : ℕ) (how : Prepared) → CanEnd (waiting.prepared me call k n how)
  tested_end k n how = met c (waiting.tested me call k n how)
      (finish_end me call (may_stand how k) (ends (number 0)) (over (number 0)) finishing.State)

  unlocked_end : (k : Bool) (n : ℕ) (how : Prepared) → CanEnd (unlocks c (λ _. waiting.prepared me call k n how))
  unlocked_end k n how = first (event.Unlock (call_head call) false) (waiting.prepared me call k n how)
      (tested_end k n how)

  stored_end : (m : Noted) (n : ℕ) → CanEnd (waiting.prepare_rest me call m preparing.State n)
  stored_end m n = first (event.State (state_mask (state_in call)))
      (unlocks c (λ _. waiting.prepared me call true n is_ready)) (unlocked_end true n is_ready)

  looked_end : (m : Noted) (b : Bool) (n : ℕ) → CanEnd (waiting.looked_at me call b n false)
  looked_end m b n = queued c (form_of call) b (entered_rest c (state_in call) (waiting.entered me call b n))
      (stored_end m n)

  turn_end : (m : Noted) (b : Bool) → CanEnd (turns 1 (waiting.body me call) b ends)
  turn_end m b = first (event.Lock (call_head call)) ((when looks_in (state_in call)
      then finds event.Look otherwise gives false) (waiting.looked_at me call b 0))
      (looked (looks_in (state_in call)) (waiting.looked_at me call b 0) (looked_end m b 0))

  pub loop_end : (m : Noted) (p : Point) → CanEnd (loop_rest me call m p)
  loop_end m at.First = met c (λ b. (when b then gives (number 0) otherwise repeat (waiting.body me call) m.queued)
      ends) (over (number 0))
  loop_end m (at.Prepare preparing.Lock) = some (waiting.prepare_rest me call m preparing.Lock) 1 (turn_end m m.queued)
  loop_end m (at.Prepare preparing.Look) = some (waiting.prepare_rest me call m preparing.Look) 0
      (found event.Look (waiting.looked_at me call m.queued 0) false (looked_end m m.queued 0))
  loop_end m (at.Prepare preparing.Queue) = some (waiting.prepare_rest me call m preparing.Queue) 0
      (looked_end m m.queued 0)
  loop_end m (at.Prepare preparing.State) = some (waiting.prepare_rest me call m preparing.State) 0 (stored_end m 0)
  loop_end m (at.Prepare preparing.Unlock) = some (waiting.prepare_rest me call m preparing.Unlock) 0
      (unlocked_end true 0 is_ready)
  loop_end m at.Test = some (λ n. waiting.prepared me call true n is_ready) 0 (tested_end true 0 is_ready)
  loop_end m at.Worn = some (λ n. waiting.prepared me call m.queued n is_worn) 0 (tested_end m.queued 0 is_worn)
  loop_end m at.Sleep = some (λ n. waiting.tested me call true n is_ready false) 1 (found event.Sleep
      (λ _. turns 1 (waiting.body me call) true ends) sleep.Stay (turn_end m true))
  loop_end m (at.Leave leaving.Queue) = some (waiting.leave_rest me call m leaving.Queue) 0
      (off me m.queued (unlocks c (λ _. waiting.prepared me call m.queued 0 is_signalled))
      (unlocked_end m.queued 0 is_signalled))
  loop_end m (at.Leave leaving.Unlock) = some (waiting.leave_rest me call m leaving.Unlock) 0
      (unlocked_end m.queued 0 is_signalled)
  loop_end m (at.Leave leaving.Load) = some (waiting.leave_rest me call m leaving.Load) 0
      (tested_end m.queued 0 is_signalled)
  loop_end m (at.Finish p failed) = finish_end me call m.queued (ends (if failed then minus_4 else number 0))
      (over (if failed then minus_4 else number 0)) p
  loop_end m p = unsaid

-- `waitfor`
module _ (me d : ℕ) (st : SleepState) where
  abbrev e : Watch
  e = watch.Done d

  signal_end : (b : Bool) → CanEnd (awaits.last me d st (by_signal b))
  signal_end b = first (event.Unlock (head_of e) false) (ends _) (over _)

  count_end : (count : ℕ) → CanEnd (awaits.last me d st (by_count count))
  count_end count = lowered e count (ends (number 0)) (over (number 0))

  exit_end : (count : ℕ) → CanEnd (awaits.exit me d st (by_count count))
  exit_end count = first (event.State 0) (awaits.off me d st (by_count count))
      (off me true (awaits.last me d st (by_count count)) (count_end count))

  slept_end : CanEnd (awaits.slept me d st 0)
  slept_end = first (event.Lock (head_of e)) (counts e (awaits.loaded me d st 0))
      (count_loaded e (awaits.loaded me d st 0) (exit_end 1))

  stood_end : CanEnd (unlocks e (λ _. finds event.Sleep (λ _. awaits.slept me d st 0)))
  stood_end = first (event.Unlock (head_of e) false) (finds event.Sleep (λ _. awaits.slept me d st 0))
      (found event.Sleep (λ _. awaits.slept me d st 0) sleep.Stay slept_end)

  put_end : (m : Noted) → CanEnd (awaits.prepare_rest me d st m preparing.State 0)
  put_end m = first (event.State (state_mask st)) (unlocks e (λ _. finds event.Sleep (λ _. awaits.slept me d st 0)))
      stood_end

  entered_end : (m : Noted) (b : Bool) → CanEnd (awaits.looked me d st b 0 false)
  entered_end m b = queued e forms.Tail b (entered_rest e st (λ s. awaits.after_add me d st s (awaits.over me d st 0)))
      (put_end m)

  begun_end : (b : Bool) → CanEnd (counts e (awaits.begun me d st b))
  begun_end b = count_loaded e (awaits.begun me d st b) (lowered e 1 (ends (number 0)) (over (number 0)))

  pub await_rest_end : (m : Noted) (p : Point) → CanEnd (await_rest me d st m p)
  await_rest_end m (at.Prepare preparing.Lock) = some (awaits.prepare_rest me d st m preparing.Lock) 0 unsaid
  await_rest_end m (at.Prepare preparing.Look) = some (awaits.prepare_rest me d st m preparing.Look) 0
      (found event.Look (awaits.looked me d st m.queued 0) false (entered_end m m.queued))
  await_rest_end m (at.Prepare preparing.Queue) = some (awaits.prepare_rest me d st m preparing.Queue) 0
      (entered_end m m.queued)
  await_rest_end m (at.Prepare preparing.State) = some (awaits.prepare_rest me d st m preparing.State) 0 (put_end m)
  await_rest_end m (at.Prepare preparing.Unlock) = some (awaits.prepare_rest me d st m preparing.Unlock) 0 stood_end
  await_rest_end m at.Sleep = some (λ n. finds event.Sleep (λ _. awaits.slept me d st n)) 0
      (found event.Sleep (λ _. awaits.slept me d st 0) sleep.Stay slept_end)
  await_rest_end m (at.Await (awaiting.Lock false)) =
      first (event.Lock (head_of e)) (counts e (awaits.begun me d st m.queued)) (begun_end m.queued)
  await_rest_end m (at.Await (awaiting.Lock true)) = some (awaits.slept me d st) 0 slept_end
  await_rest_end m (at.Await (awaiting.Load false)) = begun_end m.queued
  await_rest_end m (at.Await (awaiting.Load true)) = some (λ n. counts e (awaits.loaded me d st n)) 0
      (count_loaded e (awaits.loaded me d st 0) (exit_end 1))
  await_rest_end m (at.Await (awaiting.Run true)) = first (event.State 0) (awaits.off me d st (by_signal m.queued))
      (off me m.queued (awaits.last me d st (by_signal m.queued)) (signal_end m.queued))
  await_rest_end m (at.Await (awaiting.Run false)) = loaded m (awaits.exit me d st (by_count m.count))
      (exit_end m.count)
  await_rest_end m (at.Await (awaiting.Off true)) = off me m.queued (awaits.last me d st (by_signal m.queued))
      (signal_end m.queued)
  await_rest_end m (at.Await (awaiting.Off false)) =
      loaded m (takes_off me m.queued (λ _. awaits.last me d st (by_count m.count)))
      (off me m.queued (awaits.last me d st (by_count m.count)) (count_end m.count))
  await_rest_end m (at.Await (awaiting.Last true)) = signal_end m.queued
  await_rest_end m (at.Await (awaiting.Last false)) = loaded m (awaits.last me d st (by_count m.count))
      (count_end m.count)
  await_rest_end m (at.Await awaiting.Unlock) = first (event.Unlock (head_of e) false)
      (ends (number 0)) (over (number 0))
  await_rest_end m p = unsaid

-- `waitbit`
module _ (me w b : ℕ) (st : SleepState) where
  abbrev on : Watch
  on = watch.Bit w b

  ended : (k failed : Bool) → CanEnd (finishes me on k (λ _. ends (if failed then minus_4 else number 0)))
  ended k failed = finish_end me (calls.WaitBit w b st) k (ends (if failed then minus_4 else number 0))
      (over (if failed then minus_4 else number 0)) finishing.State

  acted_end : (failed : Bool) → CanEnd (bits.acted me w b st 0 failed)
  acted_end failed = met on (bits.answered_by me w b st 0 failed) (ended true failed)

  ready : CanEnd (bits.ready me w b st 0)
  ready = met on (λ x. (when x then gives false otherwise acts st) (bits.acted me w b st 0)) (acted_end false)

  unlocked : CanEnd (unlocks on (λ _. bits.ready me w b st 0))
  unlocked = first (event.Unlock (head_of on) false) (bits.ready me w b st 0) ready

  stored : CanEnd (makes (event.State (state_mask st)) (λ _. unlocks on (λ _. bits.ready me w b st 0)))
  stored = first (event.State (state_mask st)) (unlocks on (λ _. bits.ready me w b st 0)) unlocked

  put : (k : Bool) → CanEnd (enters on st forms.Front k (bits.entered me w b st k 0))
  put k = queued on forms.Front k (entered_rest on st (bits.entered me w b st k 0)) stored

  pub wait_rest_end : (m : Noted) (p : Point) → CanEnd (wait_rest me w b st m p)
  wait_rest_end m (at.Prepare preparing.Lock) = some (bits.prepare_rest me w b st m preparing.Lock) 1
      (first (event.Lock (head_of on)) (enters on st forms.Front m.queued (bits.entered me w b st m.queued 0))
      (put m.queued))
  wait_rest_end m (at.Prepare preparing.Look) = some (bits.prepare_rest me w b st m preparing.Look) 0 unsaid
  wait_rest_end m (at.Prepare preparing.Queue) = some (bits.prepare_rest me w b st m preparing.Queue) 0 (put m.queued)
  wait_rest_end m (at.Prepare preparing.State) = some (bits.prepare_rest me w b st m preparing.State) 0 stored
  wait_rest_end m (at.Prepare preparing.Unlock) = some (bits.prepare_rest me w b st m preparing.Unlock) 0 unlocked
  wait_rest_end m at.Worn = some (bits.worn me w b st m.queued) 0 (met on (bits.worn_by me w b st m.queued 0)
      (ended m.queued false))
  wait_rest_end m (at.Finish p failed) = finish_end me (calls.WaitBit w b st) m.queued
      (ends (if failed then minus_4 else number 0))
      (over (if failed then minus_4 else number 0)) p
  wait_rest_end m (at.Bit biting.First) =
      met on (λ x. (when x then gives (number 0) otherwise repeat (bits.body me w b st) m.queued) ends)
      (over (number 0))
  wait_rest_end m (at.Bit biting.Load) = some (bits.ready me w b st) 0 ready
  wait_rest_end m (at.Bit biting.Sleep) = some (λ n. acts st (bits.acted me w b st n)) 0 (found event.Sleep
      (λ _. looks st (bits.acted me w b st 0)) sleep.Stay
      (looked (looks_in st) (bits.acted me w b st 0) (acted_end false)))
  wait_rest_end m (at.Bit biting.Look) = some (λ n. finds event.Look (bits.acted me w b st n)) 0
      (found event.Look (bits.acted me w b st 0) false (acted_end false))
  wait_rest_end m (at.Bit (biting.Again failed)) = some (λ n. bits.acted me w b st n failed) 0 (acted_end failed)
  wait_rest_end m p = unsaid

-- `lockbit`
module _ (me w b : ℕ) (st : SleepState) where
  abbrev bit : Watch
  bit = watch.Bit w b

  asked_end : CanEnd (bits.asked me w b st 0 false)
  asked_end = tried w b (λ clear. (when clear then (finishes me bit true >> gives (leaves (number 0))) otherwise
      gives (repeats true))
      (bits.past me w b st 0)) (finish_end me (calls.LockBit w b st) true (ends (number 0))
      (over (number 0)) finishing.State)

  last_end : CanEnd (bits.last me w b st)
  last_end = tried w b (λ clear. ends (if clear then number 0 else minus_4)) (over (number 0))

  put_in_end : CanEnd (bits.put_in me w b st 0)
  put_in_end = met bit (λ x. (when x then gives false otherwise acts st) (bits.answered me w b st 0)) asked_end

  freed : CanEnd (unlocks bit (λ _. bits.put_in me w b st 0))
  freed = first (event.Unlock (head_of bit) false) (bits.put_in me w b st 0) put_in_end

  kept : CanEnd (makes (event.State (state_mask st)) (λ _. unlocks bit (λ _. bits.put_in me w b st 0)))
  kept = first (event.State (state_mask st)) (unlocks bit (λ _. bits.put_in me w b st 0)) freed

  in_queue : (k : Bool) → CanEnd (enters bit st forms.Tail k (bits.added me w b st 0))
  in_queue k = queued bit forms.Tail k (entered_rest bit st (bits.added me w b st 0)) kept

  pub lock_rest_end : (m : Noted) (p : Point) → CanEnd (lock_rest me w b st m p)
  lock_rest_end m (at.Prepare preparing.Lock) = some (bits.ready_rest me w b st m preparing.Lock) 1
      (first (event.Lock (head_of bit)) (enters bit st forms.Tail m.queued (bits.added me w b st 0))
      (in_queue m.queued))
  lock_rest_end m (at.Prepare preparing.Look) = some (bits.ready_rest me w b st m preparing.Look) 0 unsaid
  lock_rest_end m (at.Prepare preparing.Queue) = some (bits.ready_rest me w b st m preparing.Queue)
      0 (in_queue m.queued)
  lock_rest_end m (at.Prepare preparing.State) = some (bits.ready_rest me w b st m preparing.State) 0 kept
  lock_rest_end m (at.Prepare preparing.Unlock) = some (bits.ready_rest me w b st m preparing.Unlock) 0 freed
  lock_rest_end m at.Worn = tried w b (λ clear. ends (if clear then number 0 else answer.Worn)) (over (number 0))
  lock_rest_end m (at.Finish p true) = finish_end me (calls.LockBit w b st) true (bits.last me w b st) last_end p
  lock_rest_end m (at.Finish p false) = finish_end me (calls.LockBit w b st) true (ends (number 0)) (over (number 0)) p
  lock_rest_end m (at.Bit biting.First) = tried w b (λ clear. (when clear then gives (number 0)
      otherwise repeat (bits.round me w b st) m.queued) ends) (over (number 0))
  lock_rest_end m (at.Bit biting.Load) = some (bits.put_in me w b st) 0 put_in_end
  lock_rest_end m (at.Bit biting.Sleep) = some (λ n. acts st (bits.answered me w b st n)) 0 (found event.Sleep
      (λ _. looks st (bits.answered me w b st 0)) sleep.Stay
      (looked (looks_in st) (bits.answered me w b st 0) asked_end))
  lock_rest_end m (at.Bit biting.Look) = some (λ n. finds event.Look (bits.answered me w b st n)) 0
      (found event.Look (bits.answered me w b st 0) false asked_end)
  lock_rest_end m (at.Bit (biting.Again false)) = some (λ n. bits.asked me w b st n false) 0 asked_end
  lock_rest_end m (at.Bit biting.Last) = last_end
  lock_rest_end m p = unsaid

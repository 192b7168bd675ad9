-- At each point of a call's program some events are left that come to the end of its sentence.
use Rattle.std.proofs.Common.{refl, arith}
use Rattle.std.specs.Prelude.{ℕ, zero, suc, ◌+◌, ◌==◌, Bool, true, false, [], ◌∷◌}
use Rattle.wait_model.specs.{declared.layout.TheConstants.ALL_DONE, declared.calls.Call.Call}
use Rattle.wait_model.specs.{declared.calls.Answer.Answer, declared.queues.CalledEntry.CalledEntry}
use Rattle.wait_model.specs.{declared.queues.Walking.Walking, declared.watches.Watch.Watch, declared.points.Point.Point}
use Rattle.wait_model.specs.{declared.points.SelectPoint.SelectPoint, declared.points.WalkPoint.WalkPoint}
use Rattle.wait_model.specs.{Counts.raised_done, Counts.taken_done, Sentences.taken_number, Tasks.state_mask}
use Rattle.wait_model.specs.{Programs.no_walk, Programs.again as next_hold, Phrases.repeats, SentenceCounts.counts}
use Rattle.wait_model.specs.{Findings.Noted, Words.flag, Words.bit_at, declared.points.PageStage.PageStage}
use Rattle.wait_model.specs.Watches.{head_of, number_of, word_of, bit_of, misses}
use Rattle.wait_model.specs.Points.{call_watch, call_head, count_of}
use Rattle.wait_model.specs.SentenceSteps.{nothing, number, yes_or_no, unlocks, stores}
use Rattle.wait_model.specs.SentenceWalks.{WalkTally, the_end, walked, tallied, wakes_off, wakes_one, hands_over}
use Rattle.wait_model.specs.declared.calls.Call.TheVariants as calls
use Rattle.wait_model.specs.declared.calls.Event.TheVariants as event
use Rattle.wait_model.specs.declared.tasks.Sleep.TheVariants as sleep
use Rattle.wait_model.specs.declared.tasks.Taken.TheVariants as taken
use Rattle.wait_model.specs.declared.watches.Watch.TheVariants as watch
use Rattle.wait_model.specs.declared.points.Point.TheVariants as at
use Rattle.wait_model.specs.declared.points.BitPoint.TheVariants as biting
use Rattle.wait_model.specs.declared.points.CountPoint.TheVariants as counting
use Rattle.wait_model.specs.declared.points.SelectPoint.TheVariants as selecting
use Rattle.wait_model.specs.declared.points.WalkPoint.TheVariants as walking
use Rattle.wait_model.specs.declared.points.AddPoint.TheVariants as adding
use Rattle.wait_model.specs.declared.points.RemovePoint.TheVariants as removing
use Rattle.wait_model.specs.declared.points.WokenPoint.TheVariants as hearing
use Rattle.wait_model.specs.Phrases.{makes, ◌>>◌, gives, finds, when◌then◌otherwise◌, first_is, turns, ends, leaves}
use Rattle.wait_model.specs.declared.queues.End.TheVariants as end_as
use Rattle.wait_model.proofs.{SentenceLaws.ShortCalls.short_end, SentenceLaws.SentenceCalls.heard}
use Rattle.wait_model.proofs.{SentenceLaws.SentenceCalls.rest_of, SentenceLaws.PageEnds.page_rest_end}
use Rattle.wait_model.proofs.SentenceLaws.SentenceRests.{CanEnd, over, unsaid, first, found}
use Rattle.wait_model.proofs.SentenceLaws.SentenceWalks.{walk_rest, tally, passed}
use Rattle.wait_model.proofs.SentenceLaws.SentenceCounts.{one_rest, all_rest, select_rest, count_rest, more, over_by}
use Rattle.wait_model.proofs.SentenceLaws.SentenceCounts.{taken}
use Rattle.wait_model.proofs.SentenceLaws.StepEnds.{some, loaded, count_loaded, lowered, tried}
use Rattle.wait_model.proofs.SentenceLaws.WaitEnds.{loop_end, await_rest_end, wait_rest_end, lock_rest_end}
use Rattle.wait_model.proofs.SentenceLaws.SentenceWalks as walk
use Rattle.wait_model.specs.declared.points.PageStage.TheVariants as staging
use Rattle.std.specs.Prelude.{◌&&◌}

-- a walk, whose queue has no further member
module _ (call : Call) where
  last_end_of : (t : WalkTally) → CanEnd (turns 1 (walk.body call) t ends)
  last_end_of t = (
    event.Unlock (call_head call) false ∷ [],
    walked t end_as.End,
    passed (call_watch call) t (walk.Ahead_rest call 0) t.calls (omega arith) (λ _. refl) _ (walked t end_as.End)
        (the_end, (refl, refl)),
  )

  onward_end : (w : Walking) → CanEnd (walk.onward_rest call 1 w)
  onward_end w = last_end_of (tally w)

  called_end : (w : Walking) (c : CalledEntry) → CanEnd (walk.called_rest call 1 w c false)
  called_end w c = last_end_of (tallied (tally w) c.exclusive false)

  spent_end : (w : Walking) → CanEnd (walk.spent_rest call w)
  spent_end w = first (event.Unlock (call_head call) true) (ends (walked (tally w) end_as.Spent))
      (over (walked (tally w) end_as.Spent))

  past_end : (s : Bool) (w : Walking) → CanEnd (walk.past_rest call s 1 w)
  past_end true w = spent_end w
  past_end false w = onward_end w

  unmarked_end : (w : Walking) → CanEnd (first_is (event.Unmark (call_head call)) (walk.onward_rest call 1 w))
  unmarked_end w = first (event.Unmark (call_head call)) (walk.onward_rest call 1 w) (onward_end w)

  locked_end : (w : Walking)
      → CanEnd (first_is (event.Lock (call_head call)) (first_is (event.Unmark (call_head call))
      (walk.onward_rest call 1 w)))
  locked_end w = first (event.Lock (call_head call)) (first_is (event.Unmark (call_head call))
      (walk.onward_rest call 1 w)) (unmarked_end w)

  stopped_end : (w : Walking) → CanEnd (walk.stopped_rest call w)
  stopped_end w = first (event.Unlock (call_head call) false) (ends (walked (tally w) end_as.Stopped))
      (over (walked (tally w) end_as.Stopped))

  handed_end : (s : Bool) (w : Walking) (t : WalkTally)
      → CanEnd ((when s
      then
      (do
        makes (event.Unlock (call_head call) true)
        gives (leaves (walked t end_as.Spent)))
      otherwise gives (repeats t)) (walk.over call 1))
  handed_end true w t = first (event.Unlock (call_head call) true) (ends (walked t end_as.Spent))
      (over (walked t end_as.Spent))
  handed_end false w t = last_end_of t

  unqueued_end : (w : Walking) (c : CalledEntry) → CanEnd (walk.page_rest call staging.Off w c 1)
  unqueued_end w c = first (event.Unqueue c.who) (walk.judged_rest call true 1 w c true)
      (handed_end ((true && c.exclusive) && (w.left == 1)) w (tallied (tally w) c.exclusive true))

  woken_page_end : (w : Walking) (c : CalledEntry) → CanEnd (walk.page_rest call staging.Wake w c 1)
  woken_page_end w c = found (event.Wake c.who)
      (λ _. makes (event.Unqueue c.who) (λ _. walk.judged_rest call true 1 w c true)) false (unqueued_end w c)

  handed_page_end : (w : Walking) (c : CalledEntry) → CanEnd (walk.page_rest call staging.Hand w c 1)
  handed_page_end w c = first (event.Handed c.who) (walk.page_rest call staging.Wake w c 1) (woken_page_end w c)

  tried_end : (b : Bool) (w : Walking) (c : CalledEntry)
      → CanEnd ((when b then gives false otherwise hands_over c.who) (walk.judged_rest call true 1 w c))
  tried_end true w c = stopped_end w
  tried_end false w c = handed_page_end w c

  page_end : (st : PageStage) (w : Walking) (c : CalledEntry) → CanEnd (walk.page_rest call st w c 1)
  page_end staging.Off w c = unqueued_end w c
  page_end staging.Wake w c = woken_page_end w c
  page_end staging.Hand w c = handed_page_end w c
  page_end staging.Try w c = found
      (λ (value : ℕ). event.TasFor (word_of (call_watch call)) c.who (flag (bit_at value (bit_of (call_watch call)))))
      (λ value. (when misses (call_watch call) value then gives false otherwise hands_over c.who)
      (walk.judged_rest call true 1 w c)) 0 (tried_end (misses (call_watch call) 0) w c)

  pub walk_end : (p : WalkPoint) → CanEnd (walk_rest call p)
  walk_end walking.Lock =
      let (w, a, h) = last_end_of (record { woken = 0; selected = 0; left = count_of call; holds = 1; calls = 0 }) in
      (event.Lock (call_head call) ∷ w, a, (refl, (1, h)))
  walk_end (walking.Call w) = some (λ n. walk.onward_rest call n w) 1 (onward_end w)
  walk_end (walking.Wake w c) = some (λ n. finds (event.Wake c.who) (walk.called_rest call n w c)) 1
      (found (event.Wake c.who) (walk.called_rest call 1 w c) false (called_end w c))
  walk_end (walking.Bit w c) = some (λ n. wakes_off c.who (walk.called_rest call n w c)) 1
      (found (event.Wake c.who)
      (λ hit. (when hit then (makes (event.Unqueue c.who) >> gives true) otherwise gives false)
      (walk.called_rest call 1 w c)) false (called_end w c))
  walk_end (walking.Page st w c) = some (walk.page_rest call st w c) 1 (page_end st w c)
  walk_end (walking.Stopped w) = stopped_end w
  walk_end (walking.Unqueue w who) = some (λ n. first_is (event.Unqueue who) (walk.past_rest call w.spent n w)) 1
      (first (event.Unqueue who) (walk.past_rest call w.spent 1 w) (past_end w.spent w))
  walk_end (walking.Spent w) = spent_end w
  walk_end (walking.BreakUnlock w) =
      some (λ n. first_is (event.Unlock (call_head call) false) (first_is (event.Lock (call_head call))
      (first_is (event.Unmark (call_head call)) (walk.onward_rest call n (next_hold w))))) 1
      (first (event.Unlock (call_head call) false) (first_is (event.Lock (call_head call))
      (first_is (event.Unmark (call_head call)) (walk.onward_rest call 1 (next_hold w)))) (locked_end (next_hold w)))
  walk_end (walking.BreakLock w) = some (λ n. first_is (event.Lock (call_head call))
      (first_is (event.Unmark (call_head call)) (walk.onward_rest call n (next_hold w)))) 1 (locked_end (next_hold w))
  walk_end (walking.Unmark w) = some (λ n. first_is (event.Unmark (call_head call)) (walk.onward_rest call n w))
      1 (unmarked_end w)

-- selections, whose queue has no further member
module _ (c : Watch) where
  hold_end : (spent : Bool) (b : Answer) → CanEnd (first_is (event.Unlock (head_of c) spent) (ends b))
  hold_end spent b = first (event.Unlock (head_of c) spent) (ends b) (over b)

  one_end : (A : Bool → Answer) (p : SelectPoint) → CanEnd (one_rest c A p)
  one_end A (selecting.Next zero) = let (w, a, h) = hold_end false (A false) in (w, a, (false, h))
  one_end A (selecting.Next (suc zero)) = hold_end true (A true)
  one_end A (selecting.Off (suc zero) who) = first (event.Unqueue who) (first_is (event.Unlock (head_of c) true)
      (ends (A true))) (hold_end true (A true))
  one_end A _ = unsaid

  each_end : (A : ℕ → Answer) (n : ℕ) → CanEnd (turns 1 more n (λ n. unlocks c (λ _. ends (A n))))
  each_end A n = let (w, a, h) = hold_end false (A n) in (w, a, (false, h))

  all_end : (A : ℕ → Answer) (p : SelectPoint) → CanEnd (all_rest c A p)
  all_end A (selecting.Next n) = some (λ k. turns k more n (λ n. unlocks c (λ _. ends (A n)))) 1 (each_end A n)
  all_end A (selecting.Off n who) =
      some (λ k. first_is (event.Unqueue who) (turns k more n (λ n. unlocks c (λ _. ends (A n))))) 1
      (first (event.Unqueue who) (turns 1 more n (λ n. unlocks c (λ _. ends (A n)))) (each_end A n))
  all_end A _ = unsaid

-- `swake`, `complete`, `completeall`
raised_end : (d : ℕ) → CanEnd (counts (watch.Done d) (λ count. (when count == ALL_DONE then nothing
    otherwise stores (watch.Done d) (count + 1)) (λ _. one_rest (watch.Done d) (λ _. number 0) (selecting.Next 0))))
raised_end d = count_loaded (watch.Done d) (λ count. (when count == ALL_DONE then nothing
    otherwise stores (watch.Done d) (count + 1)) (λ _. one_rest (watch.Done d) (λ _. number 0) (selecting.Next 0)))
    (first (event.Set (number_of (watch.Done d)) 2) (one_rest (watch.Done d) (λ _. number 0) (selecting.Next 0))
    (one_end (watch.Done d) (λ _. number 0) (selecting.Next 0)))

ended_end : (d : ℕ) → CanEnd
    (stores (watch.Done d) ALL_DONE (λ _. all_rest (watch.Done d) (λ _. number 0) (selecting.Next 0)))
ended_end d = first (event.Set (number_of (watch.Done d)) ALL_DONE)
    (all_rest (watch.Done d) (λ _. number 0) (selecting.Next 0))
    (all_end (watch.Done d) (λ _. number 0) (selecting.Next 0))

select_end : (call : Call) (m : Noted) (p : Point) → CanEnd (select_rest call m p)
select_end (calls.SimpleWake c false) m (at.Select selecting.Lock) = first (event.Lock (head_of (watch.Plain c)))
    (one_rest (watch.Plain c) yes_or_no (selecting.Next 0)) (one_end (watch.Plain c) yes_or_no (selecting.Next 0))
select_end (calls.SimpleWake c true) m (at.Select selecting.Lock) = first (event.Lock (head_of (watch.Plain c)))
    (all_rest (watch.Plain c) number (selecting.Next 0)) (all_end (watch.Plain c) number (selecting.Next 0))
select_end (calls.SimpleWake c false) m (at.Select p) = one_end (watch.Plain c) yes_or_no p
select_end (calls.SimpleWake c true) m (at.Select p) = all_end (watch.Plain c) number p
select_end (calls.Complete d) m (at.Select selecting.Lock) = first (event.Lock (head_of (watch.Done d)))
    (counts (watch.Done d) (λ count. (when count == ALL_DONE then nothing
    otherwise stores (watch.Done d) (count + 1)) (λ _. one_rest (watch.Done d) (λ _. number 0) (selecting.Next 0))))
    (raised_end d)
select_end (calls.Complete d) m (at.Select selecting.Load) = raised_end d
select_end (calls.Complete d) m (at.Select selecting.Store) = loaded m (stores (watch.Done d) (raised_done m.count)
    (λ _. one_rest (watch.Done d) (λ _. number 0) (selecting.Next 0)))
    (first (event.Set (number_of (watch.Done d)) (raised_done m.count))
    (one_rest (watch.Done d) (λ _. number 0) (selecting.Next 0))
    (one_end (watch.Done d) (λ _. number 0) (selecting.Next 0)))
select_end (calls.Complete d) m (at.Select p) = one_end (watch.Done d) (λ _. number 0) p
select_end (calls.CompleteAll d) m (at.Select selecting.Lock) = first (event.Lock (head_of (watch.Done d)))
    (stores (watch.Done d) ALL_DONE (λ _. all_rest (watch.Done d) (λ _. number 0) (selecting.Next 0))) (ended_end d)
select_end (calls.CompleteAll d) m (at.Select selecting.Store) = ended_end d
select_end (calls.CompleteAll d) m (at.Select p) = all_end (watch.Done d) (λ _. number 0) p
select_end call m p = unsaid

-- `trywait`, `isdone`, `reinit`
over_end : (d : ℕ) (hit : Bool) → CanEnd (over_by d hit)
over_end d hit = hold_end (watch.Done d) false (yes_or_no hit)

lowers_end : (d : ℕ) → CanEnd (counts (watch.Done d) (taken d))
lowers_end d = count_loaded (watch.Done d) (taken d) (lowered (watch.Done d) 1 (ends (number 1)) (over (number 1)))

count_end_at : (call : Call) (m : Noted) (p : Point) → CanEnd (count_rest call m p)
count_end_at (calls.TryWait d) m (at.Count counting.Peek) = (
  event.Load (number_of (watch.Done d)) 0 ∷ [],
  number 0,
  (0, (refl, (omega arith, refl))),
)
count_end_at (calls.TryWait d) m (at.Count counting.Lock) = first (event.Lock (head_of (watch.Done d)))
    (counts (watch.Done d) (taken d)) (lowers_end d)
count_end_at (calls.TryWait d) m (at.Count counting.Load) = lowers_end d
count_end_at (calls.TryWait d) m (at.Count counting.Store) =
    loaded m (stores (watch.Done d) (taken_done m.count) (λ _. over_by d true))
    (first (event.Set (number_of (watch.Done d)) (taken_done m.count)) (over_by d true) (over_end d true))
count_end_at (calls.TryWait d) m (at.Count (counting.Unlock hit)) = over_end d hit
count_end_at (calls.IsDone d) m (at.Count counting.Peek) = (
  event.Load (number_of (watch.Done d)) 0 ∷ [],
  number 0,
  (0, (refl, (omega arith, refl))),
)
count_end_at (calls.IsDone d) m (at.Count counting.Lock) = first (event.Lock (head_of (watch.Done d)))
    (over_by d true) (over_end d true)
count_end_at (calls.IsDone d) m (at.Count (counting.Unlock hit)) = over_end d hit
count_end_at (calls.Reinit d) m (at.Count counting.Lock) = first (event.Lock (head_of (watch.Done d)))
    (stores (watch.Done d) 0 (λ _. over_by d false)) (first (event.Set (number_of (watch.Done d)) 0) (over_by d false)
    (over_end d false))
count_end_at (calls.Reinit d) m (at.Count counting.Store) = first (event.Set (number_of (watch.Done d)) 0)
    (over_by d false) (over_end d false)
count_end_at (calls.Reinit d) m (at.Count (counting.Unlock hit)) = over_end d hit
count_end_at call m p = unsaid

-- `clearbit`, `setvar`
woken_end : (call : Call) → CanEnd (wakes_one (call_watch call) ends)
woken_end call = (event.Active (call_head call) false ∷ [], no_walk, (false, (refl, refl)))

-- the calls of few events
heard_end : CanEnd heard
heard_end = (event.State 0 ∷ event.Unflag ∷ [], number 0, (refl, (refl, refl)))

plain_end : (c : ℕ) → CanEnd (unlocks (watch.Plain c) (λ _. ends (number 0)))
plain_end c = hold_end (watch.Plain c) false (number 0)

-- each call, at each point
pub can_end : (me : ℕ) (call : Call) (m : Noted) (p : Point) → CanEnd (rest_of me call m p)
can_end me (calls.Wait c how) m p = loop_end me (calls.Wait c how) m p
can_end me (calls.SimpleWait c st) m p = loop_end me (calls.SimpleWait c st) m p
can_end me (calls.WaitVar v old st) m p = loop_end me (calls.WaitVar v old st) m p
can_end me (calls.WaitFor d st) m p = await_rest_end me d st m p
can_end me (calls.WaitBit w b st) m p = wait_rest_end me w b st m p
can_end me (calls.LockBit w b st) m p = lock_rest_end me w b st m p
can_end me (calls.LockPage w st) m p = page_rest_end me w st m p
can_end me (calls.SimpleWake c b) m p = select_end (calls.SimpleWake c b) m p
can_end me (calls.Complete d) m p = select_end (calls.Complete d) m p
can_end me (calls.CompleteAll d) m p = select_end (calls.CompleteAll d) m p
can_end me (calls.TryWait d) m p = count_end_at (calls.TryWait d) m p
can_end me (calls.IsDone d) m p = count_end_at (calls.IsDone d) m p
can_end me (calls.Reinit d) m p = count_end_at (calls.Reinit d) m p
can_end me (calls.Wake c mode n) m (at.Walk p) = walk_end (calls.Wake c mode n) p
can_end me (calls.ClearBit w b) m at.Publish = first (event.Clear w b) (wakes_one (watch.Bit w b) ends)
    (woken_end (calls.ClearBit w b))
can_end me (calls.ClearBit w b) m at.Active = woken_end (calls.ClearBit w b)
can_end me (calls.ClearBit w b) m (at.Walk p) = walk_end (calls.ClearBit w b) p
can_end me (calls.SetVar v x) m at.Publish = first (event.Set (number_of (watch.Var v 0)) x)
    (wakes_one (watch.Var v 0) ends) (woken_end (calls.SetVar v x))
can_end me (calls.SetVar v x) m at.Active = woken_end (calls.SetVar v x)
can_end me (calls.SetVar v x) m (at.Walk p) = walk_end (calls.SetVar v x) p
can_end me (calls.Add c kind form) m (at.Add adding.Lock) =
    let (w, a, h) = plain_end c in (
      event.Lock (head_of (watch.Plain c)) ∷ event.Queue (head_of (watch.Plain c)) form ∷ w,
      a,
      (refl, (false, (refl, h))),
    )
can_end me (calls.Add c kind form) m (at.Add adding.Queue) =
    let (w, a, h) = plain_end c in (event.Queue (head_of (watch.Plain c)) form ∷ w, a, (false, (refl, h)))
can_end me (calls.Add c kind form) m (at.Add adding.Unlock) = plain_end c
can_end me calls.Remove m (at.Remove removing.Lock) =
    let (w, a, h) = plain_end 0 in
    (event.Lock (head_of (watch.Plain 0)) ∷ event.Unqueue me ∷ w, a, (0, (refl, (refl, h))))
can_end me calls.Remove m (at.Remove (removing.Queue c)) = first (event.Unqueue me)
    (unlocks (watch.Plain c) (λ _. ends (number 0))) (plain_end c)
can_end me calls.Remove m (at.Remove (removing.Unlock c)) = plain_end c
can_end me (calls.Woken st) m (at.Woken hearing.State) =
    let (w, a, h) = heard_end in (event.State (state_mask st) ∷ event.Flag true ∷ w, a, (refl, (true, (refl, h))))
can_end me (calls.Woken st) m (at.Woken hearing.Flag) = let (w, a, h) = heard_end in
    (event.Flag true ∷ w, a, (true, (refl, h)))
can_end me (calls.Woken st) m (at.Woken hearing.Sleep) = found event.Sleep (λ _. heard) sleep.Stay heard_end
can_end me (calls.Woken st) m (at.Woken hearing.Run) = heard_end
can_end me (calls.Woken st) m (at.Woken hearing.Clear) = first event.Unflag (ends (number 0)) (over (number 0))
can_end me (calls.Signal u fatal) m at.Raise = (
  event.Signal u fatal ∷ event.Wake u false ∷ [],
  number 0,
  (refl, (false, (refl, refl))),
)
can_end me (calls.Signal u fatal) m at.RaiseWake = found (event.Wake u) (λ _. ends (number 0)) false (over (number 0))
can_end me calls.Accept m at.Accept = found event.Accept (λ what. ends (number (taken_number what)))
    taken.Nothing (over (number 0))
can_end me (calls.Kick u) m at.Kick = found (event.Wake u) (λ hit. ends (yes_or_no hit)) false (over (number 0))
can_end me (calls.TryBit w b) m (at.Bit biting.Try) = tried w b (λ clear. ends (yes_or_no clear)) (over (number 1))
can_end me call m p = short_end me call p

-- At each point of a wait for a page some events are left that come to the end of its sentence.
use Rattle.std.specs.Prelude.{ℕ, true, false, if◌then◌else◌, ◌∷◌}
use Rattle.wait_model.specs.declared.calls.Event.TheVariants as event
use Rattle.wait_model.specs.declared.calls.Answer.TheVariants as answer
use Rattle.wait_model.specs.declared.tasks.Sleep.TheVariants as sleep
use Rattle.wait_model.specs.{declared.tasks.SleepState.SleepState, declared.points.Point.Point}
use Rattle.wait_model.specs.{declared.points.FinishPoint.FinishPoint, declared.points.PagePoint.PagePoint}
use Rattle.wait_model.specs.{Tasks.state_mask, Watches.head_of, Phrases.finds, Phrases.ends, SentenceBits.awaits_page}
use Rattle.wait_model.specs.Findings.{Noted}
use Rattle.wait_model.specs.SentenceSteps.{number, minus_4, unlocks, locks}
use Rattle.wait_model.specs.declared.points.Point.TheVariants as at
use Rattle.wait_model.specs.declared.points.FinishPoint.TheVariants as finishing
use Rattle.wait_model.specs.declared.points.PagePoint.TheVariants as paging
use Rattle.wait_model.proofs.{SentenceLaws.SentenceWaits.finish_rest, SentenceLaws.StepEnds.some}
use Rattle.wait_model.proofs.{SentenceLaws.StepEnds.tried, SentenceLaws.WaitEnds.finish_end}
use Rattle.wait_model.proofs.SentenceLaws.SentenceRests.{CanEnd, over, unsaid, first, found}
use Rattle.wait_model.proofs.SentenceLaws.SentencePages as tries
use Rattle.std.proofs.Common.{refl}
use Rattle.wait_model.specs.declared.queues.Form.TheVariants as forms

module _ (me p : ℕ) (st : SleepState) where
  last_end : CanEnd (tries.last me p st)
  last_end = found event.Flag (tries.told me p st) false (over minus_4)

  left_end : (q : FinishPoint) → CanEnd (finish_rest me (tries.locker me p st) true q (tries.last me p st))
  left_end q = finish_end me (tries.locker me p st) true (tries.last me p st) last_end q

  flag_end : CanEnd (finds event.Flag (tries.flagged me p st 0))
  flag_end = found event.Flag (tries.flagged me p st 0) true (left_end finishing.State)

  stored_end : CanEnd (tries.stored me p st 1)
  stored_end = first (event.State (state_mask st)) (finds event.Flag (tries.flagged me p st 0)) flag_end

  slept_end : CanEnd (tries.signalled me p st 1 false)
  slept_end = found event.Sleep (λ _. tries.stored me p st 1) sleep.Stay stored_end

  awaits_end : CanEnd (awaits_page me (tries.on me p st) st ends)
  awaits_end = some (tries.stored me p st) 1 stored_end

  freed : CanEnd (unlocks (tries.on me p st) (λ _. ends (number 0)))
  freed = first (event.Unlock (head_of (tries.on me p st)) false) (ends (number 0)) (over (number 0))

  got : CanEnd (tries.point_rest me p st paging.Off)
  got = first (event.Unqueue me) (unlocks (tries.on me p st) (λ _. ends (number 0))) freed

  puts_end : CanEnd (tries.puts me p st)
  puts_end =
      let (w, a, h) = tried p 0 (tries.tried_by me p st) got in
      (event.Queue (head_of (tries.on me p st)) forms.Tail ∷ w, a, (false, (refl, h)))

  locks_end : CanEnd (locks (tries.on me p st) (λ _. tries.puts me p st))
  locks_end = first (event.Lock (head_of (tries.on me p st))) (tries.puts me p st) puts_end

  point_end : (q : PagePoint) → CanEnd (tries.point_rest me p st q)
  point_end paging.First = tried p 0 (tries.begun me p st) (over (number 0))
  point_end paging.Unflag = first event.Unflag (locks (tries.on me p st) (λ _. tries.puts me p st)) locks_end
  point_end paging.Lock = locks_end
  point_end paging.Queue = puts_end
  point_end paging.Try = tried p 0 (tries.tried_by me p st) got
  point_end paging.Off = got
  point_end (paging.Unlock true) = freed
  point_end (paging.Unlock false) = first (event.Unlock (head_of (tries.on me p st)) false)
      (awaits_page me (tries.on me p st) st ends) awaits_end
  point_end paging.State = some (tries.stored me p st) 1 stored_end
  point_end paging.Flag = some (λ n. finds event.Flag (tries.flagged me p st n)) 0 flag_end
  point_end paging.Look = some (λ n. finds event.Look (tries.signalled me p st n)) 0
      (found event.Look (tries.signalled me p st 0) true (left_end finishing.State))
  point_end paging.Sleep = some (λ n. tries.signalled me p st n false) 1 slept_end
  point_end (paging.Finish q) = left_end q
  point_end paging.Last = last_end
  point_end paging.Clear = first event.Unflag (ends (number 0)) (over (number 0))

  pub page_rest_end : (m : Noted) (q : Point) → CanEnd (tries.page_rest me p st m q)
  page_rest_end m (at.Page q) = point_end q
  page_rest_end m at.Worn = tried p 0 (λ clear. ends (if clear then number 0 else answer.Worn)) (over (number 0))
  page_rest_end m q = unsaid

-- To be believed.
-- Waits for a plain condition or a variable, and for a WOKEN flag.
use Rattle.std.specs.Prelude.{ℕ, Bool, true, false, if◌then◌else◌}
use Rattle.wait_model.specs.Phrases.{Phrase, ◌>>=◌, ◌>>◌, gives, makes, finds, when◌then◌otherwise◌, Turn, leaves}
use Rattle.wait_model.specs.{Phrases.repeat, Phrases.repeats, Tasks.state_mask, declared.calls.Answer.Answer}
use Rattle.wait_model.specs.{declared.queues.Form.Form, declared.tasks.SleepState.SleepState}
use Rattle.wait_model.specs.declared.watches.Watch.{Watch}
use Rattle.wait_model.specs.SentenceSteps.{Prepared, is_ready, is_signalled, is_worn, nothing, number, minus_512}
use Rattle.wait_model.specs.SentenceSteps.{is_met, sleeps, prepares_event, finishes}
use Rattle.wait_model.specs.declared.calls.Answer.TheVariants as answer
use Rattle.wait_model.specs.declared.calls.Event.TheVariants as event

-- whether the own entry may stand after a hold of this outcome
abbrev pub may_stand : Prepared → Bool → Bool
may_stand is_ready queued = true
may_stand is_signalled queued = queued
may_stand is_worn queued = queued

-- where the condition is not set after it
abbrev pub goes_on : Prepared → Phrase (Turn Bool Answer)
goes_on is_ready = do sleeps; gives (repeats true)
goes_on is_signalled = gives (leaves minus_512)
goes_on is_worn = gives (leaves answer.Worn)

-- A turn leads to one more, or leaves with the answer. Whatever stopped it, it loads once more after its hold.
abbrev pub turn : ℕ → Watch → SleepState → Form → Bool → Phrase (Turn Bool Answer)
turn me c st form queued = do
  how ← prepares_event me c st form queued
  now_met ← is_met c
  when now_met then (do finishes me c (may_stand how queued); gives (leaves (number 0))) otherwise goes_on how

-- `___wait_event`
abbrev pub waits : ℕ → Watch → SleepState → Form → Phrase Answer
waits me c st form = do
  met ← is_met c
  when met then gives (number 0) otherwise repeat (turn me c st form) false

-- `wait_woken`: the state is stored before the flag is read
abbrev pub waits_woken : SleepState → Phrase Answer
waits_woken st = do
  makes (event.State (state_mask st))
  flagged ← finds event.Flag
  when flagged then nothing otherwise sleeps
  makes (event.State 0)
  makes event.Unflag
  gives (number 0)

-- To be believed.
-- Waits for a bit.
use Rattle.std.specs.Prelude.{ℕ, Bool, true, false, not, ◌&&◌, if◌then◌else◌}
use Rattle.wait_model.specs.Phrases.{Phrase, ◌>>=◌, ◌>>◌, gives, makes, finds, when◌then◌otherwise◌, Turn, leaves}
use Rattle.wait_model.specs.{Phrases.repeat, Phrases.repeats, Tasks.state_mask, Watches.page, Words.flag}
use Rattle.wait_model.specs.{declared.calls.Answer.Answer, declared.tasks.SleepState.SleepState}
use Rattle.wait_model.specs.declared.watches.Watch.{Watch}
use Rattle.wait_model.specs.SentenceSteps.{nothing, number, minus_4, locks, unlocks, is_met, looks, sleeps, puts_in}
use Rattle.wait_model.specs.SentenceSteps.{prepares, finishes, acts}
use Rattle.wait_model.specs.declared.calls.Answer.TheVariants as answer
use Rattle.wait_model.specs.declared.watches.Watch.TheVariants as watch
use Rattle.wait_model.specs.declared.queues.Form.TheVariants as forms
use Rattle.wait_model.specs.declared.calls.Event.TheVariants as event

-- the exchange that sets a bit: was it clear? (`test_and_set_bit`)
abbrev pub tries : ℕ → ℕ → Phrase Bool
tries w b = do
  was_set ← finds (λ (found : Bool). event.Tas w b (flag found))
  gives (not was_set)

-- what a wait does that was not queued: it asks once more
abbrev pub ends_worn : ℕ → Watch → Bool → Phrase (Turn Bool Answer)
ends_worn me c queued = do
  met ← is_met c
  when met then (do finishes me c queued; gives (leaves (number 0))) otherwise gives (leaves answer.Worn)

-- A turn leads to one more, or leaves with the answer. It loads before and after its action.
abbrev pub bit_turn : ℕ → Watch → SleepState → Bool → Phrase (Turn Bool Answer)
bit_turn me c st queued = do
  entered ← prepares c st forms.Front queued
  when not entered then ends_worn me c queued otherwise do
    met ← is_met c
    failed ← when met then gives false otherwise acts st
    met ← is_met c
    when not met && not failed then gives (repeats true) otherwise do
      finishes me c true
      gives (leaves (if failed then minus_4 else number 0))

-- `wait_on_bit`, `__wait_on_bit`
abbrev pub waits_bit : ℕ → Watch → SleepState → Phrase Answer
waits_bit me c st = do
  met ← is_met c
  when met then gives (number 0) otherwise repeat (bit_turn me c st) false

-- it tries the bit in every turn, also in one whose action failed, which finishes before
abbrev pub lock_turn : ℕ → ℕ → ℕ → SleepState → Bool → Phrase (Turn Bool Answer)
lock_turn me w b st queued = do
  entered ← prepares (watch.Bit w b) st forms.Tail queued
  when not entered
      then (do clear ← tries w b; gives (leaves (if clear then number 0 else answer.Worn)))
      otherwise do
        met ← is_met (watch.Bit w b)
        failed ← when met then gives false otherwise acts st
        when failed then finishes me (watch.Bit w b) true otherwise nothing
        clear ← tries w b
        when failed then gives (leaves (if clear then number 0 else minus_4))
            otherwise when clear then (do finishes me (watch.Bit w b) true; gives (leaves (number 0)))
            otherwise gives (repeats true)

-- A turn of a wait for a page. It leaves where the flag is set or a signal is found.
abbrev pub page_turn : SleepState → Unit {0} → Phrase (Turn (Unit {0}) (Unit {0}))
page_turn st _ = do
  makes (event.State (state_mask st))
  flagged ← finds event.Flag
  when flagged then gives (leaves tt) otherwise do
    signal ← looks st
    when signal then gives (leaves tt) otherwise do
      sleeps
      gives (repeats tt)

-- once its entry is queued and the page was found set again: the flag tells whether the page was taken for the task
abbrev pub awaits_page : ℕ → Watch → SleepState → Phrase Answer
awaits_page me c st = do
  repeat (page_turn st) tt
  finishes me c true
  flagged ← finds event.Flag
  when flagged then (do makes event.Unflag; gives (number 0)) otherwise gives minus_4

-- `lock_page`: the page is tried, and again after the store of the entry
abbrev pub locks_page : ℕ → ℕ → SleepState → Phrase Answer
locks_page me p st = do
  clear ← tries p 0
  when clear then gives (number 0) otherwise do
    makes event.Unflag
    locks (page p)
    entered ← puts_in (page p) forms.Tail
    when not entered
        then (do unlocks (page p); clear ← tries p 0; gives (if clear then number 0 else answer.Worn))
        otherwise do
          clear ← tries p 0
          when clear
              then (do makes (event.Unqueue me); unlocks (page p); gives (number 0))
              otherwise (do unlocks (page p); awaits_page me (page p) st)

-- `wait_on_bit_lock`, `__wait_on_bit_lock`
abbrev pub locks_bit : ℕ → ℕ → ℕ → SleepState → Phrase Answer
locks_bit me w b st = do
  clear ← tries w b
  when clear then gives (number 0) otherwise repeat (lock_turn me w b st) false

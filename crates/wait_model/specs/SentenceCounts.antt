-- To be believed.
-- Completions: calls that raise a done count, and calls that lower it.
use Rattle.std.specs.Prelude.{ℕ, ◌+◌, ◌-◌, ◌≤◌, Bool, true, false, not, ◌==◌, if◌then◌else◌}
use Rattle.wait_model.specs.{declared.layout.TheConstants.ALL_DONE, Phrases.repeat, Phrases.repeats}
use Rattle.wait_model.specs.{SentenceWalks.selects, SentenceWalks.selects_all, Watches.head_of}
use Rattle.wait_model.specs.{declared.calls.Answer.Answer, declared.tasks.SleepState.SleepState}
use Rattle.wait_model.specs.declared.watches.Watch.{Watch}
use Rattle.wait_model.specs.SentenceSteps.{nothing, number, minus_512, locks, unlocks, loads, stores, looks, sleeps}
use Rattle.wait_model.specs.SentenceSteps.{takes_off, enters}
use Rattle.wait_model.specs.Phrases.{Phrase, ◌>>=◌, ◌>>◌, gives, makes, given, when◌then◌otherwise◌, Turn, leaves}
use Rattle.wait_model.specs.declared.calls.Answer.TheVariants as answer
use Rattle.wait_model.specs.declared.queues.Form.TheVariants as forms
use Rattle.wait_model.specs.declared.calls.Event.TheVariants as event

-- a load of a done count, which has 32 bits
abbrev pub counts : Watch → Phrase ℕ
counts c = do
  count ← loads c
  given (count ≤ ALL_DONE)
  gives count

-- a hold ends with the count that was loaded in it less one; `ALL_DONE` stays
abbrev pub lowers : Watch → ℕ → Phrase (Unit {0})
lowers c count = when count == ALL_DONE
    then unlocks c
    otherwise (do stores c (count - 1); unlocks c)

-- The loop is left by a signal, where the own entry may stand or not yet, by a count that is not 0, or where nothing
-- could be queued.
pub data Left : Type 0 where
  by_signal : Bool → Left
  by_count : ℕ → Left
  by_wear : Left

-- A turn is from the load of its hold to that of the next one.
abbrev pub await_turn : Watch → SleepState → Bool → Phrase (Turn Bool Left)
await_turn c st queued = do
  signal ← looks st
  when signal
      then gives (leaves (by_signal queued))
      otherwise do
        entered ← enters c st forms.Tail queued
        when not entered then gives (leaves by_wear) otherwise do
          sleeps
          locks c
          count ← counts c
          gives (if count == 0 then repeats true else leaves (by_count count))

-- the end of a wait that was in the loop
abbrev pub await_end : ℕ → Watch → Left → Phrase Answer
await_end me c (by_signal queued) = do
  makes (event.State 0)
  takes_off me queued
  unlocks c
  gives minus_512
await_end me c (by_count count) = do
  makes (event.State 0)
  takes_off me true
  lowers c count
  gives (number 0)
await_end me c by_wear = gives answer.Worn

-- `wait_for_completion`, `do_wait_for_common`
abbrev pub awaits : ℕ → Watch → SleepState → Phrase Answer
awaits me c st = do
  locks c
  count ← counts c
  when not (count == 0)
      then (do lowers c count; gives (number 0))
      otherwise do
        left ← repeat (await_turn c st) false
        await_end me c left

-- `try_wait_for_completion`: the first load is outside of the hold
abbrev pub tries_await : Watch → Phrase Answer
tries_await c = do
  first ← counts c
  when first == 0 then gives (number 0) otherwise do
    locks c
    count ← counts c
    when count == 0
        then (do unlocks c; gives (number 0))
        otherwise (do lowers c count; gives (number 1))

-- `completion_done`: the hold waits out a `complete`
abbrev pub is_completed : Watch → Phrase Answer
is_completed c = do
  first ← counts c
  when first == 0 then gives (number 0) otherwise do
    locks c
    unlocks c
    gives (number 1)

-- `complete`: one more, unless it is `ALL_DONE`, and one waiter is selected
abbrev pub completes : Watch → Phrase Answer
completes c = do
  locks c
  count ← counts c
  when count == ALL_DONE then nothing otherwise stores c (count + 1)
  some ← selects
  makes (event.Unlock (head_of c) some)
  gives (number 0)

-- `complete_all`
abbrev pub completes_all : Watch → Phrase Answer
completes_all c = do
  locks c
  stores c ALL_DONE
  n ← selects_all
  unlocks c
  gives (number 0)

-- `reinit_completion`
abbrev pub resets : Watch → Phrase Answer
resets c = do
  locks c
  stores c 0
  unlocks c
  gives (number 0)

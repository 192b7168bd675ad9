-- To be believed.
-- Steps and stretches of events that the sentences of calls share.
use Rattle.std.specs.Prelude.{ℕ, Bool, true, false, not, if◌then◌else◌, pos}
use Rattle.wait_model.specs.{declared.layout.TheConstants.RESTART, declared.layout.TheConstants.INTERRUPTED}
use Rattle.wait_model.specs.{Tasks.state_mask, Tasks.looks_in, declared.calls.Answer.Answer, declared.queues.Form.Form}
use Rattle.wait_model.specs.{declared.tasks.SleepState.SleepState, declared.watches.Watch.Watch}
use Rattle.wait_model.specs.Watches.{misses, head_of, number_of}
use Rattle.wait_model.specs.Phrases.{any, Phrase, ◌>>=◌, ◌>>◌, gives, makes, finds, maybe, when◌then◌otherwise◌}
use Rattle.wait_model.specs.declared.calls.Event.TheVariants as event
use Rattle.wait_model.specs.declared.calls.Answer.TheVariants as answer

abbrev pub nothing : Phrase (Unit {0})
nothing = gives tt

-- numbers as answers: 0, `-ERESTARTSYS`, `-EINTR`, and 1 for yes
abbrev pub number : ℕ → Answer
number n = answer.Number (pos n)

abbrev pub minus_512 : Answer
minus_512 = answer.Number RESTART

abbrev pub minus_4 : Answer
minus_4 = answer.Number INTERRUPTED

abbrev pub yes_or_no : Bool → Answer
yes_or_no b = if b then number 1 else number 0

-- A hold of the watch's head is from `locks` to `unlocks` (`spin_lock_irqsave`, `spin_unlock_irqrestore`).
abbrev pub locks : Watch → Phrase (Unit {0})
locks c = makes (event.Lock (head_of c))

abbrev pub unlocks : Watch → Phrase (Unit {0})
unlocks c = makes (event.Unlock (head_of c) false)

-- the unlock of a wake that used up its count
abbrev pub unlocks_spent : Watch → Phrase (Unit {0})
unlocks_spent c = makes (event.Unlock (head_of c) true)

-- loads and stores of the watch's word
abbrev pub loads : Watch → Phrase ℕ
loads c = finds (event.Load (number_of c))

abbrev pub stores : Watch → ℕ → Phrase (Unit {0})
stores c value = makes (event.Set (number_of c) value)

-- a load: is the watch set?
abbrev pub is_met : Watch → Phrase Bool
is_met c = do
  value ← loads c
  gives (not (misses c value))

-- where the state admits signals, a look: is one pending? (`signal_pending_state`)
abbrev pub looks : SleepState → Phrase Bool
looks st = when looks_in st then finds event.Look otherwise gives false

-- `schedule`
abbrev pub sleeps : Phrase (Unit {0})
sleeps = do
  how ← finds event.Sleep
  nothing

-- An add at the head. Where no place is left there nothing is queued; a core's heads always have one.
abbrev pub puts_in : Watch → Form → Phrase Bool
puts_in c form = do
  worn ← any Bool
  when worn then gives false otherwise (do makes (event.Queue (head_of c) form); gives true)

-- The own entry: does it stand after this? It is off until the call has queued it. Then it stands until the own task or
-- another takes it off, and a task that finds it off makes no event of its own.
abbrev pub queues : Watch → Form → Bool → Phrase Bool
queues c form queued = when queued
    then (do stays ← any Bool; when stays then gives true otherwise puts_in c form)
    otherwise puts_in c form

abbrev pub takes_off : ℕ → Bool → Phrase (Unit {0})
takes_off me queued = when queued then maybe (makes (event.Unqueue me)) otherwise nothing

-- `prepare_to_wait`: the entry is queued before the state is stored, in one hold. Does the entry stand?
abbrev pub enters : Watch → SleepState → Form → Bool → Phrase Bool
enters c st form queued = do
  entered ← queues c form queued
  when entered
      then (do makes (event.State (state_mask st)); unlocks c; gives true)
      otherwise (do unlocks c; gives false)

abbrev pub prepares : Watch → SleepState → Form → Bool → Phrase Bool
prepares c st form queued = do
  locks c
  enters c st form queued

-- `prepare_to_wait_event`: a signalled wait takes its entry off and leaves the state as it is
pub data Prepared : Type 0 where
  is_ready : Prepared
  is_signalled : Prepared
  is_worn : Prepared

abbrev pub prepares_event : ℕ → Watch → SleepState → Form → Bool → Phrase Prepared
prepares_event me c st form queued = do
  locks c
  signal ← looks st
  when signal
      then (do takes_off me queued; unlocks c; gives is_signalled)
      otherwise (do entered ← enters c st form queued; gives (if entered then is_ready else is_worn))

-- a look without the lock: does the own entry stand? (`list_empty_careful`)
abbrev pub stands : Bool → Phrase Bool
stands queued = when queued then finds event.Queued otherwise (do makes (event.Queued false); gives false)

-- `finish_wait`: the lock is taken only where the entry still stands
abbrev pub finishes : ℕ → Watch → Bool → Phrase (Unit {0})
finishes me c queued = do
  makes (event.State 0)
  found ← stands queued
  when found
      then (do locks c; takes_off me true; unlocks c)
      otherwise nothing

-- `bit_wait`: did it fail?
abbrev pub acts : SleepState → Phrase Bool
acts st = do
  sleeps
  looks st

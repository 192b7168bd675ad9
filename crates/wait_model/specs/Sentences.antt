-- To be believed.
-- Sentences: for each call, the lists of events that its task makes from the opening to the end, each with its answer,
-- and the function of the kernel that it follows. The phrases are in Phrases.antt, the stretches that calls share in
-- SentenceSteps.antt and beside it.
use Rattle.std.specs.Prelude.{ℕ, Bool, true, false, if◌then◌else◌, List, ◌++◌}
use Rattle.wait_model.specs.Phrases.{Phrase, ◌>>=◌, ◌>>◌, gives, makes, finds, any, ends}
use Rattle.wait_model.specs.{SentenceWaits.waits, SentenceWaits.waits_woken, Watches.head_of}
use Rattle.wait_model.specs.{declared.calls.Answer.Answer, declared.calls.Call.Call, declared.calls.Event.Event}
use Rattle.wait_model.specs.{declared.queues.Form.Form, declared.tasks.Taken.Taken, declared.watches.Watch.Watch}
use Rattle.wait_model.specs.SentenceBits.{tries, waits_bit, locks_bit, locks_page}
use Rattle.wait_model.specs.SentenceCounts.{awaits, tries_await, is_completed, completes, completes_all, resets}
use Rattle.wait_model.specs.SentenceSteps.{number, yes_or_no, locks, unlocks, loads, stores, puts_in}
use Rattle.wait_model.specs.SentenceWalks.{selects, selects_all, wakes, walks, wakes_one}
use Rattle.wait_model.specs.declared.tasks.Taken.TheVariants as taken
use Rattle.wait_model.specs.declared.watches.Watch.TheVariants as watch
use Rattle.wait_model.specs.declared.queues.Form.TheVariants as forms
use Rattle.wait_model.specs.declared.calls.Call.TheVariants as calls
use Rattle.wait_model.specs.declared.calls.Event.TheVariants as event
use Rattle.wait_model.specs.declared.calls.Answer.TheVariants as answer

-- `swake_up_one`: did it select one?
abbrev pub swakes_one : Watch → Phrase Answer
swakes_one c = do
  locks c
  some ← selects
  makes (event.Unlock (head_of c) some)
  gives (yes_or_no some)

-- `swake_up_all`: how many?
abbrev pub swakes_all : Watch → Phrase Answer
swakes_all c = do
  locks c
  n ← selects_all
  unlocks c
  gives (number n)

-- `add_wait_queue`, `add_wait_queue_exclusive`, `add_wait_queue_priority`: the entry stays after the call
abbrev pub adds : Watch → Form → Phrase Answer
adds c form = do
  locks c
  entered ← puts_in c form
  unlocks c
  gives (if entered then number 0 else answer.Worn)

-- `remove_wait_queue`, at the head at which the own entry stands
abbrev pub removes : ℕ → Phrase Answer
removes me = do
  c ← any ℕ
  locks (watch.Plain c)
  makes (event.Unqueue me)
  unlocks (watch.Plain c)
  gives (number 0)

-- `send_sig`, `signal_wake_up`
abbrev pub signals : ℕ → Bool → Phrase Answer
signals who fatal = do
  makes (event.Signal who fatal)
  hit ← wakes who
  gives (number 0)

-- which signal was pending
abbrev pub taken_number : Taken → ℕ
taken_number taken.Nothing = 0
taken_number taken.Plain = 1
taken_number taken.Fatal = 2

-- the calls
abbrev pub sentence : ℕ → Call → Phrase Answer
-- `wait_event`, `wait_event_interruptible`, `wait_event_killable` and their exclusive forms
sentence me (calls.Wait c how) = waits me (watch.Plain c) how.state (if how.exclusive then forms.Tail else forms.Front)
-- a store, an exchange with 0 and a load of a plain condition
sentence me (calls.Set c v) = do stores (watch.Plain c) v; gives (number 0)
sentence me (calls.Take c) = do old ← finds (event.Take c); gives (answer.Value old)
sentence me (calls.Read c) = do value ← loads (watch.Plain c); gives (answer.Value value)
-- `__wake_up`
sentence me (calls.Wake c mode n) = walks (watch.Plain c) n
-- `add_wait_queue`, `remove_wait_queue`, `wait_woken`
sentence me (calls.Add c kind form) = adds (watch.Plain c) form
sentence me calls.Remove = removes me
sentence me (calls.Woken st) = waits_woken st
-- `send_sig`; `flush_signals`; `wake_up_process`
sentence me (calls.Signal u fatal) = signals u fatal
sentence me calls.Accept = do what ← finds event.Accept; gives (number (taken_number what))
sentence me (calls.Kick u) = do hit ← wakes u; gives (yes_or_no hit)
-- `swait_event_exclusive`, `swake_up_one`, `swake_up_all`
sentence me (calls.SimpleWait c st) = waits me (watch.Plain c) st forms.Tail
sentence me (calls.SimpleWake c false) = swakes_one (watch.Plain c)
sentence me (calls.SimpleWake c true) = swakes_all (watch.Plain c)
-- `complete`, `complete_all`, `reinit_completion`
sentence me (calls.Complete d) = completes (watch.Done d)
sentence me (calls.CompleteAll d) = completes_all (watch.Done d)
sentence me (calls.Reinit d) = resets (watch.Done d)
-- `wait_for_completion` and its interruptible and killable forms, `try_wait_for_completion`, `completion_done`
sentence me (calls.WaitFor d st) = awaits me (watch.Done d) st
sentence me (calls.TryWait d) = tries_await (watch.Done d)
sentence me (calls.IsDone d) = is_completed (watch.Done d)
-- `test_and_set_bit`, `wait_on_bit`, `wait_on_bit_lock`, `lock_page`, `clear_and_wake_up_bit`
sentence me (calls.TryBit w b) = do clear ← tries w b; gives (yes_or_no clear)
sentence me (calls.WaitBit w b st) = waits_bit me (watch.Bit w b) st
sentence me (calls.LockBit w b st) = locks_bit me w b st
sentence me (calls.LockPage p st) = locks_page me p st
sentence me (calls.ClearBit w b) = do makes (event.Clear w b); wakes_one (watch.Bit w b)
-- `wait_var_event`; a store of the variable and `wake_up_var`
sentence me (calls.WaitVar v old st) = waits me (watch.Var v old) st forms.Front
sentence me (calls.SetVar v x) = do stores (watch.Var v 0) x; wakes_one (watch.Var v 0)

-- the events follow the call's sentence to its end, and give this answer
abbrev pub Follows : ℕ → Call → List Event → Answer → Type 0
Follows me call = sentence me call ends

-- the events follow the call's sentence as far as they go: with some more events they come to its end
abbrev pub Begins : ℕ → Call → List Event → Type 0
Begins me call said = (w : List Event) × (a : Answer) × Follows me call (said ++ w) a

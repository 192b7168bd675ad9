-- To be believed.
-- Walks of wake-ups and selections of simple queues.
use Rattle.std.specs.Prelude.{ℕ, ◌+◌, ◌-◌, ◌<◌, ◌≤◌, Bool, true, false, ◌&&◌, ◌==◌, if◌then◌else◌, not}
use Rattle.wait_model.specs.{declared.layout.TheConstants.BREAK, Words.flag, Words.bit_at, declared.calls.Answer.Answer}
use Rattle.wait_model.specs.{declared.queues.CalledEntry.CalledEntry, declared.queues.End.End}
use Rattle.wait_model.specs.{declared.watches.Kind.Kind, declared.watches.Watch.Watch}
use Rattle.wait_model.specs.Phrases.{leaves, repeat, repeats}
use Rattle.wait_model.specs.SentenceSteps.{locks, unlocks, unlocks_spent, is_met}
use Rattle.wait_model.specs.Watches.{head_of, word_of, bit_of, is_page, misses}
use Rattle.wait_model.specs.Phrases.{Phrase, ◌>>=◌, ◌>>◌, gives, makes, finds, any, given, when◌then◌otherwise◌, Turn}
use Rattle.wait_model.specs.declared.watches.Watch.TheVariants as watch
use Rattle.wait_model.specs.declared.watches.Kind.TheVariants as kind
use Rattle.wait_model.specs.declared.queues.End.TheVariants as end_as
use Rattle.wait_model.specs.declared.calls.Event.TheVariants as event
use Rattle.wait_model.specs.declared.calls.Answer.TheVariants as answer

-- A selection: was there an entry? Its task is woken and the entry taken off, whatever the wake found
-- (`swake_up_locked`).
abbrev pub selects : Phrase Bool
selects = do
  some ← any Bool
  when some
      then (do
        who ← any ℕ
        hit ← finds (event.Wake who)
        makes (event.Unqueue who)
        gives true)
      otherwise gives false

-- until the queue is empty: how many?
abbrev pub selects_all : Phrase ℕ
selects_all = repeat (λ n. do some ← selects; gives (if some then repeats (n + 1) else leaves n)) 0

-- What a walk has counted so far: entries woken, those of them that were selected, what is left of its count, its
-- holds, and the entries that this hold has called, strangers too.
pub record WalkTally : Type 0 where
  pub woken : ℕ
  pub selected : ℕ
  pub left : ℕ
  pub holds : ℕ
  pub calls : ℕ

abbrev pub tallied : WalkTally → Bool → Bool → WalkTally
tallied t exclusive hit = record {
  woken = if hit then t.woken + 1 else t.woken;
  selected = if hit && exclusive then t.selected + 1 else t.selected;
  left = if hit && exclusive then t.left - 1 else t.left;
  holds = t.holds;
  calls = t.calls + 1;
}

abbrev pub walked : WalkTally → End → Answer
walked t e = answer.Walk (record { selected = t.selected; woken = t.woken; holds = t.holds; end = e })

-- The functions of entries: did it wake? `default_wake_function`, `autoremove_wake_function`, and by kind
-- `woken_wake_function`, `wake_bit_function`, `var_wake_function`.
abbrev pub wakes : ℕ → Phrase Bool
wakes who = finds (event.Wake who)

abbrev pub wakes_off : ℕ → Phrase Bool
wakes_off who = do
  hit ← wakes who
  when hit then (do makes (event.Unqueue who); gives true) otherwise gives false

-- the function of a page's entry: did it take the page for the entry's task? If not, it found the page set.
abbrev pub hands_over : ℕ → Phrase Bool
hands_over who = do
  makes (event.Handed who)
  hit ← wakes who
  makes (event.Unqueue who)
  gives true

abbrev pub takes_page : Watch → ℕ → Phrase Bool
takes_page c who = do
  value ← finds (λ (value : ℕ). event.TasFor (word_of c) who (flag (bit_at value (bit_of c))))
  when misses c value then gives false otherwise hands_over who

abbrev pub hands_page : Watch → ℕ → Phrase Bool
hands_page c who = do
  met ← is_met c
  when met then takes_page c who otherwise gives false

abbrev pub calls_function : Watch → Kind → ℕ → Phrase Bool
calls_function c kind.Default who = wakes who
calls_function c kind.Autoremove who = wakes_off who
calls_function c kind.Woken who = do makes (event.Woken who); wakes who
calls_function c kind.Bit who = do
  met ← is_met c
  when met then wakes_off who otherwise gives false
calls_function c kind.Var who = wakes_off who
calls_function c kind.Simple who = wakes who
calls_function c kind.Page who = hands_page c who

-- What a walk comes to next. Before a further member it breaks in a hold that has called more than `BREAK` entries: it
-- puts its bookmark, gives the lock back, and goes on in a next hold.
abbrev pub at_break : Watch → WalkTally → Phrase (Turn WalkTally Answer)
at_break c t = do
  given (BREAK < t.calls)
  makes (event.Mark (head_of c))
  unlocks c
  locks c
  makes (event.Unmark (head_of c))
  gives (repeats (record t { holds = t.holds + 1; calls = 0 }))

abbrev pub at_end : Watch → WalkTally → Phrase (Turn WalkTally Answer)
at_end c t = do
  unlocks c
  gives (leaves (walked t end_as.End))

-- a page that is found set stops the walk
abbrev pub at_stop : Watch → WalkTally → Phrase (Turn WalkTally Answer)
at_stop c t = do
  unlocks c
  gives (leaves (walked t end_as.Stopped))

-- an exclusive entry that it wakes lowers the count, and a count that comes to 0 ends the walk
abbrev pub at_entry : Watch → WalkTally → CalledEntry → Phrase (Turn WalkTally Answer)
at_entry c t called = do
  given (t.calls ≤ BREAK)
  hit ← calls_function c called.kind called.who
  when is_page called.kind && not hit then at_stop c t otherwise when (hit && called.exclusive) && (t.left == 1)
      then (do unlocks_spent c; gives (leaves (walked (tallied t called.exclusive hit) end_as.Spent)))
      otherwise gives (repeats (tallied t called.exclusive hit))

-- The heads of bits and variables are shared. A walk passes the strangers there without an event, and each counts as
-- one call.
abbrev pub shares_head : Watch → Bool
shares_head (watch.Plain c) = false
shares_head (watch.Done d) = false
shares_head (watch.Bit w b) = true
shares_head (watch.Var v old) = true

abbrev pub passes : Watch → WalkTally → Phrase WalkTally
passes c t = when shares_head c
    then (do
      calls ← any ℕ
      given (t.calls ≤ calls)
      gives (record t { calls = calls }))
    otherwise gives t

pub data Ahead : Type 0 where
  a_break : Ahead
  the_end : Ahead
  an_entry : CalledEntry → Ahead

abbrev pub comes_to : Watch → WalkTally → Ahead → Phrase (Turn WalkTally Answer)
comes_to c t a_break = at_break c t
comes_to c t the_end = at_end c t
comes_to c t (an_entry called) = at_entry c t called

abbrev pub walk_turn : Watch → WalkTally → Phrase (Turn WalkTally Answer)
walk_turn c t = do
  t ← passes c t
  next ← any Ahead
  comes_to c t next

-- `__wake_up_common_lock`
abbrev pub walks : Watch → ℕ → Phrase Answer
walks c count = do
  locks c
  repeat (walk_turn c) (record { woken = 0; selected = 0; left = count; holds = 1; calls = 0 })

-- a walk for one, where a look without the lock finds members (`wake_up_bit`, `wake_up_var`)
abbrev pub wakes_one : Watch → Phrase Answer
wakes_one c = do
  active ← finds (event.Active (head_of c))
  when active then walks c 1
      otherwise gives (answer.Walk (record { selected = 0; woken = 0; holds = 0; end = end_as.End }))

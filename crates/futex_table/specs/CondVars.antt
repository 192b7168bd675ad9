-- To be believed.
-- What the calls on condition variables say. A condition variable is a futex whose word counts the wakes.
use Rattle.std.specs.Prelude.{ℕ, ◌+◌, ◌%◌, ◌^◌, ◌≡◌, Bool, true, false, Result, Ok, Err}
use Rattle.wait_model.specs.{declared.queues.Walked.Walked, declared.tasks.SleepState.SleepState, Watches.same}
use Rattle.wait_model.specs.declared.steps.Step.TheVariants as step
use Rattle.wait_model.specs.declared.watches.Mode.TheVariants as mode
use Rattle.wait_model.specs.declared.watches.Watch.TheVariants as watch
use Rattle.wait_rule.specs.declared.journal.Item.TheVariants as item
use Rattle.wait_rule.specs.{Known.Known, Says.added}
use Rattle.wait_rule.specs.Stays.{Change, only, unchanged}
use Rattle.wq_head.specs.declared.adds.Worn.{Worn}
use Rattle.wait_event.specs.Conds.{HasSet}
use Rattle.futex_table.specs.{declared.cond_vars.CondEnd.CondEnd, declared.futexes.FutexEnd.FutexEnd}
use Rattle.futex_table.specs.FutexEnds.{EndsFutexWait}
use Rattle.futex_table.specs.Mutexes.{HasFreedMutex, LocksMutex, is_locked}
use Rattle.futex_table.specs.declared.cond_vars.CondEnd.TheVariants as cond_end
use Rattle.futex_table.specs.declared.futexes.FutexEnd.TheVariants as futex_end

-- The answer, by those of its wait and of the lock behind that: where the wait was worn it keeps the head and the place
-- of the wait, and tells whether the mutex was taken; else those of the lock where that was worn; else the signal of the
-- wait. Another value of the word counts as a wake.
abbrev pub worn_cond : ℕ → ℕ → Bool → Result (Unit {0}) CondEnd
worn_cond h place held = Err (cond_end.Worn h place held)

abbrev pub cond_answer : Result (Unit {0}) FutexEnd → Result (Unit {0}) Worn → Result (Unit {0}) CondEnd
cond_answer (Err (futex_end.Worn h place)) locked = worn_cond h place (is_locked locked)
cond_answer _ (Err w) = worn_cond w.head w.place false
cond_answer (Err futex_end.Interrupted) (Ok u) = Err cond_end.Interrupted
cond_answer _ (Ok u) = Ok tt

-- whether the mutex is held behind the call: so it is but where the lock found no place
abbrev pub is_mutex_held : Result (Unit {0}) CondEnd → Bool
is_mutex_held (Err (cond_end.Worn h place held)) = held
is_mutex_held _ = true

-- The task loaded the condition's word, and gave the mutex back.
pub record HasLetGo (old : Known) (c m : ℕ) : Type 0 where
  pub seen : ℕ
  pub loaded : Known
  pub loads : loaded ≡ added old (item.Made (step.Load (watch.Plain c) seen))
  pub unlocked : Known
  pub gives : HasFreedMutex loaded unlocked m

-- It did so, waited while the word has the value that it loaded, and locked the mutex.
pub record WaitsForCond (old new : Known) (c m : ℕ) (st : SleepState) (result : Result (Unit {0}) CondEnd) : Type 0
  where
    pub let_go : HasLetGo old c m
    pub waited : Known
    pub end : Result (Unit {0}) FutexEnd
    pub waits : EndsFutexWait let_go.unlocked waited c let_go.seen st end
    pub lock : Result (Unit {0}) Worn
    pub locks : LocksMutex waited new m lock
    pub answers : result ≡ cond_answer end lock

-- The task loaded the word, stored one more, and walked over its queue with NORMAL and this count: 1, or 0 for all. The
-- answer is how many it selected.
pub record SignalsCond (old new : Known) (c count n : ℕ) : Type 0 where
  pub seen : ℕ
  pub loaded : Known
  pub loads : loaded ≡ added old (item.Made (step.Load (watch.Plain c) seen))
  pub walked : Walked
  pub set : HasSet loaded new c ((seen + 1) % 2 ^ 64) mode.Normal count walked
  pub selects : n ≡ walked.selected

-- What a wait changes of a task: that of a wait, and of the wake that gives the mutex back.
abbrev pub cond_change : ℕ → ℕ → ℕ → Change
cond_change m i h = record unchanged {
  but = only i;
  looks = true;
  at = λ _. h;
  publishes = λ d. same d (watch.Plain m);
}

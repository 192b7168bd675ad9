-- To be believed.
-- What the calls on conditions say.
use Rattle.std.specs.Prelude.{ℕ, true}
use Rattle.wait_model.specs.declared.calls.Call.TheVariants as calls
use Rattle.wait_model.specs.declared.calls.Answer.TheVariants as answer
use Rattle.wait_model.specs.declared.points.Next.TheVariants as next
use Rattle.wait_model.specs.declared.points.Point.TheVariants as at
use Rattle.wait_model.specs.{declared.queues.Walked.Walked, declared.watches.Mode.Mode, declared.watches.Watch.Watch}
use Rattle.wait_model.specs.{Programs.zero_answer, Watches.same}
use Rattle.wait_model.specs.declared.watches.Mode.TheVariants as mode
use Rattle.wait_model.specs.declared.watches.Watch.TheVariants as watch
use Rattle.wait_rule.specs.{Known.Known, Says.Excuse, Transitions.call_program}
use Rattle.wait_rule.specs.Stays.{Change, unchanged, with_wakes}
use Rattle.wq_head.specs.Walks.{HasWoken, HasEnded}
use Rattle.wait_class.specs.Posts.{Runs}

-- the task went through the whole call, which answers the value that was there
abbrev pub HasTakenCond : Known → Known → ℕ → ℕ → Type 0
HasTakenCond old new c v = Runs (call_program old.view.number 0 (calls.Take c)) old new (next.Go at.Take)
    (next.Ends (answer.Value v))

-- the task went through the call that sets the condition, and then through the walk of a wake
pub record HasSet (old new : Known) (c value : ℕ) (m : Mode) (count : ℕ) (walked : Walked) : Type 0 where
  pub between : Known
  pub set : Runs (call_program old.view.number 0 (calls.Set c value)) old between (next.Go at.Store)
      (next.Ends zero_answer)
  pub woken : HasWoken between new (record { watch = watch.Plain c; mode = m; count = count }) walked
  pub ended : HasEnded between new (record { watch = watch.Plain c; mode = m; count = count })

-- What it owes of the condition then: nothing where the wake met all who may sleep, and else wakes of those too.
abbrev pub left_owed : Mode → Watch → Excuse → Excuse
left_owed mode.Normal c x = x
left_owed mode.Interruptible c x = with_wakes c mode.Normal x

-- what a set and a wake change of a task
abbrev pub set_change : Watch → Mode → ℕ → Change
set_change c m h = record unchanged {
  to = left_owed m c;
  looks = true;
  at = λ _. h;
  publishes = λ d. same d c;
}

-- To be believed.
-- Wakes of simple queues.
use Rattle.std.specs.Prelude.{ℕ, ◌≡◌, ◌==◌, ◌&&◌, not, Bool, true, false, None, pos}
use Rattle.wait_model.specs.declared.calls.Answer.TheVariants as answer
use Rattle.wait_model.specs.declared.calls.Call.TheVariants as calls
use Rattle.wait_model.specs.declared.points.Point.TheVariants as at
use Rattle.wait_model.specs.declared.points.SelectPoint.TheVariants as selecting
use Rattle.wait_model.specs.declared.points.Next.TheVariants as next
use Rattle.wait_model.specs.declared.watches.Watch.TheVariants as watch
use Rattle.wait_model.specs.Watches.{head_of}
use Rattle.wait_rule.specs.{Known.Known, Queues.walk_of_hold, Transitions.call_program}
use Rattle.wait_rule.specs.Says.{Excuse, unlocked_with, OwesBut}
use Rattle.wait_class.specs.Posts.{Runs}
use Rattle.wq_head.specs.{Holds.HasLocked, Selects.HasSelected}

-- how many entries a wake is to select: one, or all, which is 0
abbrev pub most_of : Bool → ℕ
most_of true = 0
most_of false = 1

-- it was to select one and did
abbrev pub is_swake_spent : Bool → ℕ → Bool
is_swake_spent all n = not (n == 0) && (n == most_of all)

-- The task went through the program of the wake to its answer, in one hold of the condition's head: it selected so many
-- entries, fewer than asked for only where the hold then shows none, and gave the lock back. The spent count of the
-- head rose where it was to select one and did.
pub record EndsSimpleWake (old new : Known) (c : ℕ) (all : Bool) (n : ℕ) : Type 0 where
  pub runs : Runs (call_program old.view.number 0 (calls.SimpleWake c all)) old new
      (next.Go (at.Select selecting.Lock)) (next.Ends (answer.Number (pos n)))
  pub locked : Known
  pub last : Known
  pub locks : HasLocked old locked (head_of (watch.Plain c)) (walk_of_hold (head_of (watch.Plain c)) None)
  pub selected : HasSelected locked last (most_of all) n
  pub unlocks : new ≡ unlocked_with last last.at (is_swake_spent all n)

-- but for what the task was excused of before it owes nothing, as before
abbrev pub OwesAtMost : Known → Known → Type 0
OwesAtMost old new = (x : Excuse) → OwesBut x old → OwesBut x new

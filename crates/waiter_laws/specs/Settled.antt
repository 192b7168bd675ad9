-- To be believed.
-- Whom wakes leave that are made by stretches: once such a wake is over its task leaves nobody asleep for whom it
-- was, and where no count was used up nobody sleeps on.
use Rattle.std.specs.Prelude.{ℕ, ◌≡◌, Bool, true, false, List, ◌∷◌, ◌++◌}
use Rattle.wait_model.specs.{declared.steps.Step.Step, declared.queues.Walked.Walked, declared.watches.Mode.Mode}
use Rattle.wait_model.specs.{declared.watches.Watch.Watch, Histories.publishes, Tables.Table, Tasks.meets}
use Rattle.wait_model.specs.{Watches.mask_of, Watches.same}
use Rattle.wait_model.specs.declared.watches.Mode.TheVariants as mode
use Rattle.wait_model.specs.declared.watches.Watch.TheVariants as watch
use Rattle.wait_rule.specs.{declared.journal.Item.Item, Interleavings.TaskStep, Known.Known, Rule.IsRuled, Says.Excuse}
use Rattle.wait_rule.specs.{Says.OwesBut, Stays.with_wakes}
use Rattle.wait_rule.specs.LosesNone.{HasNoWakeOf, LeavesNoneAsleep, OwesBeside, OwesNoneOf}
use Rattle.wait_rule.specs.Setters.{NobodySleeps, StaysSet, UsesUpNone, step_by}
use Rattle.wq_head.specs.{declared.wakes.WakeRun.WakeRun, Turns.HasTurned}
use Rattle.wq_head.specs.declared.wakes.WakeTurn.TheVariants as wake_turn
use Rattle.swait_queue.specs.{declared.swake_turns.SwakeRun.SwakeRun, SwakeTurns.HasSwakeTurned as SwakeTurned}
use Rattle.swait_queue.specs.declared.swake_turns.SwakeTurn.TheVariants as swake_turn
use Rattle.completion_cell.specs.{declared.cell_turns.CellCall.CellCall, declared.cell_turns.CellRun.CellRun}
use Rattle.completion_cell.specs.CellTurns.{HasCellTurned as CellTurned}
use Rattle.completion_cell.specs.declared.cell_turns.CellCall.TheVariants as cell_call
use Rattle.completion_cell.specs.declared.cell_turns.CellTurn.TheVariants as cell_turn

-- In this order of steps a task published c, and used up no count since; and since then the watch `on` is set, whose
-- waiters a wake of c wakes: c itself or, for a variable, one with any old value.
pub record HasSetSince (xs : List TaskStep) (setter : ℕ) (c on : Watch) : Type 0 where
  pub before : List TaskStep
  pub publish : Step
  pub later : List TaskStep
  pub split : xs ≡ later ++ step_by setter publish ∷ before
  pub is_publish : publishes publish c ≡ true
  pub whole : UsesUpNone setter later
  pub watch : same on c ≡ true
  pub stays : StaysSet later (step_by setter publish ∷ before) on

-- Where the task has done so, by the order that leads to a table that meets the rule, with the task's list, nobody
-- sleeps there on the watch of those in the states that wakes of this mode meet.
abbrev pub WakesAll : Watch → Mode → Known → Type 0
WakesAll c m k = (s : Table) (items : ℕ → List Item) (ruled : IsRuled s items) → items k.view.number ≡ k.view.items
    → (on : Watch) → HasSetSince ruled.whole.interleaved.steps k.view.number c on → (σ : ℕ)
    → meets (mask_of m) σ ≡ true → NobodySleeps s on σ

-- It leaves nobody to others either: who sleeps on the watch while it is set is covered by another task, or wakes used
-- up their count, or some task is trying the bit.
abbrev pub SettlesAll : Watch → Mode → Known → Type 0
SettlesAll c m k = LeavesNoneAsleep c m k × WakesAll c m k

-- So it is of each task that owes none of these wakes.
abbrev pub SettledWakeAll : Type 0
SettledWakeAll = (c : Watch) (m : Mode) (k : Known) → OwesNoneOf c m k → SettlesAll c m k

-- Stretches of a wake that came to its end.
abbrev pub WakesSettle : Type 0
WakesSettle = (start new : Known) (r q : WakeRun) (walked : Walked)
    → HasTurned start new r q (wake_turn.Done walked) → SettlesAll q.aim.watch q.aim.mode new

-- Stretches of a wake of a simple queue, by a task that owed wakes of the condition, as one that has set it does,
-- and at most this beside them.
abbrev pub SwakesSettle : Type 0
SwakesSettle = (start new : Known) (r q : SwakeRun) (n : ℕ) (x : Excuse) → HasNoWakeOf (watch.Plain q.cond) x
    → OwesBut (with_wakes (watch.Plain q.cond) mode.Normal x) start
    → SwakeTurned start new r q (swake_turn.Done n) → SettlesAll (watch.Plain q.cond) mode.Normal new

-- and of a `complete` or a `complete_all`, by a task that owed no wake of the completion
abbrev pub makes_done : CellCall → Bool
makes_done cell_call.Complete = true
makes_done cell_call.CompleteAll = true
makes_done _ = false

abbrev pub CellsSettle : Type 0
CellsSettle = (start new : Known) (r q : CellRun) (hit : Bool) (x : Excuse) → makes_done q.call ≡ true
    → OwesBeside (watch.Done q.cell) x start → CellTurned start new r q (cell_turn.Done hit)
    → SettlesAll (watch.Done q.cell) mode.Normal new

-- To be believed.
-- Permits of completions on a Domain: what a task knows of them by its own history, what it has to know before it
-- queues at a completion's head and before it gives that back, and the law.
use Rattle.std.specs.Prelude.{ℕ, ◌≡◌, ◌<◌, ◌-◌, ◌⊎◌, Some, None, List}
use Rattle.atomic_table.specs.Seated.{TableId}
use Rattle.wait_model.specs.{declared.layout.TheConstants.TASKS, declared.layout.TheConstants.FIRST_DONE_HEAD}
use Rattle.wait_model.specs.{declared.points.Next.Next, declared.points.Point.Point, Permits.MayGiveBack}
use Rattle.wait_model.specs.{Permits.PermitsAreHanded, Runs.own, Tables.Table, Watches.head_of}
use Rattle.wait_rule.specs.{declared.journal.Item.Item, declared.journal.Journal.Journal, HeldValues.count_in}
use Rattle.wait_rule.specs.{Known.Known, Rule.IsRuled, TableLaws.HasAll, TableLaws.histories_in}
use Rattle.wait_rule.specs.Interleavings.{AreAllowed, AreHanded, TaskStep, table_of}
use Rattle.wait_rule.specs.LeftEntries.{HasLeftNone, LeftOff, OrderOf, dealt_of}
use Rattle.wait_rule.specs.Says.{IsShown, history_of, newcomer, told_of}
use Rattle.wait_rule.specs.Transitions.{Goes, Program, Transition}

-- the completion of the head that it took last, where that is one's
abbrev pub cell_of_head : Known → ℕ
cell_of_head k = k.at - FIRST_DONE_HEAD

-- The head that the task holds may be given back: it is none of a completion. Or the hold has looked at the own entry,
-- if the task's last hold of it left that there, and it has no permit to hand on or to take, or has seen nobody queued.
abbrev pub OwesNoPermit : Known → Type 0
OwesNoPermit k = (k.at < FIRST_DONE_HEAD)
    ⊎ (OrderOf k → MayGiveBack (cell_of_head k) (own k.view.number) (told_of k) (dealt_of (cell_of_head k) k))

-- An own entry may be queued at the head that the task holds: it is none of a completion. Or the entry is that of slot
-- 0, and the hold has loaded or stored the count last as 0.
abbrev pub FoundNoPermit : Known → ℕ → Type 0
FoundNoPermit k slot = (k.at < FIRST_DONE_HEAD)
    ⊎ ((slot ≡ 0) × (count_in (cell_of_head k) (history_of k) ≡ Some 0))

-- Permits are handed on in each table that meets the rule, after each order of steps that are allowed and hand them on,
-- and in the table that a task sees that has joined all others, which has just the histories that it has.
abbrev pub RuleHandsPermitsOn : Type 0
RuleHandsPermitsOn = (s : Table) (items : ℕ → List Item) → IsRuled s items → PermitsAreHanded s

abbrev pub StepsHandPermitsOn : Type 0
StepsHandPermitsOn = (xs : List TaskStep) → AreAllowed xs → AreHanded xs → PermitsAreHanded (table_of xs)

abbrev pub AllHandPermitsOn : Type 0
AllHandPermitsOn = (v : Journal) (law : IsShown v) → HasAll v
    → ((t : ℕ) → t < TASKS → law.table.history t ≡ histories_in v t) × PermitsAreHanded law.table

-- It leaves no own entry at any completion where none was left.
abbrev pub StaysOff : Known → Known → Type 0
StaysOff old new = (d : ℕ) → LeftOff d old → LeftOff d new

abbrev pub NewcomersLeaveNone : Type 0
NewcomersLeaveNone = (domain : TableId) (number next spare : ℕ) → HasLeftNone (newcomer domain number next spare)

-- A call about no completion, and a walk, which queues nothing, leave it so: what has gone through such a program, from
-- outside of holds on.
abbrev pub QueuesElsewhere : Program → Type 0
QueuesElsewhere f = (f.own ≡ None) ⊎ ((p : Point) → head_of (f.given p).watch < FIRST_DONE_HEAD)

abbrev pub OthersStayOff : Type 0
OthersStayOff = (f : Program) (old new : Known) (from to : Next) (made : List Transition) → QueuesElsewhere f
    → (told_of old).hold.head ≡ None → Goes f old from made new to → StaysOff old new

-- To be believed.
-- The three programs of semaphores change the count by such steps alone as the law on permits asks for.
use Rattle.std.specs.Prelude.{ℕ, ◌≡◌, Bool, true, false}
use Rattle.wait_model.specs.declared.points.AwaitPoint.TheVariants as awaiting
use Rattle.wait_model.specs.declared.points.CountPoint.TheVariants as counting
use Rattle.wait_model.specs.declared.points.FinishPoint.TheVariants as finishing
use Rattle.wait_model.specs.{declared.points.Next.Next, declared.points.Point.Point}
use Rattle.wait_model.specs.{declared.tasks.SleepState.SleepState, Watches.same}
use Rattle.wait_model.specs.declared.points.Next.TheVariants as next
use Rattle.wait_model.specs.declared.points.Point.TheVariants as at
use Rattle.wait_model.specs.declared.points.SelectPoint.TheVariants as selecting
use Rattle.wait_model.specs.declared.watches.Watch.TheVariants as watch
use Rattle.wait_rule.specs.{Known.Known, LeftEntries.OrderOf, Says.history_of, Transitions.Program}
use Rattle.wait_class.specs.{Posts.Runs, Tables.plan_program}
use Rattle.count_sem.specs.SemPermits.{UsesAsSemaphore}
use Rattle.count_sem.specs.SemPrograms.{down_plan, down_program, try_down_plan, up_plan}

-- A task that has changed the count of cell d by such steps alone has done so still, and of each cell.
abbrev pub KeepsUse : Known → Known → Type 0
KeepsUse old new = (d : ℕ) → OrderOf new → UsesAsSemaphore d (history_of old) → UsesAsSemaphore d (history_of new)

-- So it is of a task that has gone through a program from its beginning up to any point, or to its end: an `up`, a
-- `try_down`, and a `down`, by its whole program; and by its part up to where it hands on, from any point at which a
-- hold of its begins, or at which it goes out.
abbrev pub UpsKeepUse : Type 0
UpsKeepUse = (old new : Known) (c : ℕ) (to : Next)
    → Runs (plan_program old.view.number 0 (up_plan c)) old new (next.Go (at.Select selecting.Lock)) to
    → KeepsUse old new

abbrev pub TriesKeepUse : Type 0
TriesKeepUse = (old new : Known) (c : ℕ) (to : Next)
    → Runs (plan_program old.view.number 0 (try_down_plan c)) old new (next.Go (at.Count counting.Lock)) to
    → KeepsUse old new

abbrev pub DownsKeepUse : Type 0
DownsKeepUse = (old new : Known) (c : ℕ) (st : SleepState) (to : Next)
    → Runs (down_program old.view.number c st) old new (next.Go (at.Await (awaiting.Lock false))) to
    → KeepsUse old new

-- where a hold of a `down` begins, and where one takes its entry off that answers for no permit
abbrev pub is_opening : Point → Bool
is_opening (at.Await (awaiting.Lock waited)) = true
is_opening (at.Finish finishing.Queue failed) = true
is_opening _ = false

abbrev pub StretchesKeepUse : Type 0
StretchesKeepUse = (old new : Known) (c : ℕ) (st : SleepState) (from : Point) (to : Next) → is_opening from ≡ true
    → Runs (plan_program old.view.number 0 (down_plan c st)) old new (next.Go from) to → KeepsUse old new

-- A program that is about no count of cell d changes none: it too keeps to it.
abbrev pub OthersKeepUse : Type 0
OthersKeepUse = (d : ℕ) (f : Program) (old new : Known) (from to : Next)
    → ((p : Point) → same (f.given p).watch (watch.Done d) ≡ false) → Runs f old new from to
    → UsesAsSemaphore d (history_of old) → UsesAsSemaphore d (history_of new)

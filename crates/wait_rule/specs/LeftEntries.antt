-- To be believed.
-- Entries that a task left queued at completions: what is known of them by its own history.
use Rattle.std.specs.Prelude.{ℕ, ◌≡◌, false, List}
use Rattle.wait_model.specs.{declared.steps.Step.Step, Fold.view_of, Runs.own}
use Rattle.wait_model.specs.Permits.{Dealt, dealt, done_head, shows_at}
use Rattle.wait_rule.specs.{Items.steps_of, Known.Known}
use Rattle.wait_rule.specs.Interleavings.{AreAllowed, AreHanded, TaskStep, table_of}

-- Steps of all tasks that are allowed and hand permits on, after which a task's history is this one. The rule says that
-- there are some for each history, so what is said of a task need only hold where there are.
pub record Order (a : ℕ) (front : List Step) : Type 0 where
  pub steps : List TaskStep
  pub may : AreAllowed steps
  pub on : AreHanded steps
  pub is : (table_of steps).history a ≡ front

abbrev pub OrderOf : Known → Type 0
OrderOf k = Order k.view.number (steps_of k.view.items)

-- what a task knows of a completion by its own history
abbrev pub dealt_of : ℕ → Known → Dealt
dealt_of d k = dealt d k.view.number (steps_of k.view.items)

-- The last hold of the completion's head that the task gave back, if there was one, left the own entry off.
abbrev pub LeftOff : ℕ → Known → Type 0
LeftOff d k = OrderOf k → (dealt_of d k).left ≡ false

-- So it did of each completion's head.
abbrev pub HasLeftNone : Known → Type 0
HasLeftNone k = (d : ℕ) → LeftOff d k

-- The hold that the task is in, if it is in one, does not show the own entry queued at a completion.
abbrev pub ShowsNoOwn : Known → Type 0
ShowsNoOwn k = (d : ℕ) → OrderOf k
    → shows_at (done_head d) ((view_of (steps_of k.view.items)).hold.book (own k.view.number)) ≡ false

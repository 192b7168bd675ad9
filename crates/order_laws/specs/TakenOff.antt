-- To be believed.
-- Orders of steps in which entries of others are taken off only of who was woken, and entries that their tasks have left
-- queued in them.
use Rattle.std.specs.Prelude.{ℕ, ◌≡◌, ◌≢◌, ◌&&◌, ◌||◌, ◌==◌, not, Bool, true, false, Some, List, [], ◌∷◌, ◌++◌}
use Rattle.wait_model.specs.{declared.steps.Step.Step, declared.watches.Entry.Entry, Fold.met_task, Fold.view_of}
use Rattle.wait_model.specs.{Tables.Table, Tasks.task_of, Views.View, Views.shown}
use Rattle.wait_model.specs.Histories.{Lacks, Since, turns_lock}
use Rattle.wait_model.specs.Watches.{head_of, is_simple, owner}
use Rattle.wait_model.specs.declared.steps.Step.TheVariants as step
use Rattle.wait_rule.specs.{Known.Known, Queues.MayUnqueue, Says.history_of}
use Rattle.wait_rule.specs.Interleavings.{AreAllowed, TaskStep, table_of}

-- the step is a wake of task t that leaves it RUNNING: it met the task's state, or found that it was RUNNING
abbrev pub leaves_running : ℕ → Step → Bool
leaves_running t (step.Wake who mask w) = (who == t) && (met_task mask w || ((task_of w).state == 0))
leaves_running t _ = false

-- Whoever takes off an entry of another task has left that task RUNNING by a wake in the same hold. The step by which
-- a task of a Domain does it asks that it roused the other one in this hold or, at a simple head, made a wake of it
-- with NORMAL, which meets every state in which a task sleeps (`unqueue_store`, `may`). The step for an entry for a
-- page asks that its task was told of the page; `hand_over` makes a wake with NORMAL before it.
abbrev pub TakesOffWoken : Table → ℕ → Step → Type 0
TakesOffWoken s a (step.Unqueue x) = owner x ≢ a → Since (leaves_running (owner x)) turns_lock (s.history a)
TakesOffWoken s a _ = Unit {0}

abbrev pub AllTakeOffWoken : List TaskStep → Type 0
AllTakeOffWoken [] = Unit {0}
AllTakeOffWoken (x ∷ xs) = TakesOffWoken (table_of xs) x.task x.made × AllTakeOffWoken xs

-- What a step asks that takes off another task's entry (`unqueue_store`, `may`) is of this kind, but at simple heads,
-- where it asks for a wake with NORMAL of whatever state.
abbrev pub StepsTakeOffWoken : Type 0
StepsTakeOffWoken = (k : Known) (who slot : ℕ) (may : MayUnqueue k who slot) → who ≢ k.view.number
    → is_simple may.entry.kind ≡ false → Since (leaves_running who) turns_lock (history_of k)

-- what frees entry x, or begins another hold or ends this one
abbrev pub frees : ℕ → Step → Bool
frees x (step.Queue y e) = x == y
frees x (step.Unqueue y) = x == y
frees x e = turns_lock e

-- a step that changes no state but by a sleep, no entry and no lock
abbrev pub is_mild : Step → Bool
is_mild (step.Saw y w) = true
is_mild (step.Load c r) = true
is_mild (step.Sleep w) = true
is_mild _ = false

-- the task queues its entry in a hold of this head, or stores a state in a hold that has seen it queued
abbrev pub Grips : Step → ℕ → ℕ → Entry → View → Type 0
Grips (step.Queue y f) x h e v = (y ≡ x) × (f ≡ e) × (head_of e.watch ≡ h)
Grips (step.State σ) x h e v = v.hold.book x ≡ shown e
Grips _ x h e v = ⊥

-- and has not freed it since, in that hold
pub record IsGripped (es : List Step) (x h : ℕ) (e : Entry) : Type 0 where
  pub front : List Step
  pub grip : Step
  pub inside : List Step
  pub split : es ≡ front ++ grip ∷ inside
  pub held : (view_of front).hold.head ≡ Some h
  pub grips : Grips grip x h e (view_of front)
  pub kept : Lacks (frees x) inside

-- then it gave the lock back, and made mild steps alone
pub record IsLeftQueued (es : List Step) (x h : ℕ) (e : Entry) : Type 0 where
  pub hold : List Step
  pub head : ℕ
  pub spent : Bool
  pub later : List Step
  pub split : es ≡ hold ++ step.Unlock head spent ∷ later
  pub gripped : IsGripped hold x h e
  pub mild : Lacks (λ f. not (is_mild f)) later

-- After each step of each such order of allowed steps an entry that its task left queued stands, as long as the task was
-- not woken.
abbrev pub LeftEntriesStand : Type 0
LeftEntriesStand = (xs : List TaskStep) → AreAllowed xs → AllTakeOffWoken xs → (x h : ℕ) (e : Entry)
    → IsLeftQueued ((table_of xs).history (owner x)) x h e → ((table_of xs).task (owner x)).state ≢ 0
    → (table_of xs).entry x ≡ Some e

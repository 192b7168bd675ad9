-- What the start has and each allowed step keeps holds in every state that a run reaches.
use Rattle.std.proofs.Common.{refl, arith}
use Rattle.std.specs.Prelude.{ℕ, ◌+◌, ◌<◌, ◌≤◌, List, [], ◌∷◌}
use Rattle.wait_model.specs.{declared.layout.TheConstants.TASKS, declared.layout.TheConstants.EVENTS}
use Rattle.wait_model.specs.{declared.calls.Ran.Ran, declared.steps.Step.Step, Facts.Kept, Reached.IsSound}
use Rattle.wait_model.specs.{Rows.Allowed, Rows.AllAllowed}
use Rattle.wait_model.specs.Tables.{Table, next, start, steps}
use Rattle.wait_model.specs.Runs.{State, given_by, event_steps, happens, start_state, state_after, state_of, IsRunFrom}
use Rattle.wait_model.specs.Runs.{IsRun, made_in}
use Rattle.wait_model.specs.declared.calls.Ran.TheVariants as ran
use Rattle.wait_model.proofs.{StepLaws.KeptLaws.step_keeps, HistoryLaws.HoldLooks.IsLookTold}
use Rattle.wait_model.proofs.{HistoryLaws.HoldLooks.told_next, HistoryLaws.ViewsTold.told_happens}
use Rattle.wait_model.proofs.RunLaws.EveryRun.{made_of, made_sound, opened_sound, start_sound}

-- each allowed step that is a Q keeps the property P, where the laws hold and the views are those of the
-- histories
abbrev pub KeepsTable : (Step → Type 0) → (Table → Type 0) → Type 0
KeepsTable Q P = (s : Table) (a : ℕ) (e : Step) → a < TASKS → Kept s → IsLookTold s → Allowed s a e → Q e → P s
    → P (next s a e)

-- each of the steps is a Q
abbrev pub AllSteps : (Step → Type 0) → List Step → Type 0
AllSteps Q [] = Unit {0}
AllSteps Q (e ∷ es) = Q e × AllSteps Q es

-- each step of the run's events is a Q
abbrev pub RunSteps : (Step → Type 0) → State → List Ran → Type 0
RunSteps Q s [] = Unit {0}
RunSteps Q s (ran.Opened me call ∷ items) = RunSteps Q (happens s (ran.Opened me call)) items
RunSteps Q s (ran.Made me e found ∷ items) = AllSteps Q (event_steps s me (given_by (s.progress me)) e)
    × RunSteps Q (happens s (ran.Made me e found)) items

-- steps of one task in a row
pub steps_law : (Q : Step → Type 0) (P : Table → Type 0) → KeepsTable Q P → (es : List Step) (s : Table) (a : ℕ)
    → a < TASKS → Kept s → IsLookTold s → AllAllowed s a es → AllSteps Q es → P s → P (steps s a es)
steps_law Q P keeps [] s a lt k told al q p = p
steps_law Q P keeps (e ∷ es) s a lt k told al q p = steps_law Q P keeps es (next s a e) a lt
    (step_keeps s a e k al.0) (told_next s a e told) al.1 q.1 (keeps s a e lt k told al.0 q.0 p)

items_law : (Q : Step → Type 0) (P : Table → Type 0) → KeepsTable Q P → (items : List Ran) (s : State) (n : ℕ)
    → IsRunFrom s items → n + made_in items ≤ EVENTS → IsSound s n → IsLookTold s.table → RunSteps Q s items
    → P s.table → P (state_after s items).table
items_law Q P keeps [] s n r few sound told q p = p
items_law Q P keeps (ran.Opened me call ∷ items) s n r few sound told q p =
    items_law Q P keeps items (happens s (ran.Opened me call)) n r.1 few (opened_sound s n me call sound r.0)
    told q p
items_law Q P keeps (ran.Made me e found ∷ items) s n r few sound told q p =
    items_law Q P keeps items (happens s (ran.Made me e found)) (n + 1) r.1 (omega arith)
    (made_sound s n me e found sound (omega arith) r.0) (told_happens s (ran.Made me e found) told) q.1
    (steps_law Q P keeps (event_steps s me (given_by (s.progress me)) e) s.table me (omega (arith, r.0.0))
    sound.kept told (made_of s n me e found sound r.0.0 (s.progress me) refl r.0.1).made q.0 p)

-- a property that needs to know of each step that it is a Q
pub run_law : (Q : Step → Type 0) (P : Table → Type 0) → P start → KeepsTable Q P → (run : List Ran) → IsRun run
    → made_in run ≤ EVENTS → RunSteps Q start_state run → P (state_of run).table
run_law Q P first keeps run r few q = items_law Q P keeps run start_state 0 r (omega arith) start_sound
    (λ b. refl)
    q first

abbrev Any : Step → Type 0
Any e = Unit {0}

any_steps : (es : List Step) → AllSteps Any es
any_steps [] = tt
any_steps (e ∷ es) = (tt, any_steps es)

any_run : (items : List Ran) (s : State) → RunSteps Any s items
any_run [] s = tt
any_run (ran.Opened me call ∷ items) s = any_run items (happens s (ran.Opened me call))
any_run (ran.Made me e found ∷ items) s = (
  any_steps (event_steps s me (given_by (s.progress me)) e),
  any_run items (happens s (ran.Made me e found)),
)

-- a property that every allowed step keeps
pub table_law : (P : Table → Type 0) → P start
    → ((s : Table) (a : ℕ) (e : Step) → a < TASKS → Kept s → IsLookTold s → Allowed s a e → P s
    → P (next s a e))
    → (run : List Ran) → IsRun run → made_in run ≤ EVENTS → P (state_of run).table
table_law P first keeps run r few = run_law Any P first (λ s a e lt k told al q p. keeps s a e lt k told al p)
    run r
    few (any_run run start_state)

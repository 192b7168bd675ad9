-- To be believed.
-- The law of pipes: what was got is a front of what was sent, with the cells in between; in each scene that meets the
-- rule, and by the lists of a task that has those of the two whose the ends are.
use Rattle.std.specs.Prelude.{ℕ, ◌≡◌, ◌<◌, ◌≤◌, true, List}
use Rattle.wait_model.specs.{declared.points.Next.Next, declared.points.Point.Point, declared.watches.Aim.Aim}
use Rattle.wait_model.specs.declared.layout.TheConstants.{CLAIMS, PIPES, TASKS}
use Rattle.wait_model.specs.declared.watches.Watch.TheVariants as watch
use Rattle.wait_rule.specs.{declared.journal.Journal.Journal, Known.Known, PipeSays.EndsKept, PipeSays.end_at, Rule.Law}
use Rattle.wait_rule.specs.{Says.IsShown, TableLaws.HasAll}
use Rattle.wait_rule.specs.Transitions.{Goes, Program, Transition, walk_program}
use Rattle.wait_rule.specs.Journals.{Scene, owns, has_of}
use Rattle.wait_rule.specs.Pipes.{Delivers, end_of, read_end, was_refused, write_end}

-- t has the write end of pipe p, and u its read end
abbrev pub RuleDelivers : Type 0
RuleDelivers = (c : Scene) → Law c → (p t u : ℕ) → p < PIPES → (end_of (write_end p) (c.items t)).mine ≡ true
    → (end_of (read_end p) (c.items u)).mine ≡ true
    → Delivers (end_of (write_end p) (c.items t)) (end_of (read_end p) (c.items u))

-- the journal has the lists of both
abbrev pub JoinedDeliver : Type 0
JoinedDeliver = (v : Journal) (law : IsShown v) (p t u : ℕ) → p < PIPES → 1 ≤ owns t v → 1 ≤ owns u v
    → (end_of (write_end p) (has_of t v)).mine ≡ true → (end_of (read_end p) (has_of u v)).mine ≡ true
    → Delivers (end_of (write_end p) (has_of t v)) (end_of (read_end p) (has_of u v))

-- A claim of an end was refused: then some task has the end, in each scene that meets the rule, and by the lists of a
-- task that has all.
abbrev pub RuleRefuses : Type 0
RuleRefuses = (c : Scene) → Law c → (k t : ℕ) → k < CLAIMS → was_refused k (c.items t) ≡ true
    → (u : ℕ) × ((u < TASKS) × ((end_of k (c.items u)).mine ≡ true))

abbrev pub JoinedRefuse : Type 0
JoinedRefuse = (v : Journal) → IsShown v → HasAll v → (k t : ℕ) → k < CLAIMS → t < TASKS
    → was_refused k (has_of t v) ≡ true → (u : ℕ) × ((u < TASKS) × ((end_of k (has_of u v)).mine ≡ true))

-- A program whose steps on conditions are all about variable v, as a wait for it is: it claims no end and passes no
-- cell, and publishes no other variable.
abbrev pub IsAboutVar : ℕ → Program → Type 0
IsAboutVar v f = (p : Point) → (o : ℕ) × ((f.given p).watch ≡ watch.Var v o)

abbrev pub ProgramsKeepEnds : Type 0
ProgramsKeepEnds = (f : Program) (v : ℕ) → IsAboutVar v f → (old : Known) (n : Next) (ts : List Transition)
    (new : Known) (m : Next) → Goes f old n ts new m → EndsKept v old new

-- The walk of a wake publishes nothing: where it wakes those who wait for variable v, the end of that number stays.
abbrev pub WalksKeepEnds : Type 0
WalksKeepEnds = (aim : Aim) (v o : ℕ) → aim.watch ≡ watch.Var v o → (old : Known) (n : Next) (ts : List Transition)
    (new : Known) (m : Next) → Goes (walk_program aim) old n ts new m → end_at v new ≡ end_at v old

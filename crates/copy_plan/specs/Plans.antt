-- To be believed.
-- Planned signals: to whom each goes, and which are due.
use Rattle.std.specs.Prelude.{ℕ, ◌≡◌, ◌≤◌, ◌+◌, ◌++◌, ◌&&◌, nat_le, if◌then◌else◌, List, [], ◌∷◌, get_or}
use Rattle.copy_plan.specs.{declared.gate.Who.Who, declared.plan.Planned.Planned}
use Rattle.copy_plan.specs.declared.gate.Who.TheVariants as who

-- the number of a worker's task, of those of the reader, the relay and the writer
abbrev pub target_of : List ℕ → Who → ℕ
target_of targets who.Reader = get_or targets 0 0
target_of targets who.Relay = get_or targets 1 0
target_of targets who.Writer = get_or targets 2 0

-- the signals of a plan with an offset from one number to another, in the order of the plan, and those up to a number
abbrev pub due_in : ℕ → ℕ → List Planned → List Planned
due_in from to [] = []
due_in from to (p ∷ ps) = if nat_le from p.offset && nat_le p.offset to then p ∷ due_in from to ps
    else due_in from to ps

abbrev pub up_to : ℕ → List Planned → List Planned
up_to to ps = due_in 0 to ps

-- Numbers that rise from one on to another, which is the last of them; where there are none it is the one below.
abbrev pub Rises : ℕ → List ℕ → ℕ → Type 0
Rises from [] to = from ≡ to + 1
Rises from (n ∷ ns) to = (from ≤ n) × Rises (n + 1) ns to

-- the signals of a plan as they become due at such numbers, one number after another: those of each in the order of the
-- plan
abbrev pub due_at : ℕ → List ℕ → List Planned → List Planned
due_at from [] ps = []
due_at from (n ∷ ns) ps = due_in from n ps ++ due_at (n + 1) ns ps

-- the fatal ones
abbrev pub fatal_of : List Planned → List Planned
fatal_of [] = []
fatal_of (p ∷ ps) = if p.fatal then p ∷ fatal_of ps else fatal_of ps

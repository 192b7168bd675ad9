-- To be believed.
-- What is sent for planned signals.
use Rattle.std.specs.Prelude.{ℕ, if◌then◌else◌, List, [], ◌∷◌}
use Rattle.wait_rule.specs.Aside.{Raised}
use Rattle.copy_plan.specs.{declared.plan.Planned.Planned, Plans.target_of}

-- what is raised for them
abbrev pub raised_for : List ℕ → Planned → Raised
raised_for targets p = record { who = target_of targets p.who; fatal = p.fatal }

abbrev pub sent_to : List ℕ → List Planned → List Raised
sent_to targets [] = []
sent_to targets (p ∷ ps) = raised_for targets p ∷ sent_to targets ps

-- the fatal ones among raised signals
abbrev pub kills_in : List Raised → List Raised
kills_in [] = []
kills_in (r ∷ rs) = if r.fatal then r ∷ kills_in rs else kills_in rs

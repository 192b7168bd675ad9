-- To be believed.
-- The signals that a copy is told to send: how each is spelled.
use Rattle.std.specs.Prelude.{ℕ, List, [], ◌∷◌, Option, Some, None, Bool, true, false, nat_eq, nat_le, length, drop}
use Rattle.std.specs.Prelude.{if◌then◌else◌, codes}
use Rattle.std.specs.List.{starts_with}
use Rattle.wait_script.specs.Number.{numeral_value}
use Rattle.copy_plan.specs.{declared.TheConstants.LONGEST, declared.TheConstants.SIGNALS, declared.gate.Who.Who}
use Rattle.copy_plan.specs.declared.plan.Planned.{Planned}
use Rattle.copy_plan.specs.declared.gate.Who.TheVariants.{Reader, Relay, Writer}

abbrev pub begins : List ℕ → List ℕ → Bool
begins word text = starts_with nat_eq word text

-- a signal for a worker at an offset, which is at most what a source may give
abbrev pub planned_at : Who → Bool → Option ℕ → Option Planned
planned_at who fatal (Some n) =
    if nat_le n LONGEST then Some (record { who = who; offset = n; fatal = fatal }) else None
planned_at who fatal None = None

-- `WHO@N`
abbrev pub target_at : Bool → List ℕ → Option Planned
target_at fatal word =
    if begins word (codes "reader@") then planned_at Reader fatal (numeral_value (drop 7 word))
    else if begins word (codes "relay@") then planned_at Relay fatal (numeral_value (drop 6 word))
    else if begins word (codes "writer@") then planned_at Writer fatal (numeral_value (drop 7 word))
    else None

-- `signal:WHO@N` for a plain signal, and `kill:WHO@N` for a fatal one
abbrev pub event_of : List ℕ → Option Planned
event_of word =
    if begins word (codes "signal:") then target_at false (drop 7 word)
    else if begins word (codes "kill:") then target_at true (drop 5 word)
    else None

abbrev pub before : Option Planned → Option (List Planned) → Option (List Planned)
before (Some p) (Some ps) = Some (p ∷ ps)
before (Some p) None = None
before None ps = None

-- each of the words
abbrev pub events_of : List (List ℕ) → Option (List Planned)
events_of [] = Some []
events_of (word ∷ words) = before (event_of word) (events_of words)

-- and no more of them than may be planned
abbrev pub plan_of : List (List ℕ) → Option (List Planned)
plan_of words = if nat_le (length words) SIGNALS then events_of words else None

-- To be believed.
-- How a copy stops, by how its tasks did.
use Rattle.std.specs.Prelude.{ℕ, ◌==◌, if◌then◌else◌, Bool, true, false, List, [], ◌∷◌}
use Rattle.copy_plan.specs.{declared.kinds.Kind.Kind, declared.stop.Stop.Stop}
use Rattle.copy_plan.specs.declared.kinds.Kind.TheVariants as kind
use Rattle.copy_plan.specs.declared.stop.Stop.TheVariants as stop

-- whether a stop is of a kind
abbrev pub is_of : Kind → Stop → Bool
is_of kind.Memory stop.Memory = true
is_of kind.Worn (stop.Worn h p) = true
is_of kind.ReadFault stop.ReadFault = true
is_of kind.WriteFault stop.WriteFault = true
is_of kind.Long stop.Long = true
is_of _ _ = false

-- the first of a list that is of a kind, or else another stop
abbrev pub first_or : Kind → List Stop → Stop → Stop
first_or k [] other = other
first_or k (s ∷ ss) other = if is_of k s then s else first_or k ss other

-- The stop of a copy by those of its tasks, and by how many kills were sent.
abbrev pub copy_stop : List Stop → ℕ → Stop
copy_stop stops kills = first_or kind.Memory stops (first_or kind.Worn stops (first_or kind.ReadFault stops
    (first_or kind.WriteFault stops (first_or kind.Long stops (if kills == 0 then stop.Finished else stop.Killed)))))

-- To be believed.
-- The stops of workers.
use Rattle.copy_plan.specs.{declared.stop.Halt.Halt, declared.stop.Stop.Stop}
use Rattle.copy_plan.specs.declared.stop.Halt.TheVariants as halt
use Rattle.copy_plan.specs.declared.stop.Stop.TheVariants as stop

abbrev pub stop_of : Halt → Stop
stop_of halt.Broken = stop.Broken
stop_of halt.Killed = stop.Killed
stop_of (halt.Worn h p) = stop.Worn h p

-- where all that there was is passed on
abbrev pub IfFinished : Stop → Type 0 → Type 0
IfFinished stop.Finished X = X
IfFinished _ X = Unit {0}

-- where the ends that the worker wanted were its own, and where one was not
abbrev pub IfTaken : Stop → Type 0 → Type 0 → Type 0
IfTaken stop.Taken X Y = X
IfTaken _ X Y = Y

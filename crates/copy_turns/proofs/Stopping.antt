-- How workers stop, by cases.
use Rattle.std.specs.Prelude.{ℕ, ◌≡◌, Option, None, Some, refl}
use Rattle.wait_rule.specs.Known.{Known}
use Rattle.copy_plan.specs.{declared.stop.Halt.Halt, declared.stop.Stop.Stop}
use Rattle.copy_plan.specs.Stops.{IfFinished, IfTaken, stop_of}
use Rattle.copy_plan.specs.declared.stop.Halt.TheVariants as halt
use Rattle.copy_plan.specs.declared.stop.Stop.TheVariants as stop
use Rattle.copy_turns.specs.{Turns.IfStopped, Turns.IfWhole, Work.IsHalt, Work.IsOwnHalt}

pub finished_map : (how : Stop) (X Y : Type 0) → (X → Y) → IfFinished how X → IfFinished how Y
finished_map stop.Finished X Y f x = f x
finished_map stop.Broken X Y f x = tt
finished_map stop.Killed X Y f x = tt
finished_map stop.Taken X Y f x = tt
finished_map stop.ReadFault X Y f x = tt
finished_map stop.WriteFault X Y f x = tt
finished_map stop.Memory X Y f x = tt
finished_map stop.Long X Y f x = tt
finished_map (stop.Worn h p) X Y f x = tt

pub finished_both : (how : Stop) (X Y Z : Type 0) → (X → Y → Z) → IfFinished how X → IfFinished how Y
    → IfFinished how Z
finished_both stop.Finished X Y Z f x y = f x y
finished_both stop.Broken X Y Z f x y = tt
finished_both stop.Killed X Y Z f x y = tt
finished_both stop.Taken X Y Z f x y = tt
finished_both stop.ReadFault X Y Z f x y = tt
finished_both stop.WriteFault X Y Z f x y = tt
finished_both stop.Memory X Y Z f x y = tt
finished_both stop.Long X Y Z f x y = tt
finished_both (stop.Worn h p) X Y Z f x y = tt

pub finished : (how : Stop) (X : Type 0) → X → IfFinished how X
finished stop.Finished X x = x
finished stop.Broken X x = tt
finished stop.Killed X x = tt
finished stop.Taken X x = tt
finished stop.ReadFault X x = tt
finished stop.WriteFault X x = tt
finished stop.Memory X x = tt
finished stop.Long X x = tt
finished (stop.Worn h p) X x = tt

pub whole_map : (how : Option Stop) (X Y : Type 0) → (X → Y) → IfWhole how X → IfWhole how Y
whole_map None X Y f x = f x
whole_map (Some how) X Y f x = finished_map how X Y f x

pub stopped_map : (how : Option Stop) (P Q : Stop → Type 0) → ((s : Stop) → P s → Q s) → IfStopped how P
    → IfStopped how Q
stopped_map None P Q f x = tt
stopped_map (Some s) P Q f x = f s x

-- a worker that was halted has not finished
pub halted_whole : (h : Halt) (X : Type 0) → IfWhole (Some (stop_of h)) X
halted_whole halt.Broken X = tt
halted_whole halt.Killed X = tt
halted_whole (halt.Worn h p) X = tt

-- a worker that had its ends
pub untaken : (how : Stop) (X Y : Type 0) → (how ≡ stop.Taken → X) → Y → IfTaken how X Y
untaken stop.Finished X Y f y = y
untaken stop.Broken X Y f y = y
untaken stop.Killed X Y f y = y
untaken stop.Taken X Y f y = f refl
untaken stop.ReadFault X Y f y = y
untaken stop.WriteFault X Y f y = y
untaken stop.Memory X Y f y = y
untaken stop.Long X Y f y = y
untaken (stop.Worn h p) X Y f y = y

pub taken_map : (how : Stop) (X Y V W : Type 0) → (X → V) → (Y → W) → IfTaken how X Y → IfTaken how V W
taken_map stop.Finished X Y V W f g x = g x
taken_map stop.Broken X Y V W f g x = g x
taken_map stop.Killed X Y V W f g x = g x
taken_map stop.Taken X Y V W f g x = f x
taken_map stop.ReadFault X Y V W f g x = g x
taken_map stop.WriteFault X Y V W f g x = g x
taken_map stop.Memory X Y V W f g x = g x
taken_map stop.Long X Y V W f g x = g x
taken_map (stop.Worn h p) X Y V W f g x = g x

pub own_halt : (old new : Known) (h : Halt) → IsOwnHalt old new h → (k : ℕ) → IsHalt k old new h
own_halt old new halt.Broken is k = absurd is
own_halt old new halt.Killed is k = is
own_halt old new (halt.Worn h p) is k = is

-- The small lists of events and steps, computed.
use Rattle.std.proofs.Common.{refl, inl}
use Rattle.std.specs.Prelude.{[], ◌∷◌, false, true}
use Rattle.wait_model.specs.declared.calls.Event.TheVariants as event
use Rattle.wait_model.specs.Watches.{head_of}
use Rattle.wait_rule.specs.WorkedEvents.{WorkedEvents}

pub worked_events : WorkedEvents
unfolding head_of
worked_events = record {
  wakes = refl;
  heeds = record {
    value = 0;
    earlier = event.Unlock 256 false ∷ event.Look true ∷ event.Lock 256 ∷ event.Load 0 0 ∷ [];
    load = refl;
    turn = record { earlier = event.Load 0 0 ∷ []; turn = inl refl };
    unset = refl;
  };
  first = refl;
  second = refl;
  is_set = refl;
}

-- To be believed.
-- What each step on a bit word tells its task.
use Rattle.std.specs.Prelude.{◌≡◌}
use Rattle.wait_model.specs.declared.watches.Watch.{Watch}
use Rattle.wait_model.specs.declared.steps.Step.TheVariants as step
use Rattle.wait_rule.specs.declared.journal.Item.TheVariants as item
use Rattle.wait_rule.specs.Plays.{Play, seat_with}

-- a test-and-set of the bit of this watch, and a clear, with the word found
abbrev pub bit_set_play : Watch → Play
bit_set_play c st m r n = n ≡ seat_with m (item.Made (step.Consume c 1 r))

abbrev pub bit_cleared_play : Watch → Play
bit_cleared_play c st m r n = n ≡ seat_with m (item.Made (step.Publish c 0 r))

-- To be believed.
-- What an add to a tally tells its task.
use Rattle.std.specs.Prelude.{◌≡◌, ◌-◌}
use Rattle.wait_model.specs.declared.layout.TheConstants.{TALLY_AT}
use Rattle.wait_rule.specs.declared.journal.Item.TheVariants as item
use Rattle.wait_rule.specs.{Says.FindsTally, Plays.Play, Plays.seat_with}

-- an add of the amount that the step is given, with the number found
abbrev pub tally_added_play : Play
tally_added_play st m r n = (n ≡ seat_with m (item.Tally (st.word - TALLY_AT) st.first r))
    × FindsTally m.0 (st.word - TALLY_AT) r

-- To be believed.
-- What each step on a done count tells its task.
use Rattle.std.specs.Prelude.{ℕ, ◌≡◌, ◌+◌, ◌-◌}
use Rattle.atomic_table.specs.Seated.{TableId}
use Rattle.wait_model.specs.declared.layout.TheConstants.{CONDITION_AT, FIRST_DONE}
use Rattle.wait_model.specs.declared.watches.Watch.TheVariants as watch
use Rattle.wait_model.specs.declared.steps.Step.TheVariants as step
use Rattle.wait_model.specs.Runs.{set_step}
use Rattle.wait_rule.specs.declared.journal.Item.TheVariants as item
use Rattle.wait_rule.specs.{Counts.FindsCount, Known.known, Plays.Play, Plays.seat_with}

-- the completion whose count this is
abbrev pub cell_of_place : ℕ → ℕ
cell_of_place p = p - (CONDITION_AT + FIRST_DONE)

abbrev pub count_loaded_play : Play
count_loaded_play st m r n = (n ≡ seat_with m (item.Made (step.Load (watch.Done (cell_of_place st.word)) r)))
    × ((t : TableId) → FindsCount (known t m.0 0) (cell_of_place st.word) r)

-- a store: what it replaced stands in the history
abbrev pub count_stored_play : Play
count_stored_play st m r n = (found : ℕ) × ((t : TableId) → FindsCount (known t m.0 0) (cell_of_place st.word) found)
    × (n ≡ seat_with m (item.Made (set_step (watch.Done (cell_of_place st.word)) st.first found)))

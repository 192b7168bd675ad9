-- To be believed.
-- What each step on a word of a pipe tells its task.
use Rattle.std.specs.Prelude.{ℕ, ◌≡◌, ◌+◌, ◌-◌, ◌/◌}
use Rattle.wait_model.specs.declared.layout.TheConstants.{CLAIM_AT, CELL_AT, CONDITION_AT, FIRST_VARIABLE, PIPE_CELLS}
use Rattle.wait_model.specs.declared.watches.Watch.TheVariants as watch
use Rattle.wait_model.specs.declared.steps.Step.TheVariants as step
use Rattle.wait_rule.specs.declared.journal.EndAct.TheVariants as act
use Rattle.wait_rule.specs.declared.journal.Item.TheVariants as item
use Rattle.wait_rule.specs.{PipeSays.IsSoundEnd, Plays.Play, Plays.seat_with}
use Rattle.wait_rule.specs.Pipes.{IsCell, end_of, end_word, write_end, read_end}

-- the end of a claim, the pipe of a cell, and the end of a variable
abbrev pub claim_end : ℕ → ℕ
claim_end at = at - CLAIM_AT

abbrev pub cell_pipe : ℕ → ℕ
cell_pipe at = (at - CELL_AT) / PIPE_CELLS

abbrev pub var_end : ℕ → ℕ
var_end at = at - (CONDITION_AT + FIRST_VARIABLE)

abbrev pub claimed_play : Play
claimed_play st m r n = n ≡ seat_with m (item.Piped (claim_end st.word) act.Claim r)

abbrev pub cell_stored_play : Play
cell_stored_play st m r n = n ≡ seat_with m (item.Piped (write_end (cell_pipe st.word)) act.Cell st.first)

abbrev pub cell_loaded_play : Play
cell_loaded_play st m r n = (n ≡ seat_with m (item.Piped (read_end (cell_pipe st.word)) act.Cell r)) × IsCell r

-- a store: what it replaced stands in the history, and is not told
abbrev pub end_published_play : Play
end_published_play st m r n = (found : ℕ)
    × ((n ≡ seat_with m (item.Made (step.Publish (watch.Var (var_end st.word) 0) st.first found)))
    × IsSoundEnd (var_end st.word) (end_of (var_end st.word) m.0.items))

-- a load of the own word, which adds nothing
abbrev pub end_load_play : Play
end_load_play st m r n = (n ≡ m)
    × ((r ≡ end_word (end_of (var_end st.word) m.0.items).count (end_of (var_end st.word) m.0.items).shut)
    × IsSoundEnd (var_end st.word) (end_of (var_end st.word) m.0.items))

-- In every state of a run each task's view is that of its history.
use Rattle.std.proofs.Common.{refl}
use Rattle.std.specs.Prelude.{ℕ, List, [], ◌∷◌}
use Rattle.wait_model.specs.{declared.steps.Step.Step, declared.calls.Ran.Ran, Told.ViewsTold}
use Rattle.wait_model.specs.Tables.{Table, steps, next}
use Rattle.wait_model.specs.Runs.{State, happens, start_state, state_after, event_steps, given_by}
use Rattle.wait_model.specs.declared.calls.Ran.TheVariants as ran
use Rattle.wait_model.proofs.HistoryLaws.HoldLooks.{IsLookTold, told_next}

told_steps : (es : List Step) (t : Table) (a : ℕ) → IsLookTold t → IsLookTold (steps t a es)
told_steps [] t a h = h
told_steps (e ∷ es) t a h = told_steps es (next t a e) a (told_next t a e h)

pub told_happens : (s : State) (item : Ran) → IsLookTold s.table → IsLookTold (happens s item).table
told_happens s (ran.Opened me call) h = h
told_happens s (ran.Made me e found) h = told_steps (event_steps s me (given_by (s.progress me)) e) s.table me
    h

told_after : (items : List Ran) (s : State) → IsLookTold s.table → IsLookTold (state_after s items).table
told_after [] s h = h
told_after (item ∷ items) s h = told_after items (happens s item) (told_happens s item h)

pub views_told : ViewsTold
views_told run a = told_after run start_state (λ b. refl) a

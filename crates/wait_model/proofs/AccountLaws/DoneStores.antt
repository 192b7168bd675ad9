-- Each store that a run makes in the count of a completion is one more, one less, 0 or the end, so the counts
-- are balanced in every state.
use Rattle.std.proofs.Common.{refl, sym, subst, arith}
use Rattle.std.specs.Prelude.{ℕ, zero, suc, ◌≡◌, ◌+◌, ◌<◌, ◌≤◌, Bool, true, false, if◌then◌else◌, Option, List, [], ◌∷◌}
use Rattle.wait_model.specs.{declared.calls.Event.Event, declared.calls.Ran.Ran, declared.points.Given.Given}
use Rattle.wait_model.specs.{declared.watches.Entry.Entry, declared.watches.Watch.Watch, Completions.NoRunMiscounts}
use Rattle.wait_model.specs.{Locations.cond_at, Locations.word_in, Reached.Joins, Reached.IsSound, Tables.Table}
use Rattle.wait_model.specs.{Tables.value_of, Watches.IsThere, Watches.number_of}
use Rattle.wait_model.specs.declared.layout.TheConstants.{TASKS, ENTRIES, FIRST_DONE, FIRST_BIT_WORD, EVENTS}
use Rattle.wait_model.specs.DoneCounts.{IsStored, IsDoneStore, IsBalanced}
use Rattle.wait_model.specs.Runs.{State, given_by, is_publishing, looks_below, looks, peeks_below, all_peeks, set_step}
use Rattle.wait_model.specs.Runs.{event_steps, happens, start_state, IsRunFrom, made_in}
use Rattle.wait_model.specs.declared.calls.Event.TheVariants as event
use Rattle.wait_model.specs.declared.calls.Ran.TheVariants as ran
use Rattle.wait_model.specs.declared.steps.Step.TheVariants as step
use Rattle.wait_model.specs.declared.watches.Watch.TheVariants as watch
use Rattle.wait_model.proofs.{WordLaws.CondWords.number_value, AccountLaws.DoneCounts.counts_start_balanced}
use Rattle.wait_model.proofs.{AccountLaws.DoneCounts.counts_stay_balanced, RunLaws.OthersEvents.Changes}
use Rattle.wait_model.proofs.RunLaws.EveryRun.{IsMade, made_of, made_sound, opened_sound, start_sound}
use Rattle.wait_model.proofs.StepLaws.TableLaws.{AllSteps, RunSteps, run_law}

looks_stored : (entry : ℕ → Option Entry) (n : ℕ) → AllSteps IsDoneStore (looks_below entry n)
looks_stored entry zero = tt
looks_stored entry (suc n) = (tt, looks_stored entry n)

all_looks_stored : (entry : ℕ → Option Entry) → AllSteps IsDoneStore (looks entry)
unfolding looks
all_looks_stored entry = looks_stored entry ENTRIES

peeks_stored : (entry : ℕ → Option Entry) (n : ℕ) → AllSteps IsDoneStore (peeks_below entry n)
peeks_stored entry zero = tt
peeks_stored entry (suc n) = (tt, peeks_stored entry n)

all_peeks_stored : (entry : ℕ → Option Entry) → AllSteps IsDoneStore (all_peeks entry)
unfolding all_peeks
all_peeks_stored entry = peeks_stored entry ENTRIES

-- a store of a plain condition, of a done count or of a variable
set_stored : (c : Watch) (value found : ℕ) → IsThere c → ((d : ℕ) → c ≡ watch.Done d → IsStored value found)
    → IsDoneStore (set_step c value found)
set_stored (watch.Done d) value found there h = by (is_publishing (watch.Done d) found value)
  where
    by : (b : Bool) → IsDoneStore (if b then step.Publish (watch.Done d) value found
        else step.Consume (watch.Done d) value found)
    by true = h d refl
    by false = h d refl
set_stored _ value found there h = tt

take_stored : (c : Watch) (k found : ℕ) → c ≡ watch.Plain k → IsDoneStore (step.Consume c 0 found)
take_stored c k found e = subst (λ (w : Watch). IsDoneStore (step.Consume w 0 found)) (sym e) tt

-- the number of a done count
counted_from : (c : Watch) (d : ℕ) → IsThere c → c ≡ watch.Done d → (FIRST_DONE ≤ number_of c)
    × (number_of c < FIRST_BIT_WORD)
counted_from (watch.Plain c) d there e = absurd (cc)
counted_from (watch.Done d) k there e = (omega arith, omega (arith, there))
counted_from (watch.Bit i b) d there e = absurd (cc)
counted_from (watch.Var v o) d there e = absurd (cc)

-- the steps that set a bit and clear it
bit_stored : (c : Watch) (w b found : ℕ) → c ≡ watch.Bit w b → IsDoneStore (step.Consume c 1 found)
    × IsDoneStore (step.Publish c 0 found)
bit_stored c w b found e = subst (λ (d : Watch). IsDoneStore (step.Consume d 1 found)
    × IsDoneStore (step.Publish d 0 found)) (sym e) (tt, tt)

pub event_stored : (s : State) (me : ℕ) (g : Given) (e : Event) → Changes s me e → Joins g e
    → AllSteps IsDoneStore (event_steps s me g e)
event_stored s me g (event.Lock h) c j = (tt, all_looks_stored s.table.entry)
event_stored s me g (event.Set n v) c j = (
  set_stored g.watch v (value_of s.table.words g.watch) j.1 (λ d e.
      let k = counted_from g.watch d j.1 e in
      subst (λ (f : ℕ). IsStored v f) (number_value s.table g.watch j.1)
      (subst (λ (i : ℕ). IsStored v (word_in s.table (cond_at i))) j.0
      (c (subst (λ (i : ℕ). FIRST_DONE ≤ i) (sym j.0) k.0) (subst (λ (i : ℕ). i < FIRST_BIT_WORD) (sym j.0) k.1)))),
  tt,
)
event_stored s me g (event.Take n v) c j = (take_stored g.watch n (value_of s.table.words g.watch) j, tt)
event_stored s me g (event.Active h hit) c j = all_peeks_stored s.table.entry
event_stored s me g (event.Tas w b v) c j = ((bit_stored g.watch w b (value_of s.table.words g.watch) j).0, tt)
event_stored s me g (event.Clear w b) c j = ((bit_stored g.watch w b (value_of s.table.words g.watch) j).1, tt)
event_stored s me g e c j = (tt, tt)

run_stored : (s : State) (items : List Ran) (n : ℕ) → IsRunFrom s items → n + made_in items ≤ EVENTS
    → IsSound s n → RunSteps IsDoneStore s items
run_stored s [] n r few sound = tt
run_stored s (ran.Opened me call ∷ items) n r few sound = run_stored (happens s (ran.Opened me call)) items n r.1
    few (opened_sound s n me call sound r.0)
run_stored s (ran.Made me e found ∷ items) n r few sound =
    let m : IsMade s n me (s.progress me) e = made_of s n me e found sound r.0.0 (s.progress me) refl r.0.1 in (
      event_stored s me (given_by (s.progress me)) e m.changes m.joins,
      run_stored (happens s (ran.Made me e found)) items (n + 1) r.1 (omega arith)
          (made_sound s n me e found sound (omega arith) r.0),
    )

pub no_run_miscounts : NoRunMiscounts
no_run_miscounts run r few d = run_law IsDoneStore (λ (t : Table). IsBalanced TASKS t d)
    (counts_start_balanced TASKS d)
    (λ s a e lt k told al q p. counts_stay_balanced TASKS s a e d lt al q p) run r few
    (run_stored start_state run 0 r (omega arith) start_sound)

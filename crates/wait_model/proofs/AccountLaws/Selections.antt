-- Every run is orderly: what its walks select, how its waits are interrupted, which signals are accepted.
use Rattle.std.proofs.lemmas.Bool.Decides.{nat_tests, eqb_tells}
use Rattle.std.proofs.Common.{refl, sym, ap, subst, arith, inl, inr}
use Rattle.std.specs.Prelude.{ℕ, ◌≡◌, ◌≢◌, ◌+◌, ◌≤◌, Bool, true, false, ◌&&◌, ◌||◌, IsTrue, ◌==◌, if◌then◌else◌, List}
use Rattle.std.specs.Prelude.{[], ◌∷◌}
use Rattle.wait_model.specs.{declared.layout.TheConstants.EVENTS, declared.calls.Call.Call, declared.calls.Event.Event}
use Rattle.wait_model.specs.{declared.calls.Ran.Ran, declared.tasks.TaskRecord.TaskRecord, declared.tasks.Taken.Taken}
use Rattle.wait_model.specs.{declared.points.Given.Given, declared.points.Progress.Progress, Functions.put}
use Rattle.wait_model.specs.{Tables.next as next_table, Tables.value_of, Words.head_word, Selections.AcceptsRaised}
use Rattle.wait_model.specs.Tasks.{meets, pending, woken, slept, raised, taken_of, IsLawful}
use Rattle.wait_model.specs.Runs.{State, given_by, progress_after, after_event, happens, start_state, state_after}
use Rattle.wait_model.specs.Runs.{state_of, Continues, IsItem, IsRunFrom, IsRun, made_in}
use Rattle.wait_model.specs.Reached.{IsPlaced, IsSoundCall, IsSound, Allows}
use Rattle.wait_model.specs.Accounts.{Account, one_if, event_selects, unqueues, event_raises, event_raises_fatal}
use Rattle.wait_model.specs.Accounts.{taken_any, taken_fatal, accepts, accepts_fatal, accounted, account_after}
use Rattle.wait_model.specs.Accounts.{nothing_done, account_of}
use Rattle.wait_model.specs.declared.calls.Event.TheVariants as event
use Rattle.wait_model.specs.declared.calls.Ran.TheVariants as ran
use Rattle.wait_model.specs.declared.tasks.Taken.TheVariants as taken
use Rattle.wait_model.specs.declared.points.Progress.TheVariants as now
use Rattle.wait_model.proofs.{WordLaws.CondWords.set_rest, Functions.put_at, HistoryLaws.HoldLooks.looks_same}
use Rattle.wait_model.proofs.HistoryLaws.UnlockedLooks.{peeks_same}
use Rattle.wait_model.proofs.RunLaws.EveryRun.{opened_sound, made_sound, made_of, IsMade, start_sound}
use Rattle.wait_model.proofs.AccountLaws.RunAccounts.{TurnAt, ChosenAt, turn_step, chosen_step, start_turn}
use Rattle.wait_model.proofs.AccountLaws.RunAccounts.{start_chosen}
use Rattle.wait_model.proofs.AccountLaws.TakenEntries.{OffAt, off_step, start_off}
use Rattle.wait_model.proofs.AccountLaws.GivenUpWaits.{BrokenAt, broken_step, start_broken}
use Rattle.wait_model.specs.declared.steps.Step.TheVariants as step

-- two records with the same pending signals
abbrev pub SameSignals : TaskRecord → TaskRecord → Type 0
SameSignals t u = (t.signal ≡ u.signal) × (t.fatal ≡ u.fatal)

put_signals : (f : ℕ → TaskRecord) (k : ℕ) (x : TaskRecord) (t : ℕ) → SameSignals x (f k)
    → SameSignals (put f k x t) (f t)
put_signals f k x t h = put_at (λ y. SameSignals y (f t)) f k x t
    (λ e. subst (λ (i : ℕ). SameSignals x (f i)) (sym e) h) (λ _. (refl, refl))

woken_signals : (mask : ℕ) (t : TaskRecord) → SameSignals (woken mask t) t
woken_signals mask t = by (meets mask t.state)
  where
    by : (b : Bool) → SameSignals (if b then record t { state = 0; runnable = true } else t) t
    by true = (refl, refl)
    by false = (refl, refl)

slept_signals : (t : TaskRecord) → SameSignals (slept t) t
slept_signals t = by (t.state == 0) (pending t.state t)
  where
    by : (a b : Bool) → SameSignals (if a then t else if b then record t { state = 0 }
        else record t { runnable = false }) t
    by true b = (refl, refl)
    by false true = (refl, refl)
    by false false = (refl, refl)

-- the events that raise and accept nothing
abbrev pub IsSilent : Event → Type 0
IsSilent (event.Signal who fatal) = ⊥
IsSilent (event.Accept x) = ⊥
IsSilent _ = Unit {0}

silent_signals : (s : State) (me : ℕ) (g : Given) (e : Event) (t : ℕ) → IsSilent e
    → SameSignals ((after_event s me g e).table.task t) (s.table.task t)
silent_signals s me g (event.State v) t i = put_signals s.table.task me _ t (refl, refl)
silent_signals s me g (event.Sleep x) t i = put_signals s.table.task me _ t (slept_signals (s.table.task me))
silent_signals s me g (event.Wake who hit) t i = put_signals s.table.task who _ t
    (woken_signals g.mask (s.table.task who))
silent_signals s me g (event.Signal who fatal) t i = absurd i
silent_signals s me g (event.Accept x) t i = absurd i
silent_signals s me g (event.Lock h) t i = subst (λ (f : ℕ → TaskRecord). SameSignals (f t) (s.table.task t))
    (sym (looks_same (next_table s.table me (step.Lock h g.walk (head_word (s.table.holder h)
    (s.table.spent h)))) s.table.entry me).task) (refl, refl)
silent_signals s me g (event.Active h hit) t i = subst (λ (f : ℕ → TaskRecord). SameSignals (f t) (s.table.task t))
    (sym (peeks_same s.table s.table.entry me).task) (refl, refl)
silent_signals s me g (event.Set c v) t i = subst (λ (f : ℕ → TaskRecord). SameSignals (f t) (s.table.task t))
    (sym (set_rest s.table me g.watch v (value_of s.table.words g.watch)).task) (refl, refl)
silent_signals s me g e t i = (refl, refl)

silent_adds : (e : Event) (t : ℕ) → IsSilent e → (accepts e ≡ 0) × (accepts_fatal e ≡ 0) × (event_raises t e ≡ 0)
    × (event_raises_fatal t e ≡ 0)
silent_adds (event.Signal who fatal) t i = absurd i
silent_adds (event.Accept x) t i = absurd i
silent_adds e t i = (refl, refl, refl, refl)

-- two functions changed at one place
two_puts : {A B : Type 0} (P : A → B → Type 0) (f : ℕ → A) (g : ℕ → B) (k : ℕ) (x : A) (y : B) (t : ℕ)
    → (t ≡ k → P x y) → (t ≢ k → P (f t) (g t)) → P (put f k x t) (put g k y t)
two_puts P f g k x y t h i = elim (eqb_tells t k) [ inl q ↦ rw q.0 (h q.1) | inr q ↦ rw q.0 (i q.1) ]

-- a count at one place, with what an event adds there
put_more : (f : ℕ → ℕ) (k n t : ℕ) → n ≡ 0 → put f k (f k + n) t ≡ f t
put_more f k n t z = put_at (λ y. y ≡ f t) f k (f k + n) t
    (λ e. omega (arith, z, ap f e)) (λ _. refl)

-- what a task takes stood pending
taken_counts : (t : TaskRecord) → IsLawful t → (taken_any (taken_of t) ≤ one_if t.signal)
    × (taken_fatal (taken_of t) ≤ one_if t.fatal)
taken_counts t l = by t.fatal t.signal l.fatal
  where
    by : (f g : Bool) → (IsTrue f → IsTrue g)
        → (taken_any (if f then taken.Fatal else if g then taken.Plain else taken.Nothing) ≤ one_if g)
        × (taken_fatal (if f then taken.Fatal else if g then taken.Plain else taken.Nothing) ≤ one_if f)
    by true true h = (omega arith, omega arith)
    by true false h = absurd (let z : IsTrue false = h refl in cc)
    by false true h = (omega arith, omega arith)
    by false false h = (omega arith, omega arith)

module _ (s : State) (me : ℕ) (g : Given) (a : Account) (h : AcceptsRaised s a) where
  -- a signal that is raised
  raised_signals : (who : ℕ) (fatal : Bool) (found : ℕ)
      → AcceptsRaised (after_event s me g (event.Signal who fatal))
      (accounted s a (ran.Made me (event.Signal who fatal) found))
  raised_signals who fatal found = record {
    signals = λ t. rw (put_more a.accepted me 0 t refl) (signal_case t (t == who));
    fatals = λ t. rw (put_more a.accepted_fatal me 0 t refl) (fatal_case t (t == who) refl);
  }
    where
      signal_case : (t : ℕ) (b : Bool) → a.accepted t
          + one_if (if b then raised fatal (s.table.task who) else s.table.task t).signal
          ≤ a.raised t + one_if b
      signal_case t true = let k = h.signals t in omega arith
      signal_case t false = let k = h.signals t in omega arith

      by : (f d : Bool) (x y : ℕ) → x + one_if d ≤ y → x + one_if (f || d) ≤ y + one_if (true && f)
      by true d x y k = omega arith
      by false d x y k = omega (arith, k)

      fatal_case : (t : ℕ) (b : Bool) → (t == who) ≡ b → a.accepted_fatal t
          + one_if (if b then raised fatal (s.table.task who) else s.table.task t).fatal
          ≤ a.raised_fatal t + one_if (b && fatal)
      fatal_case t true q =
          let e : t ≡ who = grind (arith, nat_tests) in
          subst (λ (i : ℕ). a.accepted_fatal i + one_if (fatal || (s.table.task who).fatal)
          ≤ a.raised_fatal i + one_if (true && fatal)) (sym e)
          (by fatal (s.table.task who).fatal (a.accepted_fatal who) (a.raised_fatal who) (h.fatals who))
      fatal_case t false q = let k = h.fatals t in omega arith

  -- a signal that is accepted
  accepted_signals : (x : Taken) (found : ℕ) → IsLawful (s.table.task me) → x ≡ taken_of (s.table.task me)
      → AcceptsRaised (after_event s me g (event.Accept x)) (accounted s a (ran.Made me (event.Accept x) found))
  accepted_signals x found l is = record {
    signals = λ t. two_puts (λ (u : TaskRecord) (k : ℕ). k + one_if u.signal ≤ a.raised t + 0) s.table.task a.accepted
        me _ _ t (λ e. let c = taken_counts (s.table.task me) l in let k = h.signals me in
        rw (is, e) (omega (arith, c.0, k)))
        (λ _. let k = h.signals t in omega arith);
    fatals = λ t. two_puts (λ (u : TaskRecord) (k : ℕ). k + one_if u.fatal ≤ a.raised_fatal t + 0) s.table.task
        a.accepted_fatal me _ _ t (λ e. let c = taken_counts (s.table.task me) l in let k = h.fatals me in
        rw (is, e) (omega (arith, c.1, k)))
        (λ _. let k = h.fatals t in omega arith);
  }

  silent_made : (e : Event) (found : ℕ) → IsSilent e
      → AcceptsRaised (after_event s me g e) (accounted s a (ran.Made me e found))
  silent_made e found i = record {
    signals = λ t. let n = silent_adds e t i in let u = silent_signals s me g e t i in
        rw (put_more a.accepted me (accepts e) t n.0, u.0, n.2) (let k = h.signals t in omega arith);
    fatals = λ t. let n = silent_adds e t i in let u = silent_signals s me g e t i in
        rw (put_more a.accepted_fatal me (accepts_fatal e) t n.1, u.1, n.3) (let k = h.fatals t in omega arith);
  }

  pub made_signals : (e : Event) (found : ℕ) → IsLawful (s.table.task me) → Allows s me e
      → AcceptsRaised (after_event s me g e) (accounted s a (ran.Made me e found))
  made_signals (event.Signal who fatal) found l al = raised_signals who fatal found
  made_signals (event.Accept x) found l al = accepted_signals x found l al
  made_signals e found l al = silent_made e found tt

-- an account that fits a state
pub record IsAccounted (s : State) (a : Account) : Type 0 where
  pub turn : (t : ℕ) → TurnAt (s.progress t) t (a.trail t)
  pub chosen : (t : ℕ) → ChosenAt (s.progress t) (a.selected t)
  pub off : (t : ℕ) → OffAt (s.progress t) (a.unqueued t)
  pub broken : (t : ℕ) → BrokenAt (s.progress t) (a.trail t)
  pub signals : AcceptsRaised s a

opened_accounted : (s : State) (a : Account) (me : ℕ) (call : Call) → IsAccounted s a
    → IsAccounted (happens s (ran.Opened me call)) (accounted s a (ran.Opened me call))
opened_accounted s a me call h = record {
  turn = λ t. put_at (λ p. TurnAt p t (a.trail t)) s.progress me _ t (λ _. start_turn call t (a.trail t))
      (λ _. h.turn t);
  chosen = λ t. two_puts ChosenAt s.progress a.selected me _ _ t (λ _. start_chosen call) (λ _. h.chosen t);
  off = λ t. two_puts OffAt s.progress a.unqueued me _ _ t (λ _. start_off call) (λ _. h.off t);
  broken = λ t. put_at (λ p. BrokenAt p (a.trail t)) s.progress me _ t (λ _. start_broken call (a.trail t))
      (λ _. h.broken t);
  signals = record { signals = h.signals.signals; fatals = h.signals.fatals };
}

module _ (s : State) (n me : ℕ) (e : Event) (found : ℕ) (a : Account) (sound : IsSound s n) where
  own_turn : (q : Progress) → s.progress me ≡ q → Continues s me q e found → TurnAt q me (a.trail me)
      → TurnAt (progress_after s me q) me (e ∷ a.trail me)
  own_turn now.Fresh is c h = absurd c
  own_turn now.Idle is c h = absurd c
  own_turn (now.Open call p) is c h =
      subst (λ (x : Event). TurnAt (progress_after s me (now.Open call p)) me (x ∷ a.trail me)) (sym c.0)
      (turn_step s me call (a.trail me) p (subst (IsSoundCall n) is (sound.calls me)).fitted h)

  own_broken : (q : Progress) → s.progress me ≡ q → Continues s me q e found → BrokenAt q (a.trail me)
      → BrokenAt (progress_after s me q) (e ∷ a.trail me)
  own_broken now.Fresh is c h = absurd c
  own_broken now.Idle is c h = absurd c
  own_broken (now.Open call p) is c h =
      subst (λ (x : Event). BrokenAt (progress_after s me (now.Open call p)) (x ∷ a.trail me)) (sym c.0)
      (broken_step s me call (a.trail me) p (subst (IsSoundCall n) is (sound.calls me)).fitted h)

  own_chosen : (q : Progress) → s.progress me ≡ q → Continues s me q e found → ChosenAt q (a.selected me)
      → ChosenAt (progress_after s me q) (a.selected me + event_selects s e)
  own_chosen now.Fresh is c h = absurd c
  own_chosen now.Idle is c h = absurd c
  own_chosen (now.Open call p) is c h =
      subst (λ (x : Event). ChosenAt (progress_after s me (now.Open call p)) (a.selected me + event_selects s x))
      (sym c.0) (chosen_step s n me call (a.selected me) sound p
      (subst (λ (x : Progress). IsPlaced s.table.entry (s.table.view me) me x) is (sound.placed me)) h)

  own_off : (q : Progress) → s.progress me ≡ q → Continues s me q e found → OffAt q (a.unqueued me)
      → OffAt (progress_after s me q) (a.unqueued me + unqueues e)
  own_off now.Fresh is c h = absurd c
  own_off now.Idle is c h = absurd c
  own_off (now.Open call p) is c h =
      subst (λ (x : Event). OffAt (progress_after s me (now.Open call p)) (a.unqueued me + unqueues x)) (sym c.0)
      (off_step s me call (a.unqueued me) p h)

  pub made_accounted : IsItem s (ran.Made me e found) → IsAccounted s a
      → IsAccounted (happens s (ran.Made me e found)) (accounted s a (ran.Made me e found))
  made_accounted item h =
      let m : IsMade s n me (s.progress me) e = made_of s n me e found sound item.0 (s.progress me) refl item.1
      in
      let sig = made_signals s me (given_by (s.progress me)) a h.signals e found (sound.lawful me) m.allows in
      record {
        turn = λ t. two_puts (λ (p : Progress) (l : List Event). TurnAt p t l) s.progress a.trail me _ _ t
            (λ q. subst (λ (i : ℕ). TurnAt (progress_after s me (s.progress me)) i (e ∷ a.trail me)) (sym q)
            (own_turn (s.progress me) refl item.1 (h.turn me))) (λ _. h.turn t);
        chosen = λ t. two_puts ChosenAt s.progress a.selected me _ _ t
            (λ _. own_chosen (s.progress me) refl item.1 (h.chosen me)) (λ _. h.chosen t);
        off = λ t. two_puts OffAt s.progress a.unqueued me _ _ t
            (λ _. own_off (s.progress me) refl item.1 (h.off me)) (λ _. h.off t);
        broken = λ t. two_puts BrokenAt s.progress a.trail me _ _ t
            (λ _. own_broken (s.progress me) refl item.1 (h.broken me)) (λ _. h.broken t);
        signals = record { signals = sig.signals; fatals = sig.fatals };
      }

-- a whole run
run_accounted : (s : State) (items : List Ran) (n : ℕ) (a : Account) → IsRunFrom s items → IsSound s n
    → n + made_in items ≤ EVENTS → IsAccounted s a → IsAccounted (state_after s items) (account_after s a items)
run_accounted s [] n a r sound few h = h
run_accounted s (ran.Opened me call ∷ items) n a r sound few h =
    run_accounted (happens s (ran.Opened me call)) items n (accounted s a (ran.Opened me call)) r.1
    (opened_sound s n me call sound r.0) few (opened_accounted s a me call h)
run_accounted s (ran.Made me e found ∷ items) n a r sound few h =
    run_accounted (happens s (ran.Made me e found)) items (n + 1) (accounted s a (ran.Made me e found)) r.1
    (made_sound s n me e found sound (omega arith) r.0) (omega arith)
    (made_accounted s n me e found a sound r.0 h)

start_accounted : IsAccounted start_state nothing_done
start_accounted = record {
  turn = λ t. tt;
  chosen = λ t. tt;
  off = λ t. tt;
  broken = λ t. tt;
  signals = record { signals = λ t. omega arith; fatals = λ t. omega arith };
}

pub accounted_of : (run : List Ran) → IsRun run → made_in run ≤ EVENTS
    → IsAccounted (state_of run) (account_of run)
accounted_of run r few = run_accounted start_state run 0 nothing_done r start_sound (omega arith) start_accounted

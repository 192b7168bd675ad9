-- For proofs alone.
-- What is known of permits at each place of a program.
use Rattle.std.specs.Prelude.{ℕ, ◌≡◌, ◌≢◌, ◌≤◌, ◌+◌, ◌⊎◌, Bool, true, false, ◌&&◌, Option, Some, List, [], ◌∷◌}
use Rattle.wait_model.specs.{declared.layout.TheConstants.ALL_DONE, declared.calls.Call.Call}
use Rattle.wait_model.specs.{declared.points.Point.Point, declared.points.Progress.Progress, declared.steps.Step.Step}
use Rattle.wait_model.specs.{declared.watches.Entry.Entry, Runs.State, Runs.own, Tables.Table, Tables.next}
use Rattle.wait_model.specs.{PermitFacts.dealt_in, Watches.same, Watches.stands_at}
use Rattle.wait_model.specs.Permits.{Dealt, HandsOnOf, dealt, done_head}
use Rattle.wait_model.specs.Points.{call_watch, count_of, is_await}
use Rattle.wait_model.specs.declared.points.AwaitPoint.TheVariants as awaiting
use Rattle.wait_model.specs.declared.points.CountPoint.TheVariants as counting
use Rattle.wait_model.specs.declared.points.Point.TheVariants as at
use Rattle.wait_model.specs.declared.points.PreparePoint.TheVariants as preparing
use Rattle.wait_model.specs.declared.points.Progress.TheVariants as now
use Rattle.wait_model.specs.declared.points.SelectPoint.TheVariants as selecting
use Rattle.wait_model.specs.declared.watches.Watch.TheVariants as watch

-- the call is about this completion, and waits for it
abbrev pub is_about : ℕ → Call → Bool
is_about d call = same (call_watch call) (watch.Done d)

abbrev pub about_by : ℕ → Progress → Bool
about_by d (now.Open call p) = is_about d call
about_by d now.Idle = false
about_by d now.Fresh = false

abbrev pub awaits : ℕ → Progress → Bool
awaits d (now.Open call p) = is_await call && is_about d call
awaits d now.Idle = false
awaits d now.Fresh = false

-- a wait that is over takes its permit; one that a signal ended has found none
abbrev pub Settles : Bool → Dealt → Type 0
Settles true w = w.debt ≡ 0
Settles false w = (w.debt ≤ 1)
    × ((r : ℕ) × (w.count ≡ Some r) × (r ≢ 0) × (ALL_DONE ≤ r → w.debt ≡ 0))

-- a `complete` owes the permit that it made until it has taken one entry off
abbrev pub Selects : Call → ℕ → ℕ → Type 0
Selects call n debt = (count_of call ≡ 0) ⊎ ((count_of call ≡ 1) × (debt + n ≤ 1))

abbrev pub Selected : Call → ℕ → ℕ → Type 0
Selected call n debt = (count_of call ≡ 0) ⊎ ((count_of call ≡ 1) × (n ≡ 1) × (debt ≤ 1))

-- a call about the completion, at a point
abbrev pub DealtAt : Call → Point → Dealt → Type 0
DealtAt call (at.Prepare preparing.Look) w = (is_await call ≡ true) × (w.debt ≡ 0) × (w.count ≡ Some 0)
DealtAt call (at.Prepare preparing.Queue) w = (is_await call ≡ true) × (w.debt ≡ 0) × (w.count ≡ Some 0)
DealtAt call (at.Prepare preparing.State) w = (is_await call ≡ true) × (w.debt ≡ 0)
DealtAt call (at.Prepare preparing.Unlock) w = (is_await call ≡ true) × (w.debt ≡ 0)
DealtAt call at.Sleep w = is_await call ≡ true
DealtAt call (at.Await (awaiting.Lock waited)) w = Unit {0}
DealtAt call (at.Await (awaiting.Load waited)) w = w.debt ≤ 1
DealtAt call (at.Await (awaiting.Run stopped)) w = Settles stopped w
DealtAt call (at.Await (awaiting.Off stopped)) w = Settles stopped w
DealtAt call (at.Await (awaiting.Last stopped)) w = Settles stopped w
DealtAt call (at.Await awaiting.Unlock) w = w.debt ≡ 0
DealtAt call (at.Select selecting.Lock) w = is_await call ≡ false
DealtAt call (at.Select selecting.Load) w = (is_await call ≡ false) × (w.debt ≡ 0)
DealtAt call (at.Select selecting.Store) w = (is_await call ≡ false) × (w.debt ≡ 0)
DealtAt call (at.Select (selecting.Next n)) w = (is_await call ≡ false) × Selects call n w.debt
DealtAt call (at.Select (selecting.Off n who)) w = (is_await call ≡ false) × Selected call n w.debt
DealtAt call (at.Count counting.Peek) w = is_await call ≡ false
DealtAt call (at.Count counting.Lock) w = is_await call ≡ false
DealtAt call (at.Count p) w = (is_await call ≡ false) × (w.debt ≡ 0)
DealtAt call p w = ⊥

abbrev pub DealtBy : ℕ → Progress → Dealt → Type 0
DealtBy d (now.Open call p) w = is_about d call ≡ true → DealtAt call p w
DealtBy d now.Idle w = Unit {0}
DealtBy d now.Fresh w = Unit {0}

-- who does not wait for the completion has no entry there and left none, and who is about something else owes nothing
pub record IsDealt (d : ℕ) (entry : ℕ → Option Entry) (t : ℕ) (p : Progress) (w : Dealt) : Type 0 where
  pub bare : awaits d p ≡ false → (w.left ≡ false) × (stands_at (entry (own t)) (done_head d) ≡ false)
  pub calm : about_by d p ≡ false → w.debt ≡ 0
  pub place : DealtBy d p w

-- steps of one task in a row meet the conditions
abbrev pub AllHandOn : ℕ → Table → ℕ → List Step → Type 0
AllHandOn d s a [] = Unit {0}
AllHandOn d s a (e ∷ es) = HandsOnOf d a (s.view a) (dealt d a (s.history a)) e × AllHandOn d (next s a e) a es

abbrev pub AreAllDealt : State → Type 0
AreAllDealt s = (d t : ℕ) → IsDealt d s.table.entry t (s.progress t) (dealt_in s.table d t)

-- Tied by laws to what is to be believed.
-- What makes the law of permits inductive.
use Rattle.std.specs.Prelude.{ℕ, ◌≡◌, ◌<◌, ◌≤◌, ◌+◌, ◌⊎◌, Bool, true, false, not, ◌&&◌, Some, None}
use Rattle.wait_model.specs.{declared.layout.TheConstants.TASKS, declared.steps.Step.Step, Facts.Kept, Fold.view_of}
use Rattle.wait_model.specs.{Rows.Allowed, Runs.own, Totals.sum_below, Views.View, Watches.owner, Watches.stands_at}
use Rattle.wait_model.specs.Words.{flag}
use Rattle.wait_model.specs.Permits.{Dealt, is_in, is_seen, done_head, dealt, HandsOn, PermitsAreHanded}
use Rattle.wait_model.specs.Tables.{Table, next, start}

-- a hold of the head that has looked at the entry
abbrev pub is_settled : ℕ → ℕ → View → Bool
is_settled d x v = is_in d v && is_seen (v.hold.book x)

-- How many permits a task accounts for: what its hold has still to hand on or to take, and one that was handed to it
-- and that no hold of its own has seen yet.
abbrev pub worth_of : Bool → Bool → Dealt → ℕ
worth_of settled stands w = w.debt + flag (w.left && (not settled && not stands))

abbrev pub dealt_in : Table → ℕ → ℕ → Dealt
dealt_in s d a = dealt d a (s.history a)

abbrev pub worth : Table → ℕ → ℕ → ℕ
worth s d a = worth_of (is_settled d (own a) (s.view a)) (stands_at (s.entry (own a)) (done_head d)) (dealt_in s d a)

-- While an entry is queued at the head the count is accounted for. Each such entry is its task's first, and was left
-- there by its last hold, or its hold has seen it. Outside of holds nobody owes anything, and what a hold knows of the
-- count is so.
pub record IsExact (s : Table) (d : ℕ) : Type 0 where
  pub bound : (x : ℕ) → stands_at (s.entry x) (done_head d) ≡ true → s.words.dones d ≤ sum_below TASKS (worth s d)
  pub there : (x : ℕ) → stands_at (s.entry x) (done_head d) ≡ true → (x ≡ own (owner x))
      × ((is_settled d x (s.view (owner x)) ≡ true) ⊎ ((dealt_in s d (owner x)).left ≡ true))
  pub quiet : (a : ℕ) → is_in d (s.view a) ≡ false → ((dealt_in s d a).debt ≡ 0) × ((dealt_in s d a).count ≡ None)
  pub known : (a n : ℕ) → (dealt_in s d a).count ≡ Some n → s.words.dones d ≡ n

-- the view of each task is that of its history
abbrev pub AreViewsTold : Table → Type 0
AreViewsTold s = (a : ℕ) → s.view a ≡ view_of (s.history a)

pub record IsAccounted (s : Table) : Type 0 where
  pub views : AreViewsTold s
  pub exact : (d : ℕ) → IsExact s d

-- the law of one step, by a task that there is
abbrev pub PermitsStayAccounted : Type 0
PermitsStayAccounted = (s : Table) (a : ℕ) (e : Step) → a < TASKS → Kept s → Allowed s a e → HandsOn s a e
    → IsAccounted s → IsAccounted (next s a e)

abbrev pub PermitsStartAccounted : Type 0
PermitsStartAccounted = IsAccounted start

-- who accounts for the permits hands them on
abbrev pub AccountedAreHanded : Type 0
AccountedAreHanded = (s : Table) → Kept s → IsAccounted s → PermitsAreHanded s

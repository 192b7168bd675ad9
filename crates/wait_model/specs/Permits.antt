-- To be believed.
-- Permits of completions are handed on exactly: while a task is queued at a completion's head, the count is no more
-- than what was handed to tasks that have still to take it.
use Rattle.std.specs.Prelude.{ℕ, ◌≡◌, ◌≢◌, ◌<◌, ◌≤◌, ◌+◌, ◌-◌, ◌⊎◌, Bool, true, false, not, ◌&&◌, ◌||◌, ◌==◌}
use Rattle.std.specs.Prelude.{if◌then◌else◌, nat_le, Option, Some, None, List, [], ◌∷◌}
use Rattle.wait_model.specs.{declared.calls.Ran.Ran, declared.watches.Entry.Entry, declared.steps.Step.Step, Fold.after}
use Rattle.wait_model.specs.{Fold.holding, Tables.Table, Totals.sum_below, Watches.head_of, Watches.stands_at}
use Rattle.wait_model.specs.{Words.entry_of, Words.flag}
use Rattle.wait_model.specs.declared.layout.TheConstants.{TASKS, ENTRIES, ALL_DONE, EVENTS}
use Rattle.wait_model.specs.Runs.{own, IsRun, state_of, made_in}
use Rattle.wait_model.specs.Views.{View, Look, unseen, shown, blank}
use Rattle.wait_model.specs.declared.watches.Watch.TheVariants as watch
use Rattle.wait_model.specs.declared.steps.Step.TheVariants as step

-- the head of a completion
abbrev pub done_head : ℕ → ℕ
done_head d = head_of (watch.Done d)

-- the hold's book shows an entry at the head
abbrev pub shows_at : ℕ → Look → Bool
shows_at h (shown e) = head_of e.watch == h
shows_at h _ = false

-- Whether the last hold of the head that a task gave back left its entry x there. The step is made in the view v.
abbrev pub leaves : ℕ → ℕ → View → Bool → Step → Bool
leaves h x v was (step.Unlock i spent) = if i == h then shows_at h (v.hold.book x) else was
leaves h x v was _ = was

-- What a task knows of a completion by its own history: whether it left its entry queued, and in a hold of the head
-- how many permits the hold has still to hand on or to take, and the count as the hold last read or left it.
pub record Dealt : Type 0 where
  pub left : Bool
  pub debt : ℕ
  pub count : Option ℕ

-- the task has been handed a permit: its last hold left its entry there, and another took it off since
abbrev pub is_handed : Dealt → Bool → Bool
is_handed w stands = w.left && not stands

-- the task is in a hold of the completion's head
abbrev pub is_in : ℕ → View → Bool
is_in d v = holding v.hold.head (done_head d)

-- the hold has looked at the entry word, or written it
abbrev pub is_seen : Look → Bool
is_seen unseen = false
is_seen _ = true

-- the look finds the own entry off that the last hold left there: its permit is the task's to take
abbrev pub finds_handed : ℕ → ℕ → View → Dealt → ℕ → Option Entry → Bool
finds_handed d x v w y found = (is_in d v && (y == x))
    && (w.left && (not (is_seen (v.hold.book x)) && not (stands_at found (done_head d))))

-- A load of 0 shows that there are no permits, and one of the end that nobody is queued. The hold may have raised the
-- count to its end itself: then its debt is large.
abbrev pub after_read : ℕ → ℕ → ℕ
after_read found debt = if (found == 0) || (nat_le ALL_DONE found && nat_le debt 1) then 0 else debt

-- a store makes as many permits as it raises the count by, and takes as many as it lowers it by
abbrev pub after_store : ℕ → ℕ → ℕ → ℕ
after_store value found debt = if value == 0 then 0 else debt + value - found

abbrev pub debt_after : ℕ → ℕ → View → Dealt → Step → ℕ
debt_after d x v w (step.Lock h aim found) = if h == done_head d then 0 else w.debt
debt_after d x v w (step.Unlock h spent) = if h == done_head d then 0 else w.debt
debt_after d x v w (step.Saw y found) = w.debt + flag (finds_handed d x v w y (entry_of found))
debt_after d x v w (step.Unqueue y) = w.debt - flag (not (y == x))
debt_after d x v w (step.Load (watch.Done c) found) = if c == d then after_read found w.debt else w.debt
debt_after d x v w (step.Publish (watch.Done c) value found) = if c == d then after_store value found w.debt
    else w.debt
debt_after d x v w (step.Consume (watch.Done c) value found) = if c == d then after_store value found w.debt
    else w.debt
debt_after d x v w _ = w.debt

abbrev pub count_after : ℕ → View → Option ℕ → Step → Option ℕ
count_after d v was (step.Lock h aim found) = if h == done_head d then None else was
count_after d v was (step.Unlock h spent) = if h == done_head d then None else was
count_after d v was (step.Load (watch.Done c) found) = if (c == d) && is_in d v then Some found else was
count_after d v was (step.Publish (watch.Done c) value found) = if c == d then Some value else was
count_after d v was (step.Consume (watch.Done c) value found) = if c == d then Some value else was
count_after d v was _ = was

-- one more step of the task whose entry is x
abbrev pub deals : ℕ → ℕ → View → Dealt → Step → Dealt
deals d x v w e = record {
  left = leaves (done_head d) x v w.left e;
  debt = debt_after d x v w e;
  count = count_after d v w.count e;
}

abbrev pub none_dealt : Dealt
none_dealt = record { left = false; debt = 0; count = None }

-- more steps, oldest first, and a history
abbrev pub deals_all : ℕ → ℕ → View → Dealt → List Step → Dealt
deals_all d x v w [] = w
deals_all d x v w (e ∷ es) = deals_all d x (after e v) (deals d x v w e) es

abbrev pub dealt : ℕ → ℕ → List Step → Dealt
dealt d a es = deals_all d (own a) blank none_dealt es

-- how many tasks have been handed a permit of completion d
abbrev pub handed_to : Table → ℕ → ℕ
handed_to s d = sum_below TASKS
    (λ a. flag (is_handed (dealt d a (s.history a)) (stands_at (s.entry (own a)) (done_head d))))

-- While the head is free and an entry is queued there, the count is at most that. A task has not locked a free head
-- since the last hold of it that it gave back, so whom `is_handed` counts has still to come for the permit.
abbrev pub PermitsAreHanded : Table → Type 0
PermitsAreHanded s = (d x : ℕ) → s.holder (done_head d) ≡ false → stands_at (s.entry x) (done_head d) ≡ true
    → s.words.dones d ≤ handed_to s d

-- the hold's book shows nobody at the head
abbrev pub ShowsNobody : ℕ → View → Type 0
ShowsNobody h v = (x : ℕ) → x < ENTRIES → (v.hold.book x ≢ unseen) × (shows_at h (v.hold.book x) ≡ false)

-- A hold ends after a look at the own entry, if the last one left it there, and with no debt or with nobody queued.
abbrev pub MayGiveBack : ℕ → ℕ → View → Dealt → Type 0
MayGiveBack d x v w = (w.left ≡ true → v.hold.book x ≢ unseen) × ((w.debt ≡ 0) ⊎ ShowsNobody (done_head d) v)

-- The conditions of single steps, beside those of `Rows`: only an unlock of a completion's head and an add there have
-- one. A task waits there by the first of its entries, in a hold in which the count is known to be 0.
abbrev pub HandsOnOf : ℕ → ℕ → View → Dealt → Step → Type 0
HandsOnOf d a v w (step.Unlock h spent) = h ≡ done_head d → MayGiveBack d (own a) v w
HandsOnOf d a v w (step.Queue x e) = head_of e.watch ≡ done_head d → (x ≡ own a) × (w.count ≡ Some 0)
HandsOnOf d a v w _ = Unit {0}

abbrev pub HandsOn : Table → ℕ → Step → Type 0
HandsOn s a e = (d : ℕ) → HandsOnOf d a (s.view a) (dealt d a (s.history a)) e

-- in every state that a run reaches, for a million events and less
abbrev pub EveryRunHandsPermitsOn : Type 0
EveryRunHandsPermitsOn = (run : List Ran) → IsRun run → made_in run ≤ EVENTS → PermitsAreHanded (state_of run).table

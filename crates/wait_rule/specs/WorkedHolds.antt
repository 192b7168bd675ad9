-- A check of the definitions.
-- Worked histories of holds: what the definitions say of small ones.
use Rattle.std.specs.Prelude.{◌+◌, ◌-◌, ℕ, zero, suc, ◌≡◌, Bool, true, false, Option, Some, None, List, [], ◌∷◌, ◌++◌}
use Rattle.atomic_table.specs.Seated.{TableId}
use Rattle.wait_model.specs.{declared.watches.Watch.Watch, declared.watches.Aim.Aim, declared.watches.Entry.Entry}
use Rattle.wait_model.specs.{declared.steps.Step.Step, Tasks.meets, Words.entry_word, Fold.view_of}
use Rattle.wait_model.specs.declared.layout.TheConstants.{TASKS, ENTRIES, FIRST_SIMPLE, COMPLETIONS, FIRST_PLAIN_HEAD}
use Rattle.wait_model.specs.declared.layout.TheConstants.{FIRST_SIMPLE_HEAD, HEADS, FIRST_PLACE, UNINTERRUPTIBLE}
use Rattle.wait_model.specs.declared.layout.TheConstants.{NORMAL, RUNNABLE}
use Rattle.wait_model.specs.declared.watches.Watch.TheVariants as watch
use Rattle.wait_model.specs.declared.watches.Mode.TheVariants as mode
use Rattle.wait_model.specs.declared.watches.Kind.TheVariants as kind
use Rattle.wait_model.specs.declared.steps.Step.TheVariants as step
use Rattle.wait_rule.specs.{declared.journal.Item.Item, Notes.notes_of, Journals.pushed, Journals.fresh, Known.Known}
use Rattle.wait_rule.specs.{Known.known, Queues.Resumes, Queues.walk_of_hold}
use Rattle.wait_rule.specs.declared.journal.Item.TheVariants as item

-- the first n entry words are looked at, and each is off
abbrev pub sees_none : ℕ → List Step
sees_none zero = []
sees_none (suc n) = step.Saw n 0 ∷ sees_none n

-- no wake is owed to a task in a state that NORMAL meets
abbrev pub OwesNoWake : List Step → Type 0
OwesNoWake es = (c : Watch) (σ : ℕ) → meets NORMAL σ ≡ true → (view_of es).duty.owes c σ ≡ false

-- The first simple condition is published, and then a hold of its head, which is given no walk, finds the queue empty:
-- the wake is
-- owed before the unlock, and nothing is after it.
abbrev pub woke_simple : List Step
woke_simple = step.Publish (watch.Plain FIRST_SIMPLE) 1 0 ∷ step.Lock FIRST_SIMPLE_HEAD
    (walk_of_hold FIRST_SIMPLE_HEAD None) 0 ∷ sees_none ENTRIES

-- the same of the last completion, whose count is raised in the hold
abbrev pub woke_done : List Step
woke_done = step.Lock (HEADS - 1) (walk_of_hold (HEADS - 1) None) 0 ∷ step.Publish (watch.Done (COMPLETIONS - 1)) 1 0
    ∷ sees_none ENTRIES

pub record SimpleHolds : Type 0 where
  pub owed : (view_of woke_simple).duty.owes (watch.Plain FIRST_SIMPLE) 1 ≡ true
  pub ends : OwesNoWake (woke_simple ++ step.Unlock FIRST_SIMPLE_HEAD false ∷ [])
  pub done_owed : (view_of woke_done).duty.owes (watch.Done (COMPLETIONS - 1)) 1 ≡ true
  pub done_ends : OwesNoWake (woke_done ++ step.Unlock (HEADS - 1) false ∷ [])

-- Two entries of task 1, of which task 0 walks: one stands before the place of a bookmark, one after it.
abbrev pub worked_entry : ℕ → ℕ → Bool → Entry
worked_entry cond place exclusive = record {
  watch = watch.Plain cond;
  place = place;
  exclusive = exclusive;
  priority = false;
  kind = kind.Default;
}

-- a hold of the condition's head sees them; each is exclusive or not
abbrev pub sees_both : ℕ → Bool → Bool → List Item
sees_both cond first second = item.Made (step.Saw 2 (entry_word (Some (worked_entry cond FIRST_PLACE first))))
    ∷ item.Made (step.Saw 3 (entry_word (Some (worked_entry cond (FIRST_PLACE + 2) second)))) ∷ []

abbrev pub aim_for : ℕ → ℕ → Aim
aim_for cond count = record { watch = watch.Plain cond; mode = mode.Normal; count = count }

abbrev pub lock_for : Option Aim → Item
lock_for walk = item.Made (step.Lock FIRST_PLAIN_HEAD walk 0)

abbrev pub unlock_item : Item
unlock_item = item.Made (step.Unlock FIRST_PLAIN_HEAD false)

-- a wake of task 1 that meets its state, and one that finds it RUNNING
abbrev pub meets_it : Item
meets_it = item.Made (step.Wake 1 NORMAL UNINTERRUPTIBLE)

abbrev pub misses_it : Item
misses_it = item.Made (step.Wake 1 NORMAL RUNNABLE)

-- one hold, before its first wake
abbrev pub hold_of : ℕ → Bool → Bool → List Item
hold_of count first second = lock_for (Some (aim_for 0 count)) ∷ sees_both 0 first second

-- a hold passes the first entry, whose task it finds RUNNING, and breaks before the second
abbrev pub broken : ℕ → Bool → Bool → List Item
broken count first second = hold_of count first second
    ++ misses_it ∷ item.Made (step.Mark FIRST_PLAIN_HEAD (FIRST_PLACE + 1)) ∷ unlock_item ∷ []

-- the next hold, before its first wake: the bookmark is taken out first, or still out
abbrev pub resumed_items : ℕ → Bool → Bool → List Item
resumed_items count first second = broken count first second
    ++ lock_for (Some (aim_for 0 count)) ∷ item.Made step.Unmark ∷ sees_both 0 first second

abbrev pub marked_still : ℕ → Bool → Bool → List Item
marked_still count first second = broken count first second ++ hold_of count first second

-- what is left of the count of the walk, none where it is used up, and whether a rise of the spent count is allowed
abbrev pub aim_count : Option Aim → Option ℕ
aim_count None = None
aim_count (Some a) = Some a.count

abbrev pub IsLeft : List Item → Option ℕ → Bool → Type 0
IsLeft xs count used = (aim_count (notes_of 0 xs).walk ≡ count) × ((notes_of 0 xs).used ≡ used)

-- A wake calls the first entry of its task that the hold shows where its walk goes on or after, and has not called.
pub record CallsRightly : Type 0 where
  -- after a break the first entry is passed, and the wake calls the second
  pub first_1 : IsLeft (resumed_items 1 true false ++ meets_it ∷ []) (Some 1) false
  pub first_2 : IsLeft (resumed_items 2 true false ++ meets_it ∷ []) (Some 2) false
  pub second_1 : IsLeft (resumed_items 1 false true ++ meets_it ∷ []) None true
  pub second_2 : IsLeft (resumed_items 2 false true ++ meets_it ∷ []) (Some 1) false
  pub running : IsLeft (resumed_items 1 false true ++ misses_it ∷ []) (Some 1) false
  -- so it is with the bookmark still out
  pub still_first : IsLeft (marked_still 1 true false ++ meets_it ∷ []) (Some 1) false
  pub still_second : IsLeft (marked_still 1 false true ++ meets_it ∷ []) None true
  pub still_both : IsLeft (marked_still 2 true true ++ meets_it ∷ []) (Some 1) false
  -- in one hold the wakes call the first, and then the second
  pub one_first : IsLeft (hold_of 1 true false ++ meets_it ∷ []) None true
  pub one_second : IsLeft (hold_of 1 false true ++ meets_it ∷ []) (Some 1) false
  pub two_second : IsLeft (hold_of 1 false true ++ meets_it ∷ meets_it ∷ []) None true
  pub one_both : IsLeft (hold_of 2 true true ++ meets_it ∷ []) (Some 1) false
  pub two_both : IsLeft (hold_of 2 true true ++ meets_it ∷ meets_it ∷ []) None true
  pub three_both : IsLeft (hold_of 3 true true ++ meets_it ∷ meets_it ∷ meets_it ∷ []) (Some 1) false
  -- a hold of no walk between changes nothing
  pub between : IsLeft (broken 1 true false ++ lock_for None ∷ unlock_item ∷ hold_of 1 true false ++ meets_it ∷ [])
      (Some 1) false
  -- a walk of another head does not go on at the bookmark
  pub elsewhere : IsLeft (broken 1 true true ++ item.Made (step.Lock (FIRST_PLAIN_HEAD + 1) (Some (aim_for 1 1)) 0)
      ∷ sees_both 1 true false ++ meets_it ∷ []) None true

-- the walk that is paused, with what is left of its count
abbrev pub IsPaused : List Item → Option Aim → Type 0
IsPaused xs walk = (notes_of 0 xs).paused ≡ walk

-- task 0 with this list
abbrev pub task_with : TableId → List Item → Known
task_with d xs = known d (pushed (fresh 0 1 (TASKS - 1)) xs) FIRST_PLAIN_HEAD

-- the second hold selects the second entry with its bookmark still out, and gives the lock back
abbrev pub selected : ℕ → List Item
selected count = marked_still count false true ++ meets_it ∷ unlock_item ∷ []

-- What a hold selects is taken from the walk that it goes on with, also where it leaves its bookmark out.
pub record PausesRightly : Type 0 where
  pub broke : IsPaused (broken 2 false true) (Some (aim_for 0 2))
  pub chosen : IsPaused (selected 2) (Some (aim_for 0 1))
  pub last : IsPaused (selected 1) None
  pub unlimited : IsPaused (selected 0) (Some (aim_for 0 0))
  -- the next hold goes on with what is left, and not with the whole count
  pub resumes : (d : TableId) → Resumes (task_with d (selected 2)) FIRST_PLAIN_HEAD (Some (aim_for 0 1))
  pub not_whole : (d : TableId) (n : ℕ) → Resumes (task_with d (selected 2)) FIRST_PLAIN_HEAD (Some (aim_for 0 n))
      → n ≡ 1
  pub not_over : (d : TableId) (n : ℕ) → Resumes (task_with d (selected 1)) FIRST_PLAIN_HEAD (Some (aim_for 0 n)) → ⊥
  pub third : IsLeft (selected 2 ++ hold_of 1 false true ++ meets_it ∷ []) None true
  -- a hold of no walk, and one of another head, leave it as it was
  pub no_walk : IsPaused (broken 2 false true ++ lock_for None ∷ unlock_item ∷ []) (Some (aim_for 0 2))
  pub elsewhere : IsPaused (broken 2 false true ++ item.Made (step.Lock (FIRST_PLAIN_HEAD + 1) (Some (aim_for 1 1)) 0)
      ∷ sees_both 1 true false ++ meets_it ∷ item.Made (step.Unlock (FIRST_PLAIN_HEAD + 1) true) ∷ [])
      (Some (aim_for 0 2))

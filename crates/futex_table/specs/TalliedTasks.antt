-- To be believed.
-- What is known of a tally under a mutex by the histories that a task has: its own, and those of the tasks that it joined.
use Rattle.std.specs.Prelude.{ℕ, ◌+◌, ◌-◌, ◌%◌, ◌^◌, ◌<◌, ◌≤◌, ◌≡◌, ◌≢◌, true, Some}
use Rattle.wait_model.specs.{declared.layout.TheConstants.TASKS, Totals.sum_below}
use Rattle.wait_rule.specs.{declared.journal.Journal.Journal, Journals.fresh, Journals.owns, Known.Known}
use Rattle.wait_rule.specs.{Says.history_of, TableLaws.histories_in}
use Rattle.futex_table.specs.{GuardedTallies.AllUseTally, GuardedTallies.adds_in, GuardedWords.read_in}

-- By the histories that a journal has, tasks use mutex m and tally c as they should, where task o opens the mutex, and
-- added to the tally n times. It has h numbers of tasks, its own, spare and joined ones, and none twice.
pub record TallyHad (v : Journal) (m c o n h : ℕ) : Type 0 where
  pub uses : AllUseTally m c o (histories_in v)
  pub adds : adds_in c (histories_in v) ≡ n
  pub numbers : sum_below TASKS (λ t. owns t v) ≡ h
  pub sole : (t : ℕ) → owns t v ≤ 1
  pub lives : v.lives ≡ true
  pub low : v.number < TASKS
  pub room : v.next + v.spare ≤ TASKS

-- so it is of a task
unfoldable pub HasTallied : Known → ℕ → ℕ → ℕ → ℕ → ℕ → Type 0
HasTallied k m c o n h = TallyHad k.view m c o n h

-- The task has loaded w from the tally since it took the mutex, or stored it there behind that.
unfoldable pub HasReadTally : Known → ℕ → ℕ → ℕ → Type 0
HasReadTally k m c w = read_in m c (history_of k) ≡ Some w

-- The first task of a Domain, to which all other numbers are spare, opens mutex m before it has done anything else.
abbrev pub StartsTallies : ℕ → Known → Known → Type 0
StartsTallies m old new = (c : ℕ) → old.view ≡ fresh 0 1 (TASKS - 1) → c ≢ m → HasTallied new m c 0 0 TASKS

-- A call that is about word w leaves what is known of every other tally.
abbrev pub StayTallied : ℕ → Known → Known → Type 0
StayTallied w old new = (m c o n h : ℕ) → c ≢ w → HasTallied old m c o n h → HasTallied new m c o n h

abbrev pub StayTalliedApart : ℕ → Known → Known → Type 0
StayTalliedApart w old new = (m c o n h : ℕ) → m ≢ w → c ≢ w → HasTallied old m c o n h → HasTallied new m c o n h

-- It adds to tally c once.
abbrev pub CountsAdd : ℕ → ℕ → Known → Known → Type 0
CountsAdd m c old new = (o n h : ℕ) → HasTallied old m c o n h → HasTallied new m c o (n + 1) h

-- A task is cut off another with so many numbers: it has added nothing, and the other keeps what it knew, with the rest
-- of the numbers.
abbrev pub CutOffTallied : ℕ → Known → Known → Type 0
CutOffTallied g old new = (m c o n h : ℕ) → HasTallied old m c o n h → HasTallied new m c o 0 g

abbrev pub LeftTallied : ℕ → Known → Known → Type 0
LeftTallied g old new = (m c o n h : ℕ) → HasTallied old m c o n h → HasTallied new m c o n (h - g)

-- A task takes another in: it has what both had.
abbrev pub JoinsTallied : Known → Known → Known → Type 0
JoinsTallied old other new = (m c o a b h g n k : ℕ) → HasTallied old m c o a h → HasTallied other m c o b g
    → n ≡ a + b → k ≡ h + g → HasTallied new m c o n k

-- Where both had all numbers between them, what the first one had read in the tally under the mutex is the number of
-- adds of all tasks, modulo 2^64.
abbrev pub ReadsAllAdds : Known → Known → Type 0
ReadsAllAdds old other = (m c o a b h g w : ℕ) → HasTallied old m c o a h → HasTallied other m c o b g
    → HasReadTally old m c w → h + g ≡ TASKS → w ≡ (a + b) % 2 ^ 64

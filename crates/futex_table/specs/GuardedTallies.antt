-- To be believed.
-- A tally under a mutex: a word to which the holders of the mutex alone add, each one more than it has read there. It
-- counts the adds of all tasks.
use Rattle.std.specs.Prelude.{ℕ, ◌+◌, ◌%◌, ◌^◌, ◌<◌, ◌≡◌, ◌==◌, ◌&&◌, ◌||◌, not, Bool, true, false, Option, Some, None, List, [], ◌∷◌}
use Rattle.wait_model.specs.{declared.layout.TheConstants.TASKS, declared.steps.Step.Step, Tables.Table}
use Rattle.wait_model.specs.{Totals.total_below, Words.flag}
use Rattle.wait_model.specs.declared.steps.Step.TheVariants as step
use Rattle.wait_model.specs.declared.watches.Watch.TheVariants as watch
use Rattle.wait_rule.specs.{declared.journal.Item.Item, declared.journal.Journal.Journal, Rule.IsRuled, Says.IsShown}
use Rattle.wait_rule.specs.{TableLaws.HasAll, TableLaws.histories_in}
use Rattle.wait_rule.specs.Interleavings.{AreAllowed, TaskStep, table_of}
use Rattle.futex_table.specs.{Holding.holds_after, GuardedWords.read_after, GuardedWords.read_in, OneHolder.stores_word}

-- A step of a task that uses mutex m and tally c, by whether it has still to open the mutex, whether it holds it, and
-- what it has read in the tally since it took it. In the mutex's word it stores 1, which it holds or opens by that; in
-- the tally one more than it has read, modulo 2^64; and it takes nothing from the tally.
abbrev pub IsTallyStep : ℕ → ℕ → Bool → Bool → Option ℕ → Step → Type 0
IsTallyStep m c opens held read (step.Publish (watch.Plain d) n r) =
    ((d == m) ≡ true → (n ≡ 1) × ((held || opens) ≡ true))
    × ((d == c) ≡ true → (v : ℕ) × (read ≡ Some v) × (n ≡ (v + 1) % 2 ^ 64))
IsTallyStep m c opens held read (step.Consume (watch.Plain d) n r) = (d == c) ≡ false
IsTallyStep m c opens held read e = Unit {0}

-- the mutex is opened by the first store in its word
abbrev pub opens_after : ℕ → Step → Bool → Bool
opens_after m e b = b && not (stores_word m e)

-- so is each of these steps, the oldest first
abbrev pub AreTallySteps : ℕ → ℕ → Bool → Bool → Option ℕ → List Step → Type 0
AreTallySteps m c opens held read [] = Unit {0}
AreTallySteps m c opens held read (e ∷ es) = IsTallyStep m c opens held read e
    × AreTallySteps m c (opens_after m e opens) (holds_after m e held) (read_after m c e held read) es

abbrev pub UsesTally : ℕ → ℕ → Bool → List Step → Type 0
UsesTally m c opens es = AreTallySteps m c opens false None es

-- All tasks use the mutex and the tally so, and this one opens the mutex.
abbrev pub AllUseTally : ℕ → ℕ → ℕ → (ℕ → List Step) → Type 0
AllUseTally m c opener history = (t : ℕ) → t < TASKS → UsesTally m c (t == opener) (history t)

-- how many adds to the tally are in these histories
abbrev pub tally_adds : ℕ → Step → ℕ
tally_adds c e = flag (stores_word c e)

abbrev pub adds_in : ℕ → (ℕ → List Step) → ℕ
adds_in c history = total_below TASKS (λ e. tally_adds c e) history

-- Then the tally is the number of adds of all tasks, modulo 2^64: after each step of each order of allowed steps, in
-- each table that meets the rule of a Domain, and in the one that a task sees that has joined all others, by the
-- histories that it has.
abbrev pub CountsAdds : Table → ℕ → Type 0
CountsAdds s c = s.words.plains c ≡ adds_in c s.history % 2 ^ 64

abbrev pub StepsCountAdds : Type 0
StepsCountAdds = (xs : List TaskStep) → AreAllowed xs → (m c opener : ℕ)
    → AllUseTally m c opener (table_of xs).history → CountsAdds (table_of xs) c

abbrev pub RuleCountsAdds : Type 0
RuleCountsAdds = (s : Table) (items : ℕ → List Item) → IsRuled s items → (m c opener : ℕ)
    → AllUseTally m c opener s.history → CountsAdds s c

abbrev pub AllCountAdds : Type 0
AllCountAdds = (v : Journal) (law : IsShown v) → HasAll v → (m c opener : ℕ)
    → AllUseTally m c opener (histories_in v) → law.table.words.plains c ≡ adds_in c (histories_in v) % 2 ^ 64

-- So what a task has read in the tally that has joined all others and holds the mutex is the number of adds in the
-- histories that it has.
abbrev pub AllReadAdds : Type 0
AllReadAdds = (v : Journal) → IsShown v → HasAll v → (m c opener : ℕ) → AllUseTally m c opener (histories_in v)
    → (t n : ℕ) → t < TASKS → read_in m c (histories_in v t) ≡ Some n → n ≡ adds_in c (histories_in v) % 2 ^ 64

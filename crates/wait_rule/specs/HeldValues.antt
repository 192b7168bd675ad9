-- To be believed.
-- What a hold has found or left in the word of a condition; a done count stands so while its head is held.
use Rattle.std.specs.Prelude.{ℕ, ◌≡◌, if◌then◌else◌, Option, Some, None, List, [], ◌∷◌}
use Rattle.wait_model.specs.{declared.watches.Watch.Watch, declared.steps.Step.Step, Watches.same, Watches.head_of}
use Rattle.wait_model.specs.Tables.{Table}
use Rattle.wait_model.specs.declared.watches.Watch.TheVariants as watch
use Rattle.wait_model.specs.declared.steps.Step.TheVariants as step

-- the value of a condition, where this hold has loaded or stored it
abbrev pub value_after : Watch → Step → Option ℕ → Option ℕ
value_after c (step.Lock h aim w) o = None
value_after c (step.Load l r) o = if same l c then Some r else o
value_after c (step.Publish l n r) o = if same l c then Some n else o
value_after c (step.Consume l n r) o = if same l c then Some n else o
value_after c _ o = o

abbrev pub value_from : Watch → Option ℕ → List Step → Option ℕ
value_from c o [] = o
value_from c o (e ∷ es) = value_from c (value_after c e o) es

-- the done count that the latest hold has loaded or stored last
abbrev pub count_in : ℕ → List Step → Option ℕ
count_in d es = value_from (watch.Done d) None es

-- While a task holds the head of a completion, its done count is what the hold has loaded or stored last.
abbrev pub CountsStand : Table → Type 0
CountsStand s = (a d n : ℕ) → (s.view a).hold.head ≡ Some (head_of (watch.Done d))
    → count_in d (s.history a) ≡ Some n → s.words.dones d ≡ n

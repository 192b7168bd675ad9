-- To be believed.
-- What the served number of a head tells a task that has the histories of all.
use Rattle.std.specs.Prelude.{ℕ, ◌≡◌, ◌+◌, ◌%◌, ◌^◌, ◌<◌, ◌≤◌}
use Rattle.wait_model.specs.declared.layout.TheConstants.{TASKS}
use Rattle.wait_rule.specs.{declared.journal.Journal.Journal, Items.steps_of, Journals.owns, Journals.has_of}
use Rattle.wait_rule.specs.Says.{ServesUnlocks}
use Rattle.wait_rule.specs.TicketWords.{all_tickets, unlocked_at, unserved}

-- how often the lock of a head was given back, and how many serves are still to come, by the lists of a journal
abbrev pub unlocks_told : ℕ → Journal → ℕ
unlocks_told h v = unlocked_at h (λ t. steps_of (has_of t v))

abbrev pub unserved_told : ℕ → Journal → ℕ
unserved_told h v = unserved h (all_tickets (λ t. has_of t v))

-- The journal has the lists of all tasks: each number is its own, spare or joined. Then the number that was loaded is,
-- modulo 2^64, the number of unlocks in these lists, less one while the serve of the last is still to come.
abbrev pub AllUnlocksCount : Type 0
AllUnlocksCount = (v : Journal) (h w : ℕ) → ServesUnlocks v h w → ((t : ℕ) → t < TASKS → 1 ≤ owns t v)
    → (n : ℕ) × (w ≡ n % 2 ^ 64) × (unlocks_told h v ≡ n + unserved_told h v) × (unserved_told h v ≤ 1)

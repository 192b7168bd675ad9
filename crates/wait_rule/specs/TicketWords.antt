-- To be believed.
-- The tickets of heads: which are out, which is served, and what the two words of a head show.
use Rattle.std.specs.Prelude.{ℕ, ◌≡◌, ◌+◌, ◌%◌, ◌^◌, ◌<◌, ◌≤◌, ◌==◌, true, Some, List}
use Rattle.wait_model.specs.{declared.layout.TheConstants.TASKS, declared.steps.Step.Step, Words.flag, Totals.sum_below}
use Rattle.wait_model.specs.{Totals.total_below, Tables.Table}
use Rattle.wait_model.specs.declared.steps.Step.TheVariants as step
use Rattle.wait_model.specs.Locations as place
use Rattle.wait_rule.specs.{declared.journal.Item.Item, Items.book_of}
use Rattle.wait_rule.specs.Tickets.{Ticket, taken, is_ticket_of, is_served, is_given, ShowsNumber, out_below}

-- what each task has out, by its list
abbrev pub all_tickets : (ℕ → List Item) → ℕ → Ticket
all_tickets items t = (book_of (items t)).ticket

-- how often the tasks gave the lock of a head back, by their histories
abbrev pub unlocks_at : ℕ → Step → ℕ
unlocks_at h (step.Unlock g spent) = flag (g == h)
unlocks_at h _ = 0

abbrev pub unlocked_at : ℕ → (ℕ → List Step) → ℕ
unlocked_at h history = total_below TASKS (unlocks_at h) history

-- how many tasks gave it back and have not made their serve yet: one at most (`one_unserved`)
abbrev pub unserved : ℕ → (ℕ → Ticket) → ℕ
unserved h tickets = sum_below TASKS (λ t. flag (is_given h (tickets t)))

-- Of each head so many tickets were drawn, and so many served; its two words show these counts modulo 2^64. The numbers
-- from the served one on and below the next one are out, each with one task, and no others. At most `TASKS` are out. A
-- task that knows that its ticket is served has the served number, and a head is held only by a task that took it by
-- such a ticket. As many were served as locks of the head were given back, less the one whose serve is still to come.
pub record AreTickets (s : Table) (tickets : ℕ → Ticket) (beside : place.Location → ℕ) : Type 0 where
  pub draws : ℕ → ℕ
  pub serves : ℕ → ℕ
  pub number : ℕ → ℕ
  pub next : (h : ℕ) → beside (place.Next h) ≡ draws h % 2 ^ 64
  pub serving : (h : ℕ) → beside (place.Serving h) ≡ serves h % 2 ^ 64
  pub within : (a h : ℕ) → is_ticket_of h (tickets a) ≡ true → (serves h ≤ number a) × (number a < draws h)
  pub each : (h n : ℕ) → serves h ≤ n → n < draws h → (a : ℕ) × ((is_ticket_of h (tickets a) ≡ true) × (number a ≡ n))
  pub once : (a b h : ℕ) → is_ticket_of h (tickets a) ≡ true → is_ticket_of h (tickets b) ≡ true → number a ≡ number b → a ≡ b
  pub count : (h : ℕ) → draws h ≡ serves h + out_below tickets h TASKS
  pub shown : (a : ℕ) → ShowsNumber (tickets a) (number a)
  pub turn : (a h : ℕ) → is_ticket_of h (tickets a) ≡ true → is_served (tickets a) ≡ true → number a ≡ serves h
  pub held : (a h : ℕ) → (s.view a).hold.head ≡ Some h → tickets a ≡ taken h
  pub unlocks : (h : ℕ) → unlocked_at h s.history ≡ serves h + unserved h tickets

-- To be believed.
-- A lock that is taken by looks at its ticket: how the task stands between two of them, and what the lock leaves.
use Rattle.std.specs.Prelude.{ℕ, ◌≡◌, ◌≢◌, ◌≤◌, None}
use Rattle.wait_model.specs.declared.layout.TheConstants.{FIRST_SIMPLE_HEAD}
use Rattle.wait_rule.specs.declared.journal.Item.TheVariants as item
use Rattle.wait_rule.specs.{Known.Known, Queues.walk_of_hold}
use Rattle.wait_rule.specs.Says.{IsFree, IsUp, added}
use Rattle.wait_rule.specs.Stays.{Carries, Stays, StaysOwing, lock_change, no_entries}
use Rattle.wq_head.specs.Holds.{HasLocked, HasWaited, IsHolding}
use Rattle.wq_head.specs.Selects.{IsSimpleHold}

-- At `start` the task was awake and held no lock. It drew this ticket of the head then, and has found other ones served
-- since.
pub record AwaitsLock (start now : Known) (head ticket : ℕ) : Type 0 where
  pub up : IsUp start
  pub free : IsFree start
  pub waits : HasWaited (added start (item.Drawn head ticket)) now

-- It has looked once at the number that the head serves, which is another one than its ticket.
pub record FindsOther (old new : Known) (head ticket served : ℕ) : Type 0 where
  pub looked : new ≡ added old (item.Serving head served)
  pub other : served ≢ ticket

-- It has taken the lock, as who waits for it in one call from `start` on.
pub record TookLock (start new : Known) (head : ℕ) : Type 0 where
  pub locked : HasLocked start new head (walk_of_hold head None)
  pub up : IsUp new
  pub held : IsHolding new
  pub stays : Stays no_entries start new
  pub settled : StaysOwing start new
  pub carries : Carries (lock_change head) start new
  pub simple : FIRST_SIMPLE_HEAD ≤ head → IsSimpleHold new

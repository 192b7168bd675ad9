-- To be believed.
-- The entries and the queue of a head, as a hold of it shows them.
use Rattle.std.specs.Prelude.{ℕ, zero, suc, Option, Some, None, List, []}
use Rattle.wait_model.specs.{declared.layout.TheConstants.MEMBERS, declared.watches.Entry.Entry}
use Rattle.wait_model.specs.{declared.queues.Member.Member, Queues.mark_add}
use Rattle.wait_model.specs.Views.{Look, unseen, off, elsewhere, shown}
use Rattle.wait_rule.specs.{Known.Known, Says.told_of, Queues.place_by}

-- the entry that the hold shows at an index
abbrev pub look_entry : Look → Option Entry
look_entry unseen = None
look_entry off = None
look_entry elsewhere = None
look_entry (shown e) = Some e

abbrev pub shown_entry : Known → ℕ → Option Entry
shown_entry k x = look_entry ((told_of k).hold.book x)

-- the queue of the first members: each is put in by its rank
abbrev pub queue_with : ℕ → Option ℕ → List Member → List Member
queue_with m None queue = queue
queue_with m (Some p) queue = mark_add (record { at = m; place = p }) queue

abbrev pub queue_below : (ℕ → Option ℕ) → ℕ → List Member
queue_below at zero = []
queue_below at (suc n) = queue_with n (at n) (queue_below at n)

-- the queue of the head, as the hold shows it
unfoldable pub shown_queue : Known → List Member
shown_queue k = queue_below (place_by k) MEMBERS

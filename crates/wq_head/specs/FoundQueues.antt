-- For proofs alone.
-- Whom a hold finds queued at its head.
use Rattle.std.specs.Prelude.{ℕ, ◌≡◌, ◌+◌, ◌<◌, List, [], ◌∷◌, map}
use Rattle.wait_model.specs.{declared.queues.Member.Member as Stand, declared.layout.TheConstants.MEMBERS}
use Rattle.wait_rule.specs.{Known.Known, Queues.IsWholeBook, Shown.shown_queue}
use Rattle.wq_head.specs.{declared.found_queues.FoundQueue.FoundQueue, declared.found_queues.Queue.Queue}
use Rattle.wq_head.specs.{Lists.members_in, Lists.stand_in, Looking.AreNone, Looking.IsSet, Members.AreStanding}
use Rattle.wq_head.specs.Members.{member_of}
use Rattle.wq_head.specs.declared.found_queues.FoundQueue.TheVariants as found
use Rattle.wq_head.specs.declared.found_queues.Queue.TheVariants as queue

-- the words of the head show this member, and no other
abbrev pub IsSole : Known → ℕ → Type 0
IsSole k m = (m < MEMBERS) × AreNone k 0 m × IsSet k m × AreNone k (m + 1) MEMBERS

-- of several it says no more
abbrev pub IsFoundQueue : Known → FoundQueue → Type 0
IsFoundQueue k found.Empty = IsWholeBook k × AreStanding k MEMBERS × (shown_queue k ≡ [])
IsFoundQueue k (found.Sole s) = IsWholeBook k × AreStanding k MEMBERS × (shown_queue k ≡ member_of s ∷ [])
IsFoundQueue k found.Several = Unit {0}

-- the members that are gone over, with their places
abbrev pub queue_of : Queue → List Stand
queue_of (queue.Sole s) = member_of s ∷ []
queue_of (queue.Listed l) = map stand_in (members_in l.now)

-- they are those that the hold shows
pub record IsQueueOf (k : Known) (q : Queue) : Type 0 where
  pub whole : IsWholeBook k
  pub stands : AreStanding k MEMBERS
  pub queue : queue_of q ≡ shown_queue k

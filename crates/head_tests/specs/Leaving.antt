-- For tests alone.
-- A task that waits for condition 0 with its entry of slot 0.
use Rattle.std.specs.Prelude.{ℕ, ◌≡◌, Some}
use Rattle.wait_model.specs.{declared.layout.TheConstants.RUNNING, declared.watches.Kind.Kind}
use Rattle.wait_model.specs.declared.watches.Watch.TheVariants as watch
use Rattle.wait_rule.specs.{Known.Known, Queues.index, Stays.with_entry}
use Rattle.wait_rule.specs.Says.{IsUp, IsFree, OwesBut, OwesNothing, no_excuse, told_of}
use Rattle.wq_head.specs.{Adds.front_entry, Readied.StaysInHold}

-- its history has stored the entry, and it owes nothing but this entry
pub record HasEntry (k : Known) (kd : Kind) : Type 0 where
  pub place : ℕ
  pub queued : (told_of k).bits.stored (index k.view.number 0) ≡ Some (front_entry (watch.Plain 0) kd place)
  pub owes : OwesBut (with_entry (index k.view.number 0) no_excuse) k

-- it is awake and holds no lock
pub record StandsQueued (k : Known) (kd : Kind) : Type 0 where
  pub up : IsUp k
  pub free : IsFree k
  pub entry : HasEntry k kd

-- and it is in state RUNNING
pub record IsBack (k : Known) (kd : Kind) : Type 0 where
  pub running : k.book.state ≡ RUNNING
  pub queued : StandsQueued k kd

-- it has left the queue of the head that it holds
pub record HasLeft (old new : Known) : Type 0 where
  pub hold : StaysInHold old new
  pub settled : OwesNothing new

-- To be believed.
-- A task that waits for condition 0 with its entry of slot 0.
use Rattle.std.specs.Prelude.{◌≡◌, Some, None}
use Rattle.wait_model.specs.declared.watches.Watch.TheVariants as watch
use Rattle.wait_model.specs.Watches.{head_of}
use Rattle.wait_rule.specs.{Known.Known, Queues.index, Stays.with_entry, Stays.head_stored}
use Rattle.wait_rule.specs.Says.{IsUp, IsFree, no_excuse, told_of, OwesBut}

-- it has stored the entry at the condition's head, and owes nothing but this entry
pub record HasQueuedOwn (k : Known) : Type 0 where
  pub queued : head_stored ((told_of k).bits.stored (index k.view.number 0)) ≡ Some (head_of (watch.Plain 0))
  pub owes : OwesBut (with_entry (index k.view.number 0) no_excuse) k
  pub mark : (told_of k).mark ≡ None

-- it is awake and holds no lock
pub record IsWaiting (k : Known) : Type 0 where
  pub up : IsUp k
  pub free : IsFree k
  pub entry : HasQueuedOwn k

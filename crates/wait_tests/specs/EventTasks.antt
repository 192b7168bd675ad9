-- For tests alone.
-- Tasks of tests: what they know between two turns.
use Rattle.std.specs.Prelude.{◌≡◌, Option, Some, None}
use Rattle.wait_model.specs.declared.tasks.SleepState.TheVariants as states
use Rattle.wait_rule.specs.{Known.Known, Stays.with_entry}
use Rattle.wait_rule.specs.Says.{IsFree, IsUp, OwesBut, no_excuse}
use Rattle.wait_class.specs.Posts.{own_of}
use Rattle.wait_event.specs.{Entries.HasWokenEntry, WokenWaits.LandsHearing, declared.woken_waits.WokenTurn.WokenTurn}

-- A task with an entry of kind Woken between two waits for its flag, and one that owes nothing but that entry.
pub record IsHearer (k : Known) : Type 0 where
  pub up : IsUp k
  pub free : IsFree k
  pub running : k.book.state ≡ 0
  pub entry : HasWokenEntry k

pub record IsCleanHearer (k : Known) : Type 0 where
  pub hearer : IsHearer k
  pub owes : OwesBut (with_entry (own_of k) no_excuse) k

-- it stands between two waits, or where the last turn of one left it
abbrev pub IsHearingOn : Known → Option WokenTurn → Type 0
IsHearingOn k None = IsHearer k
IsHearingOn k (Some t) = LandsHearing k states.Interruptible t

-- To be believed.
-- What is kept of a task between two of its calls.
use Rattle.std.specs.Prelude.{◌≡◌, ◌&&◌, Bool, false, nat_lt, None, slice_index}
use Rattle.wait_model.specs.{declared.layout.TheConstants.WORD_BITS, declared.watches.Watch.Watch, Words.bit_at}
use Rattle.wait_model.specs.declared.watches.Watch.TheVariants as watch
use Rattle.wait_rule.specs.{LeftEntries.HasLeftNone, Known.Known, Queues.IsIdle, Stays.with_bits}
use Rattle.wait_rule.specs.Says.{Excuse, IsUp, OwesBut, no_excuse, told_of}
use Rattle.wq_checked.specs.declared.kept_bits.KeptBits.{KeptBits}

-- the bits that the masks show
unfoldable pub keeps_in : KeptBits → Watch → Bool
keeps_in ks (watch.Bit w b) = nat_lt b WORD_BITS && bit_at (slice_index ks.masks w) b
keeps_in ks _ = false

-- the task is excused of the bits that it keeps
abbrev pub but_kept : KeptBits → Excuse
but_kept ks = with_bits (keeps_in ks) no_excuse

-- A task between two calls: it is awake and idle, it keeps just the bits that the masks show, but for them it owes
-- nothing, and it has left no own entry at a completion.
pub record IsReadyWith (ks : KeptBits) (k : Known) : Type 0 where
  pub up : IsUp k
  pub idle : IsIdle k
  pub told : (told_of k).hold.head ≡ None
  pub keeps : (c : Watch) → (told_of k).bits.keeps c ≡ keeps_in ks c
  pub owes : OwesBut (but_kept ks) k
  pub off : HasLeftNone k

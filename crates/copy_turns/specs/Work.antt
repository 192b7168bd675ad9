-- To be believed.
-- A worker between two parts of its turns, and what each part leaves as it was.
use Rattle.std.specs.Prelude.{ℕ, ◌≡◌, ◌≢◌, ◌+◌, ◌<◌, Bool, true, false}
use Rattle.wait_model.specs.declared.steps.Step.TheVariants as step
use Rattle.wait_model.specs.{SignalCounts.takes_fatal, Tasks.task_of, Totals.total, Watches.page}
use Rattle.wait_rule.specs.declared.journal.Item.TheVariants as item
use Rattle.wait_rule.specs.{Aside.Grows, Aside.signals_of, Bits.KeepsBitOf, Ends.WasWorn, LeftEntries.LeftOff}
use Rattle.wait_rule.specs.{Known.Known, PipeSays.EndsStay, PipeSays.end_at, Queues.IsIdle, Stays.with_bit}
use Rattle.wait_rule.specs.Tallies.{amounts_of}
use Rattle.wait_rule.specs.Says.{Excuse, IsUp, OwesBut, added, history_of, no_excuse}
use Rattle.wait_class.specs.Posts.{IsOut}
use Rattle.wait_pipe.specs.declared.pieces.PipeEnd.{PipeEnd}
use Rattle.wait_pipe.specs.declared.pieces.PipeEnd.TheVariants as pipe_end
use Rattle.copy_plan.specs.declared.TheConstants.{COUNTED_PAGE, ENDED_CELL}
use Rattle.copy_plan.specs.declared.stop.Halt.{Halt}
use Rattle.copy_plan.specs.declared.stop.Halt.TheVariants as halt

-- excused of the ends that it has and has not closed, and of nothing else
abbrev pub but_ends : Excuse
but_ends = record no_excuse { ends = λ k. true }

-- It is awake and idle, has no entry queued, owes nothing but to close its ends, and left no entry at the completion of
-- the copy.
pub record IsAtWork (k : Known) : Type 0 where
  pub up : IsUp k
  pub idle : IsIdle k
  pub out : IsOut k
  pub owes : OwesBut but_ends k
  pub off : LeftOff ENDED_CELL k

-- Over a part of its work a worker stays at work and owes what it owed; its list grows, and it claims no end.
pub record Works (old new : Known) : Type 0 where
  pub work : IsAtWork new
  pub domain : new.domain ≡ old.domain
  pub grows : Grows old new
  pub owes : (x : Excuse) → OwesBut x old → OwesBut x new
  pub claims : (k : ℕ) → (end_at k new).mine ≡ (end_at k old).mine

-- it added to no tally, and raised no signal
abbrev pub SumsStay : Known → Known → Type 0
SumsStay old new = (p : ℕ) → amounts_of p new.view.items ≡ amounts_of p old.view.items

abbrev pub SignalsStay : Known → Known → Type 0
SignalsStay old new = signals_of new.view.items ≡ signals_of old.view.items

-- a part that is about no pipe, no tally and no signal of others
pub record Apart (old new : Known) : Type 0 where
  pub works : Works old new
  pub ends : EndsStay old new
  pub sums : SumsStay old new
  pub signals : SignalsStay old new

-- it added n to the tally of the page of the copy, and to no other
pub record Counted (n : ℕ) (old new : Known) : Type 0 where
  pub own : amounts_of COUNTED_PAGE new.view.items ≡ amounts_of COUNTED_PAGE old.view.items + n
  pub others : (p : ℕ) → p ≢ COUNTED_PAGE → amounts_of p new.view.items ≡ amounts_of p old.view.items

-- it took a fatal signal in between
abbrev pub TookKill : Known → Known → Type 0
TookKill old new = total takes_fatal (history_of old) < total takes_fatal (history_of new)

-- and it took none
abbrev pub TookNoKill : Known → Known → Type 0
TookNoKill old new = total takes_fatal (history_of new) ≡ total takes_fatal (history_of old)

-- As its next step it took its own signals: whether a fatal one was pending.
pub record TookOwn (old new : Known) (fatal : Bool) : Type 0 where
  pub found : ℕ
  pub took : new ≡ added old (item.Made (step.Accept found))
  pub shows : (task_of found).fatal ≡ fatal

-- It has locked the page of the copy, and but for that it is as it was.
pub record Locks (old new : Known) : Type 0 where
  pub up : IsUp new
  pub idle : IsIdle new
  pub out : IsOut new
  pub off : LeftOff ENDED_CELL new
  pub keeps : KeepsBitOf new (page COUNTED_PAGE)
  pub domain : new.domain ≡ old.domain
  pub grows : Grows old new
  pub owes : (x : Excuse) → OwesBut x old → OwesBut (with_bit (page COUNTED_PAGE) x) new
  pub ends : EndsStay old new
  pub sums : SumsStay old new
  pub signals : SignalsStay old new

-- Why a part was halted: the other end of end k was seen closed; a fatal signal was taken; or a hold of a head found no
-- place, which stays in the task's list.
abbrev pub IsHalt : ℕ → Known → Known → Halt → Type 0
IsHalt k old new halt.Broken = (end_at k new).ended ≡ true
IsHalt k old new halt.Killed = TookKill old new
IsHalt k old new (halt.Worn h p) = WasWorn new.view.number new.view.items h p

-- Why a part was halted that does not look whether an end is closed.
abbrev pub IsOwnHalt : Known → Known → Halt → Type 0
IsOwnHalt old new halt.Broken = ⊥
IsOwnHalt old new halt.Killed = TookKill old new
IsOwnHalt old new (halt.Worn h p) = WasWorn new.view.number new.view.items h p

-- What a call on a pipe that ended early makes of a part: who was interrupted, and took a fatal signal, is halted.
abbrev pub HaltsBy : Known → Known → PipeEnd → Halt → Type 0
HaltsBy old new pipe_end.Broken h = (h ≡ halt.Broken) × (new ≡ old)
HaltsBy old new (pipe_end.Interrupted seen) h = (h ≡ halt.Killed) × TookOwn old new true
HaltsBy old new (pipe_end.Worn head place) h = (h ≡ halt.Worn head place) × (new ≡ old)

-- It goes on only where it was interrupted and took none.
abbrev pub GoesOnBy : Known → Known → PipeEnd → Type 0
GoesOnBy old new (pipe_end.Interrupted seen) = TookOwn old new false
GoesOnBy old new _ = ⊥

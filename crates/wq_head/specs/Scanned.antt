-- To be believed.
-- What a look for members without the lock says.
use Rattle.std.specs.Prelude.{ℕ, ◌≡◌, ◌≢◌, ◌<◌, ◌==◌, ◌||◌, Bool, true, false, List}
use Rattle.wait_model.specs.{declared.layout.TheConstants.MEMBER_WORDS, declared.queues.Walked.Walked}
use Rattle.wait_model.specs.{declared.watches.Watch.Watch, Watches.head_of}
use Rattle.wait_model.specs.declared.queues.End.TheVariants as end_as
use Rattle.wait_rule.specs.{declared.journal.Item.Item, Known.Known}
use Rattle.wait_rule.specs.Says.{Excuse, OwesBut, told_of, grown}
use Rattle.wait_rule.specs.Transitions.{AreScansOf, has_bit, has_word}

-- The task loaded member words of the head, all of them where none showed a bit: just what a call's program makes for
-- its look whether a head has members. Its history has nothing more.
pub record HasScanned (old new : Known) (head : ℕ) (hit : Bool) : Type 0 where
  pub items : List Item
  pub loads : AreScansOf head items
  pub found : has_bit items ≡ hit
  pub all : hit ≡ false → (i : ℕ) → i < MEMBER_WORDS → has_word i items ≡ true
  pub is : new ≡ grown old items old.book

-- a task is excused of wakes of the watches of a head too
abbrev pub spares_head : ℕ → Excuse → Excuse
spares_head head x = record x { wakes = λ c σ. x.wakes c σ || (head_of c == head) }

-- What the task owed of the watches of this head is over, as by a wake of each, and it owes all others as before.
pub record HasEndedAt (old new : Known) (head : ℕ) : Type 0 where
  pub here : (c : Watch) (σ : ℕ) → head_of c ≡ head → (told_of new).duty.owes c σ ≡ false
  pub elsewhere : (c : Watch) (σ : ℕ) → head_of c ≢ head → (told_of new).duty.owes c σ ≡ (told_of old).duty.owes c σ
  pub settled : (x : Excuse) → OwesBut (spares_head head x) old → OwesBut x new

-- the answer of a wake that was not made, since the look found no member
abbrev pub unmade : Walked
unmade = record { selected = 0; woken = 0; holds = 0; end = end_as.End }

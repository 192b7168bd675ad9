-- Tied by laws to what is to be believed.
-- What a task knows by its history, and what that says: what it has checked, whom its wakes cover, which entries its
-- walk has passed. Laws speaks in these terms; Wakes, in terms of histories, does without; Told says how the two hang
-- together.
use Rattle.std.specs.Prelude.{ℕ, zero, suc, Bool, true, false, not, ◌&&◌, ◌||◌, ◌==◌, if◌then◌else◌, Option, Some, None}
use Rattle.std.specs.Prelude.{nat_le, nat_lt}
use Rattle.wait_model.specs.{declared.layout.TheConstants.ENTRIES, declared.watches.Watch.Watch}
use Rattle.wait_model.specs.{declared.watches.Entry.Entry, Tasks.meets}
use Rattle.wait_model.specs.Watches.{same, head_of, is_done, is_bit, is_woken, is_page, is_simple, owner}

-- what a hold has seen of an entry word: nothing, no entry, an entry of another head, or one of its head
pub data Look : Type 0 where
  unseen : Look
  off : Look
  elsewhere : Look
  shown : Entry → Look

-- a walk under way: its earlier holds passed all entries of its watch before the place `from`
pub record Walk : Type 0 where
  pub watch : Watch
  pub mask : ℕ
  pub from : ℕ

-- the hold of a head's lock that the task is in
pub record Hold : Type 0 where
  pub head : Option ℕ
  pub book : ℕ → Look  -- the entry words as it found or left them
  pub called : ℕ → Bool  -- tasks woken with the walk's mask
  pub flagged : ℕ → Bool  -- entries whose flag it set
  pub rung : ℕ → Bool  -- entries whose flag it set before it woke their task
  pub moot : Bool  -- it found the bit of its walk set, or set it for a task
  pub roused : ℕ → Bool  -- tasks that it woke out of a state
  pub picked : Bool  -- it took off the entry that its walk selected, or took the page for the entry's task
  pub prepared : Bool  -- it stored the own state
  pub zero : Watch → Option ℕ  -- a done count that it found 0, with the head's spent count at the lock

-- wakes that the task owes
pub record Duty : Type 0 where
  pub owes : Watch → ℕ → Bool  -- by watch and state
  pub cleared : Watch → ℕ → Bool  -- entries that a look without the lock is past

-- failed loads, each with the spent count that the last lock of the head before it found
pub record Checks : Type 0 where
  pub found : ℕ → ℕ  -- the spent counts at the last locks
  pub failed : ℕ → Watch → Option ℕ  -- since the last store of a state and of the entry
  pub low : ℕ → Watch → Option ℕ  -- since the entry was queued and its flag cleared
  pub flag_no : ℕ → Bool  -- since the last store of a state the flag read no
  pub zero_failed : ℕ → Watch → Option ℕ  -- in the hold of the last store of a state
  pub tas_failed : ℕ → Watch → Bool  -- since the entry was queued a test-and-set found the bit set

-- bits that the task tries and holds
pub record Bits : Type 0 where
  pub stored : ℕ → Option Entry  -- own entries that it has not found or taken off
  pub pending : Watch → Bool  -- an own exclusive entry was found off
  pub got : Watch → Bool  -- since it queued for the bit and prepared it found the bit clear
  pub keeps : Watch → Bool  -- it set the bit

pub record View : Type 0 where
  pub hold : Hold
  pub walk : Option Walk
  pub mark : Option ℕ
  pub duty : Duty
  pub checks : Checks
  pub bits : Bits

abbrev pub no_hold : Hold
no_hold = record {
  head = None;
  book = λ _. unseen;
  called = λ _. false;
  flagged = λ _. false;
  rung = λ _. false;
  moot = false;
  roused = λ _. false;
  picked = false;
  prepared = false;
  zero = λ _. None;
}

abbrev pub blank : View
blank = record {
  hold = no_hold;
  walk = None;
  mark = None;
  duty = record { owes = λ _ _. false; cleared = λ _ _. false };
  checks = record {
    found = λ _. 0;
    failed = λ _ _. None;
    low = λ _ _. None;
    flag_no = λ _. false;
    zero_failed = λ _ _. None;
    tas_failed = λ _ _. false;
  };
  bits = record { stored = λ _. None; pending = λ _. false; got = λ _. false; keeps = λ _. false };
}

-- the spent count before the failed load by which the task sleeps on a watch, where there is one
abbrev pub checked : View → ℕ → Entry → Watch → Option ℕ
checked v x e c =
    if is_woken e.kind then (if v.checks.flag_no x then v.checks.low x c else None)
    else if is_page e.kind then (if v.checks.tas_failed x c then Some 0 else None)
    else if is_done c then v.checks.zero_failed x c
    else v.checks.failed x c

-- the walk is one of this watch, for tasks of this state
abbrev pub concerns : Walk → Watch → ℕ → Bool
concerns w c σ = same c w.watch && meets w.mask σ

-- this hold has called the entry; one for a page only by having seen the page set
abbrev pub gone : View → ℕ → Entry → Bool
gone v x e = if is_woken e.kind then v.hold.rung x else if is_page e.kind then v.hold.moot
    else (v.hold.called (owner x) || v.hold.moot)

-- the walk has not yet passed an entry of this watch and place; `g` is that this hold has called it
abbrev pub ahead : Option Walk → Bool → Watch → ℕ → ℕ → Bool
ahead None g c σ p = true
ahead (Some w) g c σ p = not (concerns w c σ) || (nat_le w.from p && not g)

-- the task owes the entry's watch for this state and will still call the entry; a simple entry is passed only
-- by being taken off
abbrev pub covers : View → ℕ → Entry → ℕ → Bool
covers v x e σ = v.duty.owes e.watch σ
    && (not (v.duty.cleared e.watch x) && (is_simple e.kind || ahead v.walk (gone v x e) e.watch σ e.place))

-- the same for the flag of a Woken entry
abbrev pub warns : View → ℕ → Entry → ℕ → Bool
warns v x e σ = v.duty.owes e.watch σ
    && (not (v.duty.cleared e.watch x) && ahead v.walk (v.hold.flagged x) e.watch σ e.place)

-- the book shows that this walk is past the entry word; `stop` tells the places at which it would stop
abbrev pub passed : Walk → View → (ℕ → Bool) → Look → ℕ → Bool
passed w v stop unseen x = false
passed w v stop off x = true
passed w v stop elsewhere x = true
passed w v stop (shown e) x = not (same e.watch w.watch)
    || (not (is_simple e.kind) && (nat_lt e.place w.from || (stop e.place || gone v x e)))

unfoldable pub all_below : ℕ → (ℕ → Bool) → Bool
all_below zero p = true
all_below (suc n) p = p n && all_below n p

unfoldable pub all_passed : View → Walk → (ℕ → Bool) → Bool
all_passed v w stop = all_below ENTRIES (λ x. passed w v stop (v.hold.book x) x)

unfoldable pub all_cleared : (ℕ → Bool) → Bool
all_cleared f = all_below ENTRIES f

abbrev pub look_at : Option ℕ → Option Entry → Look
look_at None f = unseen
look_at (Some h) None = off
look_at (Some h) (Some e) = if head_of e.watch == h then shown e else elsewhere

-- an exclusive entry for this bit, by which its task will try the bit itself
abbrev pub is_trying_for : Option Entry → Watch → Bool
is_trying_for None c = false
is_trying_for (Some e) c = e.exclusive && (is_bit e.watch && (same c e.watch && not (is_page e.kind)))

-- To be believed.
-- How pages are handed over: what stands in the words of an entry that waits for a page, and what its task and a walk
-- that calls it know.
use Rattle.std.specs.Prelude.{ℕ, ◌≡◌, ◌⊎◌, ◌||◌, Bool, true, false, Option, Some, None}
use Rattle.wait_model.specs.{declared.watches.Entry.Entry, declared.watches.Kind.Kind, Tables.Table}
use Rattle.wait_model.specs.Watches.{head_of, is_page, is_woken, owner, page}
use Rattle.wait_rule.specs.Items.{Difference, page_taken, page_told}
use Rattle.wait_rule.specs.Asked.{Asked, waits_at, was_given_at}

-- entries of this kind wait by their flag word
abbrev pub uses_flag : Kind → Bool
uses_flag k = is_page k || is_woken k

-- the entry for whose task a hold has taken the page and that it has not taken off yet; the same, where it has told it
abbrev pub taken_entry : Difference → Option ℕ
taken_entry (page_taken x) = Some x
taken_entry (page_told x) = Some x
taken_entry _ = None

abbrev pub told_entry : Difference → Option ℕ
told_entry (page_told x) = Some x
told_entry _ = None

-- an entry for this page
pub record IsPageEntry (o : Option Entry) (p : ℕ) : Type 0 where
  pub entry : Entry
  pub is : o ≡ Some entry
  pub kind : is_page entry.kind ≡ true
  pub watch : entry.watch ≡ page p

-- an entry word that shows no entry for a page
abbrev pub IsPageless : Option Entry → Type 0
IsPageless o = (e : Entry) → o ≡ Some e → is_page e.kind ≡ false

-- the task's list tells that it waits for the page by this entry, or that the page was taken for it
abbrev pub IsAskedAt : ℕ → ℕ → Asked → Type 0
IsAskedAt x p k = (waits_at x k ≡ Some p) ⊎ (was_given_at x k ≡ Some p)

-- No entry for a page stands in the entry word of index x, no page is taken for its task there, and its task, which
-- asks for k, asks for none there.
pub record IsPageAtRest (s : Table) (k : Asked) (x : ℕ) : Type 0 where
  pub taken : s.taken x ≡ None
  pub none : IsPageless (s.entry x)
  pub waits : waits_at x k ≡ None
  pub given : was_given_at x k ≡ None

-- its task waits for page p: the entry stands
pub record IsWaitingFor (s : Table) (k : Asked) (x p : ℕ) : Type 0 where
  pub taken : s.taken x ≡ None
  pub stands : IsPageEntry (s.entry x) p
  pub waits : waits_at x k ≡ Some p

-- Task a, which holds the page's head and has yet to store d, has taken page p for it, and has not taken the entry off
-- yet. DONE stands in the flag word once it has told it.
pub record IsHandedBy (s : Table) (d : Difference) (k : Asked) (x p a : ℕ) : Type 0 where
  pub taken : s.taken x ≡ Some p
  pub stands : IsPageEntry (s.entry x) p
  pub asked : IsAskedAt x p k
  pub own : owner x ≡ a → was_given_at x k ≡ Some p
  pub takes : taken_entry d ≡ Some x
  pub held : (s.view a).hold.head ≡ Some (head_of (page p))
  pub told : told_entry d ≡ Some x → s.done x ≡ true

-- The page was handed over: it is taken for the task, DONE stands in the flag word, and no entry that waits by the flag
-- word stands. The task has found its entry off, or its history has the entry still stored.
pub record IsHandedOver (s : Table) (k : Asked) (x p : ℕ) : Type 0 where
  pub taken : s.taken x ≡ Some p
  pub done : s.done x ≡ true
  pub off : (e : Entry) → s.entry x ≡ Some e → uses_flag e.kind ≡ false
  pub asked : ((waits_at x k ≡ Some p) × IsPageEntry ((s.view (owner x)).bits.stored x) p) ⊎ (was_given_at x k ≡ Some p)

-- one of these four, for what tasks have yet to store and ask for
abbrev pub IsPageState : Table → (ℕ → Difference) → (ℕ → Asked) → ℕ → Type 0
IsPageState s differs asked x = IsPageAtRest s (asked (owner x)) x
    ⊎ (((p : ℕ) × IsWaitingFor s (asked (owner x)) x p)
    ⊎ (((p : ℕ) × (a : ℕ) × IsHandedBy s (differs a) (asked (owner x)) x p a)
    ⊎ ((p : ℕ) × IsHandedOver s (asked (owner x)) x p)))

-- Each entry word is in such a state; a task asks by its own entries alone; and whoever has a page to hand over does so
-- for the task of an entry that stands, in a hold of the page's head. So once that head is given back, each page that
-- was taken for a task is handed over.
pub record ArePageStates (s : Table) (differs : ℕ → Difference) (asked : ℕ → Asked) : Type 0 where
  pub each : (x : ℕ) → IsPageState s differs asked x
  pub own : (t x p : ℕ) → IsAskedAt x p (asked t) → owner x ≡ t
  pub hands : (a x : ℕ) → taken_entry (differs a) ≡ Some x
      → (p : ℕ) × IsHandedBy s (differs a) (asked (owner x)) x p a

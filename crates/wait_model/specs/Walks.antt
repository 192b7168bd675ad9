-- To be believed.
-- Walks, plainly over a task's history: the hold of a walk, the entries that it has called, and looks without the lock.
use Rattle.std.specs.Prelude.{ℕ, zero, suc, ◌≡◌, ◌<◌, ◌≤◌, ◌⊎◌, Bool, true, false, not, ◌&&◌, ◌==◌, if◌then◌else◌}
use Rattle.std.specs.Prelude.{Option, Some, None, List, ◌∷◌, ◌++◌}
use Rattle.wait_model.specs.{declared.layout.TheConstants.ENTRIES, declared.watches.Watch.Watch}
use Rattle.wait_model.specs.{declared.watches.Entry.Entry, declared.watches.Aim.Aim, declared.steps.Step.Step}
use Rattle.wait_model.specs.{Tasks.meets, Words.entry_of}
use Rattle.wait_model.specs.Watches.{same, head_of, is_bit, page, is_woken, is_page, is_simple, mask_of, failing, owner}
use Rattle.wait_model.specs.Watches.{stands_at, part_of}
use Rattle.wait_model.specs.Histories.{Lacks, Since, turns_lock, is_publish, is_mark, marks}
use Rattle.wait_model.specs.declared.steps.Step.TheVariants as step

-- the task is in a hold whose lock it took for a walk of the watch that meets the state; `inside` is what
-- it has done in the hold
pub record WalkHold (es : List Step) (c : Watch) (σ : ℕ) : Type 0 where
  pub before : List Step
  pub head : ℕ
  pub aim : Aim
  pub found : ℕ
  pub inside : List Step
  pub split : es ≡ before ++ step.Lock head (Some aim) found ∷ inside
  pub within : Lacks turns_lock inside
  pub watch : same c aim.watch ≡ true
  pub mode : meets (mask_of aim.mode) σ ≡ true

-- the step shows the walk's bit set, by a load or by a test-and-set for a task: then the walk calls no further entry
abbrev pub sees_set : Aim → Step → Bool
sees_set a (step.Load l r) = is_bit a.watch && failing l r a.watch
sees_set a (step.TasFor x p r) = same (page p) a.watch
sees_set a _ = false

-- the step is the walk's wake of the entry's owner, or shows the walk's bit set
abbrev pub calls_entry : Aim → ℕ → Step → Bool
calls_entry a x (step.Wake who mask w) = (mask == mask_of a.mode) && (owner x == who)
calls_entry a x (step.Load l r) = is_bit a.watch && failing l r a.watch
calls_entry a x (step.TasFor y p r) = same (page p) a.watch
calls_entry a x _ = false

-- the step is the walk's wake of the entry's owner
abbrev pub wakes_entry : Aim → ℕ → Step → Bool
wakes_entry a x (step.Wake who mask w) = (mask == mask_of a.mode) && (owner x == who)
wakes_entry a x _ = false

-- the step sets the flag of this entry
abbrev pub flags : ℕ → Step → Bool
flags x (step.Woken y) = x == y
flags x _ = false

-- the entry was called in these steps of a hold, with no publish since; a Woken entry only where its flag
-- was set before the wake
pub record RungBy (inside : List Step) (a : Aim) (x : ℕ) : Type 0 where
  pub wake : Since (wakes_entry a x) is_publish inside
  pub flag : Since (flags x) is_publish wake.earlier

-- by whether the entry is of kind Woken or of kind Page: a page's entry is called where the page was seen set
abbrev pub CalledBy : (woken page : Bool) → List Step → Aim → ℕ → Type 0
CalledBy true page inside a x = RungBy inside a x
CalledBy false true inside a x = Since (sees_set a) is_publish inside
CalledBy false false inside a x = Since (calls_entry a x) is_publish inside

-- the walk under way has called the entry in this hold
pub record CalledNow (es : List Step) (x : ℕ) (e : Entry) (σ : ℕ) : Type 0 where
  pub hold : WalkHold es e.watch σ
  pub called : CalledBy (is_woken e.kind) (is_page e.kind) hold.inside hold.aim x

-- the step tells what stands in entry word x: it was found, or left
abbrev pub tells : ℕ → Step → Bool
tells x (step.Saw y w) = x == y
tells x (step.Queue y e) = x == y
tells x (step.Unqueue y) = x == y
tells x _ = false

-- the entry of head h that such a step of a hold of h shows
abbrev pub entry_of_head : ℕ → Option Entry → Option Entry
entry_of_head h None = None
entry_of_head h (Some e) = if head_of e.watch == h then Some e else None

abbrev pub shown_by : ℕ → Step → Option Entry
shown_by h (step.Saw y w) = entry_of_head h (entry_of w)
shown_by h (step.Queue y e) = Some e
shown_by h _ = None

-- The walk need not call what stands there, or has called it: there is no entry, or one of another watch,
-- or one that it has called in this hold, or one at a place that its earlier holds have gone by. An entry
-- of kind Simple is to be taken off. Entries at places at which the walk stops do not matter.
abbrev pub IsPast : (gone stop : ℕ → Type 0) → List Step → ℕ → Aim → ℕ → Option Entry → Type 0
IsPast gone stop es σ a x None = Unit {0}
IsPast gone stop es σ a x (Some e) = (same e.watch a.watch ≡ false)
    ⊎ ((is_simple e.kind ≡ false) × (gone e.place ⊎ (stop e.place ⊎ CalledNow es x e σ)))

-- by the last that the hold knows of entry word x its walk is past it
pub record HasPassed (gone stop : ℕ → Type 0) (es : List Step) (c : Watch) (σ : ℕ) (k : WalkHold es c σ)
    (x : ℕ)
    : Type 0 where
  pub word : Since (tells x) (tells x) k.inside
  pub past : IsPast gone stop es σ k.aim x (shown_by k.head word.it)

-- with this step the walk does not stay where its last unlock left it
abbrev pub leaves : Aim → Step → Bool
leaves a (step.Lock h None f) = true
leaves a (step.Lock h (Some b) f) = not (same b.watch a.watch && (mask_of a.mode == mask_of b.mode))
leaves a (step.Unlock h spent) = true
leaves a (step.Publish c n r) = true
leaves a _ = false

-- The last unlock left the walk at the own bookmark, which stands behind this place. Before the bookmark
-- the walk was past all, in that hold or, as `gone` says, in earlier ones. It has not begun anew since.
pub record LeftBehind (gone : List Step → ℕ → Type 0) (es : List Step) (c : Watch)
    (σ place : ℕ) : Type 0 where
  pub before : List Step
  pub head : ℕ
  pub later : List Step
  pub split : es ≡ before ++ step.Unlock head false ∷ later
  pub hold : WalkHold before c σ
  pub mark : ℕ
  pub marked : Since (marks mark) is_mark before
  pub passed : (x : ℕ) → x < ENTRIES → HasPassed (gone before) (λ p. mark ≤ p) before c σ hold x
  pub stays : Lacks (leaves hold.aim) later
  pub behind : place < mark

-- the walk has gone by this place in its last n holds before this one
abbrev pub GoneIn : ℕ → Watch → ℕ → List Step → ℕ → Type 0
GoneIn zero c σ es place = ⊥
GoneIn (suc n) c σ es place = LeftBehind (GoneIn n c σ) es c σ place

abbrev pub GoneBy : List Step → Watch → ℕ → ℕ → Type 0
GoneBy es c σ place = (n : ℕ) × GoneIn n c σ es place

-- the step is a look without the lock that finds entry x off the head of c, or no bit for it there
abbrev pub finds_off_head : Watch → ℕ → Step → Bool
finds_off_head c x (step.Peek y w) = (x == y) && not (stands_at (entry_of w) (head_of c))
finds_off_head c x (step.Scan h i w) = (head_of c == h) && ((w == 0) && (part_of x == i))
finds_off_head c x _ = false

-- with this step such a look is begun anew
abbrev pub looks_anew : Watch → Step → Bool
looks_anew c (step.Lock h aim w) = true
looks_anew c (step.Publish d n r) = same c d
looks_anew c (step.Peek y w) = stands_at (entry_of w) (head_of c)
looks_anew c (step.Scan h i w) = (head_of c == h) && not (w == 0)
looks_anew c _ = false

-- To be believed.
-- Which steps a task may make: a word that it found is what stands there, and each row's condition. Believed for steps
-- outside of calls; that the steps of runs are such is proved.
use Rattle.std.specs.Prelude.{ℕ, ◌≡◌, ◌<◌, ◌⊎◌, Bool, true, false, Option, Some, None, List, [], ◌∷◌}
use Rattle.wait_model.specs.{declared.layout.TheConstants.ENTRIES, declared.watches.Watch.Watch}
use Rattle.wait_model.specs.{declared.watches.Entry.Entry, declared.watches.Aim.Aim, declared.steps.Step.Step}
use Rattle.wait_model.specs.Tasks.{task_of}
use Rattle.wait_model.specs.Watches.{head_of, counted, is_done, is_bit, is_woken, is_simple, owner, part_of, is_page}
use Rattle.wait_model.specs.Watches.{page}
use Rattle.wait_model.specs.Words.{bit_at, entry_of, spent_of, flag_of}
use Rattle.wait_model.specs.Views.{View, Walk, off}
use Rattle.wait_model.specs.Tables.{Words, Table, next}
use Rattle.wait_model.specs.declared.watches.Watch.TheVariants as watch
use Rattle.wait_model.specs.declared.steps.Step.TheVariants as step

-- the value is that of the watch's word
abbrev pub Reads : Words → Watch → ℕ → Type 0
Reads w (watch.Plain c) r = r ≡ w.plains c
Reads w (watch.Done d) r = r ≡ w.dones d
Reads w (watch.Bit i b) r = (k : ℕ) → bit_at r k ≡ w.bits i k
Reads w (watch.Var v old) r = r ≡ w.vars v

-- a consume sets no watch that was not set
abbrev pub Lowers : Words → Watch → ℕ → Type 0
Lowers w (watch.Plain c) n = Unit {0}
Lowers w (watch.Done d) n = w.dones d ≡ 0 → n ≡ 0
Lowers w (watch.Bit i b) n = Unit {0}
Lowers w (watch.Var v old) n = ⊥

abbrev pub AimsAt : Option Aim → ℕ → Type 0
AimsAt None h = Unit {0}
AimsAt (Some a) h = head_of a.watch ≡ h

-- a kind suits its watch
abbrev pub Suits : Entry → Type 0
Suits e = (is_done e.watch ≡ true → is_simple e.kind ≡ true)
    × (is_bit e.watch ≡ true → is_woken e.kind ≡ false)

-- a publish of a completion is made in a hold of its head, every other one by a task that holds nothing
abbrev pub MayPublish : View → Watch → Type 0
MayPublish v (watch.Done d) = v.hold.head ≡ Some (head_of (watch.Done d))
MayPublish v _ = v.hold.head ≡ None

abbrev pub MayConsume : View → Watch → Type 0
MayConsume v (watch.Done d) = v.hold.head ≡ Some (head_of (watch.Done d))
MayConsume v _ = Unit {0}

-- a walk for a bit spends only where it has taken off the entry that it selected, one for a variable never
abbrev pub MaySpend : View → Bool → Type 0
MaySpend v sp = (w : Walk) → v.walk ≡ Some w → sp ≡ true → (counted w.watch ≡ true)
    ⊎ ((is_bit w.watch ≡ true) × (v.hold.picked ≡ true))

-- only the task that set a bit clears it, and in state RUNNING
abbrev pub MayClear : Table → ℕ → Watch → Type 0
MayClear s a c = is_bit c ≡ true → ((s.task a).state ≡ 0) × ((s.view a).bits.keeps c ≡ true)

-- the task is in a hold of the entry's head, where the entry stands
abbrev pub MayChange : Table → ℕ → ℕ → Type 0
MayChange s a x = (e : Entry) × (s.entry x ≡ Some e) × ((s.view a).hold.head ≡ Some (head_of e.watch))

-- the same of an entry of kind Page for this page
abbrev pub MayTakeFor : Table → ℕ → ℕ → ℕ → Type 0
MayTakeFor s a x p = (e : Entry) × (s.entry x ≡ Some e) × ((s.view a).hold.head ≡ Some (head_of e.watch))
    × (e.watch ≡ page p) × (is_page e.kind ≡ true)

-- The owner of entry x holds head h and has tested no watch since it queued the entry: no load of its own failed since,
-- and no test-and-set found a bit set, as an entry of kind Page waits by one. Where it had stored its state in the same
-- hold before, it may have found a done count 0 before, too.
pub record IsUntested (v : View) (h x : ℕ) : Type 0 where
  pub held : v.hold.head ≡ Some h
  pub failed : (c : Watch) → v.checks.failed x c ≡ None
  pub low : (c : Watch) → v.checks.low x c ≡ None
  pub zero_failed : (v.hold.prepared ≡ true) ⊎ ((c : Watch) → v.checks.zero_failed x c ≡ None)
  pub tas_failed : (c : Watch) → v.checks.tas_failed x c ≡ false

-- Where member word i of head h shows no bit: each entry of these indexes is off the head, or it is untested, since
-- its bit is set in the hold in which its word was stored, before a watch is tested.
abbrev pub AreUntested : Table → ℕ → ℕ → Type 0
AreUntested s h i = (x : ℕ) (e : Entry) → part_of x ≡ i → s.entry x ≡ Some e → head_of e.watch ≡ h
    → IsUntested (s.view (owner x)) h x

abbrev pub Allowed : Table → ℕ → Step → Type 0
Allowed s a (step.State σ) = Unit {0}
Allowed s a (step.Sleep w) = (task_of w ≡ s.task a) × ((s.view a).hold.head ≡ None)
Allowed s a (step.Wake who mask w) = task_of w ≡ s.task who
Allowed s a (step.Signal who fatal w) = task_of w ≡ s.task who
Allowed s a (step.Accept w) = task_of w ≡ s.task a
Allowed s a (step.Look w) = task_of w ≡ s.task a
Allowed s a (step.Lock h aim w) = (s.holder h ≡ false) × ((s.view a).hold.head ≡ None)
    × (spent_of w ≡ s.spent h) × AimsAt aim h
Allowed s a (step.Unlock h sp) = ((s.view a).hold.head ≡ Some h) × MaySpend (s.view a) sp
Allowed s a (step.Saw x w) = entry_of w ≡ s.entry x
Allowed s a (step.Peek x w) = (entry_of w ≡ s.entry x) × ((s.view a).hold.head ≡ None)
Allowed s a (step.Scan h i w) = ((s.view a).hold.head ≡ None) × (w ≡ 0 → AreUntested s h i)
Allowed s a (step.Queue x e) = (owner x ≡ a) × (x < ENTRIES) × (s.entry x ≡ None)
    × ((s.view a).hold.head ≡ Some (head_of e.watch)) × Suits e × ((s.view a).hold.book x ≡ off)
Allowed s a (step.Unqueue x) = MayChange s a x
Allowed s a (step.Mark h q) = (s.view a).hold.head ≡ Some h
Allowed s a step.Unmark = (h : ℕ) × ((s.view a).hold.head ≡ Some h)
Allowed s a (step.Load l r) = Reads s.words l r
Allowed s a (step.Publish c n r) = MayPublish (s.view a) c × MayClear s a c × Reads s.words c r
Allowed s a (step.Consume c n r) = Lowers s.words c n × MayConsume (s.view a) c × Reads s.words c r
Allowed s a (step.Woken x) = MayChange s a x
Allowed s a (step.Unflag x o) = (owner x ≡ a) × (s.taken x ≡ o)
Allowed s a (step.Flag x w) = (owner x ≡ a) × (flag_of w ≡ s.flag x)
Allowed s a (step.TasFor x p r) = MayTakeFor s a x p × Reads s.words (page p) r × (s.taken x ≡ None)
Allowed s a (step.Handed x) = MayChange s a x × ((p : ℕ) × (s.taken x ≡ Some p))

-- steps of one task in a row, oldest first
abbrev pub AllAllowed : Table → ℕ → List Step → Type 0
AllAllowed s a [] = Unit {0}
AllAllowed s a (e ∷ es) = Allowed s a e × AllAllowed (next s a e) a es

-- For proofs alone.
-- What a table has to keep, by what is done at each of its stages.
use Rattle.std.specs.Prelude.{ℕ, ◌≡◌, ◌≤◌, ◌<◌, ◌⊎◌, ◌||◌, Bool, true, false, is_some, Option, Some, None, Result, Ok, Err, List, [], ◌∷◌, ◌++◌}
use Rattle.wait_model.specs.{declared.layout.TheConstants.HEADS, declared.points.Seen.Seen, declared.steps.Step.Step}
use Rattle.wait_model.specs.{declared.watches.Entry.Entry, declared.watches.Watch.Watch, declared.points.Given.Given}
use Rattle.wait_model.specs.{declared.queues.Form.Form, Queues.place_for, Runs.entry_for, Views.off, Watches.IsThere}
use Rattle.wait_model.specs.Words.{entry_of}
use Rattle.wait_model.specs.PointFacts.{IsHome, Zone, holds, pages, waits}
use Rattle.wait_model.specs.Tasks.{pending, state_mask, task_of}
use Rattle.wait_model.specs.declared.steps.Step.TheVariants as step
use Rattle.wait_rule.specs.{Ends.WasWorn, HandedPermits.OwesNoPermit, Known.Known, declared.journal.Item.Item}
use Rattle.wait_rule.specs.Shown.{shown_queue}
use Rattle.wait_rule.specs.Queues.{IsWholeBook, at_head, index, walk_of_hold}
use Rattle.wait_rule.specs.Says.{Debts, Excuse, MayStore, added, history_of, stored_with, told_of, unlocked_with}
use Rattle.wait_rule.specs.Stays.{Carries, state_change, take_off_change, unchanged}
use Rattle.wait_rule.specs.Tickets.{Ticket, no_ticket, taken}
use Rattle.wait_rule.specs.Transitions.{Finds, IsMadeFor, IsSeenAs, OnlyLooks, StepOrLook, Transition, by_step, is_worn}
use Rattle.wait_rule.specs.declared.journal.Item.TheVariants as item
use Rattle.wq_head.specs.{Holds.IsHolding, Looks.Looks, declared.adds.Worn.Worn}
use Rattle.wait_class.specs.{declared.stages.Doing.Doing, declared.stages.Turn.Turn}
use Rattle.wait_class.specs.Posts.{HasSeenOwn, IsStateFor, Post, zone_at, own_of}
use Rattle.wait_class.specs.Findings.{saw_nothing, saw_entry, with_own, with_value, with_worn}
use Rattle.wait_class.specs.Tables.{CallTable, falls, has_sleep, head_in, next_in, plan_program, post_of, took_in}
use Rattle.wait_class.specs.Tables.{stage_watch, watch_in}
use Rattle.wait_class.specs.declared.stages.Added.TheVariants as adds
use Rattle.wait_class.specs.declared.stages.Doing.TheVariants as doing
use Rattle.wait_class.specs.declared.stages.Turn.TheVariants as turn

-- a turn that goes on with no ticket drawn, or ends the wait
abbrev pub IsPlainTurn : {C S O : Type 0} → CallTable C S O → Turn S O → Type 0
IsPlainTurn t (turn.Again s) = t.drawn s ≡ false
IsPlainTurn t (turn.Asleep s) = ⊥
IsPlainTurn t (turn.Locked s) = ⊥
IsPlainTurn t (turn.Done o) = Unit {0}

-- what such a turn says of the task, and of its last steps
abbrev pub turn_post : {C S O : Type 0} → CallTable C S O → C → Turn S O → Post
turn_post t r (turn.Again s) = post_of t r s
turn_post t r (turn.Asleep s) = post_of t r s
turn_post t r (turn.Locked s) = post_of t r s
turn_post t r (turn.Done o) = t.end_post r o

abbrev pub TurnTrail : {C S O : Type 0} → CallTable C S O → Known → C → Turn S O → Type 0
TurnTrail t k r (turn.Again s) = t.Trail k r s
TurnTrail t k r (turn.Asleep s) = t.Trail k r s
TurnTrail t k r (turn.Locked s) = t.Trail k r s
TurnTrail t k r (turn.Done o) = t.TrailEnd k r o

-- whether steps store or take off an entry, or look at one, and the state behind them
abbrev pub moves_entry : Step → Bool
moves_entry (step.Queue x e) = true
moves_entry (step.Unqueue x) = true
moves_entry (step.Saw x w) = true
moves_entry (step.Peek x w) = true
moves_entry _ = false

abbrev pub moves_entries : List Step → Bool
moves_entries [] = false
moves_entries (e ∷ es) = moves_entry e || moves_entries es

abbrev pub state_behind : List Step → ℕ → ℕ
state_behind [] σ = σ
state_behind (step.State τ ∷ es) σ = state_behind es τ
state_behind (e ∷ es) σ = state_behind es σ

-- the list has no step more
pub record Unmoved (old new : Known) : Type 0 where
  pub number : new.view.number ≡ old.view.number
  pub items : List Item
  pub grown : new.view.items ≡ old.view.items ++ items
  pub history : history_of new ≡ history_of old

-- The history has these steps more, none of which takes or gives back a bit.
pub record Calm (es : List Step) (old new : Known) : Type 0 where
  pub number : new.view.number ≡ old.view.number
  pub items : List Item
  pub grown : new.view.items ≡ old.view.items ++ items
  pub history : history_of new ≡ history_of old ++ es
  pub keeps : (d : Watch) → (told_of new).bits.keeps d ≡ (told_of old).bits.keeps d
  pub tries : (d : Watch) → (told_of old).bits.keeps d ≡ true → (told_of old).bits.pending d ≡ false
      → (told_of new).bits.pending d ≡ false
  pub stored : moves_entries es ≡ false → (told_of new).bits.stored (own_of new) ≡ (told_of old).bits.stored (own_of old)
  pub state : has_sleep es ≡ false → new.book.state ≡ state_behind es old.book.state

-- neither a load nor an add
abbrev pub is_quiet_event : StepOrLook → Bool
is_quiet_event (by_step (step.Load w v)) = false
is_quiet_event (by_step (step.Queue x e)) = false
is_quiet_event _ = true

-- What a run tells of its transitions: by parts, and each by what it did.
pub record TellsLaws {C : Type 0} (T : C → C → List Transition → Type 0) : Type 0 where
  pub none : (r : C) → T r r []
  pub on : (r q w : C) (ts us : List Transition) → T r q ts → T q w us → T r w (ts ++ us)
  pub quiet : (r : C) (x : Transition) → is_quiet_event x.did ≡ true → T r r (x ∷ [])

abbrev pub mask_in : {C S O : Type 0} → CallTable C S O → C → ℕ
mask_in t r = state_mask ((t.plan_of r).state)

-- At a stage the program makes this step, of these numbers, where it found this, and then goes on so.
pub record Moves {C S O : Type 0} (t : CallTable C S O) (r : C) (s : S) (seen : Seen) (A : Type 0)
    (made : ℕ → Known → A → Step) (Ok : ℕ → Known → A → Type 0) (u : Turn S O) : Type 0 where
  pub plain : IsPlainTurn t u
  pub falls : falls t s u ≡ true
  pub took : t.took s ≡ took_in t u
  pub goes : (me : ℕ) → ((t.plan_of r).makes me (t.point_of s) seen).next ≡ next_in t u
  pub is : (me : ℕ) (k : Known) (a : A) → Ok me k a
      → IsMadeFor k (Some (index me 0)) ((t.plan_of r).given (t.point_of s))
      ((t.plan_of r).makes me (t.point_of s) seen).event (by_step (made me k a))
  pub finds : (me : ℕ) (k : Known) (a : A) → Ok me k a
      → Finds k (plan_program me 0 (t.plan_of r)) (t.point_of s) (by_step (made me k a)) seen

-- then the task holds this head, has this ticket out, and its state may be what it was
pub record LeavesHead {C S O : Type 0} (t : CallTable C S O) (r : C) (s : S) (u : Turn S O) (h : Option ℕ) (n : Ticket) :
    Type 0 where
  pub head : (turn_post t r u).head ≡ h
  pub ticket : (turn_post t r u).ticket ≡ n

abbrev pub StateStays : {C S O : Type 0} → CallTable C S O → C → S → Turn S O → Type 0
StateStays t r s u = (σ : ℕ) → IsStateFor (post_of t r s).stirs (post_of t r s).state σ
    → IsStateFor (turn_post t r u).stirs (turn_post t r u).state σ

abbrev pub HomeStays : {C S O : Type 0} → CallTable C S O → C → S → Turn S O → Type 0
HomeStays t r s u = (o : Option Entry) → IsHome (post_of t r s).zone (post_of t r s).watch o
    → IsHome (turn_post t r u).zone (turn_post t r u).watch o

abbrev pub IsFreeStage : {C S O : Type 0} → CallTable C S O → S → Type 0
IsFreeStage t s = holds (t.point_of s) ≡ false

-- a stage at which the lock of the call's head is held
pub record IsHeldStage {C S O : Type 0} (t : CallTable C S O) (r : C) (s : S) : Type 0 where
  pub holds : holds (t.point_of s) ≡ true
  pub head : (t.plan_of r).head (t.point_of s) ≡ head_in t r s

-- where a turn goes on with other notes, its state may be what it was, and the own entry too
abbrev pub StateGoes : {C S O : Type 0} → CallTable C S O → C → S → C → Turn S O → Type 0
StateGoes t r s q u = (σ : ℕ) → IsStateFor (post_of t r s).stirs (post_of t r s).state σ
    → IsStateFor (turn_post t q u).stirs (turn_post t q u).state σ

abbrev pub HomeGoes : {C S O : Type 0} → CallTable C S O → C → S → C → Turn S O → Type 0
HomeGoes t r s q u = (o : Option Entry) → IsHome (post_of t r s).zone (post_of t r s).watch o
    → IsHome (turn_post t q u).zone (turn_post t q u).watch o

pub record LoadLaw {C S O : Type 0} (t : CallTable C S O) (r : C) (s : S) (v : ℕ) (q : C) (u : Turn S O) : Type 0 where
  pub fresh : t.drawn s ≡ false
  pub same : t.plan_of q ≡ t.plan_of r
  pub fits : t.Fits r → t.Fits q
  pub moves : Moves t r s (with_value v) (Unit {0}) (λ me k x. step.Load (stage_watch t r s) v) (λ me k x. Unit {0}) u
  pub tells : (x : Transition) → x.did ≡ by_step (step.Load (stage_watch t r s) v) → t.Tells r q (x ∷ [])
  pub leaves : LeavesHead t q s u (post_of t r s).head (post_of t r s).ticket
  pub state : StateGoes t r s q u
  pub home : HomeGoes t r s q u
  pub trail : (old new : Known) → Calm (step.Load (stage_watch t r s) v ∷ []) old new → t.Trail old r s
      → TurnTrail t new q u

pub record DrawLaw {C S O : Type 0} (t : CallTable C S O) (r : C) (s : S) : Type 0 where
  pub free : IsFreeStage t s
  pub fresh : t.drawn s ≡ false
  pub head : (t.plan_of r).head (t.point_of s) ≡ head_in t r s
  pub drawn : t.drawn (t.drawn_to s) ≡ true
  pub locks : t.doing (t.drawn_to s) ≡ doing.Lock
  pub same : t.point_of (t.drawn_to s) ≡ t.point_of s
  pub took : t.took (t.drawn_to s) ≡ t.took s
  pub depth : t.depth (t.drawn_to s) ≡ t.depth s
  pub trail : (k : Known) → t.Trail k r s → t.Trail k r (t.drawn_to s)

pub record LockLaw {C S O : Type 0} (t : CallTable C S O) (r : C) (s : S) : Type 0 where
  pub free : IsFreeStage t s
  pub head : (t.plan_of r).head (t.point_of s) ≡ head_in t r s
  pub drawn : t.drawn s ≡ true
  pub moves : Moves t r s saw_nothing ℕ (λ me k x. step.Lock (head_in t r s) (walk_of_hold (head_in t r s) None) x)
      (λ me k x. Unit {0}) (t.next_of r s)
  pub leaves : LeavesHead t r s (t.next_of r s) (Some (head_in t r s)) (taken (head_in t r s))
  pub state : StateStays t r s (t.next_of r s)
  pub home : HomeStays t r s (t.next_of r s)
  pub trail : (old new : Known) (x : ℕ)
      → Calm (step.Lock (head_in t r s) (walk_of_hold (head_in t r s) None) x ∷ []) old new → t.Trail old r s
      → TurnTrail t new r (t.next_of r s)

pub record UnlockLaw {C S O : Type 0} (t : CallTable C S O) (r : C) (s : S) : Type 0 where
  pub held : IsHeldStage t r s
  pub fresh : t.drawn s ≡ false
  pub moves : Moves t r s saw_nothing (Unit {0}) (λ me k x. step.Unlock k.at false) (λ me k x. k.at ≡ head_in t r s)
      (t.next_of r s)
  pub leaves : LeavesHead t r s (t.next_of r s) None no_ticket
  pub state : StateStays t r s (t.next_of r s)
  pub home : HomeStays t r s (t.next_of r s)
  pub trail : (old new : Known) → Calm (step.Unlock (head_in t r s) false ∷ []) old new → t.Trail old r s
      → TurnTrail t new r (t.next_of r s)
  pub permits : (k : Known) → t.Fits r → k.at ≡ head_in t r s → t.Trail k r s → OwesNoPermit k

pub record StateLaw {C S O : Type 0} (t : CallTable C S O) (r : C) (s : S) : Type 0 where
  pub fresh : t.drawn s ≡ false
  pub moves : Moves t r s saw_nothing (Unit {0}) (λ me k x. step.State (t.state_at r s)) (λ me k x. Unit {0})
      (t.next_of r s)
  pub leaves : LeavesHead t r s (t.next_of r s) (post_of t r s).head (post_of t r s).ticket
  pub state : IsStateFor (turn_post t r (t.next_of r s)).stirs (turn_post t r (t.next_of r s)).state (t.state_at r s)
  pub home : HomeStays t r s (t.next_of r s)
  pub may : (k : Known) → IsStateFor (post_of t r s).stirs (post_of t r s).state k.book.state
      → MayStore (t.state_at r s) k
  pub sort : (t.state_at r s ≡ 0) ⊎ (t.state_at r s ≡ mask_in t r)
  pub trail : (old new : Known) → Calm (step.State (t.state_at r s) ∷ []) old new → t.Trail old r s
      → TurnTrail t new r (t.next_of r s)

pub record LookLaw {C S O : Type 0} (t : CallTable C S O) (r : C) (s : S) (hit : Bool) : Type 0 where
  pub fresh : t.drawn s ≡ false
  pub moves : (w : ℕ) → pending (mask_in t r) (task_of w) ≡ hit
      → Moves t r s (with_own (task_of w)) (Unit {0}) (λ me k x. step.Look w) (λ me k x. Unit {0})
      (t.found_to r s hit)
  pub leaves : LeavesHead t r s (t.found_to r s hit) (post_of t r s).head (post_of t r s).ticket
  pub state : StateStays t r s (t.found_to r s hit)
  pub home : HomeStays t r s (t.found_to r s hit)
  pub trail : (old new : Known) (w : ℕ) → pending (mask_in t r) (task_of w) ≡ hit
      → Calm (step.Look w ∷ []) old new → t.Trail old r s → TurnTrail t new r (t.found_to r s hit)

pub record SleepLaw {C S O : Type 0} (t : CallTable C S O) (r : C) (s n : S) : Type 0 where
  pub free : IsFreeStage t s
  pub fresh : t.drawn s ≡ false
  pub woken : IsFreeStage t n
  pub place : t.asleep_at n ≡ true
  pub moves : (w : ℕ) → Moves t r s (with_own (task_of w)) (Unit {0}) (λ me k x. step.Sleep w) (λ me k x. Unit {0})
      (turn.Again n)
  pub home : HomeStays t r s (turn.Again n)
  pub trail : (old new : Known) (w : ℕ) → Calm (step.Sleep w ∷ []) old new → t.Trail old r s → t.Trail new r n

-- a stage at which the own entry may be queued by this call
abbrev pub may_be_queued : Zone → Bool
may_be_queued waits = true
may_be_queued pages = true
may_be_queued _ = false

pub record MayBeQueued {C S O : Type 0} (t : CallTable C S O) (s : S) : Type 0 where
  pub fresh : t.drawn s ≡ false
  pub zone : may_be_queued (zone_at (t.point_of s)) ≡ true

pub record PeekLaw {C S O : Type 0} (t : CallTable C S O) (r : C) (s : S) (o : Option Entry) : Type 0 where
  pub free : IsFreeStage t s
  pub opens : MayBeQueued t s
  pub moves : Moves t r s (saw_entry o) ℕ (λ me k w. step.Peek (index me 0) w) (λ me k w. o ≡ entry_of w)
      (t.found_to r s (is_some o))
  pub leaves : LeavesHead t r s (t.found_to r s (is_some o)) None no_ticket
  pub state : StateStays t r s (t.found_to r s (is_some o))
  pub home : IsHome (post_of t r s).zone (stage_watch t r s) o
      → IsHome (turn_post t r (t.found_to r s (is_some o))).zone (turn_post t r (t.found_to r s (is_some o))).watch o
  pub trail : (old new : Known) (w : ℕ) → Calm (step.Peek (index old.view.number 0) w ∷ []) old new
      → is_some (entry_of w) ≡ is_some o → t.Trail old r s → TurnTrail t new r (t.found_to r s (is_some o))

-- what a hold has seen of the own entry
abbrev pub HasShown : ℕ → Known → Option Entry → Type 0
HasShown me k o = IsSeenAs ((told_of k).hold.book (index me 0)) o

-- the own entry was off, and the head is given back
pub record GiveLaw {C S O : Type 0} (t : CallTable C S O) (r : C) (s : S) : Type 0 where
  pub moves : Moves t r s (saw_entry None) (Unit {0}) (λ me k x. step.Unlock k.at false)
      (λ me k x. (k.at ≡ head_in t r s) × HasShown me k None) (t.found_to r s false)
  pub leaves : LeavesHead t r s (t.found_to r s false) None no_ticket
  pub state : StateStays t r s (t.found_to r s false)
  pub home : IsHome (turn_post t r (t.found_to r s false)).zone (turn_post t r (t.found_to r s false)).watch None
  pub permits : (old mid : Known) (w : ℕ) → Calm (step.Saw (index old.view.number 0) w ∷ []) old mid
      → t.Fits r → mid.at ≡ head_in t r s → t.Trail old r s → OwesNoPermit mid
  pub trail : (old new : Known) (w : ℕ)
      → Calm (step.Saw (index old.view.number 0) w ∷ step.Unlock (head_in t r s) false ∷ []) old new
      → is_some (entry_of w) ≡ false → t.Trail old r s → TurnTrail t new r (t.found_to r s false)

pub record PareLaw {C S O : Type 0} (t : CallTable C S O) (r : C) (s : S) : Type 0 where
  pub held : IsHeldStage t r s
  pub opens : MayBeQueued t s
  pub takes : (e : Entry) → Moves t r s (saw_entry (Some e)) (Unit {0}) (λ me k x. step.Unqueue (index me 0))
      (λ me k x. HasShown me k (Some e)) (t.found_to r s true)
  pub takes_leaves : LeavesHead t r s (t.found_to r s true) (Some (head_in t r s)) (taken (head_in t r s))
  pub takes_state : StateStays t r s (t.found_to r s true)
  pub takes_home : IsHome (turn_post t r (t.found_to r s true)).zone (turn_post t r (t.found_to r s true)).watch None
  pub takes_trail : (old new : Known) (w : ℕ)
      → Calm (step.Saw (index old.view.number 0) w ∷ step.Unqueue (index old.view.number 0) ∷ []) old new
      → is_some (entry_of w) ≡ true → t.Trail old r s → TurnTrail t new r (t.found_to r s true)
  pub gives : GiveLaw t r s

-- in a hold the own entry is looked at, and then the own word for a signal
pub record HeedLaw {C S O : Type 0} (t : CallTable C S O) (r : C) (s : S) : Type 0 where
  pub held : IsHeldStage t r s
  pub opens : MayBeQueued t s
  pub gives : GiveLaw t r s
  pub looks : (hit : Bool) (e : Entry) (w : ℕ) → pending (mask_in t r) (task_of w) ≡ hit
      → Moves t r s (record (with_own (task_of w)) { entry = Some e }) (Unit {0}) (λ me k x. step.Look w)
      (λ me k x. HasShown me k (Some e)) (t.heeded_to r s hit)
  pub leaves : (hit : Bool) → LeavesHead t r s (t.heeded_to r s hit) (Some (head_in t r s)) (taken (head_in t r s))
  pub state : (hit : Bool) → StateStays t r s (t.heeded_to r s hit)
  pub home : (hit : Bool) (o : Option Entry) → IsHome (post_of t r s).zone (stage_watch t r s) o
      → IsHome (turn_post t r (t.heeded_to r s hit)).zone (turn_post t r (t.heeded_to r s hit)).watch o
  pub trail : (hit : Bool) (old new : Known) (v w : ℕ) → pending (mask_in t r) (task_of w) ≡ hit
      → Calm (step.Saw (index old.view.number 0) v ∷ step.Look w ∷ []) old new → t.Trail old r s
      → TurnTrail t new r (t.heeded_to r s hit)

-- The own entry, which the hold had seen off, was queued at the place of its form.
pub record HasJoined {C S O : Type 0} (t : CallTable C S O) (r : C) (s : S) (old new : Known) : Type 0 where
  pub seen : Known
  pub entry : Entry
  pub looks : Looks old seen
  pub whole : IsWholeBook seen
  pub is_off : (told_of seen).hold.book (index old.view.number 0) ≡ off
  pub placed : entry ≡ entry_for ((t.plan_of r).given (t.point_of s)) ((t.plan_of r).form)
      (place_for ((t.plan_of r).form) (shown_queue seen))
  pub left : is_worn ((t.plan_of r).form) (shown_queue seen) ≡ false
  pub is : new ≡ stored_with seen (step.Queue (index old.view.number 0) entry)
  pub queued : (told_of new).bits.stored (index old.view.number 0) ≡ Some entry
  pub home : IsHome waits (stage_watch t r s) (Some entry)
  pub keeps : t.Keeps (index old.view.number 0) (watch_in t r) (t.took s) (t.took s) old new

-- No place is left for it.
pub record IsWornFor {C S O : Type 0} (t : CallTable C S O) (r : C) (old new : Known) (w : Worn) : Type 0 where
  pub looks : Looks old new
  pub whole : IsWholeBook new
  pub head : w.head ≡ old.at
  pub worn : is_worn ((t.plan_of r).form) (shown_queue new) ≡ true
  pub noted : WasWorn new.view.number new.view.items w.head w.place

-- who may add, and what an add leaves
pub record MayAdd {C S O : Type 0} (t : CallTable C S O) (r : C) (s : S) (k : Known) : Type 0 where
  pub fits : t.Fits r
  pub held : IsHolding k
  pub head : head_in t r s ≡ k.at
  pub out : (told_of k).bits.stored (index k.view.number 0) ≡ None
  pub trail : (old : Known) × HasSeenOwn old k None × t.Trail old r s

abbrev pub AddsBy : {C S O : Type 0} → CallTable C S O → C → S → Known → Known → Result (Unit {0}) Worn → Type 0
AddsBy t r s old new (Ok added) = HasJoined t r s old new
AddsBy t r s old new (Err w) = IsWornFor t r old new w

pub record AddsOwn {C S O : Type 0} (t : CallTable C S O) (r : C) (s : S) (old new : Known)
    (o : Result (Unit {0}) Worn) : Type 0 where
  pub held : IsHolding new
  pub at : new.at ≡ old.at
  pub by : AddsBy t r s old new o

-- what a hold knows that is about to queue the own entry, or to go without
pub record MayJoin (h : ℕ) (form : Form) (g : Given) (me : ℕ) (k : Known) (e : Entry) : Type 0 where
  pub at : k.at ≡ h
  pub shows : HasShown me k None
  pub whole : IsWholeBook k
  pub placed : e ≡ entry_for g form (place_for form (shown_queue k))
  pub left : is_worn form (shown_queue k) ≡ false

pub record IsWornOut (h : ℕ) (form : Form) (me : ℕ) (k : Known) : Type 0 where
  pub at : k.at ≡ h
  pub shows : HasShown me k None
  pub whole : IsWholeBook k
  pub worn : is_worn form (shown_queue k) ≡ true

pub record QueueLaw {C S O : Type 0} (t : CallTable C S O) (r : C) (s : S) : Type 0 where
  pub held : IsHeldStage t r s
  pub opens : MayBeQueued t s
  pub stays : (e : Entry) → Moves t r s (saw_entry (Some e)) (Unit {0}) (λ me k x. step.State (mask_in t r))
      (λ me k x. HasShown me k (Some e)) (t.added_to r s adds.Stayed)
  pub stays_leaves : LeavesHead t r s (t.added_to r s adds.Stayed) (Some (head_in t r s)) (taken (head_in t r s))
  pub stays_state : IsStateFor (turn_post t r (t.added_to r s adds.Stayed)).stirs
      (turn_post t r (t.added_to r s adds.Stayed)).state (mask_in t r)
  pub stays_home : (o : Option Entry) → IsHome (post_of t r s).zone (stage_watch t r s) o
      → IsHome (turn_post t r (t.added_to r s adds.Stayed)).zone (turn_post t r (t.added_to r s adds.Stayed)).watch o
  pub stays_may : (k : Known) → IsStateFor (post_of t r s).stirs (post_of t r s).state k.book.state
      → MayStore (mask_in t r) k
  pub stays_trail : (old new : Known) (w : ℕ)
      → Calm (step.Saw (index old.view.number 0) w ∷ step.State (mask_in t r) ∷ []) old new
      → is_some ((told_of new).bits.stored (own_of new)) ≡ true → t.Trail old r s
      → TurnTrail t new r (t.added_to r s adds.Stayed)
  pub joins : Moves t r s (saw_entry None) Entry (λ me k e. step.Queue (index me 0) e)
      (MayJoin (head_in t r s) ((t.plan_of r).form) ((t.plan_of r).given (t.point_of s)))
      (t.added_to r s adds.Joined)
  pub joins_same : t.plan_of (t.joined_at r s) ≡ t.plan_of r
  pub joins_fits : t.Fits r → t.Fits (t.joined_at r s)
  pub joins_leaves : LeavesHead t (t.joined_at r s) s (t.added_to r s adds.Joined) (Some (head_in t r s))
      (taken (head_in t r s))
  pub joins_state : StateGoes t r s (t.joined_at r s) (t.added_to r s adds.Joined)
  pub joins_home : (e : Entry) → IsHome waits (stage_watch t r s) (Some e)
      → IsHome (turn_post t (t.joined_at r s) (t.added_to r s adds.Joined)).zone
      (turn_post t (t.joined_at r s) (t.added_to r s adds.Joined)).watch (Some e)
  pub joins_tells : (x : Transition) (i : ℕ) (e : Entry) → x.did ≡ by_step (step.Queue i e)
      → t.Tells r (t.joined_at r s) (x ∷ [])
  pub joins_trail : (old mid new : Known) → OnlyLooks old mid → HasJoined t r s mid new → t.Trail old r s
      → TurnTrail t new (t.joined_at r s) (t.added_to r s adds.Joined)
  pub wears : Moves t r s (with_worn true) (Unit {0}) (λ me k x. step.Unlock k.at false)
      (λ me k x. IsWornOut (head_in t r s) ((t.plan_of r).form) me k) (t.added_to r s adds.Worn)
  pub wears_leaves : (p : ℕ) → LeavesHead t (t.worn_at r p) s (t.added_to r s adds.Worn) None no_ticket
  pub wears_state : (p σ : ℕ) → IsStateFor (post_of t r s).stirs (post_of t r s).state σ
      → IsStateFor (turn_post t (t.worn_at r p) (t.added_to r s adds.Worn)).stirs
      (turn_post t (t.worn_at r p) (t.added_to r s adds.Worn)).state σ
  pub wears_home : (p : ℕ) → IsHome (turn_post t (t.worn_at r p) (t.added_to r s adds.Worn)).zone
      (turn_post t (t.worn_at r p) (t.added_to r s adds.Worn)).watch None
  pub wears_permits : (old last : Known) → t.Fits r → OnlyLooks old last → last.at ≡ head_in t r s → t.Trail old r s
      → OwesNoPermit last
  pub wears_trail : (old last new : Known) (p : ℕ) → OnlyLooks old last
      → WasWorn new.view.number new.view.items (head_in t r s) p
      → history_of new ≡ history_of last ++ step.Unlock (head_in t r s) false ∷ [] → t.Trail old r s
      → TurnTrail t new (t.worn_at r p) (t.added_to r s adds.Worn)

abbrev pub LawOf : {C S O : Type 0} → Doing → CallTable C S O → C → S → Type 0
LawOf doing.Load t r s = (v : ℕ) → LoadLaw t r s v (t.noted r s v) (t.loaded_to r s v)
LawOf doing.Draw t r s = DrawLaw t r s
LawOf doing.Lock t r s = LockLaw t r s
LawOf doing.Unlock t r s = UnlockLaw t r s
LawOf doing.State t r s = StateLaw t r s
LawOf doing.Look t r s = (hit : Bool) → LookLaw t r s hit
LawOf doing.Sleep t r s = SleepLaw t r s (t.slept_to r s)
LawOf doing.Peek t r s = (o : Option Entry) → PeekLaw t r s o
LawOf doing.Pare t r s = PareLaw t r s
LawOf doing.Heed t r s = HeedLaw t r s
LawOf doing.Queue t r s = QueueLaw t r s
LawOf doing.Own t r s = Unit {0}

-- What stays of a task over a part of a call stays over each kind of event.
pub record KeepsLaws (K : ℕ → Watch → Bool → Bool → Known → Known → Type 0) : Type 0 where
  pub domain : (i : ℕ) (c : Watch) (g h : Bool) (old new : Known) → K i c g h old new → new.domain ≡ old.domain
  pub number : (i : ℕ) (c : Watch) (g h : Bool) (old new : Known) → K i c g h old new
      → new.view.number ≡ old.view.number
  pub none : (i : ℕ) (c : Watch) (g : Bool) (k : Known) → K i c g g k k
  pub on : (i : ℕ) (c : Watch) (f g h : Bool) (old mid new : Known) → K i c f g old mid → K i c g h mid new
      → K i c f h old new
  pub told : (i : ℕ) (c : Watch) (g : Bool) (old new : Known) → new.domain ≡ old.domain
      → new.view.number ≡ old.view.number → told_of new ≡ told_of old → ((x : Excuse) → Debts x old → Debts x new)
      → K i c g g old new
  pub lock : (i : ℕ) (c : Watch) (g : Bool) (old : Known) (h x : ℕ)
      → K i c g g old (at_head h (added old (item.Made (step.Lock h (walk_of_hold h None) x))))
  pub unlock : (i : ℕ) (c : Watch) (g : Bool) (old new : Known) → new ≡ unlocked_with old old.at false
      → K i c g g old new
  pub state : (i : ℕ) (c : Watch) (g : Bool) (old new : Known) (σ : ℕ) → new ≡ added old (item.Made (step.State σ))
      → Carries (state_change σ) old new → K i c g g old new
  pub look : (i : ℕ) (c : Watch) (g : Bool) (old new : Known) (w : ℕ) → new ≡ added old (item.Made (step.Look w))
      → Carries unchanged old new → K i c g g old new
  pub load : (i : ℕ) (c d : Watch) (g : Bool) (old new : Known) (v : ℕ) → new ≡ added old (item.Made (step.Load d v))
      → Carries unchanged old new → K i c g g old new
  pub own : (c : Watch) (g : Bool) (old new : Known) (o : Option Entry) → HasSeenOwn old new o
      → K (index old.view.number 0) c g g old new
  pub removed : (i : ℕ) (c : Watch) (g : Bool) (old new : Known) → new ≡ stored_with old (step.Unqueue i)
      → Carries (take_off_change i) old new → K i c g g old new
  pub looks : (i : ℕ) (c : Watch) (g : Bool) (old new : Known) → (told_of old).bits.stored i ≡ None
      → Looks old new → K i c g g old new

-- The laws of a table.
pub record IsLawfulCallTable {C S O : Type 0} (t : CallTable C S O) : Type 0 where
  pub keeps : KeepsLaws t.Keeps
  pub tells : TellsLaws t.Tells
  pub worn_tells : (r : C) (p : ℕ) (x : Transition) → is_quiet_event x.did ≡ true → t.Tells r (t.worn_at r p) (x ∷ [])
  pub at : (r : C) (s : S) → LawOf (t.doing s) t r s
  pub still : (old new : Known) (r : C) (s : S) → Calm [] old new → t.Trail old r s → t.Trail new r s
  pub rises : (old new : Known) (r : C) (s : S) → t.asleep_at s ≡ true → Unmoved old new → t.Trail old r s
      → t.Trail new r s
  pub worn : (r : C) (p : ℕ) → t.plan_of (t.worn_at r p) ≡ t.plan_of r
  pub worn_fits : (r : C) (p : ℕ) → t.Fits r → t.Fits (t.worn_at r p)
  pub there : (r : C) (s : S) → t.Fits r → IsThere (stage_watch t r s)
  pub few : (r : C) (s : S) → t.Fits r → head_in t r s < HEADS
  pub depth : (s : S) → t.depth s ≤ 6

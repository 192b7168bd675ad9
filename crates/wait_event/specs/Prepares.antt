-- To be believed.
-- What preparing to wait says, and finishing.
use Rattle.std.specs.Prelude.{ℕ, ◌≡◌, ◌⊎◌, ◌<◌, ◌≤◌, ◌&&◌, not, Bool, true, false, Option, Some, None, Result, Ok, Err, []}
use Rattle.std.specs.Prelude.{◌++◌}
use Rattle.wait_model.specs.{declared.tasks.How.How, declared.tasks.SleepState.SleepState, declared.calls.Answer.Answer}
use Rattle.wait_model.specs.{Programs.signalled, Programs.zero_answer, declared.watches.Entry.Entry}
use Rattle.wait_model.specs.{declared.watches.Kind.Kind, declared.watches.Watch.Watch}
use Rattle.wait_model.specs.declared.layout.TheConstants.{BIT_WORDS, FIRST_DONE_HEAD, FIRST_SIMPLE, PLAIN_CONDITIONS}
use Rattle.wait_model.specs.declared.layout.TheConstants.{VARIABLES, WORD_BITS}
use Rattle.wait_model.specs.Tasks.{pending, state_mask, task_of}
use Rattle.wait_model.specs.Watches.{bare, head_of, kind_for}
use Rattle.wait_model.specs.declared.points.Point.TheVariants as at
use Rattle.wait_model.specs.declared.points.PreparePoint.TheVariants as preparing
use Rattle.wait_model.specs.declared.points.FinishPoint.TheVariants as finishing
use Rattle.wait_model.specs.declared.tasks.SleepState.TheVariants as states
use Rattle.wait_model.specs.declared.calls.Answer.TheVariants as answer
use Rattle.wait_model.specs.declared.points.Next.TheVariants as next
use Rattle.wait_model.specs.declared.watches.Kind.TheVariants as kinds
use Rattle.wait_model.specs.declared.watches.Watch.TheVariants as watch
use Rattle.wait_rule.specs.{Ends.WasWorn, Known.Known, Transitions.Program}
use Rattle.wait_rule.specs.Says.{Excuse, IsFree, IsUp, OwesBut, told_of}
use Rattle.wait_rule.specs.Stays.{Carries, Change, only, unchanged, with_entry}
use Rattle.wq_head.specs.declared.adds.Worn.{Worn}
use Rattle.wait_class.specs.Posts.{EndsWith, IsOut, Keeps, Runs, own_of}
use Rattle.wait_class.specs.Tables.{plan_program}
use Rattle.wait_event.specs.{WaitPlans.part_plan, WaitPlans.prepare_plan, declared.prepares.Part.Part}
use Rattle.wait_event.specs.declared.prepares.Prepared.{Prepared}
use Rattle.wait_event.specs.Waits.{IsQueuedIn, wait_left_by, queues_first}
use Rattle.wait_event.specs.declared.prepares.Prepared.TheVariants as prepared

-- What a prepare may queue, by the kind of the entry: one for a plain condition with a full head, at the front or at the
-- tail; one for a plain condition with a simple head, at the tail; one for a bit and one for a variable, at the front.
abbrev pub SuitsWait : Watch → Kind → How → Type 0
SuitsWait (watch.Plain c) kinds.Default how = c < FIRST_SIMPLE
SuitsWait (watch.Plain c) kinds.Autoremove how = c < FIRST_SIMPLE
SuitsWait (watch.Plain c) kinds.Woken how = c < FIRST_SIMPLE
SuitsWait (watch.Plain c) kinds.Simple how = (FIRST_SIMPLE ≤ c) × (c < PLAIN_CONDITIONS) × (how.exclusive ≡ true)
SuitsWait (watch.Bit w b) kinds.Bit how = (w < BIT_WORDS) × (b < WORD_BITS) × (how.exclusive ≡ false)
SuitsWait (watch.Var v old) kinds.Var how = (v < VARIABLES) × (how.exclusive ≡ false)
SuitsWait _ _ how = ⊥

-- the own entry is off, or one of this watch and kind
abbrev pub IsPart : Watch → Kind → Option Entry → Type 0
IsPart w k None = Unit {0}
IsPart w k (Some e) = (e.watch ≡ bare w) × (e.kind ≡ k)

-- The task is awake, RUNNING or in the state of the prepare, and holds no lock. Its entry of slot 0 is off, or one of this
-- watch and kind.
pub record MayPrepare (t : Known) (w : Watch) (k : Kind) (σ : SleepState) : Type 0 where
  pub up : IsUp t
  pub free : IsFree t
  pub state : (t.book.state ≡ 0) ⊎ (t.book.state ≡ state_mask σ)
  pub home : IsPart w k ((told_of t).bits.stored (own_of t))

-- the program of a prepare for this watch, whose entry is of this kind; it looks for a signal only where it asks for one
abbrev pub prepare_program : Bool → ℕ → Watch → Kind → How → Program
prepare_program asks me w k how = plan_program me 0 (prepare_plan asks w k how)

-- The task went through a prepare to its end, which is one hold, with this answer, and holds no lock. Its entry of slot 0
-- is off, or one of this watch and kind.
pub record Prepares (old new : Known) (w : Watch) (k : Kind) (how : How) (asks : Bool) (a : Answer) : Type 0 where
  pub runs : Runs (prepare_program asks old.view.number w k how) old new (next.Go (at.Prepare preparing.Lock))
      (next.Ends a)
  pub keeps : Keeps (own_of old) old new
  pub up : IsUp new
  pub free : IsFree new
  pub home : IsPart w k ((told_of new).bits.stored (own_of new))

-- the last steps of a prepare that found a signal
pub record WasAsked (k : Known) (w : Watch) (how : How) : Type 0 where
  pub look : ℕ
  pub entry : ℕ
  pub showed : pending (state_mask how.state) (task_of look) ≡ true
  pub ends : EndsWith k (wait_left_by (own_of k) (head_of w) look entry ++ [])

-- the entry is off, and no state was stored
pub record IsPrepareLeft (old new : Known) : Type 0 where
  pub out : IsOut new
  pub state : new.book.state ≡ old.book.state

abbrev pub EndsPrepare : Known → Known → Watch → Kind → How → Bool → Result Prepared Worn → Type 0
EndsPrepare old new w k how asks (Ok prepared.Queued) = Prepares old new w k how asks zero_answer
    × IsQueuedIn new (state_mask how.state)
EndsPrepare old new w k how asks (Ok prepared.Signal) = Prepares old new w k how asks signalled
    × (asks ≡ true) × IsPrepareLeft old new × WasAsked new w how
EndsPrepare old new w k how asks (Err e) = Prepares old new w k how asks answer.Worn × IsPrepareLeft old new
    × (e.head ≡ head_of w) × WasWorn new.view.number new.view.items e.head e.place

-- An exclusive prepare that looks for no signal answers whether its entry is the first: it queued it, and its hold had
-- shown no entry and no bookmark of the head before.
abbrev pub exclusive_in : SleepState → How
exclusive_in σ = record { state = σ; exclusive = true }

abbrev pub EndsExclusive : Known → Known → Watch → Kind → SleepState → Result Bool Worn → Type 0
EndsExclusive old new w k σ (Ok first) = (p : Prepares old new w k (exclusive_in σ) false zero_answer)
    × IsQueuedIn new (state_mask σ) × (first ≡ queues_first p.runs.transitions)
EndsExclusive old new w k σ (Err e) = EndsPrepare old new w k (exclusive_in σ) false (Err e)

-- the same of a prepare by its numbers: whether its entry is the first, where it answers that, and nothing where it found
-- a signal
abbrev pub answers_first : Part → Bool
answers_first p = p.how.exclusive && not p.asks

abbrev pub EndsPart : Known → Known → Part → Result (Option Bool) Worn → Type 0
EndsPart old new p (Ok (Some first)) = (x : Prepares old new p.watch p.kind p.how p.asks zero_answer)
    × IsQueuedIn new (state_mask p.how.state) × (first ≡ (queues_first x.runs.transitions && answers_first p))
EndsPart old new p (Ok None) = EndsPrepare old new p.watch p.kind p.how p.asks (Ok prepared.Signal)
EndsPart old new p (Err e) = EndsPrepare old new p.watch p.kind p.how p.asks (Err e)

-- what they answer, as a prepare that may find a signal
abbrev pub with_signal : Result (Unit {0}) Worn → Result Prepared Worn
with_signal (Ok u) = Ok prepared.Queued
with_signal (Err e) = Err e

abbrev pub with_first : Result Bool Worn → Result Prepared Worn
with_first (Ok first) = Ok prepared.Queued
with_first (Err e) = Err e

abbrev pub with_none : Result (Option Bool) Worn → Result Prepared Worn
with_none (Ok (Some first)) = Ok prepared.Queued
with_none (Ok None) = Ok prepared.Signal
with_none (Err e) = Err e

-- The task is awake and holds no lock, and its entry of slot 0 is off, or one that waits for no completion. Its state is
-- any.
abbrev pub IsNoWaiter : Option Entry → Type 0
IsNoWaiter None = Unit {0}
IsNoWaiter (Some e) = head_of e.watch < FIRST_DONE_HEAD

pub record MayFinish (k : Known) : Type 0 where
  pub up : IsUp k
  pub free : IsFree k
  pub home : IsNoWaiter ((told_of k).bits.stored (own_of k))

-- how a wait that says no more of its state is named
abbrev pub any_how : How
any_how = record { state = states.Uninterruptible; exclusive = false }

abbrev pub finish_program : ℕ → Watch → Program
finish_program me w = plan_program me 0 (part_plan true w (kind_for w) any_how)

-- The task went through the finish of a wait for the watch of its entry, where it had one. It is RUNNING, holds no lock,
-- and the entry is off.
pub record HasFinished (old new : Known) : Type 0 where
  pub watch : Watch
  pub about : (e : Entry) → (told_of old).bits.stored (own_of old) ≡ Some e → watch ≡ e.watch
  pub runs : Runs (finish_program old.view.number watch) old new (next.Go (at.Finish finishing.State false))
      (next.Ends zero_answer)
  pub keeps : Keeps (own_of old) old new
  pub up : IsUp new
  pub free : IsFree new
  pub out : IsOut new
  pub running : new.book.state ≡ 0

-- What a prepare changes that queued the entry, or found it queued, and stored the state; what one changes that gave the
-- entry up: the task owes it no more then; and what a finish changes besides: the task is RUNNING.
abbrev pub leave_change : ℕ → ℕ → Change
leave_change i h = record unchanged { from = with_entry i; but = only i; looks = true; at = λ _. h }

abbrev pub prepare_change : ℕ → ℕ → ℕ → Change
prepare_change i σ h = record (leave_change i h) { to = with_entry i; state = λ _. σ }

abbrev pub finish_change : ℕ → ℕ → Change
finish_change i h = record (leave_change i h) { state = λ _. 0 }

abbrev pub CarriesPrepare : Known → Known → SleepState → Result Prepared Worn → Type 0
CarriesPrepare old new σ (Ok prepared.Queued) = Carries (prepare_change (own_of old) (state_mask σ) new.at) old new
CarriesPrepare old new σ _ = Carries (leave_change (own_of old) new.at) old new

-- Of a task that had no entry queued: it owes the entry then.
abbrev pub BeginsOwing : Known → Known → Type 0
BeginsOwing old new = (x : Excuse) → OwesBut x old → OwesBut (with_entry (own_of old) x) new

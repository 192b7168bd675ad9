-- Findings by which a program makes the events that it may make.
use Rattle.std.proofs.Common.{refl, arith}
use Rattle.std.specs.Prelude.{ℕ, ◌≡◌, ◌≤◌, Bool, true, false, List, Some, None, if◌then◌else◌}
use Rattle.wait_model.specs.{declared.layout.TheConstants.ALL_DONE, declared.calls.Call.Call}
use Rattle.wait_model.specs.{declared.calls.Event.Event, declared.calls.Answer.Answer, declared.tasks.Sleep.Sleep}
use Rattle.wait_model.specs.{declared.tasks.SleepState.SleepState, declared.tasks.TaskRecord.TaskRecord}
use Rattle.wait_model.specs.{declared.watches.Entry.Entry, declared.points.Next.Next, declared.points.Seen.Seen}
use Rattle.wait_model.specs.{declared.points.Point.Point, Watches.is_done, Points.call_watch, Phrases.Rest}
use Rattle.wait_model.specs.Making.{goes_to}
use Rattle.wait_model.specs.Tasks.{state_mask, looks_in, pending, meets, sleep_of}
use Rattle.wait_model.specs.Findings.{Noted, Fair, IsRanged, CountStays}
use Rattle.wait_model.specs.declared.tasks.Sleep.TheVariants as sleep
use Rattle.wait_model.specs.declared.tasks.SleepState.TheVariants as states
use Rattle.wait_model.specs.declared.watches.Kind.TheVariants as kind
use Rattle.wait_model.specs.declared.watches.Watch.TheVariants as watch
use Rattle.wait_model.specs.declared.points.Next.TheVariants as next

pub carried : (R S : Point → Rest) (n : Next) (w : List Event) (a : Answer) → ((q : Point) → R q w a → S q w a)
    → goes_to R n w a → goes_to S n w a
carried R S (next.Go q) w a k h = k q h
carried R S (next.Ends b) w a k h = h

-- findings
abbrev awake : TaskRecord
awake = record { state = 0; runnable = true; signal = false; fatal = false }

-- a count is the one that was loaded
abbrev pub sees : Noted → Seen
sees m = record {
  own = awake;
  entry = None;
  flag = false;
  value = if m.loaded then m.count else 0;
  called = None;
  breaks = false;
  calls = 0;
  members = false;
  worn = false;
  mark = None;
  other = awake;
}

abbrev pub some_entry : Entry
some_entry = record { watch = watch.Plain 0; place = 0; exclusive = false; priority = false; kind = kind.Default }

pub looking : (st : SleepState) → looks_in st ≡ true → (hit : Bool)
    → (t : TaskRecord) × (pending (state_mask st) t ≡ hit)
unfolding meets
looking states.Uninterruptible l hit = absurd (cc)
looking states.Interruptible l true = (record { state = 0; runnable = true; signal = true; fatal = false }, refl)
looking states.Interruptible l false = (awake, refl)
looking states.Killable l true = (record { state = 0; runnable = true; signal = true; fatal = true }, refl)
looking states.Killable l false = (awake, refl)

pub sleeping : (r : Sleep) → (t : TaskRecord) × (sleep_of t ≡ r)
unfolding meets
sleeping sleep.Stay = (awake, refl)
sleeping sleep.Signal = (record { state = 1; runnable = true; signal = true; fatal = false }, refl)
sleeping sleep.Asleep = (record { state = 1; runnable = true; signal = false; fatal = false }, refl)

-- they are such as a task may have
module _ (call : Call) (m : Noted) where
  ranged : IsRanged call m (sees m)
  ranged d l = rw l (omega arith)

  stays : CountStays call m (sees m)
  stays d l h = rw l refl

  pub fair : Fair call m (sees m)
  fair = (λ w q. refl, ranged, stays)

  -- the own entry stands where the call has queued it
  pub standing : m.queued ≡ true → Fair call m (record (sees m) { entry = Some some_entry })
  standing q = (λ w z. absurd (cc), ranged, stays)

  -- a value that is no count, and a count
  pub shown : (value : ℕ) → is_done (call_watch call) ≡ false → Fair call m (record (sees m) { value = value })
  shown value q = (λ w z. refl, λ d l. absurd (cc), λ d l h. absurd (cc))

  pub fresh : (count : ℕ) → m.loaded ≡ false → count ≤ ALL_DONE → Fair call m (record (sees m) { value = count })
  fresh count q r = (λ w z. refl, λ d l. r, λ d l h. absurd (cc))

  pub same_count : m.loaded ≡ true → Fair call m (record (sees m) { value = m.count })
  same_count q = (λ w z. refl, λ d l. absurd (cc), λ d l h. refl)

  pub same_standing : m.queued ≡ true → m.loaded ≡ true
      → Fair call m (record (sees m) { value = m.count; entry = Some some_entry })
  same_standing s q = (λ w z. absurd (cc), λ d l. absurd (cc), λ d l h. refl)

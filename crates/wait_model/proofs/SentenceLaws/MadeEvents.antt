-- A program that makes each first event of what is left makes all that is left.
use Rattle.std.proofs.Common.{refl, sym, subst}
use Rattle.std.specs.Prelude.{ℕ, ◌≡◌, Bool, true, false, List, [], ◌∷◌, Some}
use Rattle.wait_model.specs.{declared.calls.Call.Call, declared.calls.Event.Event, declared.calls.Answer.Answer}
use Rattle.wait_model.specs.{declared.tasks.TaskRecord.TaskRecord, declared.tasks.SleepState.SleepState}
use Rattle.wait_model.specs.{declared.queues.CalledEntry.CalledEntry, declared.queues.Form.Form}
use Rattle.wait_model.specs.{declared.watches.Watch.Watch, declared.watches.Mode.Mode, declared.points.Planned.Planned}
use Rattle.wait_model.specs.{declared.points.Seen.Seen, declared.points.Point.Point, Tasks.meets, Watches.mask_of}
use Rattle.wait_model.specs.{Programs.program, Phrases.Rest, Making.goes_to, Making.Makes, SentenceSteps.enters}
use Rattle.wait_model.specs.Findings.{Noted, notes, MayComeTo, MayFind}
use Rattle.wait_model.specs.declared.watches.Kind.TheVariants as kind
use Rattle.wait_model.specs.declared.watches.Mode.TheVariants as mode
use Rattle.wait_model.proofs.SentenceLaws.MadeFindings.{carried, sees, fair, standing, some_entry}

-- an event leads on by a planned one
abbrev pub Leads : (Noted → Point → Rest) → Noted → Event → Planned → Rest
Leads R m x y w a = (x ≡ y.event) × goes_to (R (notes m y.event)) y.next w a

abbrev pub MakesFirst : ℕ → Call → (Noted → Point → Rest) → Noted → Point → Event → Rest
MakesFirst me call R m p x w a = (seen : Seen) × MayFind call p m seen × Leads R m x (program me call p seen) w a

module _ (me : ℕ) (call : Call) (R : Noted → Point → Rest)
    (none : (p : Point) (m : Noted) (a : Answer) → R m p [] a → ⊥)
    (back : (p : Point) (m : Noted) (x : Event) (w : List Event) (a : Answer) → R m p (x ∷ w) a
    → MakesFirst me call R m p x w a) where
  pub all_made : (w : List Event) (m : Noted) (p : Point) (a : Answer) → R m p w a → Makes me call m p w a
  all_made [] m p a h = none p m a h
  all_made (x ∷ w) m p a h =
      let (seen, f, y) = back p m x w a h in (
        seen,
        f,
        y.0,
        subst (λ (e : Event). goes_to (λ q v b. Makes me call (notes m e) q w b) (program me call p seen).next w a)
            (sym y.0)
            (carried (R (notes m (program me call p seen).event))
            (λ q v b. Makes me call (notes m (program me call p seen).event) q w b)
            (program me call p seen).next w a (λ q. all_made w (notes m (program me call p seen).event) q a) y.1),
      )

-- the event at a point for which the own entry is found queued, and for which no place is left
module _ (me : ℕ) (call : Call) (R : Noted → Point → Rest) (m : Noted) (p : Point) (x : Event) (w : List Event)
    (a : Answer) where
  abbrev queued : Seen
  queued = record (sees m) { entry = Some some_entry }

  abbrev full : Seen
  full = record (sees m) { worn = true }

  pub made_queued : m.queued ≡ true → MayComeTo call p queued → Leads R m x (program me call p queued) w a
      → MakesFirst me call R m p x w a
  made_queued q may y = (queued, (standing call m q, may), y)

  pub made_full : MayComeTo call p full → Leads R m x (program me call p full) w a → MakesFirst me call R m p x w a
  made_full may y = (full, (fair call m, may), y)

-- something is left where an entry is to be queued
pub enters_none : (c : Watch) (st : SleepState) (form : Form) (b : Bool) (R : Bool → Rest) (a : Answer)
    → enters c st form b R [] a → ⊥
enters_none c st form true R a (true, h) = h
enters_none c st form true R a (false, (true, h)) = h
enters_none c st form true R a (false, (false, h)) = h
enters_none c st form false R a (true, h) = h
enters_none c st form false R a (false, h) = h

-- a task that a wake meets, or does not
pub rousing : (i : Mode) (hit : Bool) → (t : TaskRecord) × (meets (mask_of i) t.state ≡ hit)
unfolding meets
rousing mode.Interruptible true = (record { state = 1; runnable = false; signal = false; fatal = false }, refl)
rousing mode.Interruptible false = (record { state = 0; runnable = true; signal = false; fatal = false }, refl)
rousing mode.Normal true = (record { state = 1; runnable = false; signal = false; fatal = false }, refl)
rousing mode.Normal false = (record { state = 0; runnable = true; signal = false; fatal = false }, refl)

abbrev pub a_call : ℕ → CalledEntry
a_call who = record { place = 0; who = who; exclusive = false; kind = kind.Simple }

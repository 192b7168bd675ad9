-- What is left of a sentence after its first events, and how an event of a program begins what is left.
use Rattle.std.specs.Prelude.{ℕ, ◌≡◌, ◌≤◌, true, false, List, [], ◌∷◌, Some, None}
use Rattle.wait_model.specs.{declared.layout.TheConstants.ALL_DONE, declared.calls.Call.Call}
use Rattle.wait_model.specs.{declared.calls.Event.Event, declared.calls.Answer.Answer, declared.points.Planned.Planned}
use Rattle.wait_model.specs.{declared.points.Next.Next, declared.points.Seen.Seen, declared.points.Point.Point}
use Rattle.wait_model.specs.{Watches.is_done, Points.call_watch, Points.call_head, Reached.held_at}
use Rattle.wait_model.specs.SentenceSteps.{number}
use Rattle.wait_model.specs.Phrases.{Rest, first_is, finds, ends}
use Rattle.wait_model.specs.Findings.{Noted, notes, is_waiting, MayComeTo}
use Rattle.wait_model.specs.declared.points.Next.TheVariants as next
use Rattle.wait_model.specs.declared.points.Progress.TheVariants as now
use Rattle.std.proofs.Common.{refl}

-- what a call knows of what it finds: the own entry is off until the call queues it, a count is in its range, and it
-- stays as it was loaded while the head is held
pub record Knows (call : Call) (p : Point) (m : Noted) (seen : Seen) : Type 0 where
  pub off : is_waiting call ≡ true → m.queued ≡ false → seen.entry ≡ None
  pub range : is_done (call_watch call) ≡ true → seen.value ≤ ALL_DONE
  pub count : is_done (call_watch call) ≡ true → m.loaded ≡ true → held_at (now.Open call p) ≡ Some (call_head call)
      → seen.value ≡ m.count
  pub walk : MayComeTo call p seen

-- where the own events so far tell a count
abbrev pub AfterLoad : Noted → Rest → Rest
AfterLoad m R w a = m.loaded ≡ true → R w a

-- what is left after a planned event
abbrev pub left_at : (Point → Rest) → Next → Rest
left_at R (next.Go p) = R p
left_at R (next.Ends b) = ends b

-- a planned event begins the sentence of which the rest is left after it
abbrev pub Says : (Noted → Point → Rest) → Noted → Planned → Rest → Type 0
Says R m x S = (w : List Event) (a : Answer) → left_at (R (notes m x.event)) x.next w a → S (x.event ∷ w) a

-- nothing is left out
abbrev pub anything : Rest
anything w a = Unit {0}

-- with some bound on the turns that are left
abbrev pub Some_turns : (ℕ → Rest) → Rest
Some_turns R w a = (n : ℕ) × R n w a

-- more is left after the same event
pub first_more : (e : Event) (R S : Rest) → ((w : List Event) (a : Answer) → R w a → S w a)
    → (w : List Event) (a : Answer)
    → first_is e R w a → first_is e S w a
first_more e R S more [] a h = h
first_more e R S more (x ∷ w) a h = (h.0, more w a h.1)

-- some events are left
abbrev pub CanEnd : Rest → Type 0
CanEnd R = (w : List Event) × (a : Answer) × R w a

pub over : (b : Answer) → CanEnd (ends b)
over b = ([], b, refl)

pub unsaid : CanEnd anything
unsaid = ([], number 0, tt)

pub first : (e : Event) (R : Rest) → CanEnd R → CanEnd (first_is e R)
first e R (w, a, h) = (e ∷ w, a, (refl, h))

pub found : {A : Type 0} (f : A → Event) (R : A → Rest) (x : A) → CanEnd (R x) → CanEnd (finds f R)
found f R x (w, a, h) = (f x ∷ w, a, (x, (refl, h)))

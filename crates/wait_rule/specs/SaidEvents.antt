-- To be believed.
-- Whole runs of calls, as the model's sentences say them: the events that the transitions of a call are.
use Rattle.std.specs.Prelude.{ℕ, ◌≡◌, ◌<◌, Bool, true, false, None, List, [], ◌∷◌, ◌++◌}
use Rattle.wait_model.specs.{declared.layout.TheConstants.SLOTS, declared.layout.TheConstants.PLAIN_CONDITIONS}
use Rattle.wait_model.specs.{declared.calls.Call.Call, declared.calls.Event.Event, declared.calls.Answer.Answer}
use Rattle.wait_model.specs.{declared.points.Point.Point, declared.points.Next.Next, declared.watches.Aim.Aim}
use Rattle.wait_model.specs.{declared.watches.Mode.Mode, Watches.is_done, Points.call_watch, Programs.program_start}
use Rattle.wait_model.specs.{Findings.is_waiting, Sentences.Follows, Sentences.Begins, Tables.Table}
use Rattle.wait_model.specs.declared.calls.Call.TheVariants as calls
use Rattle.wait_model.specs.declared.points.Point.TheVariants as at
use Rattle.wait_model.specs.declared.points.WalkPoint.TheVariants as walking
use Rattle.wait_model.specs.declared.points.Next.TheVariants as next
use Rattle.wait_model.specs.declared.watches.Watch.TheVariants as watch
use Rattle.wait_rule.specs.{declared.journal.Item.Item, Known.Known, Rule.IsRuled, Says.told_of, Queues.index}
use Rattle.wait_rule.specs.Transitions.{Program, Transition, Goes, call_program, walk_program}

-- the events of the program at the places through which the transitions go, oldest first
abbrev pub said : Program → Next → List Transition → List Event
said f (next.Go p) (t ∷ ts) = (f.plan p t.seen).event ∷ said f (f.plan p t.seen).next ts
said f n ts = []

-- the task went through the whole call, which answers this
pub record HasMade (call : Call) (slot : ℕ) (old new : Known) (a : Answer) : Type 0 where
  pub transitions : List Transition
  pub goes : Goes (call_program old.view.number slot call) old (next.Go (program_start call)) transitions new
      (next.Ends a)

abbrev pub call_said : (call : Call) (slot : ℕ) (old new : Known) (a : Answer) → HasMade call slot old new a
    → List Event
call_said call slot old new a m = said (call_program old.view.number slot call) (next.Go (program_start call))
    m.transitions

-- the calls that walk
abbrev pub is_walking : Call → Bool
is_walking (calls.Wake c mode n) = true
is_walking (calls.ClearBit w b) = true
is_walking (calls.SetVar v x) = true
is_walking _ = false

-- a call that waits begins with the own entry off
abbrev pub MayOpen : Call → ℕ → Known → Type 0
MayOpen call slot k = is_waiting call ≡ true → (told_of k).bits.stored (index k.view.number slot) ≡ None

-- In each table that meets the rule, in which the task's list begins as it was after the call: what the task made of
-- the call follows the sentence of the call to its end, and the answer is the one that the sentence gives. So it is for
-- all calls but those about completions, and those that walk, of which `WakesFollow` says it.
abbrev pub RunsFollow : Type 0
RunsFollow = (s : Table) (items : ℕ → List Item) → IsRuled s items → (call : Call) (slot : ℕ) (old new : Known)
    (a : Answer) (more : List Item) → items old.view.number ≡ new.view.items ++ more
    → slot < SLOTS → is_done (call_watch call) ≡ false → is_walking call ≡ false → MayOpen call slot old
    → (m : HasMade call slot old new a) → Follows old.view.number call (call_said call slot old new a m) a

-- a wake is one of a plain condition, a clear one of a bit, and a store one of a variable
abbrev pub MayWalk : Call → Type 0
MayWalk (calls.Wake c mode n) = c < PLAIN_CONDITIONS
MayWalk _ = Unit {0}

-- the same of the calls that walk
abbrev pub WakesFollow : Type 0
WakesFollow = (s : Table) (items : ℕ → List Item) → IsRuled s items → (call : Call) (slot : ℕ) (old new : Known)
    (a : Answer) (more : List Item) → items old.view.number ≡ new.view.items ++ more
    → is_walking call ≡ true → MayWalk call → (m : HasMade call slot old new a)
    → Follows old.view.number call (call_said call slot old new a m) a

-- The task has gone through the call up to this place. What it has made of it so far begins the sentence: with some
-- more events it comes to its end.
pub record IsAmidCall (call : Call) (slot : ℕ) (old new : Known) (p : Point) : Type 0 where
  pub transitions : List Transition
  pub goes : Goes (call_program old.view.number slot call) old (next.Go (program_start call)) transitions new
      (next.Go p)

abbrev pub RunsBegin : Type 0
RunsBegin = (s : Table) (items : ℕ → List Item) → IsRuled s items → (call : Call) (slot : ℕ) (old new : Known)
    (p : Point) (more : List Item) → items old.view.number ≡ new.view.items ++ more
    → slot < SLOTS → is_done (call_watch call) ≡ false → is_walking call ≡ false → MayOpen call slot old
    → (m : IsAmidCall call slot old new p) → Begins old.view.number call
    (said (call_program old.view.number slot call) (next.Go (program_start call)) m.transitions)

-- A walk of a plain condition, whatever call makes it: what the task made of it follows the sentence of a wake.
abbrev pub plain_aim : ℕ → Mode → ℕ → Aim
plain_aim c mode n = record { watch = watch.Plain c; mode = mode; count = n }

pub record HasWalked (aim : Aim) (old new : Known) (a : Answer) : Type 0 where
  pub transitions : List Transition
  pub goes : Goes (walk_program aim) old (next.Go (at.Walk walking.Lock)) transitions new (next.Ends a)

abbrev pub WalksFollow : Type 0
WalksFollow = (s : Table) (items : ℕ → List Item) → IsRuled s items → (c n : ℕ) (mode : Mode) (old new : Known)
    (a : Answer) (more : List Item) → items old.view.number ≡ new.view.items ++ more → c < PLAIN_CONDITIONS
    → (m : HasWalked (plain_aim c mode n) old new a) → Follows old.view.number (calls.Wake c mode n)
    (said (walk_program (plain_aim c mode n)) (next.Go (at.Walk walking.Lock)) m.transitions) a

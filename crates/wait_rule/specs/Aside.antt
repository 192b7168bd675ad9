-- To be believed.
-- What stays of a task over calls that are about other things: its journal has more items of its own and nothing else;
-- these add to no tally and raise no signal; its ends of pipes are as they were, and it leaves no entry at a
-- completion.
use Rattle.std.specs.Prelude.{ℕ, ◌≡◌, ◌≢◌, ◌++◌, Bool, List, [], ◌∷◌}
use Rattle.wait_model.specs.{declared.calls.Call.Call, declared.points.Next.Next, declared.points.Point.Point}
use Rattle.wait_model.specs.{declared.steps.Step.Step, declared.watches.Aim.Aim}
use Rattle.wait_model.specs.declared.calls.Call.TheVariants as calls
use Rattle.wait_model.specs.declared.points.Next.TheVariants as next
use Rattle.wait_model.specs.declared.points.Point.TheVariants as at
use Rattle.wait_model.specs.declared.steps.Step.TheVariants as step
use Rattle.wait_model.specs.declared.watches.Watch.TheVariants as watch
use Rattle.wait_rule.specs.{declared.journal.Item.Item, HandedPermits.StaysOff, Journals.pushed, Known.Known}
use Rattle.wait_rule.specs.{PipeSays.EndsStay, PipeSays.end_at, Says.added, Tallies.amounts_of}
use Rattle.wait_rule.specs.Transitions.{Goes, Program, Transition, call_program, walk_program}
use Rattle.wait_rule.specs.declared.journal.Item.TheVariants as item

-- a signal that a task raised: at whom, and whether it was a fatal one
pub record Raised : Type 0 where
  pub who : ℕ
  pub fatal : Bool

abbrev pub raised_by : Item → List Raised
raised_by (item.Made (step.Signal who fatal w)) = record { who = who; fatal = fatal } ∷ []
raised_by _ = []

-- the signals that a list raised, the oldest first
abbrev pub signals_of : List Item → List Raised
signals_of [] = []
signals_of (x ∷ xs) = raised_by x ++ signals_of xs

-- the journal has more items of its task, and is else as it was
pub record Grows (old new : Known) : Type 0 where
  pub items : List Item
  pub view : new.view ≡ pushed old.view items

-- and these add to no tally, raise no signal and claim no end of a pipe
pub record GrowsAside (old new : Known) : Type 0 where
  pub grows : Grows old new
  pub sums : (p : ℕ) → amounts_of p new.view.items ≡ amounts_of p old.view.items
  pub signals : signals_of new.view.items ≡ signals_of old.view.items
  pub claims : (k : ℕ) → (end_at k new).mine ≡ (end_at k old).mine

-- and are about no pipe and no completion either
pub record StaysAside (old new : Known) : Type 0 where
  pub grows : GrowsAside old new
  pub ends : EndsStay old new
  pub off : StaysOff old new

-- the calls that raise no signal
abbrev pub raises_none : Call → Type 0
raises_none (calls.Signal who fatal) = ⊥
raises_none _ = Unit {0}

-- A call that raises no signal, and a walk, wherever they begin and end.
abbrev pub CallsGrowAside : Type 0
CallsGrowAside = (me slot : ℕ) (call : Call) (old new : Known) (from to : Next) (made : List Transition)
    → raises_none call → from ≢ next.Go at.Raise → Goes (call_program me slot call) old from made new to
    → GrowsAside old new

abbrev pub WalksGrowAside : Type 0
WalksGrowAside = (aim : Aim) (old new : Known) (from to : Next) (made : List Transition)
    → Goes (walk_program aim) old from made new to → GrowsAside old new

-- Programs that are about no variable tell nothing of ends.
abbrev pub IsAboutNoVar : Program → Type 0
IsAboutNoVar f = (p : Point) (v o : ℕ) → (f.given p).watch ≢ watch.Var v o

abbrev pub ProgramsLeaveEnds : Type 0
ProgramsLeaveEnds = (f : Program) → IsAboutNoVar f → (old new : Known) (from to : Next) (made : List Transition)
    → Goes f old from made new to → EndsStay old new

-- single steps that are about no head: they leave no own entry anywhere
abbrev pub IsAsideStep : Step → Type 0
IsAsideStep (step.Accept w) = Unit {0}
IsAsideStep (step.Signal who fatal w) = Unit {0}
IsAsideStep (step.Wake who mask w) = Unit {0}
IsAsideStep (step.Scan h i w) = Unit {0}
IsAsideStep (step.Load (watch.Var v o) r) = Unit {0}
IsAsideStep (step.Publish (watch.Var v o) n r) = Unit {0}
IsAsideStep _ = ⊥

abbrev pub IsAsideItem : Item → Type 0
IsAsideItem (item.Made e) = IsAsideStep e
IsAsideItem (item.Tally p n w) = Unit {0}
IsAsideItem (item.Piped k a w) = Unit {0}
IsAsideItem _ = ⊥

abbrev pub ItemsStayOff : Type 0
ItemsStayOff = (k : Known) (x : Item) → IsAsideItem x → StaysOff k (added k x)

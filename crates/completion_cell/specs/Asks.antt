-- To be believed.
-- What the calls say that ask a completion's count, take one of it, and clear it.
use Rattle.std.specs.Prelude.{ℕ, ◌≡◌, ◌≤◌, ◌||◌, ◌==◌, not, Bool, true, false, pos, if◌then◌else◌, Option, Some, List}
use Rattle.std.specs.Prelude.{◌∷◌, ◌++◌}
use Rattle.wait_model.specs.{declared.layout.TheConstants.ALL_DONE, declared.calls.Call.Call}
use Rattle.wait_model.specs.{declared.calls.Answer.Answer, declared.points.Point.Point, declared.steps.Step.Step}
use Rattle.wait_model.specs.{declared.watches.Aim.Aim, Programs.zero_answer, Watches.head_of}
use Rattle.wait_model.specs.declared.calls.Call.TheVariants as calls
use Rattle.wait_model.specs.declared.calls.Answer.TheVariants as answer
use Rattle.wait_model.specs.declared.points.CountPoint.TheVariants as counting
use Rattle.wait_model.specs.declared.points.Next.TheVariants as next
use Rattle.wait_model.specs.declared.points.Point.TheVariants as at
use Rattle.wait_model.specs.declared.steps.Step.TheVariants as step
use Rattle.wait_model.specs.declared.watches.Watch.TheVariants as watch
use Rattle.wait_rule.specs.{Known.Known, Counts.HoldsCount, HeldValues.count_in, Says.history_of}
use Rattle.wait_rule.specs.Transitions.{Goes, Transition, call_program}
use Rattle.completion_cell.specs.LoadedCounts.{AreInRange}

-- the task went through the whole program of a call, to this answer; the counts that it loaded have 32 bits
pub record HasMadeCall (old new : Known) (call : Call) (p : Point) (a : Answer) : Type 0 where
  pub transitions : List Transition
  pub goes : Goes (call_program old.view.number 0 call) old (next.Go p) transitions new (next.Ends a)
  pub ranged : AreInRange transitions

abbrev pub hit_answer : Bool → Answer
hit_answer hit = answer.Number (if hit then pos 1 else pos 0)

-- its history has this first step more, and maybe others
abbrev pub BeginsWith : Known → Known → Step → Type 0
BeginsWith old new e = (rest : List Step) × (history_of new ≡ history_of old ++ e ∷ rest)

-- The first load decides: the count was not 0 exactly where the answer is yes.
pub record HasAsked (old new : Known) (d : ℕ) (hit : Bool) : Type 0 where
  pub runs : HasMadeCall old new (calls.IsDone d) (at.Count counting.Peek) (hit_answer hit)
  pub count : ℕ
  pub loads : BeginsWith old new (step.Load (watch.Done d) count)
  pub tells : hit ≡ not (count == 0)

abbrev pub HasReset : Known → Known → ℕ → Type 0
HasReset old new d = HasMadeCall old new (calls.Reinit d) (at.Count counting.Lock) zero_answer

-- The load that decides: the first one, where it found 0, and else that of the hold, which comes right behind its lock.
abbrev pub Decides : Bool → Known → Known → ℕ → ℕ → ℕ → Type 0
Decides true old new d first count = count ≡ 0
Decides false old new d first count = (aim : Option Aim) × (word : ℕ) × (rest : List Step)
    × (history_of new ≡ history_of old ++ step.Load (watch.Done d) first ∷ step.Lock (head_of (watch.Done d)) aim word
    ∷ step.Load (watch.Done d) count ∷ rest)

pub record HasTriedCell (old new : Known) (d : ℕ) (hit : Bool) : Type 0 where
  pub runs : HasMadeCall old new (calls.TryWait d) (at.Count counting.Peek) (hit_answer hit)
  pub first : ℕ
  pub loads : BeginsWith old new (step.Load (watch.Done d) first)
  pub count : ℕ
  pub decides : Decides (first == 0) old new d first count
  pub tells : hit ≡ not (count == 0)

-- the hold has loaded this count
pub record HasCountedDone (k : Known) (d n : ℕ) : Type 0 where
  pub held : HoldsCount k d
  pub loaded : count_in d (history_of k) ≡ Some n
  pub small : n ≤ ALL_DONE

-- one is taken of a count that is neither 0 nor at its end
abbrev pub TakesOne : ℕ → Bool → Type 0
TakesOne n took = took ≡ not ((n == 0) || (n == ALL_DONE))

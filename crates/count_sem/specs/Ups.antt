-- To be believed.
-- What the calls on semaphores say that wait for nobody but a lock.
use Rattle.std.specs.Prelude.{ℕ, ◌≡◌, ◌≤◌, ◌==◌, not, Bool, false, Option, Result, Ok, Err, List, [], ◌∷◌, ◌++◌}
use Rattle.wait_model.specs.{declared.calls.Answer.Answer, declared.steps.Step.Step, declared.watches.Aim.Aim}
use Rattle.wait_model.specs.Programs.{zero_answer}
use Rattle.wait_model.specs.declared.points.CountPoint.TheVariants as counting
use Rattle.wait_model.specs.declared.points.Next.TheVariants as next
use Rattle.wait_model.specs.declared.points.Point.TheVariants as at
use Rattle.wait_model.specs.declared.points.SelectPoint.TheVariants as selecting
use Rattle.wait_model.specs.declared.steps.Step.TheVariants as step
use Rattle.wait_model.specs.declared.watches.Watch.TheVariants as watch
use Rattle.wait_rule.specs.{Known.Known, LeftEntries.LeftOff, Queues.IsTold, Queues.IsWholeBook}
use Rattle.wait_rule.specs.Says.{IsFree, IsUp, history_of}
use Rattle.wait_class.specs.{Posts.EndsWith, Posts.Runs, Tables.plan_program}
use Rattle.wq_head.specs.LockTurns.{TookLock}
use Rattle.wq_head.specs.Selects.{HasSelected, IsSimpleHold, KeepsHold, ShowsNoEntry}
use Rattle.completion_cell.specs.Asks.{hit_answer}
use Rattle.count_sem.specs.{declared.ups.TheConstants.FULL, declared.ups.SemFull.SemFull}
use Rattle.count_sem.specs.SemPrograms.{full_answer, sem_head, try_down_plan, up_plan}

-- the answer of an `up`; where the count was full its hold loaded that, and changed nothing
abbrev pub up_answer : Result (Unit {0}) SemFull → Answer
up_answer (Ok u) = zero_answer
up_answer (Err full) = full_answer

pub record IsFullAt (k : Known) (d : ℕ) (full : SemFull) : Type 0 where
  pub many : FULL ≤ full.count
  pub ends : EndsWith k (step.Load (watch.Done d) full.count ∷ step.Unlock (sem_head d) false ∷ [])

abbrev pub IsUpCause : Known → ℕ → Result (Unit {0}) SemFull → Type 0
IsUpCause k d (Ok u) = Unit {0}
IsUpCause k d (Err full) = IsFullAt k d full

-- the task went through the whole call, and the answer is that of its program
pub record HasRaised (old new : Known) (d : ℕ) (result : Result (Unit {0}) SemFull) : Type 0 where
  pub runs : Runs (plan_program old.view.number 0 (up_plan d)) old new (next.Go (at.Select selecting.Lock))
      (next.Ends (up_answer result))
  pub cause : IsUpCause new d result

-- The first load of its hold decides.
pub record HasTakenPermit (old new : Known) (d : ℕ) (hit : Bool) : Type 0 where
  pub runs : Runs (plan_program old.view.number 0 (try_down_plan d)) old new (next.Go (at.Count counting.Lock))
      (next.Ends (hit_answer hit))
  pub count : ℕ
  pub decides : (aim : Option Aim) × (word : ℕ) × (rest : List Step)
      × (history_of new ≡ history_of old ++ step.Lock (sem_head d) aim word ∷ step.Load (watch.Done d) count ∷ rest)
  pub tells : hit ≡ not (count == 0)

-- A hold that `start` has begun has seen that nobody is queued.
pub record FoundNobody (start now : Known) (d : ℕ) : Type 0 where
  pub free : IsFree start
  pub told : IsTold start
  pub left : LeftOff d start
  pub up : IsUp start
  pub locked : Known
  pub took : TookLock start locked (sem_head d)
  pub looked : HasSelected locked now 1 0
  pub keeps : KeepsHold locked now
  pub simple : IsSimpleHold now
  pub whole : IsWholeBook now
  pub nobody : ShowsNoEntry now
